use Rattle.std.proofs.Common.{arith, ◌≡◌, ℕ, ◌+◌, ◌<◌, ◌≤◌, ap, sym, ◌∙◌, subst, length, take, List}
use Rattle.std.proofs.lemmas.Grind.{common_steps}
use Rattle.std.proofs.lemmas.List.{take_all}
use Rattle.std.specs.Prelude.{IsSome}
use Rattle.std.specs.FinMap.{get, insert, len, empty, len-empty, get-empty}
use Rattle.lpm_bits.specs.Network.{Network}
use Rattle.lpm_rules.specs.RuleMap.{RuleMap, network_cmp, AllUpTo, place, prefix_at, rules_of}
use Rattle.lpm_rules.specs.declared.Rule.{Rule}
use Rattle.lpm_rules.proofs.Views.{not_some, up_to_insert, up_to_more, prefix_read, rules_more, one_more, no_more, is_there, first_one}
use Rattle.lpm_rules.proofs.places.count_rules.Goals as goal

pub returns-then-is_empty : goal.returns-then-is_empty
returns-then-is_empty g c =
    let rs = c.args.rules.now in
    let f = g.row.FIRST in
    let s = g.row.SECOND in
    let none : length rs ≤ 0 = grind (arith, common_steps) in
    let zero_rules : len (empty {K = Network} {X = ℕ} {R = network_cmp}) ≡ 0 = len-empty network_cmp ℕ in
    sym (ap (λ (l : List (Rule f s)). len (rules_of l)) (sym (take_all 0 rs none)) ∙ zero_rules)

pub loop-index-init : goal.loop-index-init
loop-index-init g c =
    let rs = c.args.rules.now in
    let r = c.index-rules-0.result in
    let p = r.prefix in
    let some : 0 < length rs = grind (arith, common_steps) in
    let more : rules_of (take 1 rs) ≡ insert (empty {K = Network} {X = ℕ} {R = network_cmp}) p r.hop = rules_more rs 0 r some c.index-rules-0.is in
    let read = prefix_read rs 0 r some c.index-rules-0.is in
    let last = c.place_of-last.ensures.value in
    record {
      counted = sym (ap (λ (x : RuleMap). len x) more ∙ first_one p r.hop);
      few = omega arith;
      within = omega (arith, some);
      before = subst (λ (x : RuleMap). AllUpTo x c.place_of-last.result) (sym more)
          (subst (AllUpTo (insert (empty {K = Network} {X = ℕ} {R = network_cmp}) p r.hop)) (sym last)
          (up_to_insert empty p r.hop (λ q here. absurd (not_some (get-empty network_cmp q) here))));
      seen = (p, subst (λ (x : RuleMap). IsSome (get x p)) (sym more) (is_there empty p r.hop), sym last, c.place_of-last.ensures.len);
      rising = λ k l h. subst (λ x. x ≤ place (prefix_at rs k)) (ap place read ∙ sym last) (c.requires 0 k (omega arith) h);
    }

pub loop-index-preserved-then-place-last : goal.loop-index-preserved-then-place-last
loop-index-preserved-then-place-last g c =
    let rs = c.args.rules.now in
    let i = c.loop-index.index in
    let inv = c.loop-index.invariant in
    let r = c.index-rules-index.result in
    let p = r.prefix in
    let test = c.loop-index-test.true in
    let more = rules_more rs i r test c.index-rules-index.is in
    let here : place p ≡ c.loop-index.last = sym c.place_of-place.ensures.value ∙ c.if-place-last.true in
    let R = rules_of (take i rs) in
    let few = inv.few in
    record {
      counted = inv.counted ∙ sym (ap (λ (x : RuleMap). len x) more ∙ no_more R p inv.seen.0 r.hop c.place_of-place.ensures.len inv.seen.3 (inv.seen.2 ∙ sym here) inv.seen.1);
      few = omega (arith, few);
      within = omega (arith, test);
      before = subst (λ (x : RuleMap). AllUpTo x c.loop-index.last) (sym more)
          (subst (AllUpTo (insert R p r.hop)) here (up_to_insert R p r.hop (subst (AllUpTo R) (sym here) inv.before)));
      seen = (p, subst (λ (x : RuleMap). IsSome (get x p)) (sym more) (is_there R p r.hop), here, c.place_of-place.ensures.len);
      rising = λ k l h. inv.rising k (omega (arith, l)) h;
    }

pub loop-index-preserved : goal.loop-index-preserved
loop-index-preserved g c =
    let rs = c.args.rules.now in
    let i = c.loop-index.index in
    let inv = c.loop-index.invariant in
    let r = c.index-rules-index.result in
    let p = r.prefix in
    let test = c.loop-index-test.true in
    let more = rules_more rs i r test c.index-rules-index.is in
    let read = prefix_read rs i r test c.index-rules-index.is in
    let here : place p ≡ c.place_of-place.result = sym c.place_of-place.ensures.value in
    let up : c.loop-index.last ≤ place p = subst (λ q. c.loop-index.last ≤ place q) read (inv.rising i (omega arith) test) in
    let apart = c.if-place-last.false in
    let behind : c.loop-index.last < place p = omega (arith, up, apart, here) in
    let R = rules_of (take i rs) in
    let few = inv.few in
    let before : AllUpTo R (place p) = up_to_more R c.loop-index.last (place p) up inv.before in
    record {
      counted = ap (λ n. n + 1) inv.counted ∙ sym (ap (λ (x : RuleMap). len x) more ∙ one_more R p r.hop c.loop-index.last inv.before behind);
      few = omega (arith, few);
      within = omega (arith, test);
      before = subst (λ (x : RuleMap). AllUpTo x c.place_of-place.result) (sym more)
          (subst (AllUpTo (insert R p r.hop)) here (up_to_insert R p r.hop before));
      seen = (p, subst (λ (x : RuleMap). IsSome (get x p)) (sym more) (is_there R p r.hop), here, c.place_of-place.ensures.len);
      rising = λ k l h. subst (λ x. x ≤ place (prefix_at rs k)) (ap place read ∙ here) (c.requires i k (omega (arith, l)) h);
    }

pub returns : goal.returns
returns g c =
    let f = g.row.FIRST in
    let s = g.row.SECOND in
    let rs = c.args.rules.now in
    c.loop-index.invariant.counted ∙ ap (λ (l : List (Rule f s)). len (rules_of l)) (take_all c.loop-index.index rs c.loop-index-test.false)
