use Rattle.std.proofs.Common.{arith, ◌≡◌, ℕ, ◌*◌, ◌/◌, ◌%◌, ◌^◌, ◌<◌, ◌≤◌, ap, sym, ◌∙◌, subst, length, lit<, take, List, []}
use Rattle.std.proofs.lemmas.Nat.{one_shl, pow_pos, le-div}
use Rattle.std.proofs.lemmas.List.{take_all}
use Rattle.std.specs.FinMap.{empty, get-empty}
use Rattle.lpm_rules.specs.RuleMap.{RuleMap, network_cmp, place, prefix_at, rules_of, AllUpTo}
use Rattle.lpm_rules.specs.declared.Rule.{Rule}
use Rattle.std.specs.FinSet as set
use Rattle.std.specs.Ordering.{nat_cmp}
use Rattle.lpm_rules.specs.Deep.{block_of, deep_blocks}
use Rattle.lpm_rules.proofs.Views.{not_some, prefix_read, rules_more}
use Rattle.lpm_rules.proofs.Deep.{deep_blocks_empty, deep_blocks_insert_short}
use Rattle.lpm_update.proofs.Places.{block_low}
use Rattle.lpm_update.specs.Represents.{Represents}
use Rattle.std.proofs.lemmas.Grind.{common_steps}
use Rattle.lpm_sweep.specs.SweepWords.{word_by_frames, IsSwept, AreNumbered}
use Rattle.lpm_sweep.proofs.Sweeps.{onward, swept_on, numbered_on}
use Rattle.lpm_sweep.proofs.NewGroup.{swept_none, numbered_none, swept_all}
use Rattle.lpm_sweep.proofs.DeepBlocks.{more_blocks}
use Rattle.lpm_sweep.proofs.whole_sweep.sweep_into.Given.{Over}
use Rattle.lpm_sweep.proofs.whole_sweep.sweep_into.Goals.{After-len}
use Rattle.lpm_sweep.proofs.whole_sweep.sweep_into.Goals as goal

-- the rule that was read, and the words before its block
reached : (g : Over) (c : After-len g) → let p = c.index-rules-next.result.prefix in
    (prefix_at c.args.rules.now c.loop-next.next ≡ p) × (length (g.W.WordList.items c.loop-next.firsts) ≤ p.bits / 2 ^ g.row.SECOND)
reached g c =
    let s = g.row.SECOND in
    let rs = c.args.rules.now in
    let n = c.loop-next.next in
    let p = c.index-rules-next.result.prefix in
    let F = g.W.WordList.items c.loop-next.firsts in
    let read : prefix_at rs n ≡ p = prefix_read rs n c.index-rules-next.result c.loop-next-test.true c.index-rules-next.is in
    let reach : length F * 2 ^ s * 64 ≤ place p = subst (λ q. length F * 2 ^ s * 64 ≤ place q) read (c.loop-next.invariant.reached n (omega arith) c.loop-next-test.true) in
    let short = c.bits-bits.ensures.network.0 in
    let fits = c.requires.shape.2 in
    let low : length F * 2 ^ s ≤ p.bits = omega (arith, reach, short, fits) in
    (read, le-div (length F) p.bits (2 ^ s) (pow_pos s) low)

pub loop-next-init : goal.loop-next-init
loop-next-init g c =
    let items = g.W.WordList.items in
    let f = g.row.FIRST in
    let s = g.row.SECOND in
    let none : items c.args.firsts.now ≡ [] = c.requires.no_firsts in
    let zero_words = ap {B = ℕ} (λ l. length l) none in
    record {
      within = omega arith;
      few = let e = ap {B = ℕ} (λ l. length l) c.new-blocks.ensures.items in omega (arith, e);
      count = ap {B = ℕ} (λ l. length l) c.new-blocks.ensures.items ∙ sym (ap set.len (deep_blocks_empty f s) ∙ set.len-empty nat_cmp);
      numbered = subst (λ (F : List ℕ). AreNumbered F c.new-blocks.result.items) (sym none) (subst (λ (B : List ℕ). AreNumbered [] B) (sym c.new-blocks.ensures.items) numbered_none);
      reached = λ k l h. subst (λ (F : List ℕ). length F * 2 ^ s * 64 ≤ place (prefix_at c.args.rules.now k)) (sym none) (omega arith);
      before = λ k l h q some. absurd (not_some (get-empty network_cmp q) some);
      swept = subst (λ m. IsSwept f s m empty (record { firsts = items c.args.firsts.now; seconds = items c.args.seconds.now }) (word_by_frames c.new-outer.result)) (sym (ap {B = ℕ} (λ l. length l) c.new-blocks.ensures.items))
          (subst (λ (F : List ℕ). IsSwept f s 0 empty (record { firsts = F; seconds = items c.args.seconds.now }) (word_by_frames c.new-outer.result)) (sym none)
          (subst (λ (S : List ℕ). IsSwept f s 0 empty (record { firsts = []; seconds = S }) (word_by_frames c.new-outer.result)) (sym c.requires.no_seconds)
          (swept_none f s (word_by_frames c.new-outer.result) (λ k. c.new-outer.ensures k ∙ c.to_word-miss.ensures.value))));
    }

pub put_short-requires : goal.put_short-requires
put_short-requires g c =
    (lit< tt, (c.requires.shape, (subst (λ x. x ≤ g.row.FIRST) c.len.ensures.value c.if-len.true, (reached g (goal.at.put_short-requires g c).After-len).1)))

pub loop-next-preserved-then-len : goal.loop-next-preserved-then-len
loop-next-preserved-then-len g c =
    let items = g.W.WordList.items in
    let f = g.row.FIRST in
    let s = g.row.SECOND in
    let rs = c.args.rules.now in
    let n = c.loop-next.next in
    let inv = c.loop-next.invariant in
    let r = c.index-rules-next.result in
    let p = r.prefix in
    let read : prefix_at rs n ≡ p = prefix_read rs n r c.loop-next-test.true c.index-rules-next.is in
    let on = onward rs n r c.loop-next-test.true c.index-rules-next.is c.requires.sorted (inv.before n (omega arith) c.loop-next-test.true) in
    let more = rules_more rs n r c.loop-next-test.true c.index-rules-next.is in
    let R = rules_of (take n rs) in
    let before : AllUpTo R (place p) = subst (λ q. AllUpTo R (place q)) read (inv.before n (omega arith) c.loop-next-test.true) in
    let test = c.loop-next-test.true in
    let low : length (items c.put_short.new.words) * 2 ^ s ≤ p.bits = subst (λ x. x * 2 ^ s ≤ p.bits) (sym c.in_ok-put_short.ensures.len) (block_low s p.bits) in
    record {
      within = omega (arith, test);
      few = inv.few;
      count = inv.count ∙ sym (ap (λ (x : RuleMap). set.len (deep_blocks f s x)) more ∙ ap set.len (deep_blocks_insert_short f s R p r.hop (subst (λ x. x ≤ f) c.len.ensures.value c.if-len.true)));
      numbered = c.in_ok-put_short.ensures.numbered (length c.loop-next.blocks.items) R (items c.loop-next.seconds) c.loop-next.blocks.items inv.swept inv.numbered;
      reached = λ k l h. let z = (on k l h).0 in omega (arith, z, low);
      before = λ k l h. (on k l h).1;
      swept = subst (λ (x : RuleMap). IsSwept f s (length c.loop-next.blocks.items) x (record { firsts = items c.put_short.new.words; seconds = items c.loop-next.seconds }) (word_by_frames c.put_short.new.frames)) (sym more)
          (c.in_ok-put_short.ensures.swept (length c.loop-next.blocks.items) R (items c.loop-next.seconds) before inv.swept);
    }

pub put_group-requires : goal.put_group-requires
put_group-requires g c =
    let items = g.W.WordList.items in
    let f = g.row.FIRST in
    let s = g.row.SECOND in
    let n = c.loop-next.next in
    let inv = c.loop-next.invariant in
    let at = reached g (goal.at.put_group-requires g c).After-len in
    let long : f < c.index-rules-next.result.prefix.len = subst (λ x. f < x) c.len.ensures.value c.if-len.false in
    let few = c.requires.few in
    let used = c.if-used-groups.false in (
      lit< tt,
      (
        c.requires.shape,
        (
          (let count : c.len-used.result ≡ length c.loop-next.blocks.items = grind (arith, common_steps) in omega (arith, used, few, count)),
          (
            c.loop-next-test.true,
            (
              c.requires.sorted,
              (
                subst (λ q. f < q.len) (sym at.0) long,
                (
                  subst (λ q. length (items c.loop-next.firsts) ≤ q.bits / 2 ^ s) (sym at.0) at.1,
                  (inv.before n (omega arith) c.loop-next-test.true, (inv.numbered, inv.swept)),
                ),
              ),
            ),
          ),
        ),
      ),
    )

pub returns-clause-represents : goal.returns-clause-represents
returns-clause-represents g c =
    let items = g.W.WordList.items in
    let f = g.row.FIRST in
    let s = g.row.SECOND in
    let rs = c.args.rules.now in
    let n = c.loop-next.next in
    let inv = c.loop-next.invariant in
    let fits = c.requires.shape in
    let size : 1 * 2 ^ f % 18446744073709551616 ≡ 2 ^ f = one_shl f 64 (omega (arith, fits)) in
    let all : take n rs ≡ rs = take_all n rs c.loop-next-test.false in
    let done = c.in_ok-advance.ensures in
    subst (λ (l : List (Rule f s)). Represents f s (rules_of l) (record { firsts = items c.advance.new.words; seconds = items c.loop-next.seconds })) all
    (swept_all f s (length c.loop-next.blocks.items) (rules_of (take n rs)) (items c.advance.new.words) (items c.loop-next.seconds) (word_by_frames c.advance.new.self) (done.len ∙ size)
    (swept_on f s (length c.loop-next.blocks.items) (rules_of (take n rs)) (items c.loop-next.firsts) (items c.advance.new.words) (items c.loop-next.seconds) (word_by_frames c.loop-next.outer) (word_by_frames c.advance.new.self)
    (1 * 2 ^ f % 18446744073709551616) (omega (arith, size)) done.len done.fills done.frames inv.swept))

pub returns-clause-numbered : goal.returns-clause-numbered
returns-clause-numbered g c =
    let items = g.W.WordList.items in
    let f = g.row.FIRST in
    let s = g.row.SECOND in
    let n = length c.loop-next.blocks.items in
    let rs = c.args.rules.now in
    let inv = c.loop-next.invariant in
    let fits = c.requires.shape in
    let size : 1 * 2 ^ f % 18446744073709551616 ≡ 2 ^ f = one_shl f 64 (omega (arith, fits)) in
    let done = c.in_ok-advance.ensures in
    numbered_on f s n (rules_of (take c.loop-next.next rs)) (items c.loop-next.firsts) (items c.advance.new.words) (items c.loop-next.seconds) (word_by_frames c.loop-next.outer) (word_by_frames c.advance.new.self)
    (1 * 2 ^ f % 18446744073709551616) (omega (arith, size)) done.len done.fills done.frames inv.swept c.loop-next.blocks.items inv.numbered

pub returns-clause-count : goal.returns-clause-count
returns-clause-count g c =
    let items = g.W.WordList.items in
    let f = g.row.FIRST in
    let s = g.row.SECOND in
    let rs = c.args.rules.now in
    let all : take c.loop-next.next rs ≡ rs = take_all c.loop-next.next rs c.loop-next-test.false in
    c.loop-next.invariant.count ∙ ap (λ (l : List (Rule f s)). set.len (deep_blocks f s (rules_of l))) all

pub returns-then-used-groups-clause-none : goal.returns-then-used-groups-clause-none
returns-then-used-groups-clause-none g c = λ _.
    let s = g.row.SECOND in
    let rs = c.args.rules.now in
    let n = c.loop-next.next in
    let inv = c.loop-next.invariant in
    let r = c.index-rules-next.result in
    let at = reached g (goal.at.returns-then-used-groups-clause-none g c).After-len in
    let long : g.row.FIRST < r.prefix.len = subst (λ x. g.row.FIRST < x) c.len.ensures.value c.if-len.false in
    let more = more_blocks rs n r (rules_more rs n r c.loop-next-test.true c.index-rules-next.is) long (inv.swept.shallow (block_of s r.prefix) at.1) in
    let used = c.if-used-groups.true in
    let count : c.len-used.result ≡ length c.loop-next.blocks.items = grind (arith, common_steps) in
    let blocks = inv.count in
    omega (arith, more, used, count, blocks)
