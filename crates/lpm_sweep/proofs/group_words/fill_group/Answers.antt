use Rattle.std.proofs.Common.{arith, ◌≡◌, ◌≢◌, ◌+◌, ◌-◌, ◌*◌, ◌/◌, ◌^◌, ◌<◌, ◌≤◌, ap, sym, subst, ◌∙◌, length, lit<, take}
use Rattle.std.proofs.lemmas.Nat.{shr_split, pow_pos, mod_below}
use Rattle.std.specs.FinMap.{insert}
use Rattle.lpm_rules.specs.RuleMap.{RuleMap, place, prefix_at, rules_of, AllUpTo}
use Rattle.lpm_rules.specs.Deep.{IsDeepBlock}
use Rattle.lpm_rules.proofs.Deep.{deep_inserted}
use Rattle.lpm_sweep.specs.SweepWords.{word_by_frames, IsFilling}
use Rattle.lpm_rules.proofs.Views.{prefix_read, rules_more}
use Rattle.lpm_sweep.proofs.Sweeps.{deep_stays, later_block, onward, filled_on}
use Rattle.lpm_sweep.proofs.group_words.fill_group.Given.{Over}
use Rattle.lpm_sweep.proofs.group_words.fill_group.Goals.{After-first_index, else-loop-next-test, then-loop-next-test+then-first_index-block}
use Rattle.lpm_sweep.proofs.group_words.fill_group.Goals as goal

-- the rule that was read, where it lies in the block
in_block : (g : Over) (c : After-first_index g) → c.first_index.result ≡ c.args.block → let p = c.index-rules-next.result.prefix in
    (prefix_at c.args.rules.now c.loop-next.next ≡ p) × (p.bits / 2 ^ g.row.SECOND ≡ c.args.block) × (g.row.FIRST < p.len)
in_block g c same =
    let s = g.row.SECOND in
    let rs = c.args.rules.now in
    let n = c.loop-next.next in
    let p = c.index-rules-next.result.prefix in
    let read : prefix_at rs n ≡ p = prefix_read rs n c.index-rules-next.result c.loop-next-test.true c.index-rules-next.is in
    let here : p.bits / 2 ^ s ≡ c.args.block = ap (λ x. x / 2 ^ s) (sym c.bits-bits.ensures.value) ∙ sym c.first_index.ensures.value ∙ same in
    let after : place (prefix_at rs c.args.from) ≤ place p = subst (λ q. place (prefix_at rs c.args.from) ≤ place q) read (c.requires.sorted c.args.from n c.loop-next.invariant.started c.loop-next-test.true) in
    (read, here, deep_stays g.row.FIRST s (prefix_at rs c.args.from) p c.bits-bits.ensures.network c.requires.deep after (c.requires.block ∙ sym here))

pub put_deep-requires : goal.put_deep-requires
put_deep-requires g c =
    let items = g.W.WordList.items in
    let f = g.row.FIRST in
    let s = g.row.SECOND in
    let rs = c.args.rules.now in
    let n = c.loop-next.next in
    let inv = c.loop-next.invariant in
    let p = c.index-rules-next.result.prefix in
    let at = in_block g (goal.at.put_deep-requires g c).After-first_index c.if-first_index-block.false in
    let reach : (c.args.block * 2 ^ s + (length (items c.loop-next.words) - c.count-base.result)) * 64 ≤ place p = subst (λ q. (c.args.block * 2 ^ s + (length (items c.loop-next.words) - c.count-base.result)) * 64 ≤ place q) at.0 (inv.reached n (omega arith) c.loop-next-test.true) in
    let split = shr_split p.bits s in
    let block = ap (λ x. x * 2 ^ s) at.1 in
    let short = c.bits-bits.ensures.network.0 in
    let fits = c.requires.shape.2 in
    let longer = inv.longer in
    let base = inv.base in
    let small = c.requires.small in
    (lit< tt, (c.requires.shape, (omega (arith, base, small), (at.2, omega (arith, reach, split, block, short, fits, longer)))))

pub returns-clause-filled : goal.returns-clause-filled
returns-clause-filled g c =
    let items = g.W.WordList.items in
    let f = g.row.FIRST in
    let s = g.row.SECOND in
    let rs = c.args.rules.now in
    let inv = c.loop-next.invariant in
    subst (λ b. IsFilling f s c.args.block b (rules_of (take c.args.from rs)) (rules_of (take c.loop-next.next rs)) (items c.advance.new.words) (word_by_frames c.advance.new.self)) inv.base
    (filled_on f s c.args.block c.count-base.result (rules_of (take c.args.from rs)) (rules_of (take c.loop-next.next rs)) (items c.loop-next.words) (items c.advance.new.words) (word_by_frames c.loop-next.frames) (word_by_frames c.advance.new.self)
    c.in_ok-advance.ensures.fills
    (λ k l. c.in_ok-advance.ensures.frames k (omega (arith, l, c.in_ok-advance.ensures.len)))
    inv.filling)

pub returns-clause-later : goal.returns-clause-later
returns-clause-later g c = λ k l h. elim c.loop-next-test.branch [
  | else-loop-next-test w ↦ absurd (omega (arith, l, h, w.loop-next-test.false))
  | then-loop-next-test+then-first_index-block w ↦
      let items = g.W.WordList.items in
      let f = g.row.FIRST in
      let s = g.row.SECOND in
      let rs = c.args.rules.now in
      let n = c.loop-next.next in
      let inv = c.loop-next.invariant in
      let p = w.index-rules-next.result.prefix in
      let read : prefix_at rs n ≡ p = prefix_read rs n w.index-rules-next.result w.loop-next-test.true w.index-rules-next.is in
      let from = c.requires.sorted c.args.from n inv.started w.loop-next-test.true in
      let after : place (prefix_at rs c.args.from) ≤ place p = subst (λ q. place (prefix_at rs c.args.from) ≤ place q) read from in
      let next : place p ≤ place (prefix_at rs k) = subst (λ q. place q ≤ place (prefix_at rs k)) read (c.requires.sorted n k l h) in
      let short = w.bits-bits.ensures.network.0 in
      let fits = c.requires.shape.2 in
      let other : p.bits / 2 ^ s ≢ c.args.block = λ e. w.if-first_index-block.true (w.first_index.ensures.value ∙ (ap (λ x. x / 2 ^ s) w.bits-bits.ensures.value ∙ e)) in
      let past = later_block s c.args.block (prefix_at rs c.args.from).bits p.bits c.requires.block (omega (arith, after, short, fits)) other in
      omega (arith, past, next)
]

pub loop-next-preserved : goal.loop-next-preserved
loop-next-preserved g c =
    let items = g.W.WordList.items in
    let f = g.row.FIRST in
    let s = g.row.SECOND in
    let rs = c.args.rules.now in
    let n = c.loop-next.next in
    let inv = c.loop-next.invariant in
    let r = c.index-rules-next.result in
    let p = r.prefix in
    let at = in_block g (goal.at.loop-next-preserved g c).After-first_index c.if-first_index-block.false in
    let on = onward rs n r c.loop-next-test.true c.index-rules-next.is c.requires.sorted (inv.before n (omega arith) c.loop-next-test.true) in
    let more = rules_more rs n r c.loop-next-test.true c.index-rules-next.is in
    let R = rules_of (take n rs) in
    let before : AllUpTo R (place p) = subst (λ q. AllUpTo R (place q)) at.0 (inv.before n (omega arith) c.loop-next-test.true) in
    let split = shr_split p.bits s in
    let block = ap (λ x. x * 2 ^ s) at.1 in
    let len = c.in_ok-put_deep.ensures.len in
    let low = mod_below p.bits (2 ^ s) (pow_pos s) in
    let longer = inv.longer in
    let started = inv.started in
    let test = c.loop-next-test.true in
    record {
      started = omega (arith, started);
      within = omega (arith, test);
      base = inv.base;
      longer = omega (arith, len);
      room = omega (arith, len, low);
      kept = λ k h. c.in_ok-put_deep.ensures.kept k (omega (arith, h, longer)) ∙ inv.kept k h;
      reached = λ k l h. let z = (on k l h).0 in omega (arith, z, len, split, block);
      before = λ k l h. (on k l h).1;
      filling = subst (λ (x : RuleMap). IsFilling f s c.args.block c.count-base.result (rules_of (take c.args.from rs)) x (items c.put_deep.new.words) (word_by_frames c.put_deep.new.frames)) (sym more)
          (subst (λ b. IsFilling f s b c.count-base.result (rules_of (take c.args.from rs)) (insert R p r.hop) (items c.put_deep.new.words) (word_by_frames c.put_deep.new.frames)) at.1
          (c.in_ok-put_deep.ensures.fills (rules_of (take c.args.from rs)) R before
          (subst (λ b. IsFilling f s b c.count-base.result (rules_of (take c.args.from rs)) R (items c.loop-next.words) (word_by_frames c.loop-next.frames)) (sym at.1) inv.filling)));
      deep = λ _. subst (λ (x : RuleMap). IsDeepBlock f s x c.args.block) (sym more)
          (subst (IsDeepBlock f s (insert R p r.hop)) at.1 (deep_inserted f s R p r.hop at.2));
    }
