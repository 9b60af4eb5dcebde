use Rattle.std.proofs.Common.{rules, arith, sym, subst}
use Rattle.shared_fib.specs.declared.pairs.Pairs.TheInside.{Inside}
use Rattle.shared_fib.specs.Pairs.{ArePairs}
use Rattle.shared_fib.proofs.PackedWords.{HasEven, HasNearly, evened, was_even, by_twos, no_twos, by_one, by_none}
use Rattle.shared_fib.proofs.pairs.Pairs.grow.Goals.{Joined-self-eq1, Joined-pairs-gt0, then-self-eq1, else-self-eq1, then-pairs-gt0+in_ok-resize, else-pairs-gt0}
use Rattle.shared_fib.proofs.pairs.Pairs.grow.Goals as goal

-- an even number of table words, behind which the others go by two
abbrev Evenly : Joined-self-eq1 → Inside → Type 0
Evenly c p = HasEven c.args.self.now c.args.word c.args.to p.count p.words.items

evenly : (c : Joined-self-eq1) → Evenly c c.if-self-eq1.self-inside
evenly c =
    let xs = c.args.self.now in
    let w = c.args.word in
    let to = c.args.to in
    let n = c.self.inside.count in
    let ws = c.self.inside.words.items in
    elim c.if-self-eq1.branch [
      | then-self-eq1 r ↦ subst (Evenly c) (sym r.self-inside-is)
          (evened xs ws w to n r.len-last.result r.index_mut.result.now r.from.result c.self.invariant c.self.view_is c.requires
          c.ranges.word.fits r.if-self-eq1.true (search (rules, arith)) r.index_mut.ensures.value r.from.ensures)
      | else-self-eq1 r ↦ subst (Evenly c) (sym r.self-inside-is)
          (was_even xs ws w to n c.self.invariant c.self.view_is c.requires r.if-self-eq1.false)
    ]

-- all of them, or all but one
abbrev Nearly : Joined-pairs-gt0 → Inside → Type 0
Nearly c p = HasNearly c.args.self.now c.args.word c.args.to p.count p.words.items

nearly : (c : Joined-pairs-gt0) → Nearly c c.if-pairs-gt0.self-inside
nearly c =
    let xs = c.args.self.now in
    let w = c.args.word in
    let to = c.args.to in
    let n = c.if-self-eq1.self-inside.count in
    let ws = c.if-self-eq1.self-inside.words.items in
    let joined : Joined-self-eq1 = search in
    let even = evenly joined in
    elim c.if-pairs-gt0.branch [
      | then-pairs-gt0+in_ok-resize r ↦ subst (Nearly c) (sym r.self-inside-is)
          (by_twos xs ws r.resize.new.self.items w to n r.len.result _ r.from-then-pairs-gt0.result
          r.from-then-pairs-gt0-2.result even c.ranges.word.fits r.from-then-pairs-gt0.ensures r.from-then-pairs-gt0-2.ensures
          (search (rules, arith)) (search (rules, arith)) r.in_ok-resize.ensures.items)
      | else-pairs-gt0 r ↦ subst (Nearly c) (sym r.self-inside-is) (no_twos xs ws w to n even r.if-pairs-gt0.false)
    ]

pub overflow_sub-pairs : goal.overflow_sub-pairs
overflow_sub-pairs c = (evenly (goal.at.overflow_sub-pairs c).Joined-self-eq1).within

pub invariant_of-self-in_err-push : goal.invariant_of-self-in_err-push
invariant_of-self-in_err-push c =
    let near = nearly (goal.at.invariant_of-self-in_err-push c).Joined-pairs-gt0 in
    subst (ArePairs c.if-pairs-gt0.self-inside.count) (sym c.in_err-push.ensures.items) near.evenly.grown.paired

pub invariant_of-self-then-self-to : goal.invariant_of-self-then-self-to
invariant_of-self-then-self-to c =
    let by = c.if-pairs-gt0.self-inside in
    let near = nearly (goal.at.invariant_of-self-then-self-to c).Joined-pairs-gt0 in
    (by_one c.args.self.now by.words.items c.push.new.self.items c.args.word c.args.to by.count c.from-then-self-to.result near
    c.ranges.word.fits c.if-self-to.true c.from-then-self-to.ensures c.in_ok-push.ensures.items).0

pub invariant_of-self-else-self-to : goal.invariant_of-self-else-self-to
invariant_of-self-else-self-to c = (nearly (goal.at.invariant_of-self-else-self-to c).Joined-pairs-gt0).evenly.grown.paired

pub returns-in_ok-push : goal.returns-in_ok-push
returns-in_ok-push c =
    let by = c.if-pairs-gt0.self-inside in
    let near = nearly (goal.at.returns-in_ok-push c).Joined-pairs-gt0 in
    (by_one c.args.self.now by.words.items c.push.new.self.items c.args.word c.args.to by.count c.from-then-self-to.result near
    c.ranges.word.fits c.if-self-to.true c.from-then-self-to.ensures c.in_ok-push.ensures.items).1

pub returns-else-self-to : goal.returns-else-self-to
returns-else-self-to c =
    let by = c.if-pairs-gt0.self-inside in
    let near = nearly (goal.at.returns-else-self-to c).Joined-pairs-gt0 in
    by_none c.args.self.now by.words.items c.args.word c.args.to by.count near c.if-self-to.false
