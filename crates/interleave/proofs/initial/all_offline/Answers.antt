use Rattle.std.proofs.Common.{ℕ, ◌≡◌, ◌+◌, List, [], ◌∷◌, ◌++◌, length, arith, inl, inr, sym, ap, subst, ◌∙◌}
use Rattle.std.proofs.lemmas.Bool.{cases_lt}
use Rattle.std.proofs.lemmas.List.{get_or_append_left, get_or_at}
use Rattle.interleave.specs.declared.worker.Worker.{Worker as Machine}
use Rattle.interleave.specs.World.{AreNew, IsNew}
use Rattle.interleave.proofs.initial.all_offline.Goals as goal

-- one more that is before its first step
one_more : (machines : List Machine) (m : Machine) (n : ℕ) → length machines ≡ n → AreNew n machines → IsNew m → AreNew (n + 1) (machines ++ m ∷ [])
one_more machines m n count all one = λ k lt. elim (cases_lt k n) [
  | inl below ↦
      let here = all k below in
      (here.0, λ other. get_or_append_left machines (m ∷ []) other k (omega (arith, below, count)) ∙ here.1 other, here.2)
  | inr above ↦ (m, λ other. get_or_at machines m [] other k (omega (arith, lt, above, count)), one)
]

pub loop-preserved : goal.loop-preserved
loop-preserved c =
    let known = c.loop.invariant in
    let old = c.loop.workers in
    let count : length old.items ≡ c.loop.counter = sym old.ok.0 ∙ known.len in
    record {
      len = c.in_ok-push.ensures.len ∙ ap (λ n. n + 1) known.len;
      new = subst (AreNew (c.loop.counter + 1)) (sym c.in_ok-push.ensures.items)
          (one_more old.items c.in_ok-new.field-0 c.loop.counter count known.new c.in_ok-new.ensures);
    }

pub returns-clause-new : goal.returns-clause-new
returns-clause-new c = λ k lt. c.loop.invariant.new k (omega (arith, lt, c.loop-test.false))
