use Rattle.std.proofs.Common.{arith, ap, sym, subst, refl, ◌∙◌, List, Option, Some}
use Rattle.std.specs.Prelude.{slice_set}
use Rattle.shared_fib.specs.Passes.{PassState, IsBenchOf}
use Rattle.shared_fib.proofs.Seats.{stands_at, taken_off}
use Rattle.shared_fib.proofs.bench.Bench.register.Goals as goal

pub returns-in_default-clause-own : goal.returns-in_default-clause-own
returns-in_default-clause-own g c =
    subst (λ (z : List (Option PassState) × Option PassState). IsBenchOf c.args.table.now (slice_set z.0 c.args.worker z.1))
    (λ i. (sym c.self.view_is i, sym c.replace.ensures.after i))
    (taken_off c.args.table.now c.args.self.now c.args.worker c.requires.own)

pub returns-in_default-clause-taken : goal.returns-in_default-clause-taken
returns-in_default-clause-taken g c =
    let here = stands_at c.self.inside.passes.items c.args.self.now c.args.worker c.len.result c.index_mut.result.now
    c.self.view_is (c.len.ensures ∙ c.self.inside.passes.ok.0) (omega (arith, c.if-worker-len.false)) c.index_mut.ensures.value in
    (λ _. here ∙ ap Some (sym c.in_default.ensures.value), λ _. refl)

pub returns-clause-own : goal.returns-clause-own
returns-clause-own g c =
    subst (λ (z : List (Option PassState) × Option PassState). IsBenchOf c.args.table.now (slice_set z.0 c.args.worker z.1))
    (λ i. (sym c.self.view_is i, sym c.replace.ensures.after i))
    (taken_off c.args.table.now c.args.self.now c.args.worker c.requires.own)

pub returns-clause-pass : goal.returns-clause-pass
returns-clause-pass g c =
    let here = stands_at c.self.inside.passes.items c.args.self.now c.args.worker c.len.result c.index_mut.result.now
    c.self.view_is (c.len.ensures ∙ c.self.inside.passes.ok.0) (omega (arith, c.if-worker-len.false)) c.index_mut.ensures.value in
    c.requires.own.1 c.args.worker c.in-Some.pass (here ∙ ap Some (sym c.in-Some.ensures.value))

pub returns-clause-registered : goal.returns-clause-registered
returns-clause-registered g c =
    let here = stands_at c.self.inside.passes.items c.args.self.now c.args.worker c.len.result c.index_mut.result.now
    c.self.view_is (c.len.ensures ∙ c.self.inside.passes.ok.0) (omega (arith, c.if-worker-len.false)) c.index_mut.ensures.value in (
      here ∙ ap Some (sym c.in-Some.ensures.value),
      λ i. slice_set (c.self.view_is i) c.args.worker (c.replace.ensures.after i),
    )

pub returns-clause-taken : goal.returns-clause-taken
returns-clause-taken g c =
    let here = stands_at c.self.inside.passes.items c.args.self.now c.args.worker c.len.result c.index_mut.result.now
    c.self.view_is (c.len.ensures ∙ c.self.inside.passes.ok.0) (omega (arith, c.if-worker-len.false)) c.index_mut.ensures.value in
    (λ no. cc, λ taken. cc (sym taken ∙ here ∙ ap Some (sym c.in-Some.ensures.value)))
