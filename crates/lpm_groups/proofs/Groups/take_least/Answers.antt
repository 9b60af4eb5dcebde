use Rattle.std.proofs.Common.{refl, arith}
use Rattle.lpm_groups.proofs.Marks.{take_rest, IsLeastFree-found, free_count-not_found, IsSound-none, IsSound-taken}
use Rattle.lpm_groups.proofs.Groups.take_least.Goals as goal

pub invariant_of-self : goal.invariant_of-self
invariant_of-self c =
    let marks = c.self.inside.marks.items in
    let nowhere = rw (c.deref.ensures.value, take_rest marks c.self.inside.hint) at c.in_default.ensures in
    IsSound-none _ marks _ _ _ _ (omega arith) c.self.invariant nowhere

pub returns-in_default-clause-none : goal.returns-in_default-clause-none
returns-in_default-clause-none c =
    let marks = c.self.inside.marks.items in
    let nowhere = rw (c.deref.ensures.value, take_rest marks c.self.inside.hint) at c.in_default.ensures in
    rw (← c.self.view_is) (λ _. free_count-not_found _ marks _ _ _ c.self.invariant nowhere, λ _. refl)

pub invariant_of-self-2 : goal.invariant_of-self-2
invariant_of-self-2 c =
    let marks = c.self.inside.marks.items in
    let found = rw (c.deref.ensures.value, take_rest marks c.self.inside.hint) at c.in-Some.ensures in
    IsSound-taken _ marks _ _ _ _ c.args.block c.self.invariant (IsLeastFree-found _ marks _ _ _ _ _ c.self.invariant found.0 found.1)

pub returns-clause-least : goal.returns-clause-least
returns-clause-least c =
    let marks = c.self.inside.marks.items in
    let found = rw (c.deref.ensures.value, take_rest marks c.self.inside.hint) at c.in-Some.ensures in
    rw (← c.self.view_is) (IsLeastFree-found _ marks _ _ _ _ _ c.self.invariant found.0 found.1)
