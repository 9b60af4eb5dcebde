use Rattle.std.proofs.Common.{arith}
use Rattle.lpm_groups.specs.States.{IsLinkedAt}
use Rattle.lpm_groups.proofs.Marks.{linked_to, Retires-set, IsSound-retired}
use Rattle.lpm_groups.proofs.Groups.retire.Goals as goal

pub overflow_sub-self : goal.overflow_sub-self
overflow_sub-self c =
    let states = c.self.inside.states.items in
    let was : IsLinkedAt states c.args.group = rw c.self.view_is c.requires in
    let at = linked_to states c.args.group was in
    omega (arith, (Retires-set states c.args.group at.0 at.1).linked, c.self.invariant.all_in_use)

pub invariant_of-self : goal.invariant_of-self
invariant_of-self c =
    let states = c.self.inside.states.items in
    let was : IsLinkedAt states c.args.group = rw c.self.view_is c.requires in
    let at = linked_to states c.args.group was in
    IsSound-retired states _ _ _ _ c.args.group at.0 c.self.invariant at.1
