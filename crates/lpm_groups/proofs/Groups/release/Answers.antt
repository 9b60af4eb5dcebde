use Rattle.std.proofs.Common.{arith}
use Rattle.lpm_groups.specs.States.{IsLimboAt}
use Rattle.lpm_groups.proofs.Marks.{Releases-set, IsSound-released}
use Rattle.lpm_groups.proofs.Groups.release.Goals as goal

pub overflow_sub-self : goal.overflow_sub-self
overflow_sub-self c =
    let states = c.self.inside.states.items in
    let was : IsLimboAt states c.args.group = rw c.self.view_is c.requires in
    omega (arith, (Releases-set states c.args.group was).limbo, c.self.invariant.all_limbo)

pub invariant_of-self : goal.invariant_of-self
invariant_of-self c =
    let states = c.self.inside.states.items in
    let was : IsLimboAt states c.args.group = rw c.self.view_is c.requires in
    rw c.min-self-inside.ensures (IsSound-released states _ _ _ _ c.args.group c.self.invariant was)
