use Rattle.lpm_groups.proofs.Marks.{IsSound-new}
use Rattle.lpm_groups.proofs.Groups.new.Goals as goal

pub invariant_of-result : goal.invariant_of-result
invariant_of-result c =
    rw (c.in_ok-states.ensures.items_if_clones_equal (λ y e. e), c.in_ok-marks.ensures.items_if_clones_equal (λ y e. e)) (IsSound-new c.args.groups c.requires)
