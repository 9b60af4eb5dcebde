use Rattle.std.proofs.Common.{arith, ap, ◌∙◌, ◌≡◌, ◌-◌, ◌++◌, map, replicate, length}
use Rattle.std.proofs.lemmas.Grind.{common_steps}
use Rattle.lpm_groups.specs.declared.GroupState.TheVariants.{Free, Linked}
use Rattle.lpm_groups.specs.States.{linked_count, limbo_count}
use Rattle.lpm_groups.proofs.Marks.{linked_count-of_blocks, limbo_count-of_blocks, IsSound-of_blocks}
use Rattle.lpm_groups.proofs.Groups.of_blocks.Goals as goal

pub loop-block-preserved : goal.loop-block-preserved
loop-block-preserved c = grind (arith, common_steps)

pub returns-clause-states : goal.returns-clause-states
returns-clause-states c = grind (arith, common_steps)

pub returns-clause-in_use : goal.returns-clause-in_use
returns-clause-in_use c =
    ap linked_count (returns-clause-states c) ∙ linked_count-of_blocks c.args.blocks.now (c.args.groups - length c.args.blocks.now)

pub returns-clause-limbo : goal.returns-clause-limbo
returns-clause-limbo c =
    ap limbo_count (returns-clause-states c) ∙ limbo_count-of_blocks c.args.blocks.now (c.args.groups - length c.args.blocks.now)

pub invariant_of-result : goal.invariant_of-result
invariant_of-result c =
    let bs = c.args.blocks.now in
    let states : c.resize.new.self.items ≡ map Linked bs ++ replicate (c.args.groups - length bs) Free = grind (arith, common_steps) in
    let marks : c.resize-3.new.self.items ≡ replicate (length bs) 0 ++ replicate (c.args.groups - length bs) 1 = grind (arith, common_steps) in
    rw (states, marks) (IsSound-of_blocks bs (c.args.groups - length bs) (omega (arith, c.requires.most, c.requires.few)))
