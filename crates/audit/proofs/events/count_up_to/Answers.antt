use Rattle.std.proofs.Common.{rules}
use Rattle.std.proofs.lemmas.List.Sorted.{IsPartitionPoint-from_clause}
use Rattle.audit.specs.Index.{up_to}
use Rattle.audit.proofs.Indexes.{parted}
use Rattle.audit.proofs.events.count_up_to.Goals as goal

pub returns-clause-front : goal.returns-clause-front
returns-clause-front c =
    IsPartitionPoint-from_clause (up_to c.args.bits c.args.version) _ _ c.partition_point.ensures.partitioned
    (parted c.args.bits c.args.version c.args.events.now c.requires)
    (λ a r q k. search rules)
