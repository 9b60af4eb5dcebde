use Rattle.std.proofs.Common.{rules, length}
use Rattle.std.proofs.lemmas.List.Sorted.{answers_always}
use Rattle.audit.proofs.Indexes.{ordered_by_sort, events_moved}
use Rattle.audit.proofs.events.events_of.Goals as goal

pub returns-clause-events : goal.returns-clause-events
returns-clause-events g c =
    events_moved g.row.FIRST g.row.SECOND c.args.history.now c.args.len (length c.args.history.now) _ _ c.sort_unstable_by_key.ensures.permutation c.in_ok-events.ensures

pub returns-clause-ordered : goal.returns-clause-ordered
returns-clause-ordered g c =
    ordered_by_sort _ (c.sort_unstable_by_key.ensures.sorted (λ e. (e.bits, e.version)) (answers_always _ _ _ (λ f a r g h. search rules)))
