use Rattle.std.proofs.Common.{◌≡◌, ◌≤◌, drop, refl, sym, subst, [], length, None}
use Rattle.defer_queue.specs.Limbo.{Limbo as Queue}
use Rattle.defer_queue.specs.declared.Reclaimed.{Reclaimed}
use Rattle.lpm_update.specs.BlockGroups.{group_at}
use Rattle.lpm_trace.specs.States.{state_after}
use Rattle.lpm_writer.specs.declared.pool.GroupPool.{GroupPool}
use Rattle.lpm_writer.specs.Commands.{FreesAt}
use Rattle.lpm_writer.specs.Limbo.{AreWaiting, IsFreed, IsQueued, tokens_of}
use Rattle.lpm_writer.proofs.LimboItems.{freed_within, freed_queue, no_tail, without_tail, may_reclaim}
use Rattle.lpm_writer.proofs.StepsAlone.{after_reclaim}
use Rattle.lpm_writer.proofs.Rests.{may_free_at_rest, between_take, rests_still, tied_freed}
use Rattle.lpm_writer.proofs.control.reclaim_groups.Goals as goal

pub free_waiting-requires-clause-kept : goal.free_waiting-requires-clause-kept
free_waiting-requires-clause-kept g c = may_free_at_rest g.M.Memory.did c.args.control.now c.args.memory.now c.requires.rests

pub returns-clause-frees : goal.returns-clause-frees
returns-clause-frees g c = λ initial steps did rest.
    let f = g.row.FIRST in
    let s = g.row.SECOND in
    let l = c.args.control.now in
    let m = c.args.memory.now in
    let x = l.pool in
    let did_free : (result : Reclaimed) × (z : g.row.M.Denot) × (y : GroupPool) × FreesAt g.M.Memory.did g.M.Memory.does m x c.args.max result z y = search in
    let result = did_free.0 in
    let z = did_free.1 in
    let y = did_free.2 in
    let queue : y.queue ≡ record x.queue { items = drop result.freed x.queue.items } = search in
    let waiting : AreWaiting y.groups y.queue.items = search in
    let freed : IsFreed x.groups x.queue.items result.freed y.groups = search in
    let done = did_free.3.after initial steps [] None did (no_tail initial steps x.groups x.queue.items x.passed None rest.keeps) (may_reclaim initial steps x (between_take initial steps x rest.between rest.keeps)) in
    let within : result.freed ≤ length x.queue.items = freed_within x.queue.items done.4 in
    let waits = subst (λ (q : Queue). AreWaiting y.groups q.items) queue waiting in
    let queued = subst (IsQueued y.groups) (sym queue) (freed_queue x.groups y.groups x.queue result.freed rest.queued within freed waits) in (
      done.0,
      done.1,
      rests_still f s initial steps done.0 l.config l.rules x y l.versions rest done.2
          (after_reclaim g.M.Memory.does initial (m, steps) c.args.max (tokens_of x.queue.items) result.freed result.stopped (tokens_of y.queue.items) (z, done.0) done.4) (without_tail initial done.0 y.groups y.queue.items y.passed None done.3)
          (tied_freed f result.freed x.groups y.groups x.queue.items (group_at (state_after initial steps).words.firsts) freed rest.tied) queued freed.as_many,
      (done.4, refl),
    )
