use Rattle.std.proofs.Common.{◌≡◌, ◌<◌, ◌↔◌, true, length, sym, subst}
use Rattle.interleave.specs.World.{writer_items, WorldDid}
use Rattle.interleave.specs.View.{WorldView}
use Rattle.interleave.proofs.Turns.{view_in, stopped_late}
use Rattle.interleave.proofs.world_memory.WorldMemory.is_stopped.Goals as goal

pub returns : goal.returns
returns g c = λ c' steps did.
    let f = g.row.FIRST in
    let s = g.row.SECOND in
    let y = view_in f s c.self.inside in
    subst (λ (v : WorldView). (y.stopped ≡ true) ↔ (writer_items v.schedule < length steps)) c.self.view_is
    (stopped_late f s y c' steps (subst (λ v. WorldDid f s v c' steps) (sym c.self.view_is) did))
