use Rattle.std.proofs.Common.{◌<◌, arith, ap}
use Rattle.shared_words.specs.Layout.{InitialData}
use Rattle.shared_words.specs.Seats.{WordsAt, WriterAt}
use Rattle.shared_words.proofs.WorkerSteps.{writer_inside}
use Rattle.shared_words.proofs.WriterRule.{next_worker_allowed}
use Rattle.shared_words.proofs.writer.WriterSeat.next_worker.Goals as goal

pub split_seat-place-requires : goal.split_seat-place-requires
split_seat-place-requires g c =
    let o : InitialData = g.T.InitialContent.initial c.table.inside.board.shared.key in
    let v = c.self.inside.place.me.0 in
    let own = writer_inside c.table.view_is c.self.view_is c.requires.own in
    let made = ap (λ (s : WriterAt). s.view.made) c.self.view_is in
    let layout = ap (λ (w : WordsAt). w.layout.workers) c.table.view_is in
    let room : v.made < o.workers = omega (arith, made, layout, c.requires.number, c.requires.worker, own.workers) in
    (own.same, omega (arith, own.words), next_worker_allowed o _ v c.self.invariant.role room)
