use Rattle.std.proofs.Common.{◌<◌, sym, subst}
use Rattle.std.proofs.lemmas.Result.{on_ok_weaker}
use Rattle.shared_words.specs.Rule.{IsLater}
use Rattle.shared_fib.specs.RunningTable.{WriterState, steps_of}
use Rattle.shared_fib.proofs.writer.Writer.synchronize.Goals as goal

pub returns-clause-queued : goal.returns-clause-queued
returns-clause-queued g c =
    let has_workers = subst (λ (w : WriterState). 0 < w.config.workers) (sym c.self.view_is) in
    on_ok_weaker c.synchronize_by.result (λ queued some. queued (has_workers some))
    c.synchronize_by.ensures.queued

pub returns-clause-later : goal.returns-clause-later
returns-clause-later g c =
    subst (λ (y : WriterState). IsLater (steps_of y) c.synchronize_by.new.seat.view.writer_steps) c.self.view_is c.synchronize_by.ensures.later
