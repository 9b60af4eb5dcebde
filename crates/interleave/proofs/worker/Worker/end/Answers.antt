use Rattle.std.proofs.Common.{◌++◌, refl, ap, ◌∙◌}
use Rattle.lpm_trace.specs.States.{begun_at}
use Rattle.interleave.proofs.Lookups.{ended, noted}
use Rattle.interleave.proofs.worker.Worker.end.Goals as goal

pub returns-clause-step : goal.returns-clause-step
returns-clause-step c initial w now r same shows doing =
    let m = c.args.self.now in
    let notes = c.note.ensures.noted ∙ ap (λ ps. c.args.seen.now.items ++ noted c.args.number m.lo (begun_at c.args.sequence) ps) c.deref.ensures.value in
    ended initial w c.args.number now r m _ c.args.sequence c.shown.result c.args.seen.now.items c.note.new.seen.items c.requires.answered same shows doing refl refl refl c.clear.ensures.items c.shown.ensures notes
