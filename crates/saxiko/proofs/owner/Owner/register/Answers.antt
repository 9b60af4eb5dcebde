use Rattle.saxiko.proofs.Owners.{registers}
use Rattle.saxiko.proofs.owner.Owner.register.Goals as goal

pub returns : goal.returns
returns c =
    let known = c.reader_of_worker.ensures in
    registers c.self.inside.writer c.self.inside.bench c.reader_of_worker.new.bench c.args.self.now c.self.view_is _ c.args.worker
    c.reader_of_worker.result c.self.invariant.0 known.reader known.registered known.no_such_worker known.taken known.refusals known.unchanged known.own
