use Rattle.saxiko.proofs.Owners.{takes_back}
use Rattle.saxiko.proofs.owner.Owner.unregister.Goals as goal

pub returns-clause-back : goal.returns-clause-back
returns-clause-back c =
    takes_back c.self.inside.writer c.self.inside.bench c.unregister.new.self c.args.self.now c.self.view_is
    c.into_pass.result c.args.reader c.into_pass.ensures c.unregister.ensures.back
