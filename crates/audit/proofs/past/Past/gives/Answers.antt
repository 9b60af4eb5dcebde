use Rattle.std.proofs.Common.{◌+◌}
use Rattle.audit.specs.Wrong.{version_of}
use Rattle.audit.proofs.Spans.{same_longest}
use Rattle.audit.proofs.past.Past.gives.Goals as goal

pub returns : goal.returns
returns g c =
    same_longest (g.row.FIRST + g.row.SECOND) c.args.addr (version_of c.args.self.now c.args.version) c.longest_at.result c.args.answer.now.hop c.eq.result
    c.longest_at.ensures.networks c.longest_at.ensures.longest c.eq.ensures
