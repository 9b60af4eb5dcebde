use Rattle.std.proofs.Common.{rules}
use Rattle.interleave.proofs.probe.Probe.of_first.Goals as goal

pub returns-in-Miss : goal.returns-in-Miss
returns-in-Miss c = search rules
