use Rattle.std.proofs.Common.{rules}
use Rattle.interleave.proofs.run_error.RunErrorFromOpenError.from.Goals as goal

pub returns-in-BadConfig : goal.returns-in-BadConfig
returns-in-BadConfig c = search rules
