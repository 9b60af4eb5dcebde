use Rattle.std.proofs.Common.{rules}
use Rattle.lpm_writer.proofs.open_error.OpenErrorFromAllocError.from.Goals as goal

pub returns : goal.returns
returns c = search rules
