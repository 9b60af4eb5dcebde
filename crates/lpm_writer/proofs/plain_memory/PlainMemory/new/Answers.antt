use Rattle.std.proofs.Common.{rules}
use Rattle.lpm_writer.proofs.plain_memory.PlainMemory.new.Goals as goal

pub returns-clause-counters : goal.returns-clause-counters
returns-clause-counters c = search rules
