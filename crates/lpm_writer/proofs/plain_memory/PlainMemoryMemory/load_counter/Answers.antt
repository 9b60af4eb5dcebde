use Rattle.std.proofs.Common.{rules}
use Rattle.lpm_writer.proofs.plain_memory.PlainMemoryMemory.load_counter.Goals as goal

pub returns : goal.returns
returns c = search rules
