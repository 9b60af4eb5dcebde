use Rattle.std.proofs.Common.{rules, arith, ◌+◌, ◌^◌, ◌/◌, ◌%◌}
use Rattle.lpm_cells.specs.declared.entry.Entry.TheVariants.{Miss, Hop, Group}
use Rattle.lpm_cells.proofs.ReadBack.{read_back}
use Rattle.lpm_cells.proofs.entry.Entry.from_word.Goals as goal

pub returns-in-0-clause-reads : goal.returns-in-0-clause-reads
returns-in-0-clause-reads g c = read_back 32 Miss c.args.word tt (omega arith)

pub returns-in_ok-hop-in-1-clause-reads : goal.returns-in_ok-hop-in-1-clause-reads
returns-in_ok-hop-in-1-clause-reads g c = read_back (g.row.FIRST + g.row.SECOND) (Hop c.in_ok-hop-in-1.hop (c.args.word / 2 ^ 26)) c.args.word (search rules) (search rules)

pub returns-in-3-clause-reads : goal.returns-in-3-clause-reads
returns-in-3-clause-reads g c = read_back 32 (Group (c.args.word % 2 ^ 24)) c.args.word (omega arith) (omega arith)
