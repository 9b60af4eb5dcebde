use Rattle.std.proofs.Common.{◌≡◌, take}
use Rattle.lpm_commands.specs.Load.{IsLoaded}
use Rattle.lpm_commands.proofs.tables.add_from.Given as goal

abbrev pub invariant-loop-index : goal.invariant-loop-index
invariant-loop-index l = record {
  config : l.table.config ≡ l.fn.table.config;
  loaded : IsLoaded l.fn.table.config (take l.index l.routes) l.table.table;
}
