use Rattle.std.proofs.Common.{◌≡◌}
use Rattle.lpm_groups.specs.States.{linked_count}
use Rattle.lpm_writer.proofs.UpdateRuns.{AsMemory}
use Rattle.lpm_writer.proofs.RunningStores.{IsUnderWayAt}
use Rattle.lpm_writer.proofs.changes.change.Given.{Over}
use Rattle.lpm_writer.proofs.changes.change.Given as goal

abbrev pub memory : (g : Over) → AsMemory g.row.M.Denot
memory g = let met = g.met.M.Memory in record { cells = g.M.Cells; says = g.M.Memory; follows = met.follows; shows = met.shows; written = met.written; may_first = met.may_first; may_second = met.may_second; first_stored = met.first_stored; second_stored = met.second_stored }

abbrev pub invariant-loop-group : goal.invariant-loop-group
invariant-loop-group g l = record {
  under_way : IsUnderWayAt (memory g) g.row.FIRST g.row.SECOND l.control.config l.initial.memory l.fn.control.pool l.fn.update l.memory l.control.pool l.update;
  config : l.control.config ≡ l.fn.control.config;
  rules : l.control.rules ≡ l.fn.control.rules;
  versions : l.control.versions ≡ l.fn.control.versions;
}

-- each turn but the last gives a group up
abbrev pub decreases-loop-group : goal.decreases-loop-group
decreases-loop-group g l = linked_count l.control.pool.groups
