use Rattle.std.proofs.Common.{◌≡◌, ◌+◌, ◌≤◌, length, take, vec_capacity}
use Rattle.std.specs.List.{flat_map}
use Rattle.lpm_rules.specs.Longest.{AreLongestHops}
use Rattle.bulk.proofs.running_table.bulk.Given as goal

-- the hops of all desks are the answers, those of the desks so far are joined, and there is room for all
abbrev pub invariant-loop-desk : goal.invariant-loop-desk
invariant-loop-desk g l = record {
  answers : AreLongestHops (g.row.FIRST + g.row.SECOND) l.fn.writer.table.rules l.addrs (flat_map (λ d. d.hops.items) l.desk-items);
  items : l.joined.items ≡ flat_map (λ d. d.hops.items) (take l.desk-index l.desk-items);
  capacity : length l.addrs ≤ vec_capacity l.joined;
}
