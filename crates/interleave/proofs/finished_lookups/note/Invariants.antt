use Rattle.std.proofs.Common.{◌≡◌, ◌+◌, ◌-◌, ◌≤◌, ◌++◌, length, take, vec_len, vec_capacity}
use Rattle.interleave.proofs.Lookups.{noted}
use Rattle.interleave.proofs.finished_lookups.note.Given as goal

-- the answers so far are noted, and there is room for the rest
abbrev pub invariant-loop-probe : goal.invariant-loop-probe
invariant-loop-probe l = record {
  noted : l.seen.items ≡ l.initial.seen.items ++ noted l.number l.lo l.hi (take l.probe-index l.probes);
  room : vec_len l.seen + (length l.probes - l.probe-index) ≤ vec_capacity l.seen;
  capacity : vec_capacity l.initial.seen ≤ vec_capacity l.seen;
}
