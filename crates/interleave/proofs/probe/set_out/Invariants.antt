use Rattle.std.proofs.Common.{◌≡◌, ◌≤◌, map, length, take, vec_capacity}
use Rattle.interleave.specs.declared.probe.Probe.TheVariants.{Unread}
use Rattle.interleave.proofs.probe.set_out.Given as goal

abbrev pub invariant-loop-addr : goal.invariant-loop-addr
invariant-loop-addr l = record {
  items : l.probes.items ≡ map Unread (take l.addr-index l.addrs);
  room : length l.addrs ≤ vec_capacity l.probes;
  capacity : vec_capacity l.fn.probes ≤ vec_capacity l.probes;
}
