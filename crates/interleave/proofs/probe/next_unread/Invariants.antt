use Rattle.std.proofs.Common.{take}
use Rattle.lpm_trace.specs.Trace.{AreBegun}
use Rattle.interleave.specs.Machine.{probes_of}
use Rattle.interleave.proofs.probe.next_unread.Given as goal

abbrev pub invariant-loop-place : goal.invariant-loop-place
invariant-loop-place l = AreBegun (probes_of (take l.place l.probes))
