use Rattle.std.proofs.Common.{take}
use Rattle.lpm_trace.specs.Trace.{AreAnswered}
use Rattle.interleave.specs.Machine.{probes_of}
use Rattle.interleave.proofs.probe.next_in_group.Given as goal

abbrev pub invariant-loop-place : goal.invariant-loop-place
invariant-loop-place l = AreAnswered (probes_of (take l.place l.probes))
