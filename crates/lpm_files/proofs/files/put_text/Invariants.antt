use Rattle.std.proofs.Common.{◌≤◌, length, take}
use Rattle.std.specs.Io.KnownBytes.{Appends}
use Rattle.lpm_files.proofs.files.put_text.Given as goal

abbrev pub invariant-loop : goal.invariant-loop
invariant-loop g l = record {
  within : l.at ≤ length l.text;
  wrote : Appends (g.W.Write.contents l.fn.out) (g.W.Write.contents l.out) (take l.at l.text);
}
