use Rattle.std.proofs.Common.{◌≡◌, ◌≤◌, ◌==◌, count_by, take}
use Rattle.lpm_files.proofs.lines.block_feeds.Given as goal

abbrev pub invariant-loop-byte : goal.invariant-loop-byte
invariant-loop-byte l = record {
  so_far : l.count ≡ count_by (λ b. b == 10) (take l.byte-index l.block);
  small : l.count ≤ l.byte-index;
}
