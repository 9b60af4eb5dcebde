use Rattle.std.proofs.Common.{◌≡◌, ◌+◌, ◌==◌, count_by, length}
use Rattle.lpm_files.proofs.lines.feeds.Given as goal

abbrev pub invariant-loop-rest : goal.invariant-loop-rest
invariant-loop-rest l = l.count + count_by (λ b. b == 10) l.rest ≡ count_by (λ b. b == 10) l.bytes

abbrev pub decreases-loop-rest : goal.decreases-loop-rest
decreases-loop-rest l = length l.rest
