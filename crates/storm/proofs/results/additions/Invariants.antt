use Rattle.std.proofs.Common.{◌≡◌, map, take}
use Rattle.storm.specs.Writer.{addition_of}
use Rattle.storm.proofs.results.additions.Given as goal

abbrev pub invariant-loop-rule : goal.invariant-loop-rule
invariant-loop-rule g l = l.changes.items ≡ map addition_of (take l.rule-index l.rules)
