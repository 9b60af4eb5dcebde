use Rattle.std.proofs.Common.{◌≡◌, map, take}
use Rattle.lpm_commands.specs.Load.{rule_of}
use Rattle.lpm_commands.proofs.sorted_rules.rule_list.Given as goal

abbrev pub invariant-loop-route : goal.invariant-loop-route
invariant-loop-route l = l.rules.items ≡ map rule_of (take l.route-index l.routes)
