use Rattle.std.proofs.Common.{◌≡◌, ◌≤◌, take}
use Rattle.std.specs.FinMap.{len}
use Rattle.fib_model.specs.Outcomes.{groups_in_use}
use Rattle.lpm_commands.specs.Load.{rules_of_routes}
use Rattle.lpm_commands.proofs.FilledTable.{changes_of}
use Rattle.lpm_commands.proofs.refusals.made_with_tokens.Given as goal

abbrev pub invariant-loop-index : goal.invariant-loop-index
invariant-loop-index l = record {
  rules : l.rules.rules ≡ rules_of_routes (take l.index l.routes);
  max : l.rules.max ≡ l.config.rules;
  most : len l.rules.rules ≤ l.rules.max;
  in_use : l.in_use ≡ groups_in_use 24 8 l.rules.rules;
  few : l.in_use ≤ l.config.groups;
  count : l.versions ≤ l.index;
  versions : l.versions ≡ changes_of (take l.index l.routes);
}
