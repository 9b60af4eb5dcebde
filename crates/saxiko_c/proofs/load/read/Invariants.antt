use Rattle.std.proofs.Common.{◌≡◌, map, take}
use Rattle.std.specs.Prelude.{All}
use Rattle.saxiko_c.specs.Loads.{IsBadRoute, rule_of}
use Rattle.saxiko_c.proofs.load.read.Given as goal

-- the rules of the routes so far, each of which gives one
abbrev pub invariant-loop-index : goal.invariant-loop-index
invariant-loop-index l = record {
  read : l.rules.items ≡ map rule_of (take l.index l.routes);
  good : All (λ route. ¬ IsBadRoute route) (take l.index l.routes);
  bad : l.bad ≡ l.fn.bad;
}
