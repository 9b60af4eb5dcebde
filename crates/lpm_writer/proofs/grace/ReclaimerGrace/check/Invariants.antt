use Rattle.std.proofs.Common.{◌≡◌, [], ◌∷◌}
use Rattle.lpm_writer.proofs.Checks.{HasLoadedCounters}
use Rattle.lpm_writer.proofs.grace.ReclaimerGrace.check.Given as goal

abbrev pub invariant-loop-worker : goal.invariant-loop-worker
invariant-loop-worker g l = record {
  loaded : HasLoadedCounters g.M.Memory.did g.M.Memory.does l.fn.self.memory.now l.token l.worker l.self.memory.now;
  groups : l.self.groups.now ≡ l.fn.self.groups.now;
  passed : l.self.passed.now ≡ l.fn.self.passed.now;
  lent : l.self.memory.ghost_name ∷ l.self.groups.ghost_name ∷ l.self.passed.ghost_name ∷ []
      ≡ l.fn.self.memory.ghost_name ∷ l.fn.self.groups.ghost_name ∷ l.fn.self.passed.ghost_name ∷ [];
}
