use Rattle.std.proofs.Common.{ap, ◌∙◌}
use Rattle.lpm_limits.specs.declared.config.Config.{Config}
use Rattle.fib.proofs.fib.Fib.replay_here.Goals as goal

pub returns-clause-asked : goal.returns-clause-asked
returns-clause-asked g c =
    let config = c.in_ok-outcomes.ensures.config in
    record {
      hops = c.in_ok-hops.ensures;
      rules = c.rules.ensures;
      versions = c.versions.ensures;
      in_use = c.counts.ensures.in_use;
      limbo = c.counts.ensures.limbo;
      groups = c.counts.ensures.all ∙ ap (λ (k : Config). k.groups) config;
      token = c.token.ensures.value;
    }
