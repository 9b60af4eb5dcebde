use Rattle.std.proofs.Common.{ℕ, ◌≡◌, IfOk, ap, subst, lit<}
use Rattle.lpm_limits.specs.declared.config.Config.{Config}
use Rattle.lpm_rules.specs.RuleMap.{RuleMap, RuleList}
use Rattle.shared_words.specs.Layout.{InitialData}
use Rattle.shared_fib.specs.RunningTable.{initial_writer}
use Rattle.shared_fib.proofs.initial.begin.Goals as goal

pub go_on-requires : goal.go_on-requires
go_on-requires g c = (lit< tt, (lit< tt, (lit< tt, c.in_ok-config.ensures.loaded)))

pub returns-clause-initial : goal.returns-clause-initial
returns-clause-initial g c =
    subst (λ (o : InitialData). IfOk c.go_on.result (λ r. r.0.initial ≡ o)) c.in_ok-config.ensures.initial c.go_on.ensures.initial

pub returns-clause-opened : goal.returns-clause-opened
returns-clause-opened g c =
    let load = c.in_ok-config.ensures in
    subst (λ (z : Config × RuleMap). IfOk c.go_on.result (λ r. r.1 ≡ initial_writer r.0 z.0 z.1))
    (λ i. (load.config i, ap (λ (l : RuleList). l.rules) load.rules i)) c.go_on.ensures.opened

pub returns-clause-token : goal.returns-clause-token
returns-clause-token g c =
    subst (λ (n : ℕ). IfOk c.go_on.result (λ r. r.0.initial.token ≡ n))
    (ap (λ (o : InitialData). o.token) c.in_ok-config.ensures.initial) c.go_on.ensures.token

pub returns-clause-workers : goal.returns-clause-workers
returns-clause-workers g c =
    subst (λ (n : ℕ). IfOk c.go_on.result (λ r. r.0.initial.workers ≡ n))
    (ap (λ (o : InitialData). o.workers) c.in_ok-config.ensures.initial) c.go_on.ensures.workers
