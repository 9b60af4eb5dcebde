use Rattle.std.proofs.Common.{◌≡◌, subst, List, Option}
use Rattle.std.specs.Prelude.{IfSome}
use Rattle.lpm_rules.specs.RuleMap.{rules_of}
use Rattle.shared_fib.specs.Passes.{PassState, IsFullBench}
use Rattle.shared_fib.specs.RunningTable.{Identity, WriterState, initial_writer}
use Rattle.saxiko.proofs.Owners.{opens_as}
use Rattle.saxiko.proofs.owner.Owner.load.Goals as goal

pub returns-in_ok-of_opened-in-Some-clause-bench : goal.returns-in_ok-of_opened-in-Some-clause-bench
returns-in_ok-of_opened-in-Some-clause-bench c =
    let config = c.args.config in
    let rules = rules_of c.in_ok-sorted.sorted.items in
    let table = c.in_ok-table.ensures in
    let opened = subst (λ (o : Option (Identity × WriterState × List (Option PassState))). IfSome o (λ r. r.1 ≡ initial_writer r.0 config rules)) c.in-Some.is table.opened in
    let full = subst (λ (o : Option (Identity × WriterState × List (Option PassState))). IfSome o (λ r. IsFullBench r.0 r.2)) c.in-Some.is table.bench in
    let owner = c.in_ok-of_opened-in-Some in
    (opens_as c.in-Some.table config rules c.in-Some.writer c.in-Some.bench owner.field-0 owner.ensures.ok opened full).bench
