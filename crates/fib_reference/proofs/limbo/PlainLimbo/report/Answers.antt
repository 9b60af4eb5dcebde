use Rattle.std.proofs.Common.{arith, rules, ap, ◌∙◌, ◌≡◌, [], ◌∷◌, ◌++◌, true}
use Rattle.std.specs.FinMap.{empty}
use Rattle.fib_reference.specs.Accounts.{events_of, state_with}
use Rattle.fib_model.proofs.Runs.{fresh, tidy_told}
use Rattle.fib_reference.proofs.Events.{tidy_pushed}
use Rattle.fib_reference.proofs.limbo.PlainLimbo.report.Goals as goal

pub returns-clause-sound : goal.returns-clause-sound
returns-clause-sound c =
    let can : c.may_report.result ≡ true = search rules in
    tidy_pushed c.args.config.now.workers c.args.self.now.events.items _ c.push.new.self.items
    (c.in_ok-push.ensures.items ∙ ap (λ e. c.args.self.now.events.items ++ e ∷ []) c.event_of.ensures)
    (tidy_told c.args.config.now.workers (events_of c.args.self.now) c.args.report c.args.worker c.requires.sound (omega arith)
    (fresh c.args.config.now (state_with empty 0 c.args.self.now) c.args.report c.args.worker (c.may_report.ensures.yes can empty 0)))
