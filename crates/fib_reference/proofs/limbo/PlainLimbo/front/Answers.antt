use Rattle.std.proofs.Common.{arith, rules, ◌≡◌, min, length, below_more, subst}
use Rattle.std.proofs.lemmas.List.{get_or_read}
use Rattle.fib_model.proofs.Unique.{IsUnheld}
use Rattle.fib_reference.specs.Accounts.{events_of}
use Rattle.fib_reference.proofs.Events.{front_all, front_stopped}
use Rattle.fib_reference.proofs.limbo.PlainLimbo.front.Goals as goal

pub returns-in-Some : goal.returns-in-Some
returns-in-Some c =
    let most : c.min-most.result ≡ min c.args.max (length c.args.self.now.places.items) = search rules in
    front_stopped c.args.config.now (events_of c.args.self.now) c.args.max c.args.self.now.places.items c.loop-freed.freed c.index.result.now c.index.result.now c.in-Some.busy (omega arith) c.index.ensures c.in-Some.ensures.0 c.loop-freed.invariant

pub loop-freed-preserved : goal.loop-freed-preserved
loop-freed-preserved c =
    let most : c.min-most.result ≡ min c.args.max (length c.args.self.now.places.items) = search rules in
    below_more _ _ c.loop-freed.invariant
    (subst (IsUnheld c.args.config.now (events_of c.args.self.now)) (get_or_read c.args.self.now.places.items c.loop-freed.freed c.index.result.now (omega arith) c.index.ensures 0) c.in_default.ensures.0)

pub returns : goal.returns
returns c = front_all c.args.config.now (events_of c.args.self.now) c.args.max c.args.self.now.places.items c.min-most.result (search rules) (λ k low. c.loop-freed.invariant k (omega (arith, low)))
