use Rattle.std.proofs.Common.{rules, ap, sym, ◌∙◌, ◌<◌, ◌∷◌, length}
use Rattle.fib_reference.proofs.Events.{front_removed}
use Rattle.fib_reference.proofs.limbo.PlainLimbo.take_front.Goals as goal

pub returns-clause-taken : goal.returns-clause-taken
returns-clause-taken c =
    let some : 0 < length c.args.self.now.places.items = search rules in (
      c.index.result.now,
      front_removed c.args.self.now.places.items c.index.result.now c.index.result.now some c.index.ensures ∙ ap (λ l. c.index.result.now ∷ l) (sym c.remove.ensures.items),
      c.in_default.ensures,
    )
