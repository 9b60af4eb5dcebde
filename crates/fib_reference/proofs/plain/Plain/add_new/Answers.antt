use Rattle.std.proofs.Common.{ap, sym, ◌∙◌, refl, ◌≡◌, ◌+◌, ◌∷◌}
use Rattle.std.specs.FinMap.{insert}
use Rattle.fib_reference.specs.declared.limbo.PlainLimbo.{PlainLimbo}
use Rattle.fib_reference.specs.declared.plain.Plain.{Plain}
use Rattle.fib_reference.specs.Accounts.{events_of}
use Rattle.fib_reference.proofs.plain.Plain.add_new.Goals as goal
use Rattle.fib_reference.proofs.plain.Plain.add_new.Goals.{then-lacks_group+in_default, else-lacks_group}

pub returns-clause-adds : goal.returns-clause-adds
returns-clause-adds g c =
    let f = g.row.FIRST in
    let s = g.row.SECOND in
    let p = c.args.prefix.now in
    let kept = c.in_ok-store.ensures in
    let z = c.store.new.self.limbo in
    elim c.if-lacks_group.branch [
      | then-lacks_group+in_default w ↦
          let taken = w.in_default.ensures.taken in
          let same : z ≡ w.take_front.new.self = kept.limbo ∙ ap (λ (x : Plain f s). x.limbo) w.self-is in (
            c.requires.new,
            (
              events_of z,
              (
                (λ lacks. (taken.0, taken.1 ∙ ap (λ (x : PlainLimbo). taken.0 ∷ x.places.items) (sym same), (taken.2.0, ap events_of same ∙ taken.2.1))),
                (λ enough. absurd (enough (c.lacks_group.ensures.yes w.if-lacks_group.true))),
              ),
              (events_of z, refl, refl),
            ),
            (kept.rules ∙ ap (λ (x : Plain f s). insert x.rules.rules p c.args.hop) w.self-is, kept.begun ∙ ap (λ (x : Plain f s). x.updates_begun + 1) w.self-is),
          )
      | else-lacks_group w ↦
          let same : z ≡ c.args.self.now.limbo = kept.limbo ∙ ap (λ (x : Plain f s). x.limbo) w.self-is in (
            c.requires.new,
            (
              events_of z,
              (
                (λ lacks. absurd (c.lacks_group.ensures.no w.if-lacks_group.false lacks)),
                (λ enough. (ap (λ (x : PlainLimbo). x.places.items) same, ap events_of same)),
              ),
              (events_of z, refl, refl),
            ),
            (kept.rules ∙ ap (λ (x : Plain f s). insert x.rules.rules p c.args.hop) w.self-is, kept.begun ∙ ap (λ (x : Plain f s). x.updates_begun + 1) w.self-is),
          )
    ]
