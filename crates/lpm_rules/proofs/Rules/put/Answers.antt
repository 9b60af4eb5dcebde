use Rattle.std.proofs.Common.{rules, ◌≡◌, ◌∙◌, ap, subst, Some}
use Rattle.std.specs.Prelude.{OnOk}
use Rattle.std.specs.FinMap as map
use Rattle.lpm_rules.proofs.Views.{insert_same}
use Rattle.lpm_rules.proofs.Rules.put.Goals as goal

pub returns-in-Ok-Some-clause-same : goal.returns-in-Ok-Some-clause-same
returns-in-Ok-Some-clause-same g c = λ _.
    let old = c.args.self.now in
    let p = c.args.prefix.now in
    let found : map.get old.rules p ≡ Some c.args.hop = search rules in
    let ok = subst (λ r. OnOk r (c.store.new.self ≡ record old { rules = map.insert old.rules p c.args.hop })) c.in-Ok-Some.is c.store.ensures.ok in
    ok ∙ ap (λ m. record { rules = m; max = old.max }) (insert_same old.rules p c.args.hop found)
