use Rattle.std.proofs.Common.{arith, ◌≡◌, ◌<◌, ◌≤◌, inl, inr, ap, sym, ◌∙◌, subst}
use Rattle.std.proofs.lemmas.Bool.{cases_lt}
use Rattle.lpm_rules.specs.RuleMap.{place, prefix_at}
use Rattle.lpm_rules.proofs.Views.{prefix_read}
use Rattle.test_support.proofs.rule_lists.are_in_order.Goals as goal

pub loop-rule-preserved : goal.loop-rule-preserved
loop-rule-preserved g c =
    let rs = c.args.rules.now in
    let i = c.loop-rule.rule-index in
    let inv = c.loop-rule.invariant in
    let last = c.loop-rule.last in
    let read = prefix_read rs i c.rule-item.result c.loop-rule-test.true c.rule-item.is in
    let here : place (prefix_at rs i) ≡ c.place_of-place.result = ap place read ∙ sym c.place_of-place.ensures.value in
    let rises : last ≤ c.place_of-place.result = c.if-place-last.false in
    record {
      ordered = λ j k l h. elim (cases_lt k i) [
        | inl low ↦ inv.ordered j k l low
        | inr high ↦ subst (λ x. place (prefix_at rs j) ≤ place (prefix_at rs x)) (let e : i ≡ k = omega (arith, high, h) in e)
            (elim (cases_lt j i) [
              | inl below ↦ let z = inv.below j below in subst (λ x. place (prefix_at rs j) ≤ x) (sym here) (omega (arith, z, rises))
              | inr same ↦ subst (λ x. place (prefix_at rs x) ≤ place (prefix_at rs i)) (let e : i ≡ j = omega (arith, same, l, high, h) in e) (omega arith)
            ])
      ];
      last = inr (i, (omega arith), here);
      below = λ j h. elim (cases_lt j i) [
        | inl below ↦ let z = inv.below j below in omega (arith, z, rises)
        | inr same ↦ subst (λ x. place (prefix_at rs x) ≤ c.place_of-place.result) (let e : i ≡ j = omega (arith, same, h) in e) (subst (λ x. x ≤ c.place_of-place.result) (sym here) (omega arith))
      ];
    }

pub returns-then-place-last : goal.returns-then-place-last
returns-then-place-last g c =
    let rs = c.args.rules.now in
    let i = c.loop-rule.rule-index in
    let last = c.loop-rule.last in
    let test = c.loop-rule-test.true in
    let read = prefix_read rs i c.rule-item.result test c.rule-item.is in
    let here : place (prefix_at rs i) ≡ c.place_of-place.result = ap place read ∙ sym c.place_of-place.ensures.value in
    let falls : c.place_of-place.result < last = c.if-place-last.true in (
      (λ off. cc),
      (λ ordered. elim c.loop-rule.invariant.last [
        | inl zero ↦ absurd (omega (arith, zero, falls))
        | inr seen ↦
            let before = seen.1 in
            let is = seen.2 in
            let rises = ordered seen.0 i (omega (arith, before)) test in
            absurd (omega (arith, rises, is, here, falls))
      ]),
    )
