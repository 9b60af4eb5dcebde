use Rattle.std.proofs.Common.{◌≡◌, ◌∙◌, ap, ◌-◌, ◌<◌, ℕ, refl, subst, sym, length, get_or, take, arith}
use Rattle.lpm_bits.specs.Network.{IsNetwork}
use Rattle.lpm_rules.specs.declared.Rule.{Rule}
use Rattle.lpm_rules.specs.RuleMap.{prefix_at, rules_of}
use Rattle.lpm_commands.specs.FilledTable.{BringsGroup}
use Rattle.lpm_commands.proofs.Groups.{first_brings, other_block, same_block}
use Rattle.lpm_commands.proofs.sorted_rules.begins_block.Goals as goal

pub returns-then-index-eq0 : goal.returns-then-index-eq0
returns-then-index-eq0 c =
    let r = c.index-rules-index.result in
    let rs = c.args.rules.now in
    let len : c.len.result ≡ r.prefix.len = c.len.ensures.value ∙ sym (ap (λ (x : Rule 24 8). x.prefix.len) c.index-rules-index.is) in
    let test = c.if-len-le24.false in
    let within : c.args.index < length rs = c.requires.within in
    let none : c.args.index ≡ 0 = c.if-index-eq0.true in (
      (λ _. subst (λ (k : ℕ). BringsGroup (rules_of (take k rs)) (prefix_at rs k)) (sym none)
          (first_brings rs r (omega (arith, within, none)) (subst (λ (k : ℕ). r ≡ get_or rs k r) none c.index-rules-index.is) (omega (arith, len, test)))),
      (λ _. refl),
    )

pub returns-then-bits : goal.returns-then-bits
returns-then-bits c =
    let rs = c.args.rules.now in
    let i = c.args.index in
    let r = c.index-rules-index.result in
    let s = c.index-rules-index-2.result in
    let len : c.len.result ≡ r.prefix.len = c.len.ensures.value ∙ sym (ap (λ (x : Rule 24 8). x.prefix.len) c.index-rules-index.is) in
    let bound = c.len.ensures.bound in
    let test = c.if-len-le24.false in
    let some = c.if-index-eq0.false in
    let is = subst (λ (x : Rule 24 8). IsNetwork 32 x.prefix) (sym c.index-rules-index-2.is) c.bits.ensures.network in
    let from = c.bits.ensures.value ∙ sym (ap (λ (x : Rule 24 8). x.prefix.bits) c.index-rules-index-2.is) in
    let to = c.bits-2.ensures.value ∙ sym (ap (λ (x : Rule 24 8). x.prefix.bits) c.index-rules-index.is) in (
      (λ _. other_block rs c.requires.sorted i (i - 1) c.bits.result c.bits-2.result s r (omega (arith, some)) c.requires.within c.index-rules-index-2.is c.index-rules-index.is (omega (arith, len, test)) (omega (arith, len, bound)) is from to c.if-bits.true),
      (λ _. refl),
    )

pub returns : goal.returns
returns c =
    let rs = c.args.rules.now in
    let i = c.args.index in
    let r = c.index-rules-index.result in
    let s = c.index-rules-index-2.result in
    let len : c.len.result ≡ r.prefix.len = c.len.ensures.value ∙ sym (ap (λ (x : Rule 24 8). x.prefix.len) c.index-rules-index.is) in
    let bound = c.len.ensures.bound in
    let test = c.if-len-le24.false in
    let some = c.if-index-eq0.false in
    let is = subst (λ (x : Rule 24 8). IsNetwork 32 x.prefix) (sym c.index-rules-index-2.is) c.bits.ensures.network in
    let size = c.len-2.ensures.value ∙ sym (ap (λ (x : Rule 24 8). x.prefix.len) c.index-rules-index-2.is) in
    let from = c.bits.ensures.value ∙ sym (ap (λ (x : Rule 24 8). x.prefix.bits) c.index-rules-index-2.is) in
    let to = c.bits-2.ensures.value ∙ sym (ap (λ (x : Rule 24 8). x.prefix.bits) c.index-rules-index.is) in
    same_block rs c.requires.sorted i (i - 1) c.len-2.result c.bits.result c.bits-2.result s r (omega (arith, some)) c.requires.within c.index-rules-index-2.is c.index-rules-index.is (omega (arith, len, test)) (omega (arith, len, bound)) is size from to c.if-bits.false
