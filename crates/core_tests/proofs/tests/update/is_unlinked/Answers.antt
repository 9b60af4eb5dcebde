use Rattle.std.proofs.Common.{arith, ◌≡◌, inl, inr, subst}
use Rattle.std.proofs.lemmas.Bool.{cases_lt}
use Rattle.lpm_update.specs.BlockGroups.{IsLinkTo}
use Rattle.lpm_update.proofs.Promises.{past_group}
use Rattle.core_tests.proofs.tests.update.is_unlinked.Goals as goal

pub loop-block-preserved : goal.loop-block-preserved
loop-block-preserved c = record {
  none = λ k g l e. elim (cases_lt k c.loop-block.block) [
    | inl below ↦ c.loop-block.invariant.none k g below e
    | inr above ↦
        let here : k ≡ c.loop-block.block = omega (arith, l, above) in
        let linked = c.is_linked.ensures.1 (g, subst (λ x. IsLinkTo c.args.cells.now.firsts x g) here e) in
        let not = c.if-is_linked.false in
        absurd cc
  ];
}

pub returns : goal.returns
returns c = λ _ i g e. elim (cases_lt i 16) [
  | inl below ↦ c.loop-block.invariant.none i g (let end = c.loop-block-test.false in omega (arith, end, below)) e
  | inr above ↦ past_group c.args.cells.now.firsts i g (let len = c.seconds-words.ensures.words.firsts_len in omega (arith, len, above)) e
]
