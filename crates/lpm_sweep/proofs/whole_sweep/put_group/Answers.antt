use Rattle.std.proofs.Common.{arith, ◌≡◌, ℕ, ◌+◌, ◌/◌, ◌^◌, ◌<◌, ◌≤◌, ap, sym, ◌∙◌, subst, length, lit<, take, List, [], ◌∷◌, ◌++◌, refl}
use Rattle.std.proofs.lemmas.Nat.{mul-le, pow_below}
use Rattle.std.proofs.lemmas.Grind.{common_steps}
use Rattle.lpm_cells.specs.declared.entry.Entry.TheVariants.{Group}
use Rattle.lpm_cells.specs.Words.{word_of}
use Rattle.lpm_update.proofs.Places.{word_entry}
use Rattle.lpm_sweep.specs.SweepWords.{word_by_frames, word_at, IsSwept, AreNumbered}
use Rattle.lpm_rules.specs.RuleMap.{prefix_at, rules_of}
use Rattle.lpm_sweep.proofs.Stacks.{under_end}
use Rattle.lpm_rules.proofs.Views.{prefix_read}
use Rattle.lpm_sweep.proofs.Sweeps.{swept_on, numbered_on}
use Rattle.lpm_sweep.proofs.NewGroup.{starts, put_last, last_length, swept_group, numbered_group}
use Rattle.lpm_sweep.proofs.DeepBlocks.{one_block_more}
use Rattle.lpm_sweep.proofs.whole_sweep.put_group.Given.{Over}
use Rattle.lpm_sweep.proofs.whole_sweep.put_group.Goals.{In_ok-advance, In_ok-fill}
use Rattle.lpm_sweep.proofs.whole_sweep.put_group.Goals as goal

-- the first words before the block are put
swept : (g : Over) (c : In_ok-advance g) → let items = g.W.WordList.items in
    (length (items c.advance.new.words) ≡ c.first_index-block.result)
    × IsSwept g.row.FIRST g.row.SECOND (length c.args.blocks.now.items) (rules_of (take c.args.from c.args.rules.now)) (record { firsts = items c.advance.new.words; seconds = items c.args.seconds.now }) (word_by_frames c.advance.new.self)
    × ((blocks : List ℕ) → AreNumbered (items c.args.firsts.now) blocks → AreNumbered (items c.advance.new.words) blocks)
swept g c =
    let items = g.W.WordList.items in
    let f = g.row.FIRST in
    let s = g.row.SECOND in
    let n = length c.args.blocks.now.items in
    let R = rules_of (take c.args.from c.args.rules.now) in
    let old = word_by_frames c.args.outer.now in
    let new = word_by_frames c.advance.new.self in
    let low : c.first_index-block.result ≤ 2 ^ f = omega (arith, c.first_index-block.ensures.bound) in
    let done = c.in_ok-advance.ensures in (
      done.len,
      swept_on f s n R (items c.args.firsts.now) (items c.advance.new.words) (items c.args.seconds.now) old new c.first_index-block.result low done.len done.fills done.frames c.requires.swept,
      numbered_on f s n R (items c.args.firsts.now) (items c.advance.new.words) (items c.args.seconds.now) old new c.first_index-block.result low done.len done.fills done.frames c.requires.swept,
    )

-- the link is put behind them
linked : (g : Over) (c : In_ok-fill g) → let items = g.W.WordList.items in
    (items c.fill.new.self ≡ items c.advance.new.words ++ c.to_word-link.result ∷ []) × (c.to_word-link.result ≡ word_of (Group (length c.args.blocks.now.items)))
linked g c =
    let items = g.W.WordList.items in
    let used : c.len.result ≡ length c.args.blocks.now.items = grind (arith, common_steps) in (
      put_last (items c.advance.new.words) (items c.fill.new.self) c.to_word-link.result c.first_index-block.result c.in_ok-advance.ensures.len c.in_ok-fill.ensures.len c.in_ok-fill.ensures.fills,
      c.to_word-link.ensures.value ∙ ap (λ x. word_of (Group x)) used,
    )

pub fill_group-requires : goal.fill_group-requires
fill_group-requires g c =
    let items = g.W.WordList.items in
    let f = g.row.FIRST in
    let s = g.row.SECOND in
    let n = length c.args.blocks.now.items in
    let rs = c.args.rules.now in
    let p = c.index-rules-from.result.prefix in
    let b = c.first_index-block.result in
    let shape = c.requires.shape in
    let read : prefix_at rs c.args.from ≡ p = prefix_read rs c.args.from c.index-rules-from.result c.requires.from c.index-rules-from.is in
    let at : b ≡ p.bits / 2 ^ s = c.first_index-block.ensures.value ∙ ap (λ x. x / 2 ^ s) c.bits-bits.ensures.value in
    let block : (prefix_at rs c.args.from).bits / 2 ^ s ≡ b = ap (λ q. q.bits / 2 ^ s) read ∙ sym at in
    let low : b < 2 ^ f = c.first_index-block.ensures.bound in
    let room = c.requires.swept.room in
    let few = c.requires.few in
    let narrow = pow_below s 32 (omega (arith, shape)) in
    let size = mul-le n (2 ^ s) 65536 (2 ^ 32) (omega (arith, few)) (omega (arith, narrow)) in
    let top = c.advance.new.self.top in
    let over : word_by_frames c.advance.new.self b ≡ top.word = under_end top b (word_at c.advance.new.self.rest c.advance.new.self.below.items b) c.in_ok-advance.ensures.top in
    let before = swept g (goal.at.fill_group-requires g c).In_ok-advance in (
      lit< tt,
      (
        shape,
        (
          omega (arith, room, size),
          (
            c.requires.from,
            (
              c.requires.sorted,
              (
                c.requires.deep,
                (
                  block,
                  (
                    c.requires.before,
                    starts f s n b (rules_of (take c.args.from rs)) (items c.advance.new.words) (items c.args.seconds.now) (word_by_frames c.advance.new.self) (word_by_frames c.reset.new.self) low before.0 (λ k. c.reset.ensures k ∙ sym over) before.1,
                  ),
                ),
              ),
            ),
          ),
        ),
      ),
    )

pub returns-clause-swept : goal.returns-clause-swept
returns-clause-swept g c =
    let items = g.W.WordList.items in
    let f = g.row.FIRST in
    let s = g.row.SECOND in
    let n = length c.args.blocks.now.items in
    let rs = c.args.rules.now in
    let b = c.first_index-block.result in
    let few = c.requires.few in
    let R = rules_of (take c.args.from rs) in
    let Q = rules_of (take c.in_ok-next.next rs) in
    let at = goal.at.returns-clause-swept g c in
    let before = swept g at.In_ok-advance in
    let link = linked g at.In_ok-fill in
    let count : length c.push.new.self.items ≡ n + 1 = ap {B = ℕ} (λ l. length l) c.in_ok-push.ensures.items ∙ last_length c.args.blocks.now.items b in
    subst (λ m. IsSwept f s m Q (record { firsts = items c.fill.new.self; seconds = items c.fill_group.new.words }) (word_by_frames c.advance.new.self)) (sym count)
    (subst (λ (F : List ℕ). IsSwept f s (n + 1) Q (record { firsts = F; seconds = items c.fill_group.new.words }) (word_by_frames c.advance.new.self)) (sym link.0)
    (swept_group f s n b R Q (items c.advance.new.words) (items c.args.seconds.now) (items c.fill_group.new.words) (word_by_frames c.advance.new.self) (word_by_frames c.fill_group.new.frames) c.to_word-link.result
    c.first_index-block.ensures.bound before.0 (omega (arith, few)) link.1 c.in_ok-next.ensures.len c.in_ok-next.ensures.kept c.in_ok-next.ensures.filled c.in_ok-next.ensures.deep before.1))

pub returns-clause-deep : goal.returns-clause-deep
returns-clause-deep g c =
    let s = g.row.SECOND in
    let rs = c.args.rules.now in
    let b = c.first_index-block.result in
    let read : prefix_at rs c.args.from ≡ c.index-rules-from.result.prefix = prefix_read rs c.args.from c.index-rules-from.result c.requires.from c.index-rules-from.is in
    let at : (prefix_at rs c.args.from).bits / 2 ^ s ≡ b = ap (λ q. q.bits / 2 ^ s) read ∙ sym (c.first_index-block.ensures.value ∙ ap (λ x. x / 2 ^ s) c.bits-bits.ensures.value) in
    let within = c.requires.within in
    one_block_more g.row.FIRST s b (rules_of (take c.args.from rs)) (rules_of (take c.in_ok-next.next rs))
    (c.requires.swept.shallow b (omega (arith, at, within)))
    c.in_ok-next.ensures.deep c.in_ok-next.ensures.filled.kept c.in_ok-next.ensures.filled.no_other

pub returns-clause-numbered : goal.returns-clause-numbered
returns-clause-numbered g c =
    let f = g.row.FIRST in
    let n = length c.args.blocks.now.items in
    let few = c.requires.few in
    let at = goal.at.returns-clause-numbered g c in
    let before = swept g at.In_ok-advance in
    let link = linked g at.In_ok-fill in
    let small : n < 2 ^ 24 = omega (arith, few) in
    let F = g.W.WordList.items c.advance.new.words in
    let B = c.args.blocks.now.items in
    subst (λ (x : List ℕ). AreNumbered x c.push.new.self.items) (sym link.0)
    (subst (λ (x : List ℕ). AreNumbered (F ++ c.to_word-link.result ∷ []) x) (sym c.in_ok-push.ensures.items)
    (numbered_group f c.first_index-block.result n c.to_word-link.result F B before.0 refl (word_entry (f + g.row.SECOND) c.to_word-link.result (Group n) small link.1) (before.2 B c.requires.numbered)))
