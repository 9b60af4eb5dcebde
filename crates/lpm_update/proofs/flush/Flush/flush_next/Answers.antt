use Rattle.std.proofs.Common.{arith, ap, sym, ◌∙◌, subst, ◌≡◌, ◌^◌, ◌<◌, ◌+◌, length}
use Rattle.std.specs.Prelude.{slice_index}
use Rattle.std.proofs.lemmas.Nat.{one_shl}
use Rattle.lpm_cells.specs.Words.{entry_in, group_in, with_first}
use Rattle.lpm_update.specs.declared.Did.TheVariants.{First, Unlinked, Done}
use Rattle.lpm_update.specs.declared.update.Plan.TheVariants.{Flush}
use Rattle.lpm_update.specs.Kinds.{IsFlushStore}
use Rattle.lpm_update.specs.Step.{Steps}
use Rattle.lpm_update.proofs.Places.{sets_first}
use Rattle.lpm_update.proofs.Groups.{no_group_at}
use Rattle.lpm_update.proofs.Flushes.{come_to, not_miss, flush_first, flush_unlink, flush_done}
use Rattle.lpm_update.proofs.flush.Flush.flush_next.Given.{Over}
use Rattle.lpm_update.proofs.flush.Flush.flush_next.Goals.{After-set_first}
use Rattle.lpm_update.proofs.flush.Flush.flush_next.Goals as goal

-- the store that was made, the words after it, and the word before
stored : (g : Over) (c : After-set_first g) → let W = g.C.Cells.words c.args.cells.now in
    let i = c.loop-self.self.next in
    IsFlushStore g.row.FIRST c.args.self.now.next W.firsts i c.to_word-miss.result × (with_first W i c.to_word-miss.result ≡ g.C.Cells.words c.set_first.new.self) × (c.first-word.result ≡ slice_index W.firsts i)
stored g c =
    let C = g.C.Cells in
    let W = C.words c.args.cells.now in
    let f = g.row.FIRST in
    let i = c.loop-self.self.next in
    let known = c.loop-self.invariant in
    let same = c.first-word.ensures.same ∙ known.same in
    let more : i < 2 ^ f = subst (λ x. i < x) (one_shl f 64 (let z = c.requires.shape in omega arith)) c.loop-self-test.true in
    let word = c.first-word.ensures.value ∙ ap (λ x. slice_index (C.words x).firsts i) known.same in
    let miss = c.to_word-miss.ensures.value in
    let full = not_miss f g.row.SECOND W i c.requires.table more (λ z. c.if-word-miss.true (word ∙ z ∙ sym miss)) in (
      record { low = known.low; high = more; full = full; word = miss; skipped = known.misses },
      sym (c.set_first.ensures.words ∙ ap (λ x. with_first (C.words x) i c.to_word-miss.result) same),
      word,
    )

pub returns-in-Group-clause-steps : goal.returns-in-Group-clause-steps
returns-in-Group-clause-steps g c =
    let W = g.C.Cells.words c.args.cells.now in
    let f = g.row.FIRST in
    let s = g.row.SECOND in
    let u = c.args.self.now in
    let i = c.loop-self.self.next in
    let n = c.in-Group.group in
    let made = stored g (goal.at.returns-in-Group-clause-steps g c).After-set_first in
    let group = ap (λ x. group_in (entry_in x)) (sym made.2) ∙ ap group_in (sym c.of_word.ensures ∙ c.in-Group.is) in
    subst (Steps f s (Flush u) W (Unlinked i n) (Flush (come_to (i + 1)))) made.1 (flush_unlink f s u W c.requires.table i c.to_word-miss.result made.0 n group)

pub returns-in_default : goal.returns-in_default
returns-in_default g c =
    let C = g.C.Cells in
    let W = C.words c.args.cells.now in
    let f = g.row.FIRST in
    let s = g.row.SECOND in
    let u = c.args.self.now in
    let i = c.loop-self.self.next in
    let made = stored g (goal.at.returns-in_default g c).After-set_first in
    let none = no_group_at W.firsts i (λ k e. c.in_default.not-Group k (c.of_word.ensures ∙ ap entry_in made.2 ∙ e)) in
    let within : i < length W.firsts = subst (λ x. i < x) (sym c.requires.table.words.firsts_len) made.0.high in
    record {
      steps = subst (Steps f s (Flush u) W (First i) (Flush (come_to (i + 1)))) made.1 (flush_first f s u W c.requires.table i c.to_word-miss.result made.0 none);
      sets = sets_first C.words C.sets_first c.args.cells.now c.first-word.new.self c.set_first.new.self i c.to_word-miss.result (c.first-word.ensures.same ∙ c.loop-self.invariant.same) within c.set_first.ensures.words c.set_first.ensures.set;
    }

pub returns-clause-steps : goal.returns-clause-steps
returns-clause-steps g c =
    let C = g.C.Cells in
    let W = C.words c.args.cells.now in
    let f = g.row.FIRST in
    let s = g.row.SECOND in
    let u = c.args.self.now in
    let v = c.loop-self.self in
    let known = c.loop-self.invariant in
    let size = one_shl f 64 (let z = c.requires.shape in omega arith) in
    let over : v.next ≡ 2 ^ f = let l = known.within in let h = c.loop-self-test.false in omega (arith, l, h, size) in
    subst (λ x. Steps f s (Flush u) W Done (Flush v) (C.words x)) (sym known.same)
    (flush_done f s u W c.requires.table v known.low over known.misses)
