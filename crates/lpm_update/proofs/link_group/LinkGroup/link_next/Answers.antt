use Rattle.std.proofs.Common.{refl, arith, ap, sym, ◌∙◌, subst, ◌≡◌, ◌+◌, ◌*◌, ◌^◌, ◌%◌, ◌<◌}
use Rattle.std.specs.Prelude.{slice_index}
use Rattle.std.proofs.lemmas.Nat.{one_shl, shl_whole}
use Rattle.lpm_cells.specs.Words.{entry_in, word_of, with_second}
use Rattle.lpm_update.specs.declared.Did.TheVariants.{First, Second}
use Rattle.lpm_update.specs.declared.update.Plan.TheVariants.{Link}
use Rattle.lpm_update.specs.Kinds.{final_entry, filled_entry}
use Rattle.lpm_update.specs.Step.{Steps}
use Rattle.lpm_update.proofs.Links.{next_place, link_fill, link_link, block_small}
use Rattle.lpm_update.proofs.link_group.LinkGroup.link_next.Given.{Over}
use Rattle.lpm_update.proofs.link_group.LinkGroup.link_next.Goals.{After-word_for-word}
use Rattle.lpm_update.proofs.link_group.LinkGroup.link_next.Goals as goal

-- the next word of the group, and its place
next_word : (g : Over) (c : After-word_for-word g) → let u = c.args.self.now in
    let s = g.row.SECOND in
    (u.next < 2 ^ s) × (u.group * 2 ^ s % 18446744073709551616 + u.next ≡ u.group * 2 ^ s + u.next)
    × (c.word_for-word.result ≡ word_of (filled_entry s u u.next (entry_in (slice_index (g.C.Cells.words c.args.cells.now).firsts u.block))))
next_word g c =
    let W = g.C.Cells.words c.args.cells.now in
    let u = c.args.self.now in
    let s = g.row.SECOND in
    let shape = c.requires.shape.2 in
    let link = c.requires.under_way in
    let size : 1 * 2 ^ s % 18446744073709551616 ≡ 2 ^ s = one_shl s 64 (omega arith) in
    let test = c.if-next-size.true in
    let base : u.group * 2 ^ s % 18446744073709551616 ≡ u.group * 2 ^ s = shl_whole u.group 24 s 64 link.group (omega arith) in
    let widen : u.block < 2 ^ 32 = block_small g.row.FIRST u.block link.block (omega arith) in
    let start : u.block * 2 ^ s % 18446744073709551616 ≡ u.block * 2 ^ s = shl_whole u.block 32 s 64 widen (omega arith) in (
      omega (arith, size, test),
      ap (λ x. x + u.next) base,
      c.word_for-word.ensures ∙ ap (λ x. word_of (final_entry u.from u.end u.rewrite (u.block * 2 ^ s % 18446744073709551616 + u.next) (entry_in x))) c.first-old.ensures.value
          ∙ ap (λ x. word_of (final_entry u.from u.end u.rewrite (x + u.next) (entry_in (slice_index W.firsts u.block)))) start,
    )

pub set_second-requires-clause-allowed : goal.set_second-requires-clause-allowed
set_second-requires-clause-allowed g c =
    rw c.first-old.ensures.same (c.requires.allows.second_word _ c.word_for-word.result (next_word g (goal.at.set_second-requires-clause-allowed g c).After-word_for-word))

pub returns-then-next-size-clause-steps : goal.returns-then-next-size-clause-steps
returns-then-next-size-clause-steps g c =
    let C = g.C.Cells in
    let W = C.words c.args.cells.now in
    let u = c.args.self.now in
    let f = g.row.FIRST in
    let s = g.row.SECOND in
    let j = u.group * 2 ^ s % 18446744073709551616 + u.next in
    let w = c.word_for-word.result in
    subst (Steps f s (Link u) W (Second j) (Link (next_place u))) (sym (c.set_second.ensures.words ∙ ap (λ x. with_second (C.words x) j w) c.first-old.ensures.same))
    (link_fill f s u W c.requires.table c.requires.under_way j w (next_word g (goal.at.returns-then-next-size-clause-steps g c).After-word_for-word))

pub returns-then-next-size-2-clause-steps : goal.returns-then-next-size-2-clause-steps
returns-then-next-size-2-clause-steps g c =
    let W = g.C.Cells.words c.args.cells.now in
    let u = c.args.self.now in
    let f = g.row.FIRST in
    let s = g.row.SECOND in
    let shape = c.requires.shape.2 in
    let size : 1 * 2 ^ s % 18446744073709551616 ≡ 2 ^ s = one_shl s 64 (omega arith) in
    let word = c.to_word.ensures.value in
    subst (Steps f s (Link u) W (First u.block) (Link (next_place u))) (sym c.set_first.ensures.words)
    (link_link f s u W c.requires.table c.requires.under_way u.block _ (c.if-next-size-2.true ∙ size, refl, word))
