use Rattle.std.proofs.Common.{rules, ap, sym, ◌∙◌, subst, refl, true, ◌*◌, ◌^◌, ◌%◌}
use Rattle.std.specs.Prelude.{slice_index}
use Rattle.lpm_cells.specs.Words.{entry_in, with_first}
use Rattle.lpm_update.specs.declared.Did.TheVariants.{Unlinked, Done}
use Rattle.lpm_update.specs.declared.update.Plan.TheVariants.{Range, Unlink}
use Rattle.lpm_update.specs.BlockGroups.{IsLinkTo}
use Rattle.lpm_update.specs.Kinds.{IsUnlinkStore}
use Rattle.lpm_update.specs.Step.{Steps}
use Rattle.lpm_update.proofs.RangeSteps.{base_of, first_is_word}
use Rattle.lpm_update.proofs.Unlinks.{one_entry, unlinks, unlink_link, unlink_range}
use Rattle.lpm_update.proofs.unlink_group.UnlinkGroup.unlink_next.Given.{Over}
use Rattle.lpm_update.proofs.unlink_group.UnlinkGroup.unlink_next.Goals.{After-second-word}
use Rattle.lpm_update.proofs.unlink_group.UnlinkGroup.unlink_next.Goals as goal

-- the step of the range, which stored nothing
range_done : (g : Over) (c : After-second-word g) → let C = g.C.Cells in
    let W = C.words c.args.cells.now in
    Steps g.row.FIRST g.row.SECOND (Range c.args.self.now.range) W Done (Range c.rewrite_next.new.self) W
range_done g c =
    let C = g.C.Cells in
    let f = g.row.FIRST in
    let s = g.row.SECOND in
    let u = c.args.self.now in
    let W = C.words c.args.cells.now in
    let r = c.rewrite_next.new.self in
    subst (λ x. Steps f s (Range u.range) W Done (Range r) (C.words x)) c.in-Done.ensures.sets
    (subst (λ d. Steps f s (Range u.range) W d (Range r) (C.words c.rewrite_next.new.cells)) c.in-Done.is c.rewrite_next.ensures.steps)

-- the word that is stored over the link
next_store : (g : Over) (c : After-second-word g) → IsUnlinkStore g.row.SECOND (g.C.Cells.words c.args.cells.now) c.args.self.now.block c.in-Some.group c.second-word.result
next_store g c =
    let C = g.C.Cells in
    let f = g.row.FIRST in
    let s = g.row.SECOND in
    let u = c.args.self.now in
    let W = C.words c.args.cells.now in
    let n = c.in-Some.group in
    let there = c.if-self.false in
    let known = c.requires.under_way.0 there in
    let same = c.first.ensures.same ∙ c.in-Done.ensures.sets in
    let group : IsLinkTo W.firsts u.block n =
    ap (λ x. entry_in (slice_index (C.words x).firsts u.block)) (sym c.in-Done.ensures.sets) ∙ ap entry_in (sym c.first.ensures.value) ∙ c.in-Some.ensures in
    let place = base_of f s W u.block n c.requires.shape c.requires.table known.in_table group in
    let word = c.second-word.ensures.value ∙ ap (λ x. slice_index (C.words x).seconds (n * 2 ^ s % 18446744073709551616)) same in
    let one = one_entry f s u W there known c.rewrite_next.new.self W (range_done g c) in
    unlinks f s W u.block n c.second-word.result (n * 2 ^ s % 18446744073709551616) c.requires.table known.in_table one group place word

pub group_of_word-requires : goal.group_of_word-requires
group_of_word-requires g c =
    let C = g.C.Cells in
    let f = g.row.FIRST in
    let s = g.row.SECOND in
    let u = c.args.self.now in
    let W = C.words c.args.cells.now in
    let known = c.requires.under_way.0 c.if-self.false in
    let value = c.first.ensures.value ∙ ap (λ x. slice_index (C.words x).firsts u.block) c.in-Done.ensures.sets in
    first_is_word f s W u.block c.first.result c.requires.table known.in_table value

pub set_first-requires-clause-allowed : goal.set_first-requires-clause-allowed
set_first-requires-clause-allowed g c =
    let u = c.args.self.now in
    let at = goal.at.set_first-requires-clause-allowed g c in
    rw (c.second-word.ensures.same ∙ c.first.ensures.same ∙ c.in-Done.ensures.sets)
    (c.requires.allows.unlink u.block c.in-Some.group c.second-word.result (c.if-self.false, refl, c.rewrite_next.ensures.skips c.in-Done.is, next_store g at.After-second-word))

pub returns-in-Some-clause-steps : goal.returns-in-Some-clause-steps
returns-in-Some-clause-steps g c =
    let C = g.C.Cells in
    let f = g.row.FIRST in
    let s = g.row.SECOND in
    let u = c.args.self.now in
    let W = C.words c.args.cells.now in
    let there = c.if-self.false in
    let r = c.rewrite_next.new.self in
    let n = c.in-Some.group in
    let w = c.second-word.result in
    let at = goal.at.returns-in-Some-clause-steps g c in
    let same = c.second-word.ensures.same ∙ c.first.ensures.same ∙ c.in-Done.ensures.sets in
    subst (Steps f s (Unlink u) W (Unlinked u.block n) (Unlink (record u { range = r; unlinked = true })))
    (sym (c.set_first.ensures.words ∙ ap (λ x. with_first (C.words x) u.block w) same))
    (unlink_link f s u W there r n w (c.requires.under_way.0 there) (range_done g at.After-second-word) (c.rewrite_next.ensures.skips c.in-Done.is) (next_store g at.After-second-word))

pub returns-in_default-clause-steps : goal.returns-in_default-clause-steps
returns-in_default-clause-steps g c =
    let W = g.C.Cells.words c.args.cells.now in
    let u = c.args.self.now in
    let there = c.if-self.false in
    unlink_range g.row.FIRST g.row.SECOND u W there (c.requires.under_way.0 there) c.rewrite_next.new.self (g.C.Cells.words c.rewrite_next.new.cells) c.rewrite_next.result (search rules) c.rewrite_next.ensures.steps
