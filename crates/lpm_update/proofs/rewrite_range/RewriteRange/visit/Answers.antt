use Rattle.std.proofs.Common.{rules, ap, sym, ◌∙◌, subst, arith, ◌≡◌, ◌+◌, ◌*◌, ◌^◌, ◌<◌, ◌/◌, ◌%◌, length}
use Rattle.std.specs.Prelude.{slice_index}
use Rattle.std.proofs.lemmas.Nat.{one_shl}
use Rattle.lpm_cells.specs.Words.{IsLast, entry_in, with_first, with_second}
use Rattle.lpm_update.specs.BlockGroups.{IsLinkTo}
use Rattle.lpm_update.specs.Rewrite.{replaces}
use Rattle.lpm_update.proofs.RangeSteps.{base_of, place_within, first_is_word, second_is_word, visits_first, visited_first, kept_first, visited_second, kept_second}
use Rattle.lpm_update.proofs.rewrite_range.RewriteRange.visit.Given.{Over}
use Rattle.lpm_update.proofs.rewrite_range.RewriteRange.visit.Goals.{After-replaces, After-replaces-in-None}
use Rattle.lpm_update.proofs.rewrite_range.RewriteRange.visit.Goals as goal

-- the first word that was looked at ends a lookup, and whether it is replaced was asked
first_look : (g : Over) (c : After-replaces-in-None g) → let e = entry_in (slice_index (g.C.Cells.words c.args.cells.now).firsts c.first_index-block.result) in
    IsLast e × (replaces c.args.self.now.rewrite e ≡ c.replaces-in-None.result)
first_look g c =
    let W = g.C.Cells.words c.args.cells.now in
    let i = c.first_index-block.result in
    let value = c.first-old.ensures.value in
    let whole = first_is_word g.row.FIRST g.row.SECOND W i c.first-old.result c.requires.table c.first_index-block.ensures.bound value in (
      subst (λ x. IsLast (entry_in x)) value c.in-None.ensures,
      ap (λ x. replaces c.args.self.now.rewrite (entry_in x)) (sym value) ∙ c.requires.on.replaced c.first-old.result (whole, c.in-None.ensures) ∙ sym c.replaces-in-None.ensures,
    )

-- the second word that was looked at: its block's group, its place, and whether it is replaced
second_look : (g : Over) (c : After-replaces g) → let W = g.C.Cells.words c.args.cells.now in
    let s = g.row.SECOND in
    let u = c.args.self.now in
    let n = c.in-Some.group in
    let j = n * 2 ^ s % 18446744073709551616 + c.second_index.result in
    IsLinkTo W.firsts (u.at / 2 ^ s) n × (j ≡ n * 2 ^ s + u.at % 2 ^ s) × (j < length W.seconds) × (replaces u.rewrite (entry_in (slice_index W.seconds j)) ≡ c.replaces.result)
second_look g c =
    let C = g.C.Cells in
    let W = C.words c.args.cells.now in
    let f = g.row.FIRST in
    let s = g.row.SECOND in
    let u = c.args.self.now in
    let n = c.in-Some.group in
    let block = c.first_index-block.ensures.value in
    let low : u.at / 2 ^ s < 2 ^ f = subst (λ k. k < 2 ^ f) block c.first_index-block.ensures.bound in
    let group : IsLinkTo W.firsts (u.at / 2 ^ s) n = ap (λ k. entry_in (slice_index W.firsts k)) (sym block) ∙ ap entry_in (sym c.first-old.ensures.value) ∙ c.in-Some.ensures in
    let base = base_of f s W (u.at / 2 ^ s) n c.requires.shape c.requires.table low group in
    let j = n * 2 ^ s % 18446744073709551616 + c.second_index.result in
    let place : j ≡ n * 2 ^ s + u.at % 2 ^ s = ap (λ x. x + c.second_index.result) base ∙ ap (λ x. n * 2 ^ s + x) c.second_index.ensures.value in
    let value = c.second-old.ensures.value ∙ ap (λ x. slice_index (C.words x).seconds j) c.first-old.ensures.same in
    let within : j < length W.seconds = subst (λ x. x < length W.seconds) (sym place) (place_within f s W n u.at c.requires.table low group) in
    let word = second_is_word f s W j c.second-old.result c.requires.table within value in
    (group, place, within, ap (λ x. replaces u.rewrite (entry_in x)) (sym value) ∙ c.requires.on.replaced c.second-old.result word ∙ sym c.replaces.ensures)

pub set_first-requires-clause-allowed : goal.set_first-requires-clause-allowed
set_first-requires-clause-allowed g c =
    let W = g.C.Cells.words c.args.cells.now in
    let i = c.first_index-block.result in
    let look = first_look g (goal.at.set_first-requires-clause-allowed g c).After-replaces-in-None in
    rw c.first-old.ensures.same (c.requires.allows.first_word i c.args.on.word
    (visits_first g.row.FIRST g.row.SECOND c.args.self.now W i c.requires.more c.requires.under_way c.first_index-block.ensures.value look.0 _ (look.1 ∙ c.if-replaces-2.true) c.requires.on.word))

pub returns-then-replaces-2-clause-visits : goal.returns-then-replaces-2-clause-visits
returns-then-replaces-2-clause-visits g c =
    let C = g.C.Cells in
    let W = C.words c.args.cells.now in
    let i = c.first_index-block.result in
    let w = c.args.on.word in
    let u = c.args.self.now in
    let look = first_look g (goal.at.returns-then-replaces-2-clause-visits g c).After-replaces-in-None in
    let within : i < length W.firsts = subst (λ n. i < n) (sym c.requires.table.words.firsts_len) c.first_index-block.ensures.bound in
    visited_first g.row.FIRST g.row.SECOND u W i c.requires.more c.requires.under_way c.first_index-block.ensures.value look.0 _ w _ within (look.1 ∙ c.if-replaces-2.true) c.requires.on.word
    (ap (λ x. u.at + x) (one_shl g.row.SECOND 64 (let z = c.requires.shape.2 in omega arith)))
    (c.set_first.ensures.words ∙ ap (λ x. with_first (C.words x) i w) c.first-old.ensures.same)

pub returns-else-replaces-2-clause-visits : goal.returns-else-replaces-2-clause-visits
returns-else-replaces-2-clause-visits g c =
    let C = g.C.Cells in
    let u = c.args.self.now in
    let look = first_look g (goal.at.returns-else-replaces-2-clause-visits g c).After-replaces-in-None in
    kept_first g.row.FIRST g.row.SECOND u (C.words c.args.cells.now) c.first_index-block.result c.requires.more c.requires.under_way c.first_index-block.ensures.value look.0 _ _ (look.1 ∙ c.if-replaces-2.false)
    (ap (λ x. u.at + x) (one_shl g.row.SECOND 64 (let z = c.requires.shape.2 in omega arith))) (ap (λ x. C.words x) c.first-old.ensures.same)

pub returns-then-replaces-clause-visits : goal.returns-then-replaces-clause-visits
returns-then-replaces-clause-visits g c =
    let C = g.C.Cells in
    let n = c.in-Some.group in
    let j = n * 2 ^ g.row.SECOND % 18446744073709551616 + c.second_index.result in
    let look = second_look g (goal.at.returns-then-replaces-clause-visits g c).After-replaces in
    visited_second g.row.FIRST g.row.SECOND c.args.self.now (C.words c.args.cells.now) n j c.requires.more c.requires.under_way look.0 look.1 _ c.args.on.word look.2 (look.3 ∙ c.if-replaces.true) c.requires.on.word
    (c.set_second.ensures.words ∙ ap (λ x. with_second (C.words x) j c.args.on.word) (c.second-old.ensures.same ∙ c.first-old.ensures.same))

pub returns-else-replaces-clause-visits : goal.returns-else-replaces-clause-visits
returns-else-replaces-clause-visits g c =
    let C = g.C.Cells in
    let n = c.in-Some.group in
    let j = n * 2 ^ g.row.SECOND % 18446744073709551616 + c.second_index.result in
    let look = second_look g (goal.at.returns-else-replaces-clause-visits g c).After-replaces in
    kept_second g.row.FIRST g.row.SECOND c.args.self.now (C.words c.args.cells.now) n j c.requires.more c.requires.under_way look.0 look.1 _ (look.3 ∙ c.if-replaces.false)
    (ap (λ x. C.words x) (c.second-old.ensures.same ∙ c.first-old.ensures.same))

pub returns-then-replaces-clause-sets : goal.returns-then-replaces-clause-sets
returns-then-replaces-clause-sets c = search rules
