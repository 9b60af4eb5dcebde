use Rattle.std.proofs.Common.{arith, rules, refl, ap, ◌∙◌, subst, ◌+◌, ◌*◌, ◌/◌, ◌%◌, ◌^◌, ◌-◌}
use Rattle.std.specs.Prelude.{MatchOption}
use Rattle.std.specs.FinMap.{remove}
use Rattle.std.proofs.lemmas.Nat.{one_shl}
use Rattle.lpm_cells.specs.Words.{IsEntry, IsLast}
use Rattle.lpm_rules.specs.RuleMap.{RuleMap}
use Rattle.lpm_rules.specs.Longest.{IsUncovered, IsCoverRule}
use Rattle.lpm_rules.proofs.Deep.{deep_remains}
use Rattle.lpm_update.specs.declared.rewrite.Kind.TheVariants.{Delete}
use Rattle.lpm_update.specs.declared.rewrite_range.RewriteRange.{RewriteRange}
use Rattle.lpm_update.proofs.Rules.{IsCoverEntry}
use Rattle.lpm_update.specs.Kinds.{IsRangeOf}
use Rattle.lpm_update.specs.Represents.{LastFits}
use Rattle.lpm_update.proofs.Begins.{begun_range, deletes_range, begun_unlink, deletes_unlink}
use Rattle.lpm_update.proofs.Places.{range_of}
use Rattle.lpm_update.proofs.update.Update.delete.Given.{Over}
use Rattle.lpm_update.proofs.update.Update.delete.Goals.{After-from-from, in-Some, in-None}
use Rattle.lpm_update.proofs.update.Update.delete.Goals as goal

-- the range that is rewritten
abbrev range : (g : Over) → After-from-from g → RewriteRange
range g c = record {
  from = c.from-from.result;
  at = c.from-from.result;
  end = c.from-from.result + 1 * 2 ^ (g.row.FIRST + g.row.SECOND - c.len-len.result) % 18446744073709551616;
  rewrite = record { kind = Delete; depth = c.len-len.result; entry = c.match-cover.entry };
}

is_range : (g : Over) (c : After-from-from g) → IsRangeOf g.row.FIRST g.row.SECOND c.args.prefix.now (range g c)
is_range g c =
    let f = g.row.FIRST in
    let s = g.row.SECOND in
    let p = c.args.prefix.now in
    let shape = c.bits-bits.ensures.shape.2 in
    let fits : IsEntry (f + s) c.match-cover.entry × IsLast c.match-cover.entry = elim c.match-cover.branch [
      | in-Some w ↦ rw w.entry-is (((let v = w.number-number.ensures.value in let b = w.number-number.ensures.bound in omega (arith, v, b)), w.len.ensures.bound), tt)
      | in-None w ↦ rw w.entry-is (tt, tt)
    ] in
    rw (c.from-from.ensures, c.bits-bits.ensures.value, c.len-len.ensures.value, one_shl (f + s - p.len) 64 (omega arith)) (range_of f s p _ c.bits-bits.ensures.network fits.0 fits.1)

-- the entry that takes the place of the rule's
covers : (g : Over) (c : After-from-from g) (R : RuleMap)
    → MatchOption c.args.cover (IsUncovered (g.row.FIRST + g.row.SECOND) R c.args.prefix.now) (λ r. IsCoverRule (g.row.FIRST + g.row.SECOND) R c.args.prefix.now r.prefix r.hop)
    → IsCoverEntry (g.row.FIRST + g.row.SECOND) R c.args.prefix.now c.match-cover.entry
covers g c R cover = search rules

pub returns-then-last-clause-begun : goal.returns-then-last-clause-begun
returns-then-last-clause-begun g c = λ R W represents there cover fits.
    let f = g.row.FIRST in
    let s = g.row.SECOND in
    let p = c.args.prefix.now in
    let at = (goal.at.returns-then-last-clause-begun g c).After-from-from in
    let n = c.bits-bits.ensures.network in
    let last = subst (LastFits f s (remove R p) p) c.if-last.true fits in
    let here = c.first_index-block.ensures.value ∙ ap (λ x. x / 2 ^ s) c.bits-bits.ensures.value in
    let deep = c.len-len.ensures.value in
    let entry = covers g at R cover in (
      begun_unlink f s R p (range g at) c.first_index-block.result W n represents (is_range g at) refl deep entry there last.0 here last.1,
      deletes_unlink f s R p (range g at) c.first_index-block.result represents.networks n (is_range g at) refl deep entry here last.1,
    )

pub returns-clause-begun : goal.returns-clause-begun
returns-clause-begun g c = λ R W represents there cover fits.
    let f = g.row.FIRST in
    let s = g.row.SECOND in
    let p = c.args.prefix.now in
    let at = (goal.at.returns-clause-begun g c).After-from-from in
    let left = subst (LastFits f s (remove R p) p) c.if-last.false fits in
    let n = represents.networks p there in
    let entry = covers g at R cover in (
      begun_range f s R p (range g at) W n represents (is_range g at) (λ long. deep_remains f s R p _ (left long)),
      deletes_range f s R p (range g at) represents.networks n (is_range g at) refl c.len-len.ensures.value entry left,
    )
