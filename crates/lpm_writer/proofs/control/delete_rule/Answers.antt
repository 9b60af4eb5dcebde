use Rattle.std.proofs.Common.{ℕ, ◌+◌, ◌≡◌, lit<, refl, sym, ap, subst, ◌∙◌, List, rules, Bool, Option, None}
use Rattle.std.specs.Prelude.{IsSome, MatchOption, Some, Ok}
use Rattle.std.specs.FinMap.{get, remove}
use Rattle.lpm_bits.specs.Network.{Network, IsNetwork}
use Rattle.lpm_cells.specs.Words.{Words}
use Rattle.lpm_rules.specs.declared.Rule.{Rule}
use Rattle.lpm_rules.specs.Longest.{IsCoverRule, IsUncovered}
use Rattle.lpm_rules.specs.RuleMap.{RuleList, RuleMap, without_rule}
use Rattle.lpm_update.specs.BlockGroups.{group_at}
use Rattle.lpm_update.specs.Represents.{Represents, IsBegun, TurnsInto, LastFits}
use Rattle.lpm_update.specs.Update.{FillsFor, group_held}
use Rattle.lpm_update.specs.declared.update.Update.{Update}
use Rattle.fib_model.specs.Outcomes.{Deletes}
use Rattle.fib_model.specs.State.{HasTokens}
use Rattle.lpm_writer.specs.declared.control.ControlState.{ControlState}
use Rattle.lpm_trace.specs.declared.step.RuleChange.{RuleChange}
use Rattle.lpm_trace.specs.declared.step.RuleChange.TheVariants.{TakeOut}
use Rattle.lpm_trace.specs.declared.step.WriterStep.{WriterStep}
use Rattle.lpm_trace.specs.States.{InitialState, state_after}
use Rattle.lpm_writer.specs.MemorySteps.{by_writer}
use Rattle.lpm_writer.specs.Rest.{IsDue, state_of}
use Rattle.lpm_writer.specs.Commands.{Commands, Rests}
use Rattle.lpm_writer.proofs.Rests.{due_at_rest, found_left, shrinks}
use Rattle.lpm_writer.proofs.control.delete_rule.Given.{Over}
use Rattle.lpm_writer.proofs.control.delete_rule.Goals.{After-change}
use Rattle.lpm_writer.proofs.control.delete_rule.Goals as goal

-- an update that takes the rule of this prefix out is due, for that change of the rules
due : (g : Over) (l : ControlState g.row.FIRST g.row.SECOND) (m : g.row.M.Denot) (p : Network) (cover : Option (Rule g.row.FIRST g.row.SECOND)) (last : Bool) (u : Update)
    → ((R : RuleMap) (t : Words) → Represents g.row.FIRST g.row.SECOND R t → IsSome (get R p)
    → MatchOption cover (IsUncovered (g.row.FIRST + g.row.SECOND) R p) (λ c. IsCoverRule (g.row.FIRST + g.row.SECOND) R p c.prefix c.hop)
    → LastFits g.row.FIRST g.row.SECOND (remove R p) p last → IsBegun g.row.FIRST g.row.SECOND u t × TurnsInto g.row.FIRST g.row.SECOND u R (remove R p))
    → ((block : ℕ) → FillsFor u None block) → ((firsts : List ℕ) (i : ℕ) → group_held u firsts i ≡ group_at firsts i)
    → MatchOption cover (IsUncovered (g.row.FIRST + g.row.SECOND) l.rules.rules p) (λ c. IsCoverRule (g.row.FIRST + g.row.SECOND) l.rules.rules p c.prefix c.hop)
    → IsNetwork (g.row.FIRST + g.row.SECOND) p
    → (rules : RuleList) → rules ≡ without_rule l.rules p → IsSome (get l.rules.rules p) → LastFits g.row.FIRST g.row.SECOND rules.rules p last
    → (taken : RuleChange) → taken ≡ TakeOut p.bits p.len
    → (initial : InitialState) (steps : List WriterStep) → g.M.Memory.did m initial steps → Rests initial steps l
    → HasTokens (by_writer g.M.Memory.does initial) l.config (state_of l.rules.rules (m, steps) l.pool l.versions)
    → IsDue g.row.FIRST g.row.SECOND initial steps l.config rules l.pool l.versions u taken
due g l m p cover last u begun fills held covers network rules gone there fits taken is initial steps did rest left =
    let f = g.row.FIRST in
    let s = g.row.SECOND in
    let fit = subst (λ R. LastFits f s R p last) (ap (λ (y : RuleList). y.rules) gone) fits in
    let begins = begun l.rules.rules (state_after initial steps).words rest.represents there covers fit in
    subst (IsDue f s initial steps l.config rules l.pool l.versions u) (sym is)
    (due_at_rest f s initial steps l.config l.rules rules l.pool l.versions rest (remove l.rules.rules p) u (TakeOut p.bits p.len) begins gone refl network fills held left)

pub change-requires : goal.change-requires
change-requires g c =
    let l = c.args.control.now in
    let m = c.args.memory.now in
    let r = c.requires.rests in
    let left = found_left g.M.Memory.did g.M.Memory.does l m (search) r.0 r.1 r.2 in
    (lit< tt, (r.0, r.1, r.2, due g l m c.args.prefix.now c.cover-cover.result c.is_last-last.result _ (search) (search) (search) (search) (search rules) _ (search rules) (search rules) (search) _ (cc) r.0 r.1 r.2 r.3 left))

-- the next hop that the rule had
abbrev pub hop_of : (g : Over) (c : After-change g) → (hop : ℕ) × (get c.args.control.now.rules.rules c.args.prefix.now ≡ Some hop)
hop_of g c = search rules

-- what the contract says of a rule that was deleted
abbrev Deleted : (g : Over) → After-change g → Type 0
Deleted g c = Commands g.M.Memory.did c.args.control.now c.args.memory.now c.change.new.control c.change.new.memory
    (λ s x z. Deletes (by_writer g.M.Memory.does s) g.row.FIRST g.row.SECOND c.args.control.now.config x c.args.prefix.now (Ok (hop_of g c).0) z)

deleted : (g : Over) (c : After-change g) → Deleted g c
deleted g c = λ initial steps did rest.
    let l = c.args.control.now in
    let new = c.change.new.control in
    let then = c.change.ensures in
    let R = remove l.rules.rules c.args.prefix.now in
    let m = c.args.memory.now in
    let left = found_left g.M.Memory.did g.M.Memory.does l m (search) initial steps did in
    let made = then.changed initial steps did (due g l m c.args.prefix.now c.cover-cover.result c.is_last-last.result _ (search) (search) (search) (search) (search rules) _ (search rules) (search rules) (search) _ (cc) initial steps did rest left) in
    let out : new.rules ≡ without_rule l.rules c.args.prefix.now = then.rules ∙ search rules in
    let gone = ap (λ (y : RuleList). y.rules) out in (
      made.0,
      made.1,
      made.2,
      (
        (hop_of g c).1,
        shrinks (by_writer g.M.Memory.does initial) g.row.FIRST g.row.SECOND initial steps made.0 l.config new.config l.rules new.rules l.pool new.pool l.versions new.versions R
            (m, steps) (c.change.new.memory, made.0) rest made.2 gone then.versions left made.3,
      ),
    )

-- the return's goal has the first name where it ends the function, the second where it ends an arm of a `match`, and
-- the third where the other test has the return
pub returns-clause-deletes : (g : Over) (c : After-change g) → Deleted g c
returns-clause-deletes = deleted

pub returns-in-Ok-clause-deletes : (g : Over) (c : After-change g) → Deleted g c
returns-in-Ok-clause-deletes = deleted

pub returns-then-not-is_exhausted-clause-deletes : (g : Over) (c : After-change g) → Deleted g c
returns-then-not-is_exhausted-clause-deletes = deleted
