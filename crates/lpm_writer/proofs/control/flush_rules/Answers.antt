use Rattle.std.proofs.Common.{lit<, ℕ, ◌≡◌, refl, sym, ap, subst, ◌∙◌, List, Bool, false, rules, None}
use Rattle.std.specs.Prelude.{IsTrue, Ok}
use Rattle.std.specs.FinMap.{empty, len}
use Rattle.lpm_cells.specs.Words.{Words}
use Rattle.lpm_rules.specs.RuleMap.{RuleList, RuleMap, network_cmp}
use Rattle.lpm_update.specs.BlockGroups.{group_at}
use Rattle.lpm_update.specs.Represents.{Represents, IsBegun, TurnsInto}
use Rattle.lpm_update.specs.Update.{FillsFor, group_held}
use Rattle.lpm_update.specs.declared.update.Update.{Update}
use Rattle.fib_model.specs.Outcomes.{Flushes}
use Rattle.fib_model.specs.State.{HasTokens}
use Rattle.lpm_trace.specs.declared.step.RuleChange.{RuleChange}
use Rattle.lpm_trace.specs.declared.step.RuleChange.TheVariants.{Clear}
use Rattle.lpm_trace.specs.declared.step.WriterStep.{WriterStep}
use Rattle.lpm_trace.specs.States.{InitialState, state_after}
use Rattle.lpm_writer.specs.declared.control.ControlState.{ControlState}
use Rattle.lpm_writer.specs.MemorySteps.{by_writer}
use Rattle.lpm_writer.specs.Rest.{IsDue, state_of}
use Rattle.lpm_writer.specs.Commands.{Commands, Rests}
use Rattle.lpm_writer.proofs.Rests.{due_at_rest, found_left, shrinks}
use Rattle.lpm_writer.proofs.control.flush_rules.Given.{Over}
use Rattle.lpm_writer.proofs.control.flush_rules.Goals.{After-change}
use Rattle.lpm_writer.proofs.control.flush_rules.Goals as goal

-- the update of a list without rules is due, for the change that takes all of them out
due : (g : Over) (l : ControlState g.row.FIRST g.row.SECOND) (m : g.row.M.Denot) (u : Update)
    → ((R : RuleMap) (t : Words) → Represents g.row.FIRST g.row.SECOND R t → IsBegun g.row.FIRST g.row.SECOND u t × TurnsInto g.row.FIRST g.row.SECOND u R (empty {R = network_cmp}))
    → ((block : ℕ) → FillsFor u None block) → ((firsts : List ℕ) (i : ℕ) → group_held u firsts i ≡ group_at firsts i)
    → (rules : RuleList) → rules ≡ record l.rules { rules = empty {R = network_cmp} } → (taken : RuleChange) → taken ≡ Clear
    → (initial : InitialState) (steps : List WriterStep) → g.M.Memory.did m initial steps → Rests initial steps l
    → HasTokens (by_writer g.M.Memory.does initial) l.config (state_of l.rules.rules (m, steps) l.pool l.versions)
    → IsDue g.row.FIRST g.row.SECOND initial steps l.config rules l.pool l.versions u taken
due g l m u begun fills held rules gone taken is initial steps did rest left =
    subst (IsDue g.row.FIRST g.row.SECOND initial steps l.config rules l.pool l.versions u) (sym is)
    (due_at_rest g.row.FIRST g.row.SECOND initial steps l.config l.rules rules l.pool l.versions rest (empty {R = network_cmp}) u Clear (begun l.rules.rules (state_after initial steps).words rest.represents) gone refl tt fills held left)

pub change-requires : goal.change-requires
change-requires g c =
    let l = c.args.control.now in
    let r = c.requires.rests in
    let left = found_left g.M.Memory.did g.M.Memory.does l c.args.memory.now (search) r.0 r.1 r.2 in
    (lit< tt, (r.0, r.1, r.2, due g l c.args.memory.now _ (search) (search) (search) _ (search rules) _ (cc) r.0 r.1 r.2 r.3 left))

-- how many rules there were
abbrev pub count_of : (g : Over) (c : After-change g) → (count : ℕ) × (count ≡ len c.args.control.now.rules.rules)
count_of g c = search rules

-- what the contract says of the rules that were taken out
abbrev Flushed : (g : Over) → After-change g → Type 0
Flushed g c = Commands g.M.Memory.did c.args.control.now c.args.memory.now c.change.new.control c.change.new.memory
    (λ s x z. Flushes (by_writer g.M.Memory.does s) g.row.FIRST g.row.SECOND c.args.control.now.config x (Ok (count_of g c).0) z)

flushed : (g : Over) (c : After-change g) → Flushed g c
flushed g c = λ initial steps did rest.
    let l = c.args.control.now in
    let m = c.args.memory.now in
    let new = c.change.new.control in
    let then = c.change.ensures in
    let count = (count_of g c).1 in
    let left = found_left g.M.Memory.did g.M.Memory.does l m (search) initial steps did in
    let made = then.changed initial steps did (due g l m _ (search) (search) (search) _ (search rules) _ (cc) initial steps did rest left) in
    let out : new.rules ≡ record l.rules { rules = empty {R = network_cmp} } = then.rules ∙ search rules in
    let gone = ap (λ (y : RuleList). y.rules) out in (
      made.0,
      made.1,
      made.2,
      (
        count,
        (λ none. absurd (not_none c.is_empty.result c.if-is_empty.false (c.is_empty.ensures.1 (sym count ∙ none)))),
        λ _. shrinks (by_writer g.M.Memory.does initial) g.row.FIRST g.row.SECOND initial steps made.0 l.config new.config l.rules new.rules l.pool new.pool l.versions new.versions (empty {R = network_cmp})
            (m, steps) (c.change.new.memory, made.0) rest made.2 gone then.versions left made.3,
      ),
    )
  where
    not_none : (b : Bool) → b ≡ false → IsTrue b → ⊥
    not_none b p q = cc

-- the return's goal has the first name where the tests before it return, and the second where they are an `if` with
-- `else`
pub returns-clause-flushes : (g : Over) (c : After-change g) → Flushed g c
returns-clause-flushes = flushed

pub returns-else-is_exhausted-clause-flushes : (g : Over) (c : After-change g) → Flushed g c
returns-else-is_exhausted-clause-flushes = flushed
