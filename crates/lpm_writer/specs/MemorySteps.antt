-- This layer's own: a memory together with the writer's steps that led to it, and the parts of a change as
-- what they lead to; by the steps alone they stand in `Steps`.
use Rattle.std.specs.Prelude.{ℕ, zero, suc, ◌≡◌, List, ◌∷◌, Some, None, Result}
use Rattle.lpm_cells.specs.Words.{group_in}
use Rattle.lpm_limits.specs.declared.busy.Busy.{Busy}
use Rattle.lpm_trace.specs.declared.step.RuleChange.{RuleChange}
use Rattle.lpm_trace.specs.declared.step.WriterStep.{WriterStep}
use Rattle.lpm_trace.specs.declared.step.WriterStep.TheVariants.{StoreFirst, StoreSecond, BeginUpdate, EndUpdate, BumpToken}
use Rattle.lpm_trace.specs.States.{InitialState, TableState, state_after, first_entry}
use Rattle.fib_model.specs.State.{Transitions}
use Rattle.lpm_writer.specs.TokenCheck.{ChecksToken}

-- a memory, and the writer's steps that led to it, the newest first
abbrev pub WithSteps : Type 0 → Type 0
WithSteps M = M × List WriterStep

-- what the writer's steps leave
abbrev pub state_of_traced : {M : Type 0} → InitialState → WithSteps M → TableState
state_of_traced c x = state_after c x.1

-- one more step leads from x to z
abbrev pub Goes : {M : Type 0} → (M → WriterStep → M → Type 0) → WithSteps M → WriterStep → WithSteps M
    → Type 0
Goes does x s z = does x.0 s z.0 × (z.1 ≡ s ∷ x.1)

-- a check of a token, where the memory is x, which leads to z
abbrev pub Checks : {M : Type 0} → (M → WriterStep → M → Type 0) → InitialState → WithSteps M → ℕ
    → Result (Unit {0}) Busy → WithSteps M → Type 0
Checks does c x token result z =
    ChecksToken (Goes does) c.workers (state_of_traced c x).passed x token result z

-- the step stores a word, and not over one that links a group
abbrev pub UnlinksNone : TableState → WriterStep → Type 0
UnlinksNone w (StoreFirst i x) = group_in (first_entry w.words i) ≡ None
UnlinksNone w (StoreSecond j x) = Unit {0}
UnlinksNone w other = ⊥

-- n stores one after another, none of which unlinks a group
abbrev pub Stores : {M : Type 0} → (M → WriterStep → M → Type 0) → InitialState → ℕ → WithSteps M
    → WithSteps M
    → Type 0
Stores does c zero x z = z ≡ x
Stores {M} does c (suc n) x z = (y : WithSteps M) × (s : WriterStep) × Stores does c n x y
    × UnlinksNone (state_of_traced c y) s × Goes does y s z

-- after some stores a word that links a group is stored over, and a token is started for the group:
-- that is the name of the unlinking
abbrev pub StoresOverLink : {M : Type 0} → (M → WriterStep → M → Type 0) → InitialState → WithSteps M → ℕ
    → WithSteps M → Type 0
StoresOverLink {M} does c x name z =
    (n : ℕ) × (p : WithSteps M) × (q : WithSteps M) × (i : ℕ) × (w : ℕ) × (g : ℕ)
    × Stores does c n x p × (group_in (first_entry (state_of_traced c p).words i) ≡ Some g)
    × Goes does p (StoreFirst i w) q × Goes does q BumpToken z
    × (name ≡ (state_of_traced c z).token)

-- after some stores the update is done
abbrev pub StoresAndCloses : {M : Type 0} → (M → WriterStep → M → Type 0) → InitialState → WithSteps M
    → WithSteps M → Type 0
StoresAndCloses {M} does c x z =
    (n : ℕ) × (y : WithSteps M) × Stores does c n x y × Goes does y EndUpdate z

-- the parts of a change, by the writer's steps
abbrev pub by_writer : {M : Type 0} → (M → WriterStep → M → Type 0) → InitialState
    → Transitions (WithSteps M)
by_writer does c = record {
  checks = Checks does c;
  begins = λ x z. (change : RuleChange) × Goes does x (BeginUpdate change) z;
  unlinks = StoresOverLink does c;
  ends = StoresAndCloses does c;
  token = λ x. (state_of_traced c x).token;
}
