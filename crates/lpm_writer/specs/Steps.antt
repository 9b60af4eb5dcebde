-- Meaning: the parts of a change, by the writer's steps alone, of which the newest stands first (DPDK
-- Programmer's Guide, "RCU Library": a synchronize checks the token that it starts until each reader has let it
-- pass; the order within an update is this project's).
use Rattle.std.specs.Prelude.{ℕ, zero, suc, ◌≡◌, List, ◌∷◌, ◌++◌, Result, Ok, Err, ⊤, []}
use Rattle.std.specs.List.{All}
use Rattle.lpm_limits.specs.declared.busy.Busy.{Busy}
use Rattle.lpm_trace.specs.declared.step.RuleChange.{RuleChange}
use Rattle.lpm_trace.specs.declared.step.WriterStep.{WriterStep}
use Rattle.lpm_trace.specs.declared.step.WriterStep.TheVariants.{StoreFirst, StoreSecond, BeginUpdate, EndUpdate, BumpToken}
use Rattle.lpm_trace.specs.Writer.{token_after, passed_after}
use Rattle.fib_model.specs.State.{Transitions}
use Rattle.lpm_writer.specs.TokenCheck.{ChecksToken}

-- one more step: z are the steps x, and s after them
abbrev pub IsNext : List WriterStep → WriterStep → List WriterStep → Type 0
IsNext x s z = z ≡ s ∷ x

-- a check of a token by the steps x, which leads to z
abbrev pub Checks : ℕ → List WriterStep → ℕ → Result (Unit {0}) Busy → List WriterStep → Type 0
Checks workers x token result z = ChecksToken IsNext workers (passed_after workers x) x token result z

-- the step stores a word
abbrev pub IsStore : WriterStep → Type 0
IsStore (StoreFirst i x) = Unit {0}
IsStore (StoreSecond j x) = Unit {0}
IsStore other = ⊥

-- The parts of a change, by the steps of a writer with so many workers, which began with the token `start`.
-- A group is unlinked by the last of some stores, and the token that is started next is its name.
abbrev pub by_steps_from : (workers start : ℕ) → Transitions (List WriterStep)
by_steps_from workers start = record {
  checks = Checks workers;
  begins = λ x z. (change : RuleChange) × (z ≡ BeginUpdate change ∷ x);
  unlinks = λ x name z. (stores : List WriterStep) × (block : ℕ) × (word : ℕ) × All IsStore stores
      × (z ≡ BumpToken ∷ StoreFirst block word ∷ (stores ++ x)) × (name ≡ token_after start z);
  ends = λ x z. (stores : List WriterStep) × All IsStore stores × (z ≡ EndUpdate ∷ (stores ++ x));
  token = token_after start;
}

-- n checks of the token were made one after another, and a worker stopped each
abbrev pub AreStopped : (workers : ℕ) → ℕ → List WriterStep → ℕ → List WriterStep → Type 0
AreStopped workers zero x token z = z ≡ x
AreStopped workers (suc n) x token z = (y : List WriterStep) × (busy : Busy)
    × AreStopped workers n x token y × Checks workers y token (Err busy) z

-- a token is started, some checks of it are stopped, and then one passes
pub record Synchronizes (workers start : ℕ) (x z : List WriterStep) : Type 0 where
  pub last : List WriterStep
  pub stops : ℕ
  pub stopped : AreStopped workers stops (BumpToken ∷ x) (token_after start (BumpToken ∷ x)) last
  pub passes : Checks workers last (token_after start (BumpToken ∷ x)) (Ok tt) z

-- In no update is a word stored twice, by the writer's steps (this project's).

-- both steps store the same word of a table
abbrev pub StoreSameWord : WriterStep → WriterStep → Type 0
StoreSameWord (StoreFirst i x) (StoreFirst k y) = i ≡ k
StoreSameWord (StoreSecond i x) (StoreSecond k y) = i ≡ k
StoreSameWord s t = ⊥

-- the steps since the newest update was opened, the newest first
abbrev pub since_opened : List WriterStep → List WriterStep
since_opened [] = []
since_opened (BeginUpdate change ∷ steps) = []
since_opened (s ∷ steps) = s ∷ since_opened steps

-- in no update is a word stored twice
abbrev pub StoresOnce : List WriterStep → Type 0
StoresOnce [] = ⊤
StoresOnce (s ∷ steps) =
    All (λ earlier. ¬ StoreSameWord s earlier) (since_opened steps) × StoresOnce steps
