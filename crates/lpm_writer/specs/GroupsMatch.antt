-- Meaning: what a writer keeps of its groups is what its steps say (DPDK Programmer's Guide,
-- "RCU Library", the defer queue of "LPM Library": a group waits with the token of its own unlinking).
use Rattle.std.specs.Prelude.{ℕ, ◌≡◌, ◌≢◌, ◌<◌, ◌≤◌, ◌⊎◌, ⊤, true, List, [], ◌∷◌, Option, Some, None}
use Rattle.defer_queue.specs.RetiredGroups.{IsAbsent}
use Rattle.lpm_groups.specs.declared.GroupState.{GroupState}
use Rattle.lpm_groups.specs.States.{IsFreeAt, IsLinkedTo}
use Rattle.lpm_trace.specs.declared.step.WriterStep.{WriterStep}
use Rattle.lpm_trace.specs.declared.step.WriterStep.TheVariants.{LoadCounter}
use Rattle.lpm_trace.specs.States.{InitialState, TableState, Status, Retired, Linked, state_after, IsFree, IsUpdating}
use Rattle.lpm_trace.specs.Progress.{Nothing}
use Rattle.lpm_trace.specs.Writer.{progress_after, MayStep}
use Rattle.lpm_writer.specs.Limbo.{tokens_of}

-- each token is greater than t
abbrev pub AreAfter : ℕ → List (ℕ × ℕ) → Type 0
AreAfter t [] = ⊤
AreAfter t (item ∷ items) = (t < item.1) × AreAfter t items

-- each token is greater than those before it
abbrev pub AreRising : List (ℕ × ℕ) → Type 0
AreRising [] = ⊤
AreRising (item ∷ items) = AreAfter item.1 items × AreRising items

-- each group is retired under its item's token, which is at most this one
abbrev pub AreRetired : (ℕ → Status) → ℕ → List (ℕ × ℕ) → Type 0
AreRetired status token [] = ⊤
AreRetired status token (item ∷ items) =
    (status item.0 ≡ Retired item.1) × (item.1 ≤ token) × AreRetired status token items

-- each token is less than t
abbrev pub AreBelow : ℕ → List (ℕ × ℕ) → Type 0
AreBelow t [] = ⊤
AreBelow t (item ∷ items) = (item.1 < t) × AreBelow t items

-- an item is of this group and this token
abbrev pub IsAmong : ℕ → ℕ → List (ℕ × ℕ) → Type 0
IsAmong g t [] = ⊥
IsAmong g t (item ∷ items) = ((g ≡ item.0) × (t ≡ item.1)) ⊎ IsAmong g t items

-- the states of the groups are what the steps say, and those items wait; `held` is a free group that
-- is taken for a block, and not linked yet
pub record GroupsMatchState (c : InitialState) (w : TableState) (token : ℕ) (states : List GroupState)
    (items : List (ℕ × ℕ)) (held : Option ℕ) : Type 0 where
  pub free : (g : ℕ) → IsFreeAt states g → IsFree c w.passed (w.groups g)
  pub linked : (g b : ℕ) → IsLinkedTo states g b → held ≢ Some g → w.groups g ≡ Linked b
  pub taken : (g : ℕ) → held ≡ Some g → IsFree c w.passed (w.groups g)
  pub rising : AreRising items
  pub retired : AreRetired w.groups token items
  -- each group that was retired waits, or a check of its token or a later one has passed
  pub all : 0 < c.workers → (g t : ℕ) → w.groups g ≡ Retired t → (t ≤ w.passed) ⊎ IsAmong g t items

-- these tokens, oldest first, are those of the groups that wait after steps that left w. So a group that
-- a change linked isn't in limbo after it: what an update fills was never linked, or was taken off the
-- list first.
pub record IsLimbo (c : InitialState) (w : TableState) (limbo : List ℕ) : Type 0 where
  -- the groups, each with its token
  pub items : List (ℕ × ℕ)
  pub tokens : tokens_of items ≡ limbo
  pub rising : AreRising items
  pub retired : AreRetired w.groups w.token items
  pub linked : (g b : ℕ) → w.groups g ≡ Linked b → IsAbsent g items
  -- each group that was retired waits, or a check of its token or a later one has passed
  pub all : 0 < c.workers → (g t : ℕ) → w.groups g ≡ Retired t → (t ≤ w.passed) ⊎ IsAmong g t items

-- nothing is due of the writer, and no synchronize waits
pub record HasNothingDue (c : InitialState) (steps : List WriterStep) : Type 0 where
  pub next_step : (progress_after c steps).next_step ≡ Nothing
  pub awaited : (progress_after c steps).awaited ≡ None

-- the writer may begin a check: nothing else is due, and in an update it has just retired a group
pub record MayReclaim (c : InitialState) (steps : List WriterStep) (items : List (ℕ × ℕ)) : Type 0 where
  pub idle : HasNothingDue c steps
  pub updating : IsUpdating (state_after c steps) → (progress_after c steps).reclaims ≡ true
  -- the group that was just retired isn't among them
  pub before : IsUpdating (state_after c steps) → AreBelow (state_after c steps).token items

-- the workers' counters may be loaded in a check of the token, that of the first worker first
abbrev pub MayLoadCounters : InitialState → List WriterStep → ℕ → Type 0
MayLoadCounters c steps token = 0 < c.workers → (counter : ℕ) → MayStep c steps (LoadCounter token 0 counter)

-- the writer remembers the greatest token that has passed; without workers each passes
abbrev pub Remembers : InitialState → List WriterStep → ℕ → Type 0
Remembers c steps passed = 0 < c.workers → passed ≡ (state_after c steps).passed

-- the words, the sequence, the versions and the groups are the same
pub record SameState (w z : TableState) : Type 0 where
  pub words : z.words ≡ w.words
  pub sequence : z.sequence ≡ w.sequence
  pub history : z.history ≡ w.history
  pub answer_changed : z.answer_changed ≡ w.answer_changed
  pub groups : z.groups ≡ w.groups

-- what the writer keeps is what its steps say, where those items wait
pub record GroupsMatchSteps (c : InitialState) (steps : List WriterStep) (states : List GroupState)
    (items : List (ℕ × ℕ)) (passed : ℕ) (held : Option ℕ) : Type 0 where
  pub kept : GroupsMatchState c (state_after c steps) (state_after c steps).token states items held
  pub remembers : Remembers c steps passed

-- checks were made at most: the token and the group that is taken are the same too, and nothing is due
pub record OnlyChecks (c : InitialState) (steps later : List WriterStep) : Type 0 where
  pub quiet : SameState (state_after c steps) (state_after c later)
  pub token : (state_after c later).token ≡ (state_after c steps).token
  pub taken : (progress_after c later).taken ≡ (progress_after c steps).taken
  pub idle : HasNothingDue c later
