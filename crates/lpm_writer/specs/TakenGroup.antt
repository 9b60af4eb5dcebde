-- This layer's own: how a group is taken for a block (DPDK Programmer's Guide, "LPM Library": a free
-- tbl8 group is taken, and else the defer queue is reclaimed first).
use Rattle.std.specs.Prelude.{ℕ, ◌≡◌, ◌/◌, ◌^◌, ◌<◌, ◌≤◌, ◌⊎◌, IsSome, List, [], ◌∷◌, slice_get, Option, Some, None, MatchOption, Result, Ok, Err}
use Rattle.lpm_bits.specs.Network.{Network}
use Rattle.lpm_groups.specs.declared.GroupState.{GroupState}
use Rattle.lpm_groups.specs.States.{free_count, IsLeastFree, IsFreeAt, IsLinkedTo}
use Rattle.lpm_limits.specs.declared.busy.Busy.{Busy}
use Rattle.lpm_update.specs.BlockGroups.{group_at}
use Rattle.fib_model.specs.State.{Transitions}
use Rattle.lpm_trace.specs.declared.step.WriterStep.{WriterStep}
use Rattle.lpm_trace.specs.States.{InitialState, state_after, IsUpdating}
use Rattle.lpm_writer.specs.declared.pool.GroupPool.{GroupPool}
use Rattle.lpm_writer.specs.Limbo.{IsTaken, tokens_of}
use Rattle.lpm_writer.specs.GroupsMatch.{HasNothingDue, GroupsMatchSteps, OnlyChecks}
use Rattle.lpm_writer.specs.MemorySteps.{WithSteps, by_writer}

-- no update runs, and nothing is due
pub record MayTake (c : InitialState) (steps : List WriterStep) (pool : GroupPool) : Type 0 where
  pub keeps : GroupsMatchSteps c steps pool.groups pool.queue.items pool.passed None
  pub idle : HasNothingDue c steps
  pub rests : ¬ IsUpdating (state_after c steps)

-- it is so after some steps that may have led to the memory, as `did` tells them
abbrev pub MayTakeAt : {M : Type 0} → (M → InitialState → List WriterStep → Type 0) → M → GroupPool → Type 0
MayTakeAt did m pool = (c : InitialState) × (steps : List WriterStep) × did m c steps × MayTake c steps pool

-- whatever steps may have led to the memory m, checks alone were made up to z, and a group is held; P is what
-- came of it
abbrev pub TakesAt : {M : Type 0} → (M → InitialState → List WriterStep → Type 0) → M → GroupPool
    → M → GroupPool → Option ℕ → (InitialState → WithSteps M → WithSteps M → Type 0) → Type 0
TakesAt did m old z new held P = (c : InitialState) (steps : List WriterStep) → did m c steps
    → MayTake c steps old → (later : List WriterStep) × did z c later × OnlyChecks c steps later
    × GroupsMatchSteps c later new.groups new.queue.items new.passed held × P c (m, steps) (z, later)

-- the group that was taken
abbrev pub taken_by : Result ℕ (Option Busy) → Option ℕ
taken_by (Ok group) = Some group
taken_by (Err oldest) = None

-- the least free group is taken; where none is free, the oldest in limbo once its check has passed.
-- No group is taken where none is free, and none waits or a worker stops the check of the oldest.
abbrev pub Takes : {X : Type 0} → Transitions X → X → GroupPool → Result ℕ (Option Busy) → X → GroupPool
    → Type 0
Takes t x old (Ok group) z new =
    (0 < free_count old.groups → IsLeastFree old.groups group
    × (tokens_of new.queue.items ≡ tokens_of old.queue.items) × (z ≡ x))
    × (free_count old.groups ≡ 0 → (u : ℕ)
    × (tokens_of old.queue.items ≡ u ∷ tokens_of new.queue.items) × t.checks x u (Ok tt) z)
Takes t x old (Err oldest) z new = (free_count old.groups ≡ 0)
    × MatchOption oldest ((tokens_of old.queue.items ≡ []) × (z ≡ x))
    (λ busy. (u : ℕ) × (slice_get (tokens_of old.queue.items) 0 ≡ Some u)
    × t.checks x u (Err busy) z)

-- the rule is longer than `first` bits, and its block has no group
abbrev pub NeedsGroup : ℕ → ℕ → List ℕ → Network → Type 0
NeedsGroup first second firsts p =
    (first < p.len) × (group_at firsts (p.bits / 2 ^ second) ≡ None)

-- the group that was found
abbrev pub found_by : Result (Option ℕ) (Option Busy) → Option ℕ
found_by (Ok group) = group
found_by (Err oldest) = None

-- a rule that needs no new group finds none, and one that needs one takes it for its block; where none
-- can be taken the rule needs one
abbrev pub Finds : {X : Type 0} → Transitions X → ℕ → ℕ → List ℕ → Network → X → GroupPool
    → Result (Option ℕ) (Option Busy) → X → GroupPool → Type 0
Finds t first second firsts p x old (Ok None) z new = (new ≡ old) × (z ≡ x)
    × ((p.len ≤ first) ⊎ IsSome (group_at firsts (p.bits / 2 ^ second)))
Finds t first second firsts p x old (Ok (Some group)) z new = NeedsGroup first second firsts p
    × IsTaken old.groups group (p.bits / 2 ^ second) new.groups × Takes t x old (Ok group) z new
Finds t first second firsts p x old (Err oldest) z new =
    NeedsGroup first second firsts p × Takes t x old (Err oldest) z new

-- what was found, whatever steps may have led to the memory m: checks alone were made up to z
pub record FindsAt {M : Type 0} (did : M → InitialState → List WriterStep → Type 0)
    (does : M → WriterStep → M → Type 0) (first second : ℕ) (firsts : List ℕ) (p : Network) (m : M)
    (old : GroupPool) (result : Result (Option ℕ) (Option Busy)) (z : M) (new : GroupPool) : Type 0 where
  pub after : TakesAt did m old z new (found_by result)
      (λ c x y. Finds (by_writer does c) first second firsts p x old result y new)

-- ---- the least free group

-- no group of a lower number is free
abbrev pub HasNoneFreeBelow : List GroupState → ℕ → Type 0
HasNoneFreeBelow states group = (lower : ℕ) → lower < group → ¬ IsFreeAt states lower

-- a group that is linked to a block, and wasn't before, was the least that could be had
abbrev pub LinksLeast : List GroupState → List GroupState → Type 0
LinksLeast old new = (group block : ℕ) → IsLinkedTo new group block
    → IsLinkedTo old group block ⊎ HasNoneFreeBelow new group
