-- This layer's own: the groups in limbo and the queue in which they wait (DPDK Programmer's Guide,
-- "RCU Library", the defer queue of "LPM Library", the reclaiming of tbl8 groups).
use Rattle.std.specs.Prelude.{ℕ, ◌≡◌, ◌+◌, ◌↔◌, List, [], ◌∷◌, length, map, slice_get}
use Rattle.lpm_groups.specs.declared.GroupState.{GroupState}
use Rattle.lpm_groups.specs.States.{IsLimboAt, IsLinkedTo, limbo_count, free_count, linked_count}
use Rattle.lpm_update.specs.GroupStates.{SameLinksBut}
use Rattle.defer_queue.specs.Limbo.{Limbo}
use Rattle.defer_queue.specs.RetiredGroups.{IsAbsent}

-- the tokens of queued groups
abbrev pub tokens_of : List (ℕ × ℕ) → List ℕ
tokens_of items = map (λ item. item.1) items

-- the items are of different groups, each in limbo
abbrev pub AreWaiting : List GroupState → List (ℕ × ℕ) → Type 0
AreWaiting states [] = Unit {0}
AreWaiting states (item ∷ items) =
    IsLimboAt states item.0 × IsAbsent item.0 items × AreWaiting states items

-- the groups in limbo are those of the queue, which has room for all groups
pub record IsQueued (states : List GroupState) (queue : Limbo) : Type 0 where
  pub waiting : AreWaiting states queue.items
  pub all : length queue.items ≡ limbo_count states
  pub room : queue.capacity ≡ length states

-- the groups of the first n items are free, and each other one is as it was
pub record IsFreed (states : List GroupState) (items : List (ℕ × ℕ)) (n : ℕ)
    (new : List GroupState) : Type 0 where
  pub as_many : length new ≡ length states
  pub links : (g b : ℕ) → IsLinkedTo new g b ↔ IsLinkedTo states g b
  pub others : (g : ℕ) → IsAbsent g items → slice_get new g ≡ slice_get states g
  pub linked : linked_count new ≡ linked_count states
  pub limbo : limbo_count new + n ≡ limbo_count states
  pub free : free_count new ≡ free_count states + n

-- group g, which no block had, is linked to the block, and the links of the other groups stay
pub record IsTaken (states : List GroupState) (g block : ℕ) (new : List GroupState) : Type 0 where
  pub here : IsLinkedTo new g block
  pub unlinked : (b : ℕ) → ¬ IsLinkedTo states g b
  pub others : SameLinksBut g states new
  pub as_many : length new ≡ length states
  pub linked : linked_count new ≡ linked_count states + 1
