-- This layer's own: the states of a table's groups: free, linked to a block, or unlinked and not
-- yet reclaimed (DPDK Programmer's Guide, "LPM Library", the tables of type tbl8 and their
-- reclaiming by RCU; Fraser, UCAM-CL-TR-579, 2004, limbo lists). That the least number is taken
-- is this project's.
use Rattle.std.specs.Prelude.{ℕ, ◌≡◌, ◌<◌, ◌≢◌, Bool, true, false, List, count_by, slice_get, option_map, Some, ◌≤◌, length, map}
use Rattle.lpm_groups.specs.declared.GroupState.{GroupState}
use Rattle.lpm_groups.specs.declared.GroupState.TheVariants.{Free, Linked, Limbo}

abbrev pub is_free : GroupState → Bool
is_free Free = true
is_free (Linked block) = false
is_free Limbo = false

abbrev pub is_linked : GroupState → Bool
is_linked Free = false
is_linked (Linked block) = true
is_linked Limbo = false

abbrev pub is_limbo : GroupState → Bool
is_limbo Free = false
is_limbo (Linked block) = false
is_limbo Limbo = true

-- how many groups are free
abbrev pub free_count : List GroupState → ℕ
free_count states = count_by is_free states

-- how many groups are linked
abbrev pub linked_count : List GroupState → ℕ
linked_count states = count_by is_linked states

-- how many groups are in limbo
abbrev pub limbo_count : List GroupState → ℕ
limbo_count states = count_by is_limbo states

-- the group exists and is free
abbrev pub IsFreeAt : List GroupState → ℕ → Type 0
IsFreeAt states group = slice_get states group ≡ Some Free

-- the group exists and is linked to that block
abbrev pub IsLinkedTo : List GroupState → ℕ → ℕ → Type 0
IsLinkedTo states group block = slice_get states group ≡ Some (Linked block)

-- the group exists and is linked, to some block
abbrev pub IsLinkedAt : List GroupState → ℕ → Type 0
IsLinkedAt states group = option_map is_linked (slice_get states group) ≡ Some true

-- the group exists and is in limbo
abbrev pub IsLimboAt : List GroupState → ℕ → Type 0
IsLimboAt states group = slice_get states group ≡ Some Limbo

-- the group is free, and none of a smaller number is
pub record IsLeastFree (states : List GroupState) (group : ℕ) : Type 0 where
  pub free : slice_get states group ≡ Some Free
  pub least : (k : ℕ) → k < group → slice_get states k ≢ Some Free

-- What `Groups` keeps beside the states (this project's).

-- the byte by which a free group is searched
abbrev pub mark_of : GroupState → ℕ
mark_of Free = 1
mark_of (Linked block) = 0
mark_of Limbo = 0

-- the marks and the counts are those of the states, and no group below the hint is free
pub record IsSound (states : List GroupState) (marks : List ℕ) (hint in_use limbo : ℕ)
    : Type 0 where
  pub few : length states ≤ 65536
  pub marked : marks ≡ map mark_of states
  pub within : hint ≤ length states
  pub none_below : (k : ℕ) → k < hint → slice_get states k ≢ Some Free
  pub all_in_use : in_use ≡ linked_count states
  pub all_limbo : limbo ≡ limbo_count states
