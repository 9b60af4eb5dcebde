-- This layer's own: the states of the groups, and the groups that the blocks have (this
-- project's).
use Rattle.std.specs.Prelude.{ℕ, ◌≡◌, ◌≢◌, ◌↔◌, ◌*◌, ◌≤◌, ◌<◌, ◌^◌, List, length, Option, Some}
use Rattle.lpm_groups.specs.declared.GroupState.{GroupState}
use Rattle.lpm_groups.specs.States.{IsLinkedTo}
use Rattle.lpm_cells.specs.Words.{Words}

-- a group is linked to a block just where that block has it, by L
pub record IsTied (first : ℕ) (states : List GroupState) (L : ℕ → Option ℕ) : Type 0 where
  pub linked : (b g : ℕ) → b < 2 ^ first → L b ≡ Some g → IsLinkedTo states g b
  pub only : (b g : ℕ) → IsLinkedTo states g b → (b < 2 ^ first) × (L b ≡ Some g)

-- the links of the groups other than g stay
abbrev pub SameLinksBut : ℕ → List GroupState → List GroupState → Type 0
SameLinksBut g old new = (h c : ℕ) → h ≢ g → IsLinkedTo new h c ↔ IsLinkedTo old h c

-- as many groups as there is room for, each of which has a number that an entry can hold
pub record HasGroupRoom (second : ℕ) (t : Words) (states : List GroupState) : Type 0 where
  pub few : length states ≤ 65536
  pub words : length t.seconds ≡ length states * 2 ^ second
