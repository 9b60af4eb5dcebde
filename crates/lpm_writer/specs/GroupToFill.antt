-- This layer's own: the group that an update fills and takes, and the widths of its table (this
-- project's).
use Rattle.std.specs.Prelude.{ℕ, ◌≡◌, ◌⊎◌, List, Option, Some, None}
use Rattle.lpm_update.specs.declared.update.Plan.{Plan}
use Rattle.lpm_update.specs.declared.update.Plan.TheVariants.{Range, Link, Unlink, Flush}
use Rattle.lpm_update.specs.BlockGroups.{group_at}
use Rattle.lpm_trace.specs.States.{InitialState}

-- the group, where the block has none
abbrev pub unless_linked : Option ℕ → ℕ → Option ℕ
unless_linked None group = Some group
unless_linked (Some other) group = None

-- the group that the change fills for a block, and has not linked yet
abbrev pub group_to_fill : Plan → List ℕ → Option ℕ
group_to_fill (Range u) firsts = None
group_to_fill (Link u) firsts = unless_linked (group_at firsts u.block) u.group
group_to_fill (Unlink u) firsts = None
group_to_fill (Flush u) firsts = None

-- the update took the group that the change links, once a word of it is stored, and no other
abbrev pub IsTakenBy : Plan → Option ℕ → Type 0
IsTakenBy (Range u) taken = taken ≡ None
IsTakenBy (Link u) taken = (taken ≡ Some u.group) ⊎ ((taken ≡ None) × (u.next ≡ 0))
IsTakenBy (Unlink u) taken = taken ≡ None
IsTakenBy (Flush u) taken = taken ≡ None

-- the table has these widths
abbrev pub HasWidths : ℕ → ℕ → InitialState → Type 0
HasWidths first second c = (c.first ≡ first) × (c.second ≡ second)
