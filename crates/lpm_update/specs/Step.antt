-- Meaning: one step of a change: the store of one word, or none where the change is done (this
-- project's).
use Rattle.std.specs.Prelude.{ℕ, ◌≡◌, ◌≢◌, ◌<◌, List, slice_index, Option}
use Rattle.lpm_cells.specs.declared.entry.Entry.{Entry}
use Rattle.lpm_cells.specs.Words.{Words, with_first, with_second}
use Rattle.lpm_update.specs.declared.Did.{Did}
use Rattle.lpm_update.specs.declared.Did.TheVariants.{First, Second, Unlinked, Done}
use Rattle.lpm_update.specs.declared.update.Plan.{Plan}
use Rattle.lpm_update.specs.BlockGroups.{IsTable}
use Rattle.lpm_update.specs.Update.{IsUnderWay, StandsSoFar, HasGroups, IsOver, IsNextFirst, IsNextSecond, IsNextUnlink, SameGroups, GivesUp, IsOnward, HasPassedFirst, HasPassedSecond, group_held, places_left}

-- the cells allow the change's next store
pub record AllowsNext (first second : ℕ) (u : Plan) (t : Words)
    (may_first may_second : ℕ → ℕ → Type 0) : Type 0 where
  pub first_word : (i w : ℕ) → IsNextFirst first second u t i w → may_first i w
  pub second_word : (j w : ℕ) → IsNextSecond second u t j w → may_second j w
  pub unlink : (b g w : ℕ) → IsNextUnlink first second u t b g w → may_first b w

-- the word that was stored is the next one, and each other word is as it was; where nothing was
-- stored, nothing is left to store
abbrev pub StoresNext : ℕ → ℕ → Did → Plan → Words → Plan → Words → Type 0
StoresNext first second (First i) u t v z =
    IsNextFirst first second u t i (slice_index z.firsts i)
    × (z ≡ with_first t i (slice_index z.firsts i))
StoresNext first second (Second j) u t v z =
    IsNextSecond second u t j (slice_index z.seconds j)
    × (z ≡ with_second t j (slice_index z.seconds j))
StoresNext first second (Unlinked b g) u t v z =
    IsNextUnlink first second u t b g (slice_index z.firsts b)
    × (z ≡ with_first t b (slice_index z.firsts b))
StoresNext first second Done u t v z = (z ≡ t) × IsOver first second v

-- the change has passed the word that was stored
abbrev pub HasPassed : ℕ → Did → Plan → List ℕ → Type 0
HasPassed second (First i) v firsts = HasPassedFirst second v i
HasPassed second (Second j) v firsts = HasPassedSecond second v firsts j
HasPassed second (Unlinked b g) v firsts = HasPassedFirst second v b
HasPassed second Done v firsts = Unit {0}

-- a block gives its group up just where the step says so
abbrev pub HeldAlong : ℕ → Did → (ℕ → Option ℕ) → (ℕ → Option ℕ) → Type 0
HeldAlong first (First i) old new = SameGroups first old new
HeldAlong first (Second j) old new = SameGroups first old new
HeldAlong first (Unlinked b g) old new = GivesUp first old new b g
HeldAlong first Done old new = SameGroups first old new

-- a step of the change u over the words t, after which the change is v and the words are z
pub record Steps (first second : ℕ) (u : Plan) (t : Words) (did : Did) (v : Plan) (z : Words)
    : Type 0 where
  -- the change goes on past the word that it stored, and never back
  pub onward : IsOnward u v
  pub passed : HasPassed second did v z.firsts
  pub table : IsTable first second z
  pub under_way : IsUnderWay first second v z
  -- each address keeps its entry, or goes from the old to the new one
  pub stands : (E : ℕ → Entry) → StandsSoFar second u t E → StandsSoFar second v z E
  -- so does the group of each block
  pub groups : (L : ℕ → Option ℕ) → HasGroups first second u t.firsts L
      → HasGroups first second v z.firsts L
  pub held : HeldAlong first did (group_held u t.firsts) (group_held v z.firsts)
  pub left : did ≢ Done → places_left first second v < places_left first second u
  pub stored : StoresNext first second did u t v z

-- the cells c and d, whose words `words` tells, are as the cells' own relation of old to new says of
-- the store that was made, P in the first table and Q in the second
abbrev pub SetsWord : {A : Type 0} → (A → Words) → (A → ℕ → ℕ → A → Type 0)
    → (A → ℕ → ℕ → A → Type 0) → A → Did → A → Type 0
SetsWord words P Q c (First i) d = P c i (slice_index (words d).firsts i) d
SetsWord words P Q c (Second j) d = Q c j (slice_index (words d).seconds j) d
SetsWord words P Q c (Unlinked b g) d = P c b (slice_index (words d).firsts b) d
SetsWord words P Q c Done d = d ≡ c
