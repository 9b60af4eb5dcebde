-- Meaning: what an upper layer needs of a change: how it begins, goes on and ends, what its next
-- store may be, and what the words answer (this project's).
use Rattle.std.specs.Prelude.{ℕ, ◌≡◌, ⊤, List, [], ◌∷◌, length, Option, Some, None, ◌⊎◌, ◌+◌, ◌^◌, ◌<◌, ◌==◌, if◌then◌else◌, replicate}
use Rattle.lpm_cells.specs.Words.{Words, entry_at, IsFirstWord, with_first, with_second, IsLastWord, word_of, hop_in}
use Rattle.lpm_update.specs.declared.Did.{Did}
use Rattle.lpm_update.specs.declared.Did.TheVariants.{First, Second, Unlinked, Done}
use Rattle.lpm_update.specs.declared.update.Plan.{Plan}
use Rattle.lpm_update.specs.BlockGroups.{IsTable, group_at}
use Rattle.lpm_update.specs.Update.{IsUnderWay, StandsSoFar, HasGroups, IsOnward, IsOver, SameGroups, GivesUp, entry_after, group_held}
use Rattle.lpm_update.specs.Step.{AllowsNext, Steps, SetsWord}
use Rattle.std.specs.List.{AllPairs}
use Rattle.std.specs.FinMap.{empty}
use Rattle.lpm_cells.specs.declared.entry.Entry.{Entry}
use Rattle.lpm_cells.specs.declared.entry.Entry.TheVariants.{Miss}
use Rattle.lpm_groups.specs.declared.GroupState.{GroupState}
use Rattle.lpm_groups.specs.declared.GroupState.TheVariants.{Free}
use Rattle.lpm_groups.specs.States.{IsLinkedTo, linked_count}
use Rattle.lpm_rules.specs.RuleMap.{RuleMap, network_cmp}
use Rattle.lpm_rules.specs.Deep.{deep_blocks}
use Rattle.lpm_rules.specs.Longest.{IsLongestHop}
use Rattle.lpm_update.specs.Best.{IsBest}
use Rattle.lpm_update.specs.Represents.{Represents, TurnsInto, IsBegun, IsFreshGroup}
use Rattle.lpm_update.specs.GroupStates.{IsTied, HasGroupRoom, SameLinksBut}
use Rattle.std.specs.FinSet as set

-- A run of steps of one change, each by the contract of `Update::step` (this project's).

-- the steps from u and the words t, the last one first, lead to v and the words z
abbrev pub Runs : ℕ → ℕ → Plan → Words → List Did → Plan → Words → Type 0
Runs first second u t [] v z = (v ≡ u) × (z ≡ t)
Runs first second u t (did ∷ before) v z =
    (m : Plan) × (y : Words) × Runs first second u t before m y × Steps first second m y did v z

-- a change that was u on the words t, and had stored nothing yet, has come to v and the words z
pub record HasCome (first second : ℕ) (u : Plan) (t : Words) (v : Plan) (z : Words) : Type 0 where
  pub onward : IsOnward u v
  pub table : IsTable first second z
  pub under_way : IsUnderWay first second v z
  pub stands : StandsSoFar second v z (entry_at second t)
  pub groups : HasGroups first second v z.firsts (group_at t.firsts)
  pub sizes : length z.seconds ≡ length t.seconds

-- the step stored a word, and unlinked no group
abbrev pub KeepsGroups : Did → Type 0
KeepsGroups (First i) = ⊤
KeepsGroups (Second j) = ⊤
KeepsGroups (Unlinked b g) = ⊥
KeepsGroups Done = ⊥

-- the steps from u on the cells c, the last one first, each store a word, unlink no group, and lead to
-- v and the cells d. `words` tells the words of cells, and P and Q what a store in the first table and
-- one in the second makes of them.
abbrev pub Leads : {A : Type 0} → (A → Words) → (A → ℕ → ℕ → A → Type 0)
    → (A → ℕ → ℕ → A → Type 0) → ℕ → ℕ → Plan → A → List Did → Plan → A → Type 0
Leads words P Q first second u c [] v d = (v ≡ u) × (d ≡ c)
Leads {A} words P Q first second u c (did ∷ before) v d =
    (m : Plan) × (b : A) × Leads words P Q first second u c before m b × KeepsGroups did
    × Steps first second m (words b) did v (words d) × SetsWord words P Q b did d

-- whatever such steps lead to, the cells allow the change's next store, by `may_first` and `may_second`
abbrev pub AllowsAlong : {A : Type 0} → (A → Words) → (A → ℕ → ℕ → A → Type 0)
    → (A → ℕ → ℕ → A → Type 0) → (A → ℕ → ℕ → Type 0) → (A → ℕ → ℕ → Type 0) → ℕ → ℕ → Plan
    → A → Type 0
AllowsAlong {A} words P Q may_first may_second first second u c =
    (dids : List Did) (v : Plan) (d : A) → Leads words P Q first second u c dids v d
    → AllowsNext first second v (words d) (may_first d) (may_second d)

-- steps lead from u on the cells c to v and the cells d: all that are left, or up to the one that
-- unlinks this group
abbrev pub RunsOn : {A : Type 0} → (A → Words) → (A → ℕ → ℕ → A → Type 0)
    → (A → ℕ → ℕ → A → Type 0) → ℕ → ℕ → Plan → A → Option ℕ → Plan → A → Type 0
RunsOn words P Q first second u c None v d =
    (dids : List Did) × (m : Plan) × Leads words P Q first second u c dids m d
    × Steps first second m (words d) Done v (words d)
RunsOn {A} words P Q first second u c (Some g) v d =
    (dids : List Did) × (m : Plan) × (b : A) × (block : ℕ)
    × Leads words P Q first second u c dids m b
    × Steps first second m (words b) (Unlinked block g) v (words d)
    × SetsWord words P Q b (Unlinked block g) d

-- both stored the same word of a table
abbrev pub IsSameWord : Did → Did → Type 0
IsSameWord (First i) (First k) = i ≡ k
IsSameWord (First i) (Unlinked k group) = i ≡ k
IsSameWord (Second j) (Second k) = j ≡ k
IsSameWord (Unlinked i group) (First k) = i ≡ k
IsSameWord (Unlinked i group) (Unlinked k group') = i ≡ k
IsSameWord d e = ⊥

-- ---- how a change begins, goes on and ends

-- a change that may begin has come as far as its beginning
abbrev pub RunBegins : Type 0
RunBegins = (first second : ℕ) (u : Plan) (t : Words)
    → IsTable first second t → IsBegun first second u t → HasCome first second u t u t

-- each step takes it further
abbrev pub RunGoesOn : Type 0
RunGoesOn = (first second : ℕ) (u : Plan) (t : Words) (did : Did) (v v' : Plan) (z z' : Words)
    → HasCome first second u t v z → Steps first second v z did v' z'
    → HasCome first second u t v' z'

-- where nothing is left to store, words that represented the old rule list represent the new one,
-- and each block has the group that is held for it
abbrev pub RunEnds : Type 0
RunEnds = (first second : ℕ) (R R' : RuleMap) (u : Plan) (t : Words) (v : Plan) (z : Words)
    → Represents first second R t → TurnsInto first second u R R'
    → HasCome first second u t v z → IsOver first second v
    → Represents first second R' z × SameGroups first (group_held v z.firsts) (group_at z.firsts)

-- no two steps of a run store the same word
abbrev pub NoWordTwice : Type 0
NoWordTwice = (first second : ℕ) (u : Plan) (t : Words) (dids : List Did) (v : Plan) (z : Words)
    → IsTable first second t → IsBegun first second u t → Runs first second u t dids v z
    → AllPairs (λ late early. ¬ IsSameWord early late) dids

-- ---- the next store

-- each address keeps its entry, or goes from the old to the new one, where E has the entries before
-- the change
abbrev pub Moves : ℕ → ℕ → Plan → (ℕ → Entry) → Words → Words → Type 0
Moves first second u E t z = (a : ℕ) → (entry_at second z a ≡ entry_at second t a)
    ⊎ ((entry_at second t a ≡ E a) × (entry_at second z a ≡ entry_after (first + second) u E a))

-- the store that leads from the words t to z moves addresses from the old to the new entry alone
abbrev pub StoreMoves : ℕ → ℕ → Plan → Words → Words → Type 0
StoreMoves first second u t z =
    (E : ℕ → Entry) → StandsSoFar second u t E → Moves first second u E t z

-- the next store is of a word that a table may hold at its place, and moves addresses from the old
-- entry to the new one alone
abbrev pub NextStore : Type 0
NextStore = (first second : ℕ) (u : Plan) (t : Words)
    → IsTable first second t → IsUnderWay first second u t
    → AllowsNext first second u t
    (λ i w. IsFirstWord (first + second) second t.seconds w
    × StoreMoves first second u t (with_first t i w))
    (λ j w. IsLastWord (first + second) w × StoreMoves first second u t (with_second t j w))

-- between two states of a run an address keeps its entry, or goes from the old to the new one; and
-- once it has the new one, it keeps that
abbrev pub AnswersTurnOnce : Type 0
AnswersTurnOnce = (first second : ℕ) (u v : Plan) (t z : Words) (E : ℕ → Entry)
    → IsUnderWay first second u t → IsUnderWay first second v z → IsOnward u v
    → StandsSoFar second u t E → StandsSoFar second v z E
    → Moves first second u E t z
    × ((a : ℕ) → entry_at second t a ≡ entry_after (first + second) u E a
    → entry_at second z a ≡ entry_after (first + second) u E a)

-- ---- rules

-- the next hop of the longest rule's entry is that of the longest match
abbrev pub BestIsLongest : Type 0
BestIsLongest = (width : ℕ) (R : RuleMap) (a : ℕ) (e : Entry)
    → IsBest width R a e → IsLongestHop width R a (hop_in e)

-- words that are all misses
abbrev pub blank_words : ℕ → ℕ → Words
blank_words n m = record {
  firsts = replicate n (word_of Miss);
  seconds = replicate m (word_of Miss);
}

-- they represent the empty list, and no block has a group
abbrev pub BlankRepresents : Type 0
BlankRepresents = (first second m groups : ℕ)
    → Represents first second (empty {R = network_cmp}) (blank_words (2 ^ first) m)
    × IsTied first (replicate groups Free) (group_at (blank_words (2 ^ first) m).firsts)

-- ---- groups

-- as many groups are linked as there are blocks with a rule longer than FIRST bits
abbrev pub LinkedAreDeep : Type 0
LinkedAreDeep = (first second : ℕ) (R : RuleMap) (t : Words) (states : List GroupState)
    → Represents first second R t → IsTied first states (group_at t.firsts)
    → linked_count states ≡ set.len (deep_blocks first second R)

-- where each block has the same group, the states of the groups stay
abbrev pub TiedSame : Type 0
TiedSame = (first : ℕ) (states : List GroupState) (L M : ℕ → Option ℕ)
    → SameGroups first L M → IsTied first states L → IsTied first states M

-- a group that a block gives up was linked to it, and may then be in any state but linked
abbrev pub TiedGone : Type 0
TiedGone = (first : ℕ) (old : List GroupState) (L M : ℕ → Option ℕ) (b g : ℕ)
    → IsTied first old L → GivesUp first L M b g
    → IsLinkedTo old g b
    × ((new : List GroupState)
    → SameLinksBut g old new → ((c : ℕ) → ¬ IsLinkedTo new g c) → IsTied first new M)

-- a group that is linked to no block is one that no block has, and may be linked to a block without
-- one
abbrev pub TiedTaken : Type 0
TiedTaken = (first second : ℕ) (t : Words) (old : List GroupState) (g : ℕ)
    → IsTable first second t → HasGroupRoom second t old → IsTied first old (group_at t.firsts)
    → g < length old → ((c : ℕ) → ¬ IsLinkedTo old g c)
    → IsFreshGroup second g t
    × ((new : List GroupState) (b : ℕ) → b < 2 ^ first → group_at t.firsts b ≡ None
    → IsLinkedTo new g b → SameLinksBut g old new
    → IsTied first new (λ i. if i == b then Some g else group_at t.firsts i))
