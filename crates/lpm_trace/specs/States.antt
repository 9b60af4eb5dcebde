-- Meaning: what the writer's steps leave: the words, the sequence, the token, the versions of the
-- rules and the groups; and which of its steps may come next (Gupta, Lin and McKeown, INFOCOM 1998,
-- section 3; DPDK Programmer's Guide, "LPM Library": a group is given up when its block needs none
-- any more; "RCU Library": a token for what was given up, and a check of each reader's counter).
use Rattle.std.specs.Prelude.{◌≡◌, ℕ, suc, ◌+◌, ◌/◌, ◌%◌, ◌^◌, ◌<◌, ◌≤◌, ◌⊎◌, ⊤, Bool, true, false, if◌then◌else◌, ◌&&◌, nat_le, ◌==◌, max, List, [], ◌∷◌, length, slice_index, Option, Some, None}
use Rattle.std.specs.FinMap.{insert, remove, empty}
use Rattle.lpm_cells.specs.declared.entry.Entry.{Entry}
use Rattle.lpm_cells.specs.declared.entry.Entry.TheVariants.{Miss, Hop, Group}
use Rattle.lpm_cells.specs.Words.{IsLastWord, entry_in, hop_in, Words, IsFirstWord, IsWords, with_first, with_second, entry_at}
use Rattle.lpm_bits.specs.Network.{IsNetwork}
use Rattle.lpm_rules.specs.RuleMap.{RuleMap, AllNetworks}
use Rattle.lpm_rules.specs.Longest.{IsLongestHop}
use Rattle.lpm_trace.specs.declared.step.RuleChange.{RuleChange}
use Rattle.lpm_trace.specs.declared.step.RuleChange.TheVariants.{Put, TakeOut, Clear}
use Rattle.lpm_trace.specs.declared.step.WriterStep.{WriterStep}
use Rattle.lpm_trace.specs.declared.step.WriterStep.TheVariants.{StoreFirst, StoreSecond, BeginUpdate, EndUpdate, BumpToken, LoadCounter}

-- a group was never linked, is the group of a block, or was last unlinked under a token: it waits until
-- a check of that token or a later one has passed, and is free then
pub data Status : Type 0 where
  Unused : Status
  Linked : (block : ℕ) → Status
  Retired : (token : ℕ) → Status

-- what a trace begins with: the widths of the two tables, the number of workers, the token, the
-- words with the rules that they answer by, and the groups
pub record InitialState : Type 0 where
  pub first : ℕ
  pub second : ℕ
  pub workers : ℕ
  pub token : ℕ
  pub words : Words
  pub rules : RuleMap
  pub groups : ℕ → Status

-- the check that runs, or ran last: the workers below `next` let its token pass
pub record Scan : Type 0 where
  pub token : ℕ
  pub next : ℕ

pub record TableState : Type 0 where
  -- how many steps the writer has made
  pub clock : ℕ
  pub words : Words
  pub sequence : ℕ
  pub token : ℕ
  -- the rules of each version that was begun
  pub history : ℕ → RuleMap
  -- whether the answer to an address has changed in the update that runs
  pub answer_changed : ℕ → Bool
  pub groups : ℕ → Status
  -- the number, among the writer's steps, of the one that last unlinked the group; 0 for none. The
  -- proof alone looks at it.
  pub unlinked : ℕ → ℕ
  pub scan : Scan
  -- the greatest token whose check has passed
  pub passed : ℕ

-- f with x at i
abbrev pub with_at : {A : Type 0} → (ℕ → A) → ℕ → A → ℕ → A
with_at f i x j = if j == i then x else f j

-- the number of addresses
abbrev pub addresses : InitialState → ℕ
addresses c = 2 ^ (c.first + c.second)

-- what the words answer to an address
abbrev pub answer : InitialState → Words → ℕ → Option ℕ
answer c t a = hop_in (entry_at c.second t a)

-- an answer is that of these rules
abbrev pub IsAnswer : InitialState → RuleMap → ℕ → Option ℕ → Type 0
IsAnswer c R a hop = IsLongestHop (c.first + c.second) R a hop

-- how many updates are done, and how many were begun
abbrev pub done_at : ℕ → ℕ
done_at sequence = sequence / 2

abbrev pub begun_at : ℕ → ℕ
begun_at sequence = (sequence + 1) / 2

abbrev pub updates_done_in : TableState → ℕ
updates_done_in w = done_at w.sequence

abbrev pub updates_begun_in : TableState → ℕ
updates_begun_in w = begun_at w.sequence

-- the version that an address shows: `updates_done_in` until its answer has changed in the update that runs,
-- and `updates_begun_in` from that store on. That it is told by which address has changed its answer matters to no
-- law: it is the function of which the promise says that there is one.
abbrev pub version : TableState → ℕ → ℕ
version w a = if w.answer_changed a then updates_begun_in w else updates_done_in w

-- the rules after a change
abbrev pub rules_by : RuleMap → RuleChange → RuleMap
rules_by R (Put bits len hop) = insert R (record { bits = bits; len = len }) hop
rules_by R (TakeOut bits len) = remove R (record { bits = bits; len = len })
rules_by R Clear = empty

-- ---- the state after a step

abbrev pub is_same : Option ℕ → Option ℕ → Bool
is_same None None = true
is_same (Some x) (Some y) = x == y
is_same None (Some y) = false
is_same (Some x) None = false

-- which addresses have changed their answer, when the words become z
abbrev pub answer_changed_by : InitialState → TableState → Words → ℕ → Bool
answer_changed_by c w z a = if is_same (answer c w.words a) (answer c z a) then w.answer_changed a else true

-- a store over this first word retires its group under the next token
abbrev pub with_retired : Entry → ℕ → (ℕ → Status) → ℕ → Status
with_retired Miss token groups = groups
with_retired (Hop hop depth) token groups = groups
with_retired (Group group) token groups = with_at groups group (Retired token)

-- and notes the number of the step
abbrev pub with_stamp : Entry → ℕ → (ℕ → ℕ) → ℕ → ℕ
with_stamp Miss now unlinked = unlinked
with_stamp (Hop hop depth) now unlinked = unlinked
with_stamp (Group group) now unlinked = with_at unlinked group now

-- a store of this first word links its group
abbrev pub with_linked : Entry → ℕ → (ℕ → Status) → ℕ → Status
with_linked Miss block groups = groups
with_linked (Hop hop depth) block groups = groups
with_linked (Group group) block groups = with_at groups group (Linked block)

-- a counter lets a token pass: the worker is offline, or loaded its token since
abbrev pub lets_pass : ℕ → ℕ → Bool
lets_pass token counter = if counter == 0 then true else nat_le token counter

-- the entry that stands at a place of the first table
abbrev pub first_entry : Words → ℕ → Entry
first_entry t i = entry_in (slice_index t.firsts i)

-- the state after a step of the writer
abbrev pub state_by_step : InitialState → TableState → WriterStep → TableState
state_by_step c w (StoreFirst i x) = record w {
  clock = suc w.clock;
  words = with_first w.words i x;
  answer_changed = answer_changed_by c w (with_first w.words i x);
  groups = with_linked (entry_in x) i (with_retired (first_entry w.words i) (suc w.token) w.groups);
  unlinked = with_stamp (first_entry w.words i) (suc w.clock) w.unlinked;
}
state_by_step c w (StoreSecond j x) = record w {
  clock = suc w.clock;
  words = with_second w.words j x;
  answer_changed = answer_changed_by c w (with_second w.words j x);
}
state_by_step c w (BeginUpdate change) = record w {
  clock = suc w.clock;
  sequence = suc w.sequence;
  history = with_at w.history (suc (updates_begun_in w)) (rules_by (w.history (updates_begun_in w)) change);
}
state_by_step c w EndUpdate = record w {
  clock = suc w.clock;
  sequence = suc w.sequence;
  answer_changed = λ a. false;
}
state_by_step c w BumpToken = record w { clock = suc w.clock; token = suc w.token }
state_by_step c w (LoadCounter token worker counter) = record w {
  clock = suc w.clock;
  scan = record { token = token; next = if lets_pass token counter then suc worker else 0 };
  passed = if lets_pass token counter && (suc worker == c.workers) then max w.passed token else w.passed;
}

abbrev pub initial_table_state : InitialState → TableState
initial_table_state c = record {
  clock = 0;
  words = c.words;
  sequence = 0;
  token = c.token;
  history = λ k. c.rules;
  answer_changed = λ a. false;
  groups = c.groups;
  unlinked = λ g. 0;
  scan = record { token = 0; next = 0 };
  passed = 0;
}

-- the state after these steps of the writer, of which the newest stands first
abbrev pub state_after : InitialState → List WriterStep → TableState
state_after c [] = initial_table_state c
state_after c (s ∷ steps) = state_by_step c (state_after c steps) s

-- the first t of these, of which the newest stands first
abbrev pub oldest : {A : Type 0} → ℕ → List A → List A
oldest t [] = []
oldest t (s ∷ steps) = if nat_le t (length steps) then oldest t steps else s ∷ steps

-- the state after the first t of these steps of the writer
abbrev pub state_at : InitialState → List WriterStep → ℕ → TableState
state_at c steps t = state_after c (oldest t steps)

-- ---- which step may come next

-- a group is free: it was never linked, or a check of its token or a later one has passed since;
-- without workers each check passes
abbrev pub IsFree : InitialState → ℕ → Status → Type 0
IsFree c passed Unused = ⊤
IsFree c passed (Linked block) = ⊥
IsFree c passed (Retired token) = (token ≤ passed) ⊎ (c.workers ≡ 0)

-- a group may be stored into: it is linked, or free as above
abbrev pub MayFill : InitialState → ℕ → Status → Type 0
MayFill c passed Unused = ⊤
MayFill c passed (Linked block) = ⊤
MayFill c passed (Retired token) = (token ≤ passed) ⊎ (c.workers ≡ 0)

-- a first word links a free group and no other
abbrev pub MayLink : InitialState → TableState → Entry → Type 0
MayLink c w Miss = ⊤
MayLink c w (Hop hop depth) = ⊤
MayLink c w (Group group) = IsFree c w.passed (w.groups group)

-- an update runs
abbrev pub IsUpdating : TableState → Type 0
IsUpdating w = w.sequence % 2 ≡ 1

-- where the words become z, each address keeps its answer, or turns from that of the version done to
-- that of the version begun; and it turns once
abbrev pub Moves : InitialState → TableState → Words → Type 0
Moves c w z = (a : ℕ) → a < addresses c → (answer c z a ≡ answer c w.words a)
    ⊎ ((w.answer_changed a ≡ false) × IsAnswer c (w.history (updates_done_in w)) a (answer c w.words a)
    × IsAnswer c (w.history (updates_begun_in w)) a (answer c z a))

-- the change is one of a prefix whose host bits are cleared, to a next hop of 24 bits
abbrev pub IsChange : ℕ → RuleChange → Type 0
IsChange width (Put bits len hop) =
    IsNetwork width (record { bits = bits; len = len }) × (hop < 2 ^ 24)
IsChange width (TakeOut bits len) = IsNetwork width (record { bits = bits; len = len })
IsChange width Clear = ⊤

-- the writer's step may come next, where the workers' counters are these; the check of a token begins at
-- worker 0, and goes on at the worker after the last one that let the token pass
abbrev pub MayWrite : InitialState → (ℕ → ℕ) → TableState → WriterStep → Type 0
MayWrite c counters w (StoreFirst i x) =
    IsUpdating w × (i < length w.words.firsts)
    × IsFirstWord (c.first + c.second) c.second w.words.seconds x × MayLink c w (entry_in x)
    × Moves c w (with_first w.words i x)
MayWrite c counters w (StoreSecond j x) =
    IsUpdating w × (j < length w.words.seconds) × IsLastWord (c.first + c.second) x
    × MayFill c w.passed (w.groups (j / 2 ^ c.second))
    × Moves c w (with_second w.words j x)
MayWrite c counters w (BeginUpdate change) =
    (w.sequence % 2 ≡ 0) × IsChange (c.first + c.second) change
MayWrite c counters w EndUpdate =
    IsUpdating w × ((a : ℕ) → a < addresses c
    → IsAnswer c (w.history (updates_begun_in w)) a (answer c w.words a))
MayWrite c counters w BumpToken = ⊤
MayWrite c counters w (LoadCounter token worker counter) =
    (counter ≡ counters worker) × (worker < c.workers) × (token ≤ w.token)
    × ((worker ≡ 0) ⊎ ((w.scan.next ≡ worker) × (w.scan.token ≡ token)))

-- what a trace begins with: a token that isn't 0, words of entries that answer by the rules, and each
-- group that stands in them known as linked. Other groups can be known as linked too: no first word
-- ever links such a group.
pub record IsSettled (c : InitialState) : Type 0 where
  pub token : 0 < c.token
  pub words : IsWords c.first c.second c.words
  pub networks : AllNetworks (c.first + c.second) c.rules
  pub answers : (a : ℕ) → a < addresses c → IsAnswer c c.rules a (answer c c.words a)
  pub links : (i g : ℕ) → first_entry c.words i ≡ Group g → c.groups g ≡ Linked i
