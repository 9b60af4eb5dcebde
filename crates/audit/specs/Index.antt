-- This layer's own: the index of a history of changes.
use Rattle.std.specs.Prelude.{ℕ, ◌≡◌, ◌≢◌, ◌+◌, ◌<◌, ◌≤◌, ◌==◌, ◌||◌, ◌&&◌, Bool, true, false, nat_lt, nat_le, List, All, Option, Some, None, length, slice_index_or, ◌↔◌, ⊤, IsTrue}
use Rattle.std.specs.List.{Contains, AllZip}
use Rattle.std.specs.List.Sorted.{IsPartitionPoint}
use Rattle.std.specs.FinMap.{get, empty}
use Rattle.lpm_bits.specs.Widths.{IsShape}
use Rattle.lpm_bits.specs.Network.{Network, IsNetwork, Covers}
use Rattle.lpm_rules.specs.declared.Change.{Change}
use Rattle.lpm_rules.specs.declared.Change.TheVariants.{Add, Delete, Flush, Reclaim, Synchronize}
use Rattle.audit.specs.declared.events.Event.{Event}
use Rattle.audit.specs.Wrong.{version_of, IsOfSomeVersion}
use Rattle.lpm_rules.specs.RuleMap.{RuleMap}
use Rattle.lpm_rules.specs.declared.Answer.{Answer}
use Rattle.std.specs.declared.vec.Vec.{Vec}

-- The events of the prefixes of one length, which say from which version on a prefix has which next
-- hop.

-- the prefix that a change is of
abbrev pub prefix_in : {first second : ℕ} → Change first second → Option Network
prefix_in (Add p h) = Some p
prefix_in (Delete p) = Some p
prefix_in Flush = None
prefix_in (Reclaim n) = None
prefix_in Synchronize = None

-- the next hop that the prefix of a change has after it
abbrev pub hop_in : {first second : ℕ} → Change first second → Option ℕ
hop_in (Add p h) = Some h
hop_in (Delete p) = None
hop_in Flush = None
hop_in (Reclaim n) = None
hop_in Synchronize = None

-- the prefix of an event, at its length
abbrev pub prefix_at : ℕ → Event → Network
prefix_at len e = record { bits = e.bits; len = len }

-- the change is of no prefix of this length
abbrev pub IsOfNone : {first second : ℕ} → ℕ → Change first second → Type 0
IsOfNone len change = (p : Network) → prefix_in change ≡ Some p → p.len ≢ len

-- the event says what the change does to a prefix of this length, from this version on
pub record IsEventOf {first second : ℕ} (len k : ℕ) (change : Change first second) (e : Event)
    : Type 0 where
  pub prefix : prefix_in change ≡ Some (prefix_at len e)
  pub hop : e.hop ≡ hop_in change
  pub version : e.version ≡ k

-- the prefix is one of addresses of a table with these widths
abbrev pub IsPrefixOf : ℕ → ℕ → Network → Type 0
IsPrefixOf first second p = IsShape first second × IsNetwork (first + second) p

-- the prefix of the change, if it has one, is such a prefix
abbrev pub HasNetwork : {first second : ℕ} → Change first second → Type 0
HasNetwork {first} {second} change = (p : Network) → prefix_in change ≡ Some p
    → IsPrefixOf first second p

-- the events have one for this change, where the change is of a prefix of their length
abbrev pub IsAmong : {first second : ℕ} → ℕ → ℕ → List Event → Change first second → Type 0
IsAmong len version events change = (p : Network) → prefix_in change ≡ Some p → p.len ≡ len
    → (e : Event) × Contains events e × (e.bits ≡ p.bits) × (e.version ≡ version)

-- the event says what its prefix has at its version, one of the first i; only a table's widths have
-- prefixes
pub record IsTrueEvent {first second : ℕ} (history : List (Change first second)) (len i : ℕ)
    (e : Event) : Type 0 where
  pub shape : IsShape first second
  pub within : e.version ≤ i
  pub hop : get (version_of history e.version) (prefix_at len e) ≡ e.hop

-- the events are those of the first i changes, of the ones that are of prefixes of this length
pub record AreEventsUpTo {first second : ℕ} (history : List (Change first second)) (len i : ℕ)
    (events : List Event) : Type 0 where
  pub hold : All (IsTrueEvent history len i) events
  pub all : (j : ℕ) (d : Change first second) → j < i
      → IsAmong len (j + 1) events (slice_index_or history j d)
  pub networks : (j : ℕ) (d : Change first second) → j < i → HasNetwork (slice_index_or history j d)

-- event a may stand before event b: by bits, and where these are the same by version
abbrev pub IsBefore : Event → Event → Type 0
IsBefore a b = (a.bits ≤ b.bits) × (a.bits ≡ b.bits → a.version ≤ b.version)

-- the events stand in that order
abbrev pub AreOrdered : List Event → Type 0
AreOrdered events = (i j : ℕ) (d : Event) → i ≤ j → j < length events
    → IsBefore (slice_index_or events i d) (slice_index_or events j d)

-- the event is of lesser bits, or of these bits and of a version up to k
abbrev pub up_to : ℕ → ℕ → Event → Bool
up_to bits k e = nat_lt e.bits bits || ((e.bits == bits) && nat_le e.version k)

-- just the first n events are such events
abbrev pub AreUpTo : ℕ → ℕ → List Event → ℕ → Type 0
AreUpTo bits k events n =
    IsPartitionPoint (λ e. up_to bits k e ≡ true) (λ e. up_to bits k e ≡ false) events n

-- no event of these bits is later than this one and no later than the version
abbrev pub IsLastAt : List Event → ℕ → ℕ → Event → Type 0
IsLastAt events bits version last = (e : Event) → Contains events e → e.bits ≡ bits
    → e.version ≤ version → e.version ≤ last.version

-- the last event of these bits up to the version, if there is one
abbrev pub IsLastEvent : List Event → ℕ → ℕ → Option Event → Type 0
IsLastEvent events bits version None =
    (e : Event) → Contains events e → e.bits ≡ bits → e.version ≤ version → ⊥
IsLastEvent events bits version (Some last) = Contains events last × (last.bits ≡ bits)
    × (last.version ≤ version) × IsLastAt events bits version last

-- The last flush up to each version of a history.

-- version f has no rules, and no change from there to version k is a flush
pub record IsLastFlush {first second : ℕ} (history : List (Change first second)) (k f : ℕ)
    : Type 0 where
  pub before : f ≤ k
  pub empty : version_of history f ≡ empty
  pub none : (j : ℕ) (d : Change first second) → f ≤ j → j < k → slice_index_or history j d ≢ Flush

-- for each of the versions up to i the last flush, or 0
pub record AreFlushes {first second : ℕ} (history : List (Change first second)) (i : ℕ)
    (flushed : List ℕ) : Type 0 where
  pub long : length flushed ≡ i + 1
  pub each : (k : ℕ) → k ≤ i → IsLastFlush history k (slice_index_or flushed k 0)

-- Which answers a history explains.

-- the change can change what the address goes to: its prefix covers the address, or it is a flush
abbrev pub Touches : {first second : ℕ} → ℕ → Change first second → Type 0
Touches {first} {second} a (Add p h) = Covers (first + second) p a
Touches {first} {second} a (Delete p) = Covers (first + second) p a
Touches a Flush = ⊤
Touches a (Reclaim n) = ⊥
Touches a Synchronize = ⊥

-- each mark says whether a version explains the answer at its place
abbrev pub AreMarks : {first second : ℕ} → RuleMap → List (Change first second) → List (ℕ × Answer)
    → List Bool → Type 0
AreMarks R history answers marks =
    AllZip (λ x mark. IsTrue mark ↔ IsOfSomeVersion R history x) answers marks

-- What the index of a history keeps.

-- the index has the last flush of each version, and for each length the events of its prefixes
pub record IsSound (first second : ℕ) {Z : Type 0} (history : List (Change first second))
    (flushed : List ℕ) (lengths : List (Vec Event Z)) : Type 0 where
  pub flushes : AreFlushes history (length history) flushed
  pub long : length lengths ≡ 33
  pub events : (len : ℕ) (d : Vec Event Z) → len < 33
      → AreEventsUpTo history len (length history) (slice_index_or lengths len d).items
  pub ordered : (len : ℕ) (d : Vec Event Z) → len < 33
      → AreOrdered (slice_index_or lengths len d).items
