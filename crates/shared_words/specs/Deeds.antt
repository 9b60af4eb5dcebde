-- Meaning: what a whole deed of a worker gains its view: a report, or a lookup of one address (DPDK
-- Programmer's Guide, "RCU Library": a worker comes online, is quiescent, goes offline; Gupta, Lin and
-- McKeown, INFOCOM 1998, section 3: a lookup reads one word or two).
use Rattle.std.specs.Prelude.{ℕ, ◌≡◌, List, [], ◌∷◌, ◌++◌, Option, Some, None, ◌+◌, ◌≤◌, All, map, reverse, length}
use Rattle.lpm_cells.specs.declared.entry.Entry.{Entry}
use Rattle.lpm_cells.specs.declared.entry.Entry.TheVariants.{Miss, Hop, Group}
use Rattle.lpm_cells.specs.Words.{entry_in, hop_in, IsFirstWord}
use Rattle.lpm_trace.specs.declared.step.WorkerStep.{WorkerStep}
use Rattle.lpm_trace.specs.declared.step.WorkerStep.TheVariants.{LoadFirst, LoadSecond, BeginLookup, EndLookup}
use Rattle.lpm_trace.specs.Trace.{FinishedLookup, Online, LookingUp, Probe, Answered, AreBegun, AreAnswered, read_first, worker_by}
use Rattle.lpm_trace.specs.States.{state_after, updates_done_in, updates_begun_in}
use Rattle.lpm_trace.specs.Laws.{IsLegalAtPlace}
use Rattle.shared_words.specs.declared.view.View.{View}
use Rattle.shared_words.specs.Layout.{initial_state_of}
use Rattle.shared_words.specs.Rule.{IsLater}
use Rattle.shared_words.specs.Seats.{Gains}

-- What a lookup loads for an address, and which hop that gives (Gupta, Lin and McKeown, INFOCOM
-- 1998, section 3: a lookup reads one word or two; the place of a load is this project's).

-- one address of a lookup, with its hop; its first word, and its second word where one is loaded, each with
-- the place of its load: how many of the writer's steps its worker had seen then
pub record AddressLookup : Type 0 where
  pub addr : ℕ
  pub hop : Option ℕ
  pub word : ℕ
  pub first : ℕ
  pub second : Option (ℕ × ℕ)

-- a second word is loaded exactly where the first word is a group's, and the hop is that of the last word
abbrev pub IsReadOn : Entry → Option (ℕ × ℕ) → Option ℕ → Type 0
IsReadOn Miss second hop = (second ≡ None) × (hop ≡ None)
IsReadOn (Hop number depth) second hop = (second ≡ None) × (hop ≡ Some number)
IsReadOn (Group group) second hop =
    (load : ℕ × ℕ) × (second ≡ Some load) × (hop ≡ hop_in (entry_in load.0))

-- the loads of an address's words, the newest first
abbrev pub loads_at : ℕ → ℕ → Option (ℕ × ℕ) → List (WorkerStep × ℕ)
loads_at word first None = (LoadFirst word, first) ∷ []
loads_at word first (Some second) = (LoadSecond second.0, second.1) ∷ (LoadFirst word, first) ∷ []

-- the place of the last of them
abbrev pub last_at : ℕ → Option (ℕ × ℕ) → ℕ
last_at first None = first
last_at first (Some second) = second.1

-- the lookup that is finished with these loads
abbrev pub seen_of : ℕ → ℕ → AddressLookup → FinishedLookup
seen_of lo hi f = record {
  addr = f.addr;
  hop = f.hop;
  first = f.first;
  last = last_at f.first f.second;
  lo = lo;
  hi = hi;
}

-- ---- several addresses

-- the loads of their first words, in the order of the addresses
abbrev pub firsts_at : List AddressLookup → List (WorkerStep × ℕ)
firsts_at [] = []
firsts_at (f ∷ found) = firsts_at found ++ (LoadFirst f.word, f.first) ∷ []

-- the load of a second word, where there is one
abbrev pub second_load : Option (ℕ × ℕ) → List (WorkerStep × ℕ)
second_load None = []
second_load (Some second) = (LoadSecond second.0, second.1) ∷ []

-- the loads of their second words, in the order of the addresses
abbrev pub seconds_at : List AddressLookup → List (WorkerStep × ℕ)
seconds_at [] = []
seconds_at (f ∷ found) = seconds_at found ++ second_load f.second

-- the view gains these steps, one after another, of which the newest stands first
abbrev pub GainsAll : List WorkerStep → View → View → Type 0
GainsAll [] v w = w ≡ v
GainsAll (s ∷ steps) v w = (u : View) × GainsAll steps v u × Gains s u w

-- nothing else of the view changes, and what it has seen of the writer's steps goes on
pub record GoesOn (v w : View) : Type 0 where
  pub same : w ≡ record v { own_steps = w.own_steps; writer_steps = w.writer_steps }
  pub later : IsLater v.writer_steps w.writer_steps

-- the view gains these steps, each at its place: how many of the writer's steps the worker had seen then
abbrev pub GainsAt : List (WorkerStep × ℕ) → View → View → Type 0
GainsAt [] v w = w ≡ v
GainsAt (s ∷ steps) v w =
    (u : View) × GainsAt steps v u × (gains : Gains s.0 u w) × (s.1 ≡ length gains.writer_steps)

-- ---- a lookup

-- a lookup of these addresses begins and ends with a load of the sequence: `lo` is how many updates were
-- done at the place of the first, and `hi` how many were begun at the place of the last
pub record LoadsAround (addrs : List ℕ) (lo hi : ℕ) (v started loaded w : View) : Type 0 where
  pub low : ℕ
  pub begins : Gains (BeginLookup addrs low) v started
  pub high : ℕ
  pub ends : Gains (EndLookup high) loaded w
  pub done_then : lo ≡ updates_done_in (state_after (initial_state_of v.initial) started.writer_steps)
  pub begun_then : hi ≡ updates_begun_in (state_after (initial_state_of v.initial) w.writer_steps)

-- the address is looked up: the sequence is loaded, its words, and the sequence again. This is the
-- worker's newest lookup. It is legal, and its words were loaded after all that the worker had seen of the
-- writer's steps when it began.
pub record LooksUp (addr : ℕ) (hop : Option ℕ) (lo hi : ℕ) (v w : View) : Type 0 where
  pub started : View
  pub loaded : View
  pub around : LoadsAround (addr ∷ []) lo hi v started loaded w
  pub found : AddressLookup
  pub steps : GainsAt (loads_at found.word found.first found.second) started loaded
  pub exact : IsReadOn (entry_in found.word) found.second found.hop
  pub answer : (found.addr ≡ addr) × (found.hop ≡ hop)
  pub rest : GoesOn v w
  pub online : (worker_by w.own_steps).phase ≡ Online
  pub finished : (worker_by w.own_steps).finished ≡ seen_of lo hi found ∷ (worker_by v.own_steps).finished
  pub after : length started.writer_steps ≤ found.first
  pub legal : IsLegalAtPlace (initial_state_of v.initial) w.writer_steps (seen_of lo hi found)

-- ---- a lookup of several addresses

-- the addresses with their first words, each of which was read at its place
abbrev pub first_words : List ℕ → List ℕ → List ℕ → List Probe
first_words (n ∷ places) (a ∷ addrs) (word ∷ words) =
    read_first n a (entry_in word) ∷ first_words places addrs words
first_words other addrs words = []

-- the loads of first words at these places
abbrev pub loads_first : List ℕ → List ℕ → List (WorkerStep × ℕ)
loads_first (n ∷ places) (word ∷ words) = loads_first places words ++ (LoadFirst word, n) ∷ []
loads_first other words = []

-- the first words of the addresses are loaded, after all that the worker had seen of the writer's steps
pub record LoadsFirsts (addrs words : List ℕ) (v w : View) : Type 0 where
  pub places : List ℕ
  pub count : length places ≡ length addrs
  pub steps : GainsAt (loads_first places words) v w
  pub rest : GoesOn v w
  pub after : All (λ place. length v.writer_steps ≤ place) places
  pub state : worker_by w.own_steps
      ≡ record (worker_by v.own_steps) { probes = first_words places addrs words }

-- the next address without its answer is this one, with this first word
pub record IsNextWith (addr word : ℕ) (probes : List Probe) : Type 0 where
  pub before : List Probe
  pub rest : List Probe
  pub first : ℕ
  pub answered : AreAnswered before
  pub begun : AreBegun rest
  pub split : probes ≡ before ++ read_first first addr (entry_in word) ∷ rest

-- a lookup goes on, and its next address without its answer is this one, with this first word, which may
-- stand
-- in the first table
pub record LooksFor (first second addr word : ℕ) (v : View) : Type 0 where
  pub fit : IsFirstWord (first + second) second v.initial.seconds word
  pub looking : (worker_by v.own_steps).phase ≡ LookingUp
  pub next : IsNextWith addr word (worker_by v.own_steps).probes

-- the word that answers is loaded, where that isn't the first word
pub record LoadsLast (addr word last : ℕ) (v w : View) : Type 0 where
  pub second : Option (ℕ × ℕ)
  pub steps : GainsAt (second_load second) v w
  pub exact : IsReadOn (entry_in word) second (hop_in (entry_in last))
  pub rest : GoesOn v w
  pub state : (next : IsNextWith addr word (worker_by v.own_steps).probes)
      → worker_by w.own_steps ≡ record (worker_by v.own_steps) {
        probes = next.before
            ++ Answered addr (hop_in (entry_in last)) next.first (last_at next.first second) ∷ next.rest;
      }

-- the addresses are looked up together: the sequence is loaded, a first word for each, a second word for
-- each first word that is a group's, and the sequence again. These are the worker's newest lookups. Each
-- is legal, and its words were loaded after all that the worker had seen of the writer's steps when they
-- began.
pub record LooksUpAll (addrs : List ℕ) (hops : List (Option ℕ)) (lo hi : ℕ) (v w : View) : Type 0 where
  pub started : View
  pub loaded : View
  pub around : LoadsAround addrs lo hi v started loaded w
  pub found : List AddressLookup
  pub steps : GainsAt (seconds_at found ++ firsts_at found) started loaded
  pub exact : All (λ f. IsReadOn (entry_in f.word) f.second f.hop) found
  pub addrs_are : map (λ (f : AddressLookup). f.addr) found ≡ addrs
  pub hops_are : map (λ (f : AddressLookup). f.hop) found ≡ hops
  pub rest : GoesOn v w
  pub online : (worker_by w.own_steps).phase ≡ Online
  pub finished : (worker_by w.own_steps).finished
      ≡ reverse (map (seen_of lo hi) found) ++ (worker_by v.own_steps).finished
  pub after : All (λ f. length started.writer_steps ≤ f.first) found
  pub legal : All (λ f. IsLegalAtPlace (initial_state_of v.initial) w.writer_steps (seen_of lo hi f)) found
