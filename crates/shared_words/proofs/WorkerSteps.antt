-- Each step of a worker is allowed, where the contract of its call says that it may come.
use Rattle.std.proofs.Common.{◌≡◌, ℕ, ◌+◌, ◌<◌, All, List, [], ◌∷◌, length, slice_index, refl, sym, ap, subst, ◌∙◌, arith, ◌/◌}
use Rattle.atomic_table.specs.Table.{Me, Allows, step}
use Rattle.lpm_cells.specs.declared.entry.Entry.{Entry}
use Rattle.lpm_cells.specs.declared.entry.Entry.TheVariants.{Miss, Hop, Group}
use Rattle.lpm_cells.specs.Words.{entry_in, IsLastWord, IsFirst, IsFirstWord, IsWords}
use Rattle.lpm_trace.specs.declared.step.WorkerStep.{WorkerStep}
use Rattle.lpm_trace.specs.declared.step.WorkerStep.TheVariants.{LoadOnline, StoreOnline, LoadQuiescent, StoreQuiescent, StoreOffline, BeginLookup, LoadFirst, LoadSecond, EndLookup, MeetWriter}
use Rattle.lpm_trace.specs.States.{TableState, addresses}
use Rattle.lpm_trace.specs.Trace.{Offline, ComingOnline, Online, LookingUp, ReportingQuiescent, Probe, Unread, InGroup, Answered, IsNextFirst, IsNextSecond, AreBegun, AreAnswered, IsBetweenDeeds, Phase, World, MayRead, after, worker_by}
use Rattle.lpm_trace.proofs.Promises.{words_are_entries}
use Rattle.shared_words.specs.declared.view.Role.TheVariants.{Worker, Writer as AsWriter}
use Rattle.shared_words.specs.declared.view.View.{View}
use Rattle.shared_words.specs.Layout.{InitialData, initial_state_of, half, first_at, second_at, sequence_at, token_at, counter_at, pairs}
use Rattle.shared_words.specs.Rule.{Holds}
use Rattle.shared_words.specs.Seats.{IsFirstAt, IsSecondAt, WorkerGains, IsOf, WordsAt, WorkerAt, IsWorkerSeat, WriterAt, WriterLooks, MayFollow, state_of_view}
use Rattle.shared_words.proofs.WorkerRule.{IsQuiet, St, load_allowed, plain, store_allowed}
use mathlib.Core.Option.{none}
use Rattle.atomic_table.specs.Seated.{TableId}
use Rattle.lpm_trace.specs.declared.step.WriterStep.{WriterStep}
use Rattle.lpm_trace.specs.declared.step.WriterStep.TheVariants.{StoreFirst, StoreSecond}
use Rattle.shared_words.proofs.WordPlaces.{firsts_length, seconds_length}
use Rattle.shared_words.proofs.WriterRule.{looks_allowed}

-- it gains the load of a first word, which may stand in the first table
abbrev pub WorkerGainsFirst : Me (Unit {0}) View → ℕ → Me (Unit {0}) View → Type 0
WorkerGainsFirst me n me' = WorkerGains (LoadFirst n) me me'
    × IsFirstWord (me.0.initial.first + me.0.initial.second) me.0.initial.second me.0.initial.seconds n

-- it gains the load of a second word, which ends a lookup
abbrev pub WorkerGainsSecond : Me (Unit {0}) View → ℕ → Me (Unit {0}) View → Type 0
WorkerGainsSecond me n me' = WorkerGains (LoadSecond n) me me'
    × IsLastWord (me.0.initial.first + me.0.initial.second) n

-- the place decides which first word is next, and which second word
next_first : (o : InitialData) (w : TableState) (word i : ℕ) (probes : List Probe) → IsFirstAt o.second i probes
    → word ≡ slice_index w.words.firsts i → IsNextFirst (initial_state_of o) w word probes
next_first o w word i [] at is = absurd at
next_first o w word i (Unread a ∷ rest) at is = is ∙ ap (slice_index w.words.firsts) at
next_first o w word i (InGroup a g f ∷ rest) at is = next_first o w word i rest at is
next_first o w word i (Answered a h f l ∷ rest) at is = next_first o w word i rest at is

next_second : (o : InitialData) (w : TableState) (word j : ℕ) (probes : List Probe) → IsSecondAt o.second j probes
    → word ≡ slice_index w.words.seconds j → IsNextSecond (initial_state_of o) w word probes
next_second o w word j [] at is = absurd at
next_second o w word j (Unread a ∷ rest) at is = absurd at
next_second o w word j (InGroup a g f ∷ rest) at is = is ∙ ap (slice_index w.words.seconds) at
next_second o w word j (Answered a h f l ∷ rest) at is = next_second o w word j rest at is

-- whether an entry may stand in the first table rests on how many second words there are
room : (second : ℕ) (xs ys : List ℕ) → length xs ≡ length ys → (e : Entry)
    → IsFirst second xs e → IsFirst second ys e
room second xs ys same Miss is = tt
room second xs ys same (Hop hop depth) is = tt
room second xs ys same (Group group) is = omega (arith, same, is)

module _ (o : InitialData) (slots id k at : ℕ) (me : Me (Unit {0}) View) (role : me.0.role ≡ Worker k) where
  -- a load of the word at this place
  abbrev Loads : ℕ → (ℕ → WorkerStep) → Type 0
  Loads i of = Allows (Holds o) slots id me i (λ n. n) (λ n me'. WorkerGains (of n) me me')

  abbrev Stores : ℕ → WorkerStep → ℕ → Type 0
  Stores i r x = Allows (Holds o) slots id me i (λ _. x) (λ _ me'. WorkerGains r me me')

  -- a load at place i, which the worker's own steps allow
  loads_allowed : (i : ℕ) (of : ℕ → WorkerStep) → at ≡ i → ((n : ℕ) → IsQuiet (of n))
      → ((s : St o) (h : Holds o s) → me.0.initial ≡ o
      → MayRead (initial_state_of o) (after (initial_state_of o) h.steps).state (worker_by me.0.own_steps) (of (slice_index s.words i)))
      → Loads at of
  loads_allowed i of there quiet may = subst (λ j. Loads j of) (sym there) (plain o of slots id i me
      (load_allowed o of (λ _. Unit {0}) slots id k i me role quiet (λ s h same. (may s h same, tt))))

  pub load_online_allowed : at ≡ token_at → (worker_by me.0.own_steps).phase ≡ Offline → Loads at LoadOnline
  load_online_allowed there offline = loads_allowed token_at LoadOnline there (λ n now w. refl) (λ s h same. (offline, h.words.token))

  pub load_quiescent_allowed : at ≡ token_at → (worker_by me.0.own_steps).phase ≡ Online → Loads at LoadQuiescent
  load_quiescent_allowed there online = loads_allowed token_at LoadQuiescent there (λ n now w. refl) (λ s h same. (online, h.words.token))

  pub begins_allowed : (addrs : List ℕ) → at ≡ sequence_at → (worker_by me.0.own_steps).phase ≡ Online
      → All (λ a. a < addresses (initial_state_of me.0.initial)) addrs → Loads at (BeginLookup addrs)
  begins_allowed addrs there online inside = loads_allowed sequence_at (BeginLookup addrs) there (λ n now w. refl) (λ s h same.
      let within = subst (λ (z : InitialData). All (λ a. a < addresses (initial_state_of z)) addrs) same inside in
      (online, within, h.words.sequence))

  pub ends_allowed : at ≡ sequence_at → (worker_by me.0.own_steps).phase ≡ LookingUp
      → AreAnswered (worker_by me.0.own_steps).probes → Loads at EndLookup
  ends_allowed there looking answered =
      loads_allowed sequence_at EndLookup there (λ n now w. refl) (λ s h same. (looking, answered, h.words.sequence))

  pub meets_allowed : at ≡ sequence_at → IsBetweenDeeds (worker_by me.0.own_steps).phase → Loads at MeetWriter
  meets_allowed there between =
      loads_allowed sequence_at MeetWriter there (λ n now w. refl) (λ s h same. (between, h.words.sequence))

  pub first_allowed : (i : ℕ) → at ≡ first_at i → i < length o.firsts
      → (worker_by me.0.own_steps).phase ≡ LookingUp
      → IsFirstAt me.0.initial.second i (worker_by me.0.own_steps).probes
      → Allows (Holds o) slots id me at (λ n. n) (λ n. WorkerGainsFirst me (half i n))
  first_allowed i there inside looking next = subst
      (λ q. Allows (Holds o) slots id me q (λ n. n) (λ n. WorkerGainsFirst me (half i n))) (sym there)
      (load_allowed o (λ n. LoadFirst (half i n))
      (λ n. IsFirstWord (me.0.initial.first + me.0.initial.second) me.0.initial.second me.0.initial.seconds
      (half i n))
      slots id k (first_at i) me role (λ n now w. refl)
      (λ s h same.
      let w : World = after (initial_state_of o) h.steps in
      let word : ℕ = half i (slice_index s.words (first_at i)) in
      let is : word ≡ slice_index w.state.words.firsts i = h.words.firsts i inside in
      let entries : IsWords o.first o.second w.state.words =
      words_are_entries (initial_state_of o) h.steps h.settled h.trace in
      let there : IsFirstWord (o.first + o.second) o.second w.state.words.seconds word = subst
      (IsFirstWord (o.first + o.second) o.second w.state.words.seconds) (sym is)
      (entries.first_words i (omega (arith, inside, h.words.firsts_len))) in (
        (
          looking,
          next_first o w.state word i (worker_by me.0.own_steps).probes
              (subst (λ (z : InitialData). IsFirstAt z.second i (worker_by me.0.own_steps).probes) same next) is,
        ),
        subst (λ (z : InitialData). IsFirstWord (z.first + z.second) z.second z.seconds word) (sym same) (
          there.0,
          room o.second w.state.words.seconds o.seconds h.words.seconds_len (entry_in word) there.1,
        ),
      )))

  pub second_allowed : (j : ℕ) → at ≡ second_at o j → j < length o.seconds
      → (worker_by me.0.own_steps).phase ≡ LookingUp → AreBegun (worker_by me.0.own_steps).probes
      → IsSecondAt me.0.initial.second j (worker_by me.0.own_steps).probes
      → Allows (Holds o) slots id me at (λ n. n) (λ n. WorkerGainsSecond me (half j n))
  second_allowed j there inside looking begun next = subst
      (λ q. Allows (Holds o) slots id me q (λ n. n) (λ n. WorkerGainsSecond me (half j n))) (sym there)
      (load_allowed o (λ n. LoadSecond (half j n))
      (λ n. IsLastWord (me.0.initial.first + me.0.initial.second) (half j n))
      slots id k (second_at o j) me role (λ n now w. refl)
      (λ s h same.
      let w : World = after (initial_state_of o) h.steps in
      let word : ℕ = half j (slice_index s.words (second_at o j)) in
      let is : word ≡ slice_index w.state.words.seconds j = h.words.seconds j inside in
      let entries : IsWords o.first o.second w.state.words =
      words_are_entries (initial_state_of o) h.steps h.settled h.trace in (
        (
          looking,
          begun,
          next_second o w.state word j (worker_by me.0.own_steps).probes
              (subst (λ (z : InitialData). IsSecondAt z.second j (worker_by me.0.own_steps).probes) same next) is,
        ),
        subst (λ (z : InitialData). IsLastWord (z.first + z.second) word) (sym same)
            (subst (IsLastWord (o.first + o.second)) (sym is)
            (entries.second_words j (omega (arith, inside, h.words.seconds_len)))),
      )))

  pub store_online_allowed : (token : ℕ) → at ≡ counter_at o k
      → (worker_by me.0.own_steps).phase ≡ ComingOnline token
      → Stores at (StoreOnline token) token
  store_online_allowed token there loaded = subst (λ i. Stores i (StoreOnline token) token) (sym there)
      (store_allowed o (StoreOnline token) token slots id k me role (λ now w. refl) (λ s h. loaded))

  pub store_quiescent_allowed : (token : ℕ) → at ≡ counter_at o k
      → (worker_by me.0.own_steps).phase ≡ ReportingQuiescent token → Stores at (StoreQuiescent token) token
  store_quiescent_allowed token there loaded = subst (λ i. Stores i (StoreQuiescent token) token) (sym there)
      (store_allowed o (StoreQuiescent token) token slots id k me role (λ now w. refl) (λ s h. loaded))

  pub store_offline_allowed : at ≡ counter_at o k → (worker_by me.0.own_steps).phase ≡ Online
      → Stores at StoreOffline 0
  store_offline_allowed there online = subst (λ i. Stores i StoreOffline 0) (sym there)
      (store_allowed o StoreOffline 0 slots id k me role (λ now w. refl) (λ s h. online))

-- What a call asks of a seat, by the seat's fields.

-- what a call asks of a seat holds of its fields and of those of the words
pub own_inside : {w x : WordsAt} {a b : WorkerAt} → w ≡ x → a ≡ b → IsOf x b.table b.view → IsOf w a.table a.view
own_inside words same own =
    subst (λ (z : WordsAt × WorkerAt). IsOf z.0 z.1.table z.1.view) (λ i. (sym words i, sym same i)) own

pub writer_inside : {w x : WordsAt} {a b : WriterAt} → w ≡ x → a ≡ b → IsOf x b.table b.view → IsOf w a.table a.view
writer_inside words same own =
    subst (λ (z : WordsAt × WriterAt). IsOf z.0 z.1.table z.1.view) (λ i. (sym words i, sym same i)) own

pub phase_inside : {p : Phase} {a b : WorkerAt} → a ≡ b → (worker_by b.view.own_steps).phase ≡ p
    → (worker_by a.view.own_steps).phase ≡ p
phase_inside same is = ap (λ (s : WorkerAt). (worker_by s.view.own_steps).phase) same ∙ is

-- a store into the worker's counter is inside the table
pub at_counter : {X : Type 0} {at number : ℕ} {w : WordsAt} {seat : TableId} {me : Me (Unit {0}) View}
    → IsWorkerSeat number me → IsOf w seat me.0
    → at ≡ 2 + pairs w.layout.firsts + pairs w.layout.seconds + number → (at ≡ counter_at w.initial number → X)
    → (seat ≡ w.table) × (at < w.table.words) × X
at_counter {X} {at} {number} {w} {seat} {me} is own there then =
    let below : number < w.initial.workers = subst (λ (z : InitialData). number < z.workers) own.initial_is is.inside in (
      own.same,
      omega (arith, below, there, own.firsts, own.seconds, own.words),
      then (omega (arith, there, own.firsts, own.seconds)),
    )

-- ---- the writer

-- what it may do next by its value it may do by its fields
pub may_inside : (s : WriterStep) {a b : WriterAt} → a ≡ b → MayFollow b.view s → MayFollow a.view s
may_inside s same may = subst (λ (z : WriterAt). MayFollow z.view s) (sym same) may

-- the next number, by its value and by its fields
pub next_inside : (of : TableState → ℕ) {n : ℕ} {a b : WriterAt} → a ≡ b → n ≡ of (state_of_view b.view) + 1
    → n ≡ of (state_of_view a.view) + 1
next_inside of {n} same next = subst (λ (z : WriterAt). n ≡ of (state_of_view z.view) + 1) (sym same) next

-- a call at a place of the table
pub in_table : {X : Type 0} {at : ℕ} {w x : WordsAt} {a b : WriterAt} → w ≡ x → a ≡ b → IsOf x b.table b.view
    → (IsOf w a.table a.view → at < w.table.words) → X → (a.table ≡ w.table) × (at < w.table.words) × X
in_table words same own low then = let inside = writer_inside words same own in (inside.same, low inside, then)

-- it looks at a word that it alone changes
pub looks : {o : InitialData} {slots id at : ℕ} {me : Me (Unit {0}) View} {w x : WordsAt} {a b : WriterAt}
    → me.0.role ≡ AsWriter → w ≡ x → a ≡ b → IsOf x b.table b.view → (IsOf w a.table a.view → at < w.table.words)
    → (a.table ≡ w.table) × (at < w.table.words)
    × Allows (Holds o) slots id me at (λ n. n) (WriterLooks (step slots at 0 0 none) me)
looks {o} {slots} {id} {at} {me} was words same own low = in_table words same own low (looks_allowed o slots id at me was)

-- a word that it may store lies inside the table
pub first_inside : {w : WordsAt} {a b : WriterAt} {i word at : ℕ} → IsOf w a.table a.view → a ≡ b
    → MayFollow b.view (StoreFirst i word) → at ≡ first_at i → at < w.table.words
first_inside {w} {a} {b} {i} {word} own same may there =
    let len = ap (λ (z : InitialData). length z.firsts) own.initial_is in
    let inside = may_inside (StoreFirst i word) same may in
    omega (arith, len, inside.0.1, firsts_length (initial_state_of a.view.initial) a.view.writer_steps, there, own.words)

pub second_inside : {w : WordsAt} {a b : WriterAt} {j word at : ℕ} → IsOf w a.table a.view → a ≡ b
    → MayFollow b.view (StoreSecond j word) → at ≡ 2 + pairs w.layout.firsts + j / 2 → at < w.table.words
second_inside {w} {a} {b} {j} {word} own same may there =
    let len = ap (λ (z : InitialData). length z.seconds) own.initial_is in
    let inside = may_inside (StoreSecond j word) same may in
    omega (
      arith,
      len,
      inside.0.1,
      seconds_length (initial_state_of a.view.initial) a.view.writer_steps,
      there,
      own.firsts,
      own.words,
    )
