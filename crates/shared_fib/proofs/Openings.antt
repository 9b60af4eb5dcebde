-- A running table goes on from the parts of a table of one thread, of which no group waits.
use Rattle.std.proofs.Common.{◌≡◌, ℕ, ◌+◌, ◌/◌, ◌<◌, ◌≤◌, List, [], length, map, slice_index, ap, ◌∙◌, arith, ◌^◌, refl, sym, subst, slice_get, Option, Some, None}
use Rattle.std.specs.List.{range_with_len}
use Rattle.std.proofs.lemmas.List.{ext_get_or}
use Rattle.std.proofs.lemmas.List.FromFn.{length-map-range_with_len, get_or-map-range_with_len}
use Rattle.lpm_cells.specs.Words.{Words}
use Rattle.lpm_cells.proofs.ReadBack.{word_below}
use Rattle.lpm_groups.specs.declared.GroupState.{GroupState}
use Rattle.lpm_rules.specs.RuleMap.{RuleMap}
use Rattle.lpm_trace.specs.States.{IsSettled, Unused, Linked}
use Rattle.lpm_trace.specs.Trace.{after}
use Rattle.shared_words.specs.declared.layout.Layout.{Layout}
use Rattle.shared_words.specs.Layout.{InitialData, initial_state_of, words_of, status_of, IsLaidOut, half, pairs, first_at, second_at, token_at, initial_words}
use Rattle.shared_words.proofs.WordPlaces.{lays_initial}
use Rattle.shared_fib.specs.Initial.{ArePacked, initial_data_by, initial_data_of_words, unpacked_words, block_of}
use Rattle.std.specs.Prelude.{option_map}
use Rattle.std.specs.FinMap.{empty}
use Rattle.std.proofs.lemmas.Option.{none-some, slice_get-map}
use Rattle.atomic_table.specs.Seated.{TableId}
use Rattle.lpm_groups.specs.declared.GroupState.TheVariants.{Free, Linked as LinkedTo, Limbo}
use Rattle.lpm_limits.specs.declared.config.Config.{Config}
use Rattle.lpm_update.specs.BlockGroups.{group_at}
use Rattle.lpm_update.specs.Represents.{Represents}
use Rattle.lpm_update.specs.GroupStates.{IsTied, HasGroupRoom}
use Rattle.defer_queue.specs.Limbo.{Limbo as Queue}
use Rattle.lpm_writer.specs.declared.plain_memory.PlainMemory.{PlainMemory}
use Rattle.lpm_writer.specs.declared.control.ControlState.{ControlState}
use Rattle.lpm_writer.specs.Plain.{PlainDid}
use Rattle.lpm_writer.specs.Rest.{blank_initial_state, IsResting, state_of}
use Rattle.lpm_writer.specs.Limbo.{tokens_of}
use Rattle.fib.specs.Fib.{IsSound}
use Rattle.shared_words.specs.declared.view.View.{View}
use Rattle.shared_words.specs.Rule.{writer_view}
use Rattle.shared_words.specs.Seats.{IsOf, WordsAt}
use Rattle.shared_fib.specs.declared.initial_table.InitialTable.{InitialTable}
use Rattle.shared_fib.specs.InitialTable.{IsInitialTable}
use Rattle.shared_fib.specs.RunningTable.{Identity, WriterState, IsSoundWriter, initial_data_of, initial_writer}
use Rattle.shared_fib.proofs.Live.{live_settled, live_rests}

-- The words that were packed for a table are unpacked again.

-- a list of n numbers is known by what stands at each place
listed : (f : ℕ → ℕ) (n : ℕ) (xs : List ℕ) → n ≡ length xs → ((i : ℕ) → i < n → f i ≡ slice_index xs i)
    → map f (range_with_len 0 n) ≡ xs
listed f n xs many is =
    let len : length (map f (range_with_len 0 n)) ≡ n = length-map-range_with_len f 0 n in
    ext_get_or 0 (map f (range_with_len 0 n)) xs (len ∙ many)
    (λ i lt. get_or-map-range_with_len f 0 n i i 0 (omega (arith, lt, len)) (omega arith) ∙ is i (omega (arith, lt, len)))

module _ (o : InitialData) (words : List ℕ) (layout : Layout) (packed : ArePacked o words layout)
    (settled : IsSettled (initial_state_of o)) (widths : o.first + o.second ≤ 32) where
  lays : IsLaidOut o (initial_words o) (after (initial_state_of o) [])
  lays = lays_initial o
      (λ i lt. word_below (o.first + o.second) _ widths (settled.words.first_words i lt).0)
      (λ j lt. word_below (o.first + o.second) _ widths (settled.words.second_words j lt).0)

  firsts : (unpacked_words words layout).firsts ≡ o.firsts
  firsts = listed (λ i. half i (slice_index words (first_at i))) layout.firsts o.firsts packed.firsts
      (λ i lt. ap (λ (ws : List ℕ). half i (slice_index ws (first_at i))) packed.words
      ∙ lays.firsts i (omega (arith, lt, packed.firsts)))

  seconds : (unpacked_words words layout).seconds ≡ o.seconds
  seconds = listed (λ j. half j (slice_index words (2 + pairs layout.firsts + j / 2))) layout.seconds o.seconds packed.seconds
      (λ j lt. ap (λ (n : ℕ). half j (slice_index words (2 + pairs n + j / 2))) packed.firsts
      ∙ ap (λ (ws : List ℕ). half j (slice_index ws (second_at o j))) packed.words
      ∙ lays.seconds j (omega (arith, lt, packed.seconds)))

  unpacks : unpacked_words words layout ≡ words_of o
  unpacks = λ i. record { firsts = firsts i; seconds = seconds i }

  token_is : slice_index words token_at ≡ o.token
  token_is = ap (λ (ws : List ℕ). slice_index ws token_at) packed.words

-- a table is opened with what its words were packed for
pub opened_as_packed : (first second : ℕ) (t : Words) (R : RuleMap) (states : List GroupState) (workers token : ℕ)
    (words : List ℕ) (layout : Layout) → ArePacked (initial_data_by first second t R states workers token) words layout
    → IsSettled (initial_state_of (initial_data_by first second t R states workers token)) → first + second ≤ 32
    → initial_data_of_words first second words layout R states ≡ initial_data_by first second t R states workers token
opened_as_packed first second t R states workers token words layout packed settled widths = λ i.
    initial_data_by first second
    (unpacks (initial_data_by first second t R states workers token) words layout packed settled widths i) R states
    (packed.workers i)
    (token_is (initial_data_by first second t R states workers token) words layout packed settled widths i)

-- ---- what was loaded

module _ (f s : ℕ) (control : ControlState f s) (memory : PlainMemory f s) where
  abbrev pub loads : InitialData
  loads = initial_data_by f s memory.cells control.rules.rules control.pool.groups control.config.workers memory.domain.token

  -- the control state of a table that goes on, before its first change
  abbrev pub first_kept : ControlState f s
  first_kept = record control { pool = record control.pool { passed = 0 }; versions = 0 }

  -- a control state of what was loaded
  kept_by : (config : Config) (queue : Queue) (l : InitialTable f s) → config ≡ control.config → queue ≡ control.pool.queue
      → l.rules ≡ control.rules → l.groups ≡ control.pool.groups
      → record { config = config; rules = l.rules; pool = record { groups = l.groups; queue = queue; passed = 0 }; versions = 0 } ≡ first_kept
  kept_by config queue l same waits rules groups = λ i. record {
    config = same i;
    rules = rules i;
    pool = record { groups = groups i; queue = waits i; passed = 0 };
    versions = 0;
  }

  -- the words of a list that begins with this token
  pub loaded_packed : (l : InitialTable f s) (token : ℕ) → token ≡ memory.domain.token
      → l.words.items ≡ initial_words (record loads { token = token }) → l.layout.firsts ≡ length memory.cells.firsts
      → l.layout.seconds ≡ length memory.cells.seconds → l.layout.workers ≡ control.config.workers
      → ArePacked loads l.words.items l.layout
  loaded_packed l token same words firsts seconds workers = record {
    words = words ∙ ap (λ (n : ℕ). initial_words (record loads { token = n })) same;
    firsts = firsts;
    seconds = seconds;
    workers = workers;
  }

  module _ (sound : IsSound f s control memory) (none : control.pool.queue.items ≡ []) where
    represents : Represents f s control.rules.rules memory.cells
    represents = subst (Represents f s control.rules.rules) (sym sound.2.did.words) sound.2.rests.represents

    tied : IsTied f control.pool.groups (group_at memory.cells.firsts)
    tied = subst (λ (t : Words). IsTied f control.pool.groups (group_at t.firsts)) (sym sound.2.did.words) sound.2.rests.tied

    room : HasGroupRoom s memory.cells control.pool.groups
    room = subst (λ (t : Words). HasGroupRoom s t control.pool.groups) (sym sound.2.did.words) sound.2.rests.room

    settled : 0 < memory.domain.token → IsSettled (initial_state_of loads)
    settled = live_settled f s memory.cells control.rules.rules control.pool.groups control.config memory.domain.token represents tied

    abbrev no_queue : Queue
    no_queue = record { items = []; capacity = length control.pool.groups }

    same_queue : no_queue ≡ control.pool.queue
    same_queue = λ i. record { items = sym none i; capacity = sym sound.2.rests.queued.room i }

    rests : IsResting f s (initial_state_of loads) [] control.config control.rules first_kept.pool 0
    rests = subst
        (λ (q : Queue). IsResting f s (initial_state_of loads) [] control.config control.rules
        (record { groups = control.pool.groups; queue = q; passed = 0 }) 0)
        same_queue
        (live_rests f s memory.cells control.rules.rules control.pool.groups control.config memory.domain.token represents tied
        control.rules.max sound.2.rests.shape sound.2.rests.limits sound.2.rests.max sound.2.rests.states room
        (sym sound.2.rests.queued.all ∙ ap length none))

    -- the words were packed for the table that was loaded
    pub opens_loaded : (l : InitialTable f s) → l.rules ≡ control.rules → l.groups ≡ control.pool.groups
        → 0 < memory.domain.token → ArePacked loads l.words.items l.layout → initial_data_of f s l ≡ loads
    opens_loaded l rules groups low packed =
        (λ i. initial_data_of_words f s l.words.items l.layout (rules i).rules (groups i))
        ∙ opened_as_packed f s memory.cells control.rules.rules control.pool.groups control.config.workers memory.domain.token
        l.words.items l.layout packed (settled low) sound.2.rests.shape.2

    packs_loaded : (l : InitialTable f s) → l.rules ≡ control.rules → l.groups ≡ control.pool.groups
        → 0 < memory.domain.token → ArePacked loads l.words.items l.layout
        → ArePacked (initial_data_of f s l) l.words.items l.layout
    packs_loaded l rules groups low packed =
        subst (λ (o : InitialData). ArePacked o l.words.items l.layout) (sym (opens_loaded l rules groups low packed)) packed

    -- a running table may go on from it
    pub loaded_is : (config : Config) (queue : Queue) (l : InitialTable f s) → config ≡ control.config → queue ≡ control.pool.queue
        → l.rules ≡ control.rules → l.groups ≡ control.pool.groups → 0 < memory.domain.token
        → memory.domain.token ≤ 2 ^ 62 → ArePacked loads l.words.items l.layout → IsInitialTable f s config queue l
    loaded_is config queue l same waits rules groups low high packed =
        let is = opens_loaded l rules groups low packed in
        record {
          shape = sound.2.rests.shape;
          packed = packs_loaded l rules groups low packed;
          settled = subst (λ (x : InitialData). IsSettled (initial_state_of x)) (sym is) (settled low);
          token = subst (λ (x : InitialData). x.token ≤ 2 ^ 62) (sym is) high;
          none = ap (λ (q : Queue). q.items) waits ∙ none;
          rests = subst (λ (z : InitialData × ControlState f s). IsResting f s (initial_state_of z.0) [] z.1.config z.1.rules z.1.pool z.1.versions)
              (λ i. (sym is i, sym (kept_by config queue l same waits rules groups) i)) rests;
        }

-- ---- the table, and its writer once all passes are made

module _ (f s : ℕ) (key : InitialTable f s) (words : WordsAt) (seat : TableId) (v w : View) (made : ℕ)
    (is : words.initial ≡ initial_data_of f s key) (own : IsOf words seat v) (view : v ≡ writer_view (initial_data_of f s key))
    (now : w ≡ record v { made = made }) where
  abbrev pub identity_by : Identity
  identity_by = record { words = words.table; initial = words.initial }

  now_is : w ≡ record (writer_view (initial_data_of f s key)) { made = made }
  now_is = now ∙ ap (λ (x : View). record x { made = made }) view

  pub ready : (z : ControlState f s) → IsResting f s (initial_state_of (initial_data_of f s key)) [] z.config z.rules z.pool z.versions
      → (initial_data_of f s key).token ≤ 2 ^ 62 → IsSoundWriter f s z w
  ready z rests high = subst (IsSoundWriter f s z) (sym now_is) (record { rests = rests; token = high })

  -- what a contract sees of the writer that has this seat and this control state
  abbrev pub state_by : TableId → ControlState f s → WriterState
  state_by after z = record {
    identity = record { words = after; initial = w.initial };
    config = z.config;
    table = state_of z.rules.rules w.writer_steps z.pool z.versions;
  }

  pub opens : (after : TableId) (z : ControlState f s) → after ≡ seat → z.pool.queue.items ≡ [] → z.versions ≡ 0
      → state_by after z ≡ initial_writer identity_by z.config z.rules.rules
  opens after z same none new =
      let initial : w.initial ≡ words.initial = ap (λ (x : View). x.initial) now_is ∙ sym is in
      λ i. record {
        identity = record { words = (same ∙ own.same) i; initial = initial i };
        config = z.config;
        table = record {
          rules = z.rules.rules;
          readers = ap (λ (x : View). x.writer_steps) now_is i;
          limbo = ap tokens_of none i;
          updates_begun = new i;
        };
      }

-- ---- a table without rules

no_link : (b : ℕ) → Unused ≡ Linked b → ⊥
no_link b e = cc

-- what stands in the list of blocks for a group of which no step says that it is linked
no_block : (x : Option GroupState) → ((b : ℕ) → x ≡ Some (LinkedTo b) → ⊥) → status_of (option_map block_of x) ≡ Unused
no_block None none = refl
no_block (Some Free) none = refl
no_block (Some (LinkedTo b)) none = absurd (none b refl)
no_block (Some Limbo) none = refl

-- it is opened with words that are all misses, and groups that were never linked
pub opens_blank : (f s : ℕ) (config : Config) (control : ControlState f s) (memory : PlainMemory f s)
    → PlainDid f s memory.cells memory.domain (blank_initial_state f s config) []
    → IsResting f s (blank_initial_state f s config) [] control.config control.rules control.pool control.versions
    → control.config ≡ config → control.rules.rules ≡ empty
    → initial_state_of (initial_data_by f s memory.cells control.rules.rules control.pool.groups control.config.workers memory.domain.token)
    ≡ blank_initial_state f s config
opens_blank f s config control memory did rests same none = λ i. record {
  first = f;
  second = s;
  workers = ap (λ (x : Config). x.workers) same i;
  token = did.token i;
  words = record { firsts = ap (λ (t : Words). t.firsts) did.words i; seconds = ap (λ (t : Words). t.seconds) did.words i };
  rules = none i;
  groups = λ g. unused g i;
}
  where
    unused : (g : ℕ) → status_of (slice_get (map block_of control.pool.groups) g) ≡ Unused
    unused g = ap status_of (slice_get-map block_of control.pool.groups g)
        ∙ no_block (slice_get control.pool.groups g) (λ b at. no_link b (rests.keeps.kept.linked g b at (λ e. none-some g e)))
