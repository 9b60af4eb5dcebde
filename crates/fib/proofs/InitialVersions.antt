-- A table that opens with the words that were swept for a list of rules, as any version.
use Rattle.std.proofs.Common.{◌≡◌, ℕ, ◌^◌, ◌≤◌, inr, refl, ap, sym, subst, ◌∙◌, List, [], length, Option, Some, None, arith, ◌-◌, ◌*◌, ◌++◌, map}
use Rattle.std.specs.Prelude.{slice_get, replicate}
use Rattle.std.proofs.lemmas.List.{length-replicate, length-append, length-map}
use Rattle.lpm_bits.specs.Widths.{IsShape}
use Rattle.lpm_groups.specs.declared.GroupState.{GroupState}
use Rattle.lpm_groups.specs.declared.GroupState.TheVariants.{Free, Linked, Limbo}
use Rattle.lpm_groups.specs.States.{limbo_count}
use Rattle.lpm_limits.specs.Limits.{IsConfig}
use Rattle.lpm_limits.specs.declared.config.Config.{Config}
use Rattle.lpm_update.specs.BlockGroups.{group_at}
use Rattle.lpm_update.specs.Represents.{Represents}
use Rattle.lpm_update.specs.GroupStates.{IsTied, HasGroupRoom}
use Rattle.qsbr.specs.Counters.{Passes, Registry}
use Rattle.lpm_trace.specs.States.{InitialState, Status, Unused, Retired}
use Rattle.lpm_writer.specs.declared.plain_memory.PlainMemory.{PlainMemory}
use Rattle.lpm_writer.specs.declared.control.ControlState.{ControlState}
use Rattle.lpm_writer.specs.declared.pool.GroupPool.{GroupPool}
use Rattle.lpm_writer.specs.Rest.{IsResting}
use Rattle.lpm_writer.proofs.Initial.{status_at_first, unused_retired, beginning, begins_resting}
use Rattle.lpm_writer.proofs.Reclaims.{linked_not_retired}
use Rattle.lpm_writer.proofs.SameRules.{unchanging, unchanged, unchanged_stays, rests_after_unchanged}
use Rattle.fib.specs.Fib.{IsSound}
use Rattle.std.proofs.Math.Nat.{mul-le-mul_right}
use Rattle.lpm_cells.specs.Words.{Words}
use Rattle.lpm_groups.proofs.Marks.{limbo_count-of_blocks}
use Rattle.lpm_rules.specs.RuleMap.{RuleMap}
use Rattle.lpm_sweep.specs.SweepWords.{AreNumbered}
use Rattle.lpm_sweep.proofs.NewGroup.{room_grown, tied}

-- what is known at first of the group at a place of the list, or of one past its end
abbrev status_in : Option GroupState → Status
status_in None = Unused
status_in (Some state) = status_at_first state

known_in : (o : Option GroupState) (state : GroupState) → o ≡ Some state → status_in o ≡ status_at_first state
known_in o state e = ap status_in e

never_at_first : (state : GroupState) (t : ℕ) → status_at_first state ≡ Retired t → ⊥
never_at_first Free t e = unused_retired t e
never_at_first (Linked block) t e = linked_not_retired block t e
never_at_first Limbo t e = unused_retired t e

never_in : (o : Option GroupState) (t : ℕ) → status_in o ≡ Retired t → ⊥
never_in None t e = unused_retired t e
never_in (Some state) t e = never_at_first state t e

module _ (f s : ℕ) (config : Config) (control : ControlState f s) (memory : PlainMemory f s) where
  abbrev xs : List GroupState
  xs = control.pool.groups

  abbrev initial : Represents f s control.rules.rules memory.cells → IsTied f xs (group_at memory.cells.firsts) → InitialState
  initial represents tied = beginning f s memory.cells control.rules.rules xs config memory.domain.token (λ g. status_in (slice_get xs g)) represents tied
      (λ g state here. known_in (slice_get xs g) state here) (λ g x e. never_in (slice_get xs g) x e)

  -- a control state of these rules and groups and a memory of these words, to which as many updates led as the
  -- control state counts. Each of them can be one that left the rules as they were.
  pub sound_begun : IsShape f s → IsConfig config → control.config ≡ config → control.rules.max ≡ config.rules
      → control.versions ≤ 2 ^ 61 → control.pool ≡ record { groups = xs; queue = record { items = []; capacity = length xs }; passed = 0 }
      → length xs ≡ config.groups → HasGroupRoom s memory.cells xs → limbo_count xs ≡ 0
      → memory.domain.counters ≡ replicate config.workers 0
      → Represents f s control.rules.rules memory.cells → IsTied f xs (group_at memory.cells.firsts)
      → IsSound f s control memory
  sound_begun shape limits same max few pool states room none counters represents tied =
      let c = initial represents tied in
      let b : GroupPool = record { groups = xs; queue = record { items = []; capacity = length xs }; passed = 0 } in
      let begins : IsResting f s c [] config control.rules b 0 =
      begins_resting f s memory.cells control.rules.rules xs config memory.domain.token (λ g. status_in (slice_get xs g)) represents tied
      (λ g state here. known_in (slice_get xs g) state here) (λ g x e. never_in (slice_get xs g) x e)
      control.rules.max shape limits max states room none in
      let change = unchanging f s control.rules.rules memory.cells represents in
      let steps = unchanged change.0 control.versions in
      let after = rests_after_unchanged f s c config control.rules b change.0 change.1 begins control.versions few in
      let stays = unchanged_stays c change.0 control.versions in (
        c,
        steps,
        record {
          did = record {
            first_bits = refl;
            second_bits = refl;
            workers = ap length counters ∙ length-replicate config.workers 0;
            written = after.0;
            words = sym stays.words;
            token = sym stays.token;
          };
          rests = subst (λ (x : GroupPool). IsResting f s c steps control.config control.rules x control.versions) (sym pool)
              (subst (λ (k : Config). IsResting f s c steps k control.rules b control.versions) (sym same) after.1);
          passed = subst (λ p. Passes p memory.domain.counters) (sym stays.passed) (λ w low. inr (omega arith));
        },
      )

-- A table that opens with swept words: its groups are linked to the swept blocks, and there is room for
-- more of them.

-- fewer groups have fewer words
pub fewer_words : (n m w : ℕ) → n ≤ m → n * w ≤ m * w
fewer_words n m w h = mul-le-mul_right w h

module _ (f s : ℕ) (config : Config) (R : RuleMap) (versions : ℕ) (blocks F S : List ℕ) where
  abbrev pub free : ℕ
  free = config.groups - length blocks

  abbrev pub groups : List GroupState
  groups = map Linked blocks ++ replicate free Free

  abbrev pub more : ℕ
  more = config.groups * 2 ^ s - length S

  abbrev pub words : Words
  words = record { firsts = F; seconds = S ++ replicate more 0 }

  abbrev pub pool : GroupPool
  pool = record { groups = groups; queue = record { items = []; capacity = config.groups }; passed = 0 }

  abbrev pub control : ControlState f s
  control = record { config = config; rules = record { rules = R; max = config.rules }; pool = pool; versions = versions }

  abbrev pub domain : Registry
  domain = record { token = config.first_token; counters = replicate config.workers 0 }

  abbrev pub memory : PlainMemory f s
  memory = record { cells = words; domain = domain }

  module _ (shape : IsShape f s) (limits : IsConfig config) (represents : Represents f s R (record { firsts = F; seconds = S }))
      (numbered : AreNumbered F blocks) (room : length S ≡ length blocks * 2 ^ s) (few : length blocks ≤ config.groups) (count : versions ≤ 2 ^ 61) where
    size : length groups ≡ config.groups
    size =
        let all = length-append (map Linked blocks) (replicate free Free) in
        let front = length-map blocks Linked in
        let back = length-replicate free Free in
        omega (arith, all, front, back, few)

    long : length (S ++ replicate more 0) ≡ config.groups * 2 ^ s
    long =
        let all = length-append S (replicate more 0) in
        let back = length-replicate {A = ℕ} more 0 in
        let fits = fewer_words (length blocks) config.groups (2 ^ s) few in
        omega (arith, all, back, fits, room)

    has_room : HasGroupRoom s words groups
    has_room = record {
      few = omega (arith, size, limits.groups.1);
      words = long ∙ ap (λ n. n * 2 ^ s) (sym size);
    }

    same_books : pool ≡ record { groups = groups; queue = record { items = []; capacity = length groups }; passed = 0 }
    same_books = λ i. record { groups = groups; queue = record { items = []; capacity = sym size i }; passed = 0 }

    sound : IsSound f s control memory
    sound = sound_begun f s config control memory shape limits refl refl count same_books size has_room
        (limbo_count-of_blocks blocks free) refl
        (room_grown f s more R F S represents)
        (tied free blocks f F represents.table.words.firsts_len numbered)

    -- a control state and a memory that are such
    pub sound_swept : (l : ControlState f s) (m : PlainMemory f s) → l ≡ control → m.cells.firsts ≡ F
        → m.cells.seconds ≡ S ++ replicate more 0 → m.domain ≡ domain → IsSound f s l m
    sound_swept l m same firsts seconds reports =
        let is : memory ≡ m = λ i. record {
          cells = record { firsts = sym firsts i; seconds = sym seconds i };
          domain = sym reports i;
        } in
        subst (λ (z : ControlState f s). IsSound f s z m) (sym same) (subst (λ (z : PlainMemory f s). IsSound f s control z) is sound)
