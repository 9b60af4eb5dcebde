-- An add takes the least free group, by the writer's steps.
use Rattle.std.proofs.Common.{arith, ◌≡◌, ℕ, suc, ◌^◌, ◌<◌, ◌⊎◌, inl, inr, refl, ap, sym, ◌∙◌, List, [], ◌∷◌, length, Some, Contains}
use Rattle.std.specs.Prelude.{slice_get, slice_set, get_or}
use Rattle.std.proofs.lemmas.Bool.{cases_eq, cases_lt}
use Rattle.std.proofs.lemmas.List.{get_or_past}
use Rattle.std.proofs.lemmas.List.Elements.{Contains-push, Contains-append_left, Contains-append_right}
use Rattle.std.proofs.lemmas.Option.{slice_get_within, slice_get-get_or}
use Rattle.lpm_cells.specs.declared.entry.Entry.{Entry}
use Rattle.lpm_cells.specs.declared.entry.Entry.TheVariants.{Miss, Hop, Group}
use Rattle.lpm_cells.specs.Words.{entry_in, group_in}
use Rattle.lpm_cells.proofs.ReadBack.{entry_in_zero}
use Rattle.lpm_groups.specs.declared.GroupState.{GroupState}
use Rattle.lpm_groups.specs.declared.GroupState.TheVariants.{Free, Linked, Limbo}
use Rattle.lpm_groups.specs.States.{IsLinkedTo, IsLimboAt, limbo_count}
use Rattle.lpm_groups.proofs.Marks.{Releases-set}
use Rattle.lpm_update.proofs.Unlinks.{some_group}
use Rattle.defer_queue.specs.RetiredGroups.{IsAbsent}
use Rattle.lpm_limits.specs.declared.config.Config.{Config}
use Rattle.lpm_rules.specs.RuleMap.{RuleList}
use Rattle.lpm_trace.specs.declared.step.WriterStep.{WriterStep}
use Rattle.lpm_trace.specs.declared.step.WriterStep.TheVariants.{StoreFirst}
use Rattle.lpm_trace.specs.States.{InitialState, TableState, Status, Retired, state_after, with_retired, with_linked, first_entry}
use Rattle.lpm_trace.specs.States as status
use Rattle.lpm_trace.proofs.Versions.{with_at_case, token_is, first_word_is, firsts_length}
use Rattle.lpm_writer.specs.declared.pool.GroupPool.{GroupPool}
use Rattle.lpm_writer.specs.Limbo.{AreWaiting, tokens_of}
use Rattle.lpm_writer.specs.GroupsMatch.{AreRetired}
use Rattle.lpm_writer.specs.TakenGroup.{HasNoneFreeBelow, LinksLeast}
use Rattle.lpm_writer.specs.Rest.{IsResting, state_of}
use Rattle.lpm_writer.proofs.LimboItems.{waiting_set, is_freed}
use Rattle.shared_words.specs.Layout.{InitialData, initial_state_of}
use Rattle.shared_fib.specs.FreedGroups.{HasGroup, IsGivenUp, IsOccupied, TakesLeast}
use Rattle.lpm_writer.proofs.Initial.{no_group}
use Rattle.lpm_writer.proofs.Reclaims.{linked_not_retired}
use Rattle.lpm_writer.proofs.AfterStore.{retired_token}
use Rattle.shared_fib.proofs.Live.{never_retired}

-- ---- groups that are given up

module _ (o : InitialData) where
  abbrev c : InitialState
  c = initial_state_of o

  -- a block whose word links a group has it
  has_by_word : (steps : List WriterStep) (block group : ℕ) → first_entry (state_after c steps).words block ≡ Group group → HasGroup o steps block group
  has_by_word steps block group is =
      let firsts : List ℕ = (state_after c steps).words.firsts in
      elim (cases_lt block (length firsts)) [
        | inl within ↦
            let low : block < length o.firsts = omega (arith, within, firsts_length c steps) in
            (low, ap entry_in (sym (first_word_is c steps block low)) ∙ is)
        | inr past ↦ absurd (no_group group (sym (ap entry_in (get_or_past firsts block 0 (omega (arith, past))) ∙ entry_in_zero) ∙ is))
      ]

  more : (s : WriterStep) (steps : List WriterStep) (group token : ℕ) → IsGivenUp o steps group token → IsGivenUp o (s ∷ steps) group token
  more s steps group token h = record {
    newer = s ∷ h.newer;
    older = h.older;
    block = h.block;
    word = h.word;
    split = ap (λ l. s ∷ l) h.split;
    had = h.had;
    next = h.next;
  }

  -- what a store over a word, and what a store of a word, does to the groups that are retired
  over_word : (e : Entry) (token : ℕ) (groups : ℕ → Status) (g t : ℕ) (P : Type 0) → ((h : ℕ) → e ≡ Group h → g ≡ h → t ≡ suc token → P)
      → (groups g ≡ Retired t → P) → with_retired e (suc token) groups g ≡ Retired t → P
  over_word Miss token groups g t P now was is = was is
  over_word (Hop hop depth) token groups g t P now was is = was is
  over_word (Group h) token groups g t P now was is =
      with_at_case (λ (s : Status). s ≡ Retired t → P) groups h (Retired (suc token)) g
      (λ same e. now h refl same (retired_token (suc token) t e)) (λ other e. was e) is

  of_word : (e : Entry) (block : ℕ) (groups : ℕ → Status) (g t : ℕ) → with_linked e block groups g ≡ Retired t → groups g ≡ Retired t
  of_word Miss block groups g t is = is
  of_word (Hop hop depth) block groups g t is = is
  of_word (Group h) block groups g t is =
      with_at_case (λ (s : Status). s ≡ Retired t → groups g ≡ Retired t) groups h (status.Linked block) g
      (λ same e. absurd (linked_not_retired block t e)) (λ other e. e) is

  pub given_up : (steps : List WriterStep) (g t : ℕ) → (state_after c steps).groups g ≡ Retired t → IsGivenUp o steps g t
  given_up [] g t is = absurd (never_retired (slice_get o.blocks g) t is)
  given_up (StoreFirst i x ∷ steps) g t is =
      let w : TableState = state_after c steps in
      over_word (first_entry w.words i) w.token w.groups g t (IsGivenUp o (StoreFirst i x ∷ steps) g t)
      (λ h had same next. record {
        newer = [];
        older = steps;
        block = i;
        word = x;
        split = refl;
        had = has_by_word steps i g (had ∙ ap Group (sym same));
        next = omega (arith, next, token_is c steps);
      })
      (λ was. more (StoreFirst i x) steps g t (given_up steps g t was))
      (of_word (entry_in x) i (with_retired (first_entry w.words i) (suc w.token) w.groups) g t is)
  given_up (s ∷ steps) g t is = more s steps g t (given_up steps g t is)

-- ---- groups that wait

-- each group in limbo is among the items that wait, where these are as many
all_wait : (xs : List GroupState) (g : ℕ) (items : List (ℕ × ℕ)) → IsLimboAt xs g → AreWaiting xs items → length items ≡ limbo_count xs → ¬ IsAbsent g items
all_wait xs g items at waits all absent =
    let ys = slice_set xs g Free in
    let fewer = (is_freed (length items) items ys (omega arith) (waiting_set xs g Free items absent waits)).limbo in
    let one = (Releases-set xs g at).limbo in
    omega (arith, fewer, one, all)

here : (t : ℕ) (ts : List ℕ) → Contains (t ∷ ts) t
here t ts = Contains-append_left (t ∷ []) ts t (Contains-push [] t)

-- a group is among the items, by whose token it is retired, or it isn't
among : (g : ℕ) (status : ℕ → Status) (token : ℕ) (items : List (ℕ × ℕ)) → AreRetired status token items
    → IsAbsent g items ⊎ ((t : ℕ) × Contains (tokens_of items) t × (status g ≡ Retired t))
among g status token [] with_retired = inl tt
among g status token (item ∷ items) with_retired = elim (cases_eq item.0 g) [
  | inl q ↦ inr (item.1, here item.1 (tokens_of items), ap status (sym q) ∙ with_retired.0)
  | inr q ↦ elim (among g status token items with_retired.2) [
    | inl away ↦ inl (q, away)
    | inr at ↦ inr (at.0, Contains-append_right (item.1 ∷ []) (tokens_of items) at.0 at.1, at.2)
  ]
]

-- ---- the least

module _ (f s : ℕ) (o : InitialData) (later : List WriterStep) (config : Config) (rules : RuleList) (new : GroupPool) (begun : ℕ) (after : IsResting f s (initial_state_of o) later config rules new begun) where
  blocks : length o.firsts ≡ 2 ^ f
  blocks = sym (firsts_length (initial_state_of o) later) ∙ after.represents.table.words.firsts_len

  has_group : (block group : ℕ) → IsLinkedTo new.groups group block → HasGroup o later block group
  has_group block group at =
      let only = after.tied.only block group at in
      has_by_word o later block group (some_group (first_entry (state_after (initial_state_of o) later).words block) group only.1)

  is_linked_to : (block group : ℕ) → HasGroup o later block group → IsLinkedTo new.groups group block
  is_linked_to block group has =
      let low = has.0 in
      after.tied.linked block group (omega (arith, low, blocks))
      (ap (λ w. group_in (entry_in w)) (first_word_is (initial_state_of o) later block low) ∙ ap group_in has.1)

  is_occupied : (g : ℕ) (state : GroupState) → slice_get new.groups g ≡ Some state → ¬ (slice_get new.groups g ≡ Some Free) → IsOccupied o (state_of rules.rules later new begun) g
  is_occupied g Free at none = absurd (none at)
  is_occupied g (Linked block) at none = inl (block, has_group block g at)
  is_occupied g Limbo at none = elim (among g (state_after (initial_state_of o) later).groups (state_after (initial_state_of o) later).token new.queue.items after.keeps.kept.retired) [
    | inl absent ↦ absurd (all_wait new.groups g new.queue.items at after.queued.waiting after.queued.all absent)
    | inr waits ↦ inr (waits.0, waits.1, given_up o later g waits.0 waits.2)
  ]

  all_below : (group block lower : ℕ) → IsLinkedTo new.groups group block → HasNoneFreeBelow new.groups group → lower < group → IsOccupied o (state_of rules.rules later new begun) lower
  all_below group block lower at none below =
      is_occupied lower (get_or new.groups lower Free)
      (slice_get-get_or new.groups lower Free (omega (arith, below, slice_get_within new.groups group (Linked block) at))) (none lower below)

-- a command that left the writer at rest took the least free group, if it took any
pub takes_least : (f s : ℕ) (o : InitialData) (steps later : List WriterStep) (config config' : Config) (rules rules' : RuleList) (pool new : GroupPool) (begun begun' : ℕ)
    → IsResting f s (initial_state_of o) steps config rules pool begun → IsResting f s (initial_state_of o) later config' rules' new begun' → LinksLeast pool.groups new.groups
    → TakesLeast o (state_of rules.rules steps pool begun) (state_of rules'.rules later new begun')
takes_least f s o steps later config config' rules rules' pool new begun begun' before after links = record {
  least = λ block group lower has had_not below.
      let at = is_linked_to f s o later config' rules' new begun' after block group has in
      elim (links group block at) [
        | inl was ↦ absurd (had_not (has_group f s o steps config rules pool begun before block group was))
        | inr none ↦ all_below f s o later config' rules' new begun' after group block lower at none below
      ];
}
