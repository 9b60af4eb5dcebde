-- What leaves limbo in a command leaves it at the front, and a check of it has passed.
use Rattle.std.proofs.Common.{ℕ, zero, suc, ◌≡◌, ◌+◌, ◌-◌, ◌<◌, ◌≤◌, inl, inr, refl, ap, sym, subst, ◌∙◌, All, List, [], ◌∷◌, ◌++◌, length, take, drop, get_or, slice_get, Option, Some, None, Result, Ok, Err, arith, append-nil, append_assoc}
use Rattle.std.specs.List.{range_with_len}
use Rattle.std.proofs.lemmas.Bool.{cases_lt}
use Rattle.std.proofs.lemmas.List.{length-take, get_or-take, take-append-drop}
use Rattle.std.proofs.lemmas.List.Elements.{All-nil, All-append, All-cons, All-head, All-tail}
use Rattle.std.proofs.lemmas.Option.{same_Some, slice_get-get_or}
use Rattle.lpm_bits.specs.Network.{Network}
use Rattle.lpm_limits.specs.declared.busy.Busy.{Busy}
use Rattle.lpm_limits.specs.declared.config.Config.{Config}
use Rattle.lpm_limits.specs.declared.refusal.Refusal.{Refusal}
use Rattle.lpm_limits.specs.declared.refusal.Refusal.TheVariants.{TooManyRules, NoSuchRule, Exhausted, NoGroups, Memory}
use Rattle.lpm_rules.specs.declared.Put.{Put}
use Rattle.lpm_rules.specs.declared.Put.TheVariants.{Added, Replaced, Unchanged}
use Rattle.fib_model.specs.State.{State, MakesRoom, UnlinksOne, Unlinks}
use Rattle.fib_model.specs.State as model
use Rattle.fib_model.proofs.ByPlaces.{Passes, Reclaims, by_places}
use Rattle.fib_model.specs.Outcomes.{Adds, Deletes, Flushes, TakesGroup, HoldsFront, Updates, Shrinks, groups_in_use}
use Rattle.lpm_rules.specs.RuleMap.{RuleMap}
use Rattle.fib_model.proofs.Relations.{lacks_or_not}
use Rattle.std.specs.FinMap.{get, remove, empty}
use Rattle.lpm_trace.specs.declared.step.WriterStep.{WriterStep}
use Rattle.lpm_trace.specs.declared.step.WriterStep.TheVariants.{StoreFirst, StoreSecond}
use Rattle.lpm_trace.specs.States.{InitialState, state_after}
use Rattle.lpm_trace.proofs.Versions.{token_is}
use Rattle.lpm_writer.specs.Steps.{IsStore, by_steps_from}
use Rattle.lpm_writer.proofs.StepsAlone.{steps_passed, steps_stopped}

-- ---- the tokens that a reclaim let pass

-- the first n of these tokens are not above the greatest that has passed
abbrev HavePassed : ℕ → List ℕ → ℕ → Type 0
HavePassed n limbo passed = (i t : ℕ) → i < n → slice_get limbo i ≡ Some t → t ≤ passed

one_member : (limbo : List ℕ) (n i t u : ℕ) → n ≡ i → slice_get limbo n ≡ Some t → slice_get limbo i ≡ Some u
    → t ≡ u
one_member limbo n i t u same here there = same_Some t u (sym here ∙ (ap (slice_get limbo) same ∙ there))

all_of_front : (limbo : List ℕ) (n passed : ℕ) → n ≤ length limbo → HavePassed n limbo passed
    → All (λ t. t ≤ passed) (take n limbo)
all_of_front limbo n passed few h i d within =
    let low : i < n = omega (arith, length-take n limbo, within) in
    let there : i < length limbo = omega (arith, low, few) in
    subst (λ t. t ≤ passed) (sym (get_or-take n limbo i d low))
    (h i (get_or limbo i d) low (slice_get-get_or limbo i d there))

-- some checks at most were made from x to z
record HasChecked (c : InitialState) (x z : List WriterStep) : Type 0 where
  token : (state_after c z).token ≡ (state_after c x).token
  more : (state_after c x).passed ≤ (state_after c z).passed

module _ (c : InitialState) (limbo : List ℕ) where
  passes_on : (n : ℕ) (x z : List WriterStep) → Passes (by_steps_from c.workers c.token) n limbo x z → HasChecked c x z
  passes_on zero x z h =
      subst (HasChecked c x) (sym h) (record { token = refl; more = omega arith })
  passes_on (suc n) x z h =
      let passed = steps_passed c h.0 h.1 z h.4 in
      let before = passes_on n x h.0 h.2 in
      record { token = passed.token ∙ before.token; more = omega (arith, passed.more, before.more) }

  passes_below : 0 < c.workers → (n : ℕ) (x z : List WriterStep) → Passes (by_steps_from c.workers c.token) n limbo x z
      → HavePassed n limbo (state_after c z).passed
  passes_below some zero x z h i t low at = absurd (omega (arith, low))
  passes_below some (suc n) x z h i t low at =
      let passed = steps_passed c h.0 h.1 z h.4 in
      elim (cases_lt i n) [
        | inl below ↦
            let before : t ≤ (state_after c h.0).passed = passes_below some n x h.0 h.2 i t below at in
            omega (arith, before, passed.more)
        | inr last ↦
            let same : h.1 ≡ t = one_member limbo n i h.1 t (omega (arith, low, last)) h.3 at in
            omega (arith, same, passed.passed some)
      ]

-- ---- from the front of limbo

-- From x to z n tokens were started, each for a group that went last into limbo. Those that were freed
-- left it at the front, and have passed.
pub record Leaves (c : InitialState) (x z : List WriterStep) (limbo : List ℕ) (n : ℕ) (freed left : List ℕ)
    : Type 0 where
  pub queue : limbo ++ range_with_len ((state_after c x).token + 1) n ≡ freed ++ left
  pub passed : 0 < c.workers → All (λ t. t ≤ (state_after c z).passed) freed
  pub token : (state_after c z).token ≡ (state_after c x).token + n
  pub more : (state_after c x).passed ≤ (state_after c z).passed

-- one more token, after n from this one on
one_more_token : (from n : ℕ) → range_with_len from (suc n) ≡ range_with_len from n ++ (from + n) ∷ []
one_more_token from zero = let here : from ≡ from + 0 = omega arith in ap (λ t. t ∷ []) here
one_more_token from (suc n) =
    let here : (from + 1) + n ≡ from + suc n = omega arith in
    ap (λ l. from ∷ l) (one_more_token (from + 1) n ∙ ap (λ t. range_with_len (from + 1) n ++ t ∷ []) here)

tail_apart : (freed more left : List ℕ) (name : ℕ)
    → (freed ++ (more ++ left)) ++ name ∷ [] ≡ (freed ++ more) ++ (left ++ name ∷ [])
tail_apart freed more left name = simp append_assoc

module _ (c : InitialState) where
  -- the token and the greatest that has passed are the same
  abbrev GroupsMatchSteps : List WriterStep → List WriterStep → Type 0
  GroupsMatchSteps x z = ((state_after c z).token ≡ (state_after c x).token) × ((state_after c z).passed ≡ (state_after c x).passed)

  keeps_on : (x y z : List WriterStep) → GroupsMatchSteps x y → GroupsMatchSteps y z → GroupsMatchSteps x z
  keeps_on x y z h k = (k.0 ∙ h.0, k.1 ∙ h.1)

  plain_keeps : (steps : List WriterStep) (s : WriterStep) → IsStore s → GroupsMatchSteps steps (s ∷ steps)
  plain_keeps steps (StoreFirst i w) h = (refl, refl)
  plain_keeps steps (StoreSecond j w) h = (refl, refl)
  plain_keeps steps s h = absurd h

  none_leaves : (x z : List WriterStep) (limbo : List ℕ) → HasChecked c x z → Leaves c x z limbo 0 [] limbo
  none_leaves x z limbo h = record {
    queue = append-nil limbo;
    passed = λ _. All-nil (λ t. t ≤ (state_after c z).passed);
    token = h.token ∙ omega arith;
    more = h.more;
  }

  front_leaves : (x z : List WriterStep) (limbo : List ℕ) (n : ℕ) (left : List ℕ) → HasChecked c x z
      → n ≤ length limbo → left ≡ drop n limbo
      → (0 < c.workers → HavePassed n limbo (state_after c z).passed)
      → Leaves c x z limbo 0 (take n limbo) left
  front_leaves x z limbo n left on few rest passed = record {
    queue = append-nil limbo ∙ sym (ap (λ l. take n limbo ++ l) rest ∙ take-append-drop n limbo);
    passed = λ some. all_of_front limbo n (state_after c z).passed few (passed some);
    token = on.token ∙ omega arith;
    more = on.more;
  }

  reclaims_on : (x z : List WriterStep) (max : ℕ) (limbo : List ℕ) (freed : ℕ) (stopped : Option Busy)
      (left : List ℕ) (h : Reclaims (by_steps_from c.workers c.token) x max limbo freed stopped left z)
      → ((state_after c z).token ≡ (state_after c h.last).token) × ((state_after c z).passed ≡ (state_after c h.last).passed)
  reclaims_on x z max limbo freed None left h =
      (ap (λ y. (state_after c y).token) h.end.0, ap (λ y. (state_after c y).passed) h.end.0)
  reclaims_on x z max limbo freed (Some busy) left h =
      let stop = h.end.1 in
      let stays = steps_stopped c h.last stop.0 busy z stop.2 in
      (stays.token, stays.passed)

  pub reclaims_leave : (x z : List WriterStep) (max : ℕ) (limbo : List ℕ) (freed : ℕ) (stopped : Option Busy)
      (left : List ℕ) → model.Reclaims (by_steps_from c.workers c.token) x max limbo freed stopped left z
      → Leaves c x z limbo 0 (take freed limbo) left
  reclaims_leave x z max limbo freed stopped left reclaims =
      let h = by_places (by_steps_from c.workers c.token) x max limbo freed stopped left z reclaims in
      let end = reclaims_on x z max limbo freed stopped left h in
      let on = passes_on c limbo freed x h.last h.passed in
      front_leaves x z limbo freed left
      (record { token = end.0 ∙ on.token; more = subst (λ p. (state_after c x).passed ≤ p) (sym end.1) on.more })
      h.within h.rest
      (λ some. subst (HavePassed freed limbo) (sym end.1) (passes_below c limbo some freed x h.last h.passed))

  -- ---- the stores of an update

  stores_keep : (x stores : List WriterStep) → All IsStore stores → GroupsMatchSteps x (stores ++ x)
  stores_keep x [] all = (refl, refl)
  stores_keep x (s ∷ stores) all =
      keeps_on x (stores ++ x) (s ∷ (stores ++ x)) (stores_keep x stores (All-tail IsStore s stores all))
      (plain_keeps (stores ++ x) s (All-head IsStore s stores all))

  begins_keep : (x z : List WriterStep) → (by_steps_from c.workers c.token).begins x z → GroupsMatchSteps x z
  begins_keep x z h = subst (GroupsMatchSteps x) (sym h.1) (refl, refl)

  ends_keep : (x z : List WriterStep) → (by_steps_from c.workers c.token).ends x z → GroupsMatchSteps x z
  ends_keep x z h = subst (GroupsMatchSteps x) (sym h.2) (stores_keep x h.0 h.1)

  -- the token that is started for a group that was unlinked
  unlinks_one : (x : List WriterStep) (name : ℕ) (z : List WriterStep)
      → (by_steps_from c.workers c.token).unlinks x name z
      → (name ≡ (state_after c x).token + 1) × ((state_after c z).token ≡ (state_after c x).token + 1)
      × ((state_after c z).passed ≡ (state_after c x).passed)
  unlinks_one x name z h =
      let stores = stores_keep x h.0 h.3 in
      let more : (state_after c z).token ≡ suc (state_after c (h.0 ++ x)).token = ap (λ y. (state_after c y).token) h.4 in
      let now : (state_after c z).token ≡ (state_after c x).token + 1 = omega (arith, more, stores.0) in
      (h.5 ∙ sym (token_is c z) ∙ now, now, ap (λ y. (state_after c y).passed) h.4 ∙ stores.1)

  -- ---- groups that are unlinked

  room_leaves : (config : Config) (x : List WriterStep) (limbo left : List ℕ) (z : List WriterStep)
      → MakesRoom (by_steps_from c.workers c.token) config x limbo left z → (freed : List ℕ) × Leaves c x z limbo 0 freed left
  room_leaves config x limbo left z h = elim (cases_lt config.threshold (length limbo)) [
    | inl above ↦
        let made = h.0 above in
        (take made.0 limbo, reclaims_leave x z config.reclaim_max limbo made.0 made.1 left made.2)
    | inr within ↦
        let same = h.1 within in
        let on : HasChecked c x z =
        subst (HasChecked c x) (sym same.1) (record { token = refl; more = omega arith }) in
        ([], subst (Leaves c x z limbo 0 []) (sym same.0) (none_leaves x z limbo on))
  ]

  more_freed : (x z : List WriterStep) (freed : List ℕ) → (state_after c x).passed ≤ (state_after c z).passed
      → All (λ t. t ≤ (state_after c x).passed) freed → All (λ t. t ≤ (state_after c z).passed) freed
  more_freed x z freed more all i d within = omega (arith, more, all i d within)

  one_leaves : (config : Config) (n : ℕ) (x y z : List WriterStep) (limbo freed waiting limbo' : List ℕ)
      → Leaves c x y limbo n freed waiting → UnlinksOne (by_steps_from c.workers c.token) config y waiting z limbo'
      → (all : List ℕ) × Leaves c x z limbo (suc n) all limbo'
  one_leaves config n x y z limbo freed waiting limbo' before h =
      let name : ℕ = h.0 in
      let left : List ℕ = h.2 in
      let unlinked = unlinks_one y name h.1 h.3 in
      let room = room_leaves config h.1 waiting left z h.4 in
      let token : ℕ = (state_after c x).token in
      let names : List ℕ = range_with_len (token + 1) n in
      let parts : waiting ≡ room.0 ++ left = sym (append-nil waiting) ∙ room.1.queue in
      let is_next : name ≡ (token + 1) + n = omega (arith, unlinked.0, before.token) in
      let old : (state_after c y).passed ≤ (state_after c z).passed =
      omega (arith, unlinked.2, room.1.more) in (
        freed ++ room.0,
        record {
          queue =
              ap (λ l. limbo ++ l) (one_more_token (token + 1) n)
              ∙ sym (append_assoc limbo names (((token + 1) + n) ∷ []))
              ∙ ap (λ l. l ++ ((token + 1) + n) ∷ []) (before.queue ∙ ap (λ l. freed ++ l) parts)
              ∙ ap (λ t. (freed ++ (room.0 ++ left)) ++ t ∷ []) (sym is_next)
              ∙ tail_apart freed room.0 left name
              ∙ ap (λ l. (freed ++ room.0) ++ l) (sym h.5);
          passed = λ some. All-append (λ t. t ≤ (state_after c z).passed) freed room.0
              (more_freed y z freed old (before.passed some)) (room.1.passed some);
          token = omega (arith, room.1.token, unlinked.1, before.token);
          more = omega (arith, before.more, old);
        },
      )

  unlinks_leave : (config : Config) (n : ℕ) (x : List WriterStep) (limbo : List ℕ) (z : List WriterStep)
      (limbo' : List ℕ) → Unlinks (by_steps_from c.workers c.token) config n x limbo z limbo'
      → (freed : List ℕ) × Leaves c x z limbo n freed limbo'
  unlinks_leave config zero x limbo z limbo' h =
      let on : HasChecked c x z =
      subst (HasChecked c x) (sym h.0) (record { token = refl; more = omega arith }) in
      ([], subst (Leaves c x z limbo 0 []) (sym h.1) (none_leaves x z limbo on))
  unlinks_leave config (suc n) x limbo z limbo' h =
      let before = unlinks_leave config n x limbo h.0 h.1 h.2 in
      one_leaves config n x h.0 z limbo before.0 h.1 limbo' before.1 h.3

  -- ---- commands

  -- what goes before and after leaves the token and what has passed
  within_leaves : (x y z w : List WriterStep) (limbo : List ℕ) (n : ℕ) (freed left : List ℕ) → GroupsMatchSteps x y
      → Leaves c y z limbo n freed left → GroupsMatchSteps z w → Leaves c x w limbo n freed left
  within_leaves x y z w limbo n freed left before h after = record {
    queue = subst (λ t. limbo ++ range_with_len (t + 1) n ≡ freed ++ left) before.0 h.queue;
    passed = λ some. subst (λ p. All (λ t. t ≤ p) freed) (sym after.1) (h.passed some);
    token = omega (arith, before.0, h.token, after.0);
    more = omega (arith, before.1, h.more, after.1);
  }

  -- a command between these states freed some groups
  abbrev pub SomeLeave : State (List WriterStep) → State (List WriterStep) → Type 0
  SomeLeave s z = (n : ℕ) × (freed : List ℕ) × Leaves c s.readers z.readers s.limbo n freed z.limbo

  nothing_leaves : (s z : State (List WriterStep)) → z ≡ s → SomeLeave s z
  nothing_leaves s z same =
      subst (SomeLeave s) (sym same)
      (0, [], none_leaves s.readers s.readers s.limbo (record { token = refl; more = omega arith }))

  shrinks_leave : (f g : ℕ) (config : Config) (s : State (List WriterStep)) (R : RuleMap)
      (z : State (List WriterStep)) → Shrinks (by_steps_from c.workers c.token) f g config s R z → SomeLeave s z
  shrinks_leave f g config s R z h =
      let run = h.1 in
      let n : ℕ = groups_in_use f g s.rules - groups_in_use f g R in
      let some = unlinks_leave config n run.0 s.limbo run.1 z.limbo run.3 in (
        n,
        some.0,
        within_leaves s.readers run.0 run.1 z.readers s.limbo n some.0 z.limbo
            (begins_keep s.readers run.0 run.2) some.1 (ends_keep run.1 z.readers run.4),
      )

  pub deletes_leave : (f g : ℕ) (config : Config) (s : State (List WriterStep)) (p : Network)
      (result : Result ℕ Refusal) (z : State (List WriterStep))
      → Deletes (by_steps_from c.workers c.token) f g config s p result z → SomeLeave s z
  deletes_leave f g config s p (Ok hop) z h = shrinks_leave f g config s (remove s.rules p) z h.1
  deletes_leave f g config s p (Err NoSuchRule) z h = nothing_leaves s z h.1
  deletes_leave f g config s p (Err Exhausted) z h = nothing_leaves s z h.2
  deletes_leave f g config s p (Err other) z h = absurd h

  pub flushes_leave : (f g : ℕ) (config : Config) (s : State (List WriterStep)) (result : Result ℕ Refusal)
      (z : State (List WriterStep)) → Flushes (by_steps_from c.workers c.token) f g config s result z → SomeLeave s z
  flushes_leave f g config s (Ok zero) z h = nothing_leaves s z (h.1 refl)
  flushes_leave f g config s (Ok (suc n)) z h = shrinks_leave f g config s empty z (h.2 (omega arith))
  flushes_leave f g config s (Err Exhausted) z h = nothing_leaves s z h.2
  flushes_leave f g config s (Err other) z h = absurd h

  -- an update that unlinks no group
  update_keeps : (x z : List WriterStep) → Updates (by_steps_from c.workers c.token) x z → GroupsMatchSteps x z
  update_keeps x z h = keeps_on x h.0 z (begins_keep x h.0 h.1) (ends_keep h.0 z h.2)

  -- the group that an add takes from the front of limbo
  take_leaves : (f g : ℕ) (config : Config) (s : State (List WriterStep)) (p : Network) (left : List ℕ)
      (y : List WriterStep) → get s.rules p ≡ None → TakesGroup (by_steps_from c.workers c.token) f g config s p left y
      → (freed : List ℕ) × Leaves c s.readers y s.limbo 0 freed left
  take_leaves f g config s p left y absent h = elim (lacks_or_not f g config s p absent) [
    | inl lacks ↦
        let is = h.0 lacks in
        let checked = steps_passed c s.readers is.0 y is.2 in (
          is.0 ∷ [],
          record {
            queue = append-nil s.limbo ∙ is.1;
            passed = λ some. All-cons (λ t. t ≤ (state_after c y).passed) is.0 [] (checked.passed some)
                (All-nil (λ t. t ≤ (state_after c y).passed));
            token = omega (arith, checked.token);
            more = checked.more;
          },
        )
    | inr enough ↦
        let is = h.1 enough in
        let on : HasChecked c s.readers y =
        subst (HasChecked c s.readers) (sym is.1) (record { token = refl; more = omega arith }) in
        ([], subst (Leaves c s.readers y s.limbo 0 []) (sym is.0) (none_leaves s.readers y s.limbo on))
  ]

  -- the check of the front of limbo that a worker stopped, where there is one
  front_checked : (s : State (List WriterStep)) (oldest : Option Busy) (y : List WriterStep)
      → HoldsFront (by_steps_from c.workers c.token) s oldest y → HasChecked c s.readers y
  front_checked s None y h =
      subst (HasChecked c s.readers) (sym h.1) (record { token = refl; more = omega arith })
  front_checked s (Some busy) y h =
      let stays = steps_stopped c s.readers h.0 busy y h.2 in
      record { token = stays.token; more = omega (arith, stays.passed) }

  pub adds_leave : (f g : ℕ) (config : Config) (s : State (List WriterStep)) (p : Network) (hop : ℕ)
      (result : Result Put Refusal) (z : State (List WriterStep))
      → Adds (by_steps_from c.workers c.token) f g config s p hop result z → SomeLeave s z
  adds_leave f g config s p hop (Ok Unchanged) z h = nothing_leaves s z h.1
  adds_leave f g config s p hop (Ok Replaced) z h =
      let same = update_keeps s.readers z.readers h.2 in
      let on : HasChecked c s.readers z.readers = record { token = same.0; more = omega (arith, same.1) } in
      (0, [], subst (Leaves c s.readers z.readers s.limbo 0 []) (sym h.4) (none_leaves s.readers z.readers s.limbo on))
  adds_leave f g config s p hop (Ok Added) z h =
      let y = h.1.0 in
      let taken = take_leaves f g config s p z.limbo y h.0.0 h.1.1 in
      let same = update_keeps y z.readers h.1.2 in
      (0, taken.0, within_leaves s.readers s.readers y z.readers s.limbo 0 taken.0 z.limbo (refl, refl) taken.1 same)
  adds_leave f g config s p hop (Err Exhausted) z h = nothing_leaves s z h.2
  adds_leave f g config s p hop (Err TooManyRules) z h = nothing_leaves s z h.3
  adds_leave f g config s p hop (Err Memory) z h = nothing_leaves s z h.1
  adds_leave f g config s p hop (Err (NoGroups oldest)) z h =
      let on = front_checked s oldest z.readers h.2 in
      let limbo : z.limbo ≡ s.limbo = ap (λ (y : State (List WriterStep)). y.limbo) h.3 in
      (0, [], subst (Leaves c s.readers z.readers s.limbo 0 []) (sym limbo) (none_leaves s.readers z.readers s.limbo on))
  adds_leave f g config s p hop (Err other) z h = absurd h
