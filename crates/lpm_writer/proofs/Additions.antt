-- A rule is added, by the group that was found for it.
use Rattle.std.proofs.Common.{arith, ◌≡◌, ◌≢◌, ℕ, zero, suc, ◌+◌, ◌-◌, ◌/◌, ◌^◌, ◌<◌, ◌≤◌, inl, inr, refl, ap, sym, ◌∙◌, subst, List, length, Option, Some, None, Bool, true, false, cond}
use Rattle.std.specs.Prelude.{IsSome, IsSomeAnd, MatchResult, OnOk, Ok, Err, Result}
use Rattle.std.specs.FinMap.{get, insert, len}
use Rattle.std.specs.FinSet as set
use Rattle.std.specs.Cmp.{nat_cmp_total}
use Rattle.std.proofs.lemmas.Bool.{cases_eq, cases_lt}
use Rattle.std.proofs.lemmas.List.{length-map}
use Rattle.std.proofs.lemmas.Option.{slice_get_within}
use Rattle.lpm_bits.specs.Network.{Network, IsNetwork}
use Rattle.lpm_cells.specs.Words.{Words}
use Rattle.lpm_groups.specs.declared.GroupState.TheVariants.{Linked}
use Rattle.lpm_groups.specs.States.{linked_count, free_count}
use Rattle.lpm_groups.proofs.Marks.{counts-total}
use Rattle.lpm_limits.specs.declared.busy.Busy.{Busy}
use Rattle.lpm_limits.specs.declared.config.Config.{Config}
use Rattle.lpm_limits.specs.declared.refusal.Refusal.TheVariants.{NoGroups}
use Rattle.lpm_rules.specs.declared.NoSuchRule.{NoSuchRule}
use Rattle.lpm_rules.specs.declared.Put.{Put}
use Rattle.lpm_rules.specs.declared.Put.TheVariants.{Added, Replaced, Unchanged}
use Rattle.lpm_rules.specs.declared.RuleFault.{RuleFault}
use Rattle.lpm_rules.specs.RuleMap.{RuleMap, RuleList, with_rule, without_rule}
use Rattle.lpm_rules.specs.Deep.{IsDeepBlock, block_of, deep_blocks}
use Rattle.lpm_rules.proofs.Views.{not_some, remove_insert, insert_here}
use Rattle.lpm_rules.proofs.Deep.{has_deep_blocks, put_brings_block}
use Rattle.lpm_update.specs.declared.update.Plan.{Plan}
use Rattle.lpm_update.specs.BlockGroups.{group_at}
use Rattle.lpm_update.specs.Represents.{AddFits, IsBegun, Represents, TurnsInto, held_with}
use Rattle.lpm_update.specs.GroupStates.{IsTied}
use Rattle.lpm_update.specs.Update.{FillsFor, group_held}
use Rattle.lpm_update.proofs.Promises.{tied_same, tied_taken}
use Rattle.fib_model.specs.State.{State, Transitions, HasTokens, Unlinks}
use Rattle.fib_model.specs.Outcomes.{groups_in_use, LacksGroup, TakesGroup, Adds}
use Rattle.lpm_trace.specs.declared.step.RuleChange.{RuleChange}
use Rattle.lpm_trace.specs.declared.step.RuleChange.TheVariants.{Put as Puts}
use Rattle.lpm_trace.specs.declared.step.WriterStep.{WriterStep}
use Rattle.lpm_trace.specs.States.{InitialState, IsChange, rules_by, state_after}
use Rattle.lpm_writer.specs.declared.pool.GroupPool.{GroupPool}
use Rattle.lpm_writer.specs.Limbo.{IsQueued, tokens_of}
use Rattle.lpm_writer.specs.GroupsMatch.{GroupsMatchSteps, OnlyChecks}
use Rattle.lpm_writer.specs.GroupToFill.{group_to_fill, IsTakenBy}
use Rattle.lpm_writer.specs.TakenGroup.{Finds, NeedsGroup}
use Rattle.lpm_writer.specs.Rest.{Changes, IsResting, IsDue, state_of}
use Rattle.lpm_writer.proofs.NextStores.{none_some}
use Rattle.lpm_writer.proofs.StepsAlone.{StoresNothing}
use Rattle.lpm_writer.proofs.Rests.{linked_resting, none_fills, some_fills}

abbrev pub Ok' : Put → Result Put RuleFault
Ok' put = Ok put

some_none : (x : Option ℕ) (P : ℕ → Type 0) → IsSomeAnd x P → x ≡ None → ⊥
some_none None P h e = h
some_none (Some y) P h e = cc

no_some : (x : Option ℕ) → (IsSome x → ⊥) → x ≡ None
no_some None h = refl
no_some (Some y) h = absurd (h refl)

-- a new rule that was put in had room
pub put_room : (R : RuleMap) (p : Network) (h max : ℕ) (put : Put) → (Ok' put ≡ Ok' Unchanged → get R p ≡ Some h) → (Ok' put ≡ Ok' Replaced → IsSomeAnd (get R p) (λ old. old ≢ h))
    → (Ok' put ≡ Ok' Added → (get R p ≡ None) × (len R < max)) → get R p ≡ None → len R < max
put_room R p h max Unchanged u r a none = absurd (none_some (get R p) h none (u refl))
put_room R p h max Replaced u r a none = absurd (some_none (get R p) (λ old. old ≢ h) (r refl) none)
put_room R p h max Added u r a none = (a refl).1

-- a rule that was put in and taken out again
pub taken_back : (old : RuleList) (p : Network) (h : ℕ) (mid new : RuleList) (r : Result ℕ NoSuchRule) → mid ≡ with_rule old p h → get old.rules p ≡ None
    → MatchResult r (λ hop. get mid.rules p ≡ Some hop) (λ _. get mid.rules p ≡ None) → OnOk r (new ≡ without_rule mid p) → new ≡ old
taken_back old p h mid new (Ok hop) put none m out =
    out ∙ ap (λ (x : RuleList). without_rule x p) put ∙ ap (λ R. record { rules = R; max = old.max }) (remove_insert old.rules p h none)
taken_back old p h mid new (Err e) put none m out = absurd (none_some (get mid.rules p) h m (ap (λ (x : RuleList). get x.rules p) put ∙ insert_here old.rules p h))

module _ (f s : ℕ) (c : InitialState) (steps : List WriterStep) (config : Config) (rules : RuleList) (pool : GroupPool) (begun : ℕ) (rest : IsResting f s c steps config rules pool begun)
    (p : Network) (low : p.bits / 2 ^ s < 2 ^ f) where
  -- a block with a group is deep, and one without isn't
  deep : IsSome (group_at (state_after c steps).words.firsts (p.bits / 2 ^ s)) → IsDeepBlock f s rules.rules (block_of s p)
  deep some = (rest.represents.groups (p.bits / 2 ^ s) low).0 some

  shallow : group_at (state_after c steps).words.firsts (p.bits / 2 ^ s) ≡ None → ¬ IsDeepBlock f s rules.rules (block_of s p)
  shallow none there = not_some none ((rest.represents.groups (p.bits / 2 ^ s) low).1 there)

  -- a rule that needs a group isn't there
  pub absent : NeedsGroup f s (state_after c steps).words.firsts p → get rules.rules p ≡ None
  absent needs = no_some (get rules.rules p) (λ some. shallow needs.1 (p, some, needs.0, refl))

  -- the free groups, those that wait and the deep blocks are as many as the groups
  all_groups : free_count pool.groups + length pool.queue.items + groups_in_use f s rules.rules ≡ config.groups
  all_groups = omega (arith, linked_resting f s c steps config rules pool begun rest, counts-total pool.groups, rest.queued.all, rest.states)

  module _ {X : Type 0} (t : Transitions X) (x : X) where
    lacks : NeedsGroup f s (state_after c steps).words.firsts p → free_count pool.groups ≡ 0 → LacksGroup f s config (state_of rules.rules x pool begun) p
    lacks needs empty = record {
      absent = absent needs;
      long = needs.0;
      shallow = shallow needs.1;
      none_free = omega (arith, all_groups, empty, length-map pool.queue.items (λ item. item.1));
    }

    takes_group : (group : Option ℕ) (z : X) (mid : GroupPool) → Finds t f s (state_after c steps).words.firsts p x pool (Ok group) z mid
        → TakesGroup t f s config (state_of rules.rules x pool begun) p (tokens_of mid.queue.items) z
    takes_group None z mid found = (
      (λ k. absurd (elim found.2 [
        | inl short ↦ let long = k.long in omega (arith, short, long)
        | inr some ↦ k.shallow (deep some)
      ])),
      (λ _. (ap (λ (b : GroupPool). tokens_of b.queue.items) found.0, found.1)),
    )
    takes_group (Some g) z mid found = (
      (λ k. found.2.1 (let none = k.none_free in omega (arith, all_groups, length-map pool.queue.items (λ item. item.1), none))),
      (λ enough. elim (cases_eq (free_count pool.groups) 0) [
        | inl empty ↦ absurd (enough (lacks found.0 empty))
        | inr some ↦ let k = found.2.0 (omega (arith, some)) in (k.1, k.2)
      ]),
    )

    in_set : (b : ℕ) → IsDeepBlock f s rules.rules b → set.contains (deep_blocks f s rules.rules) b ≡ true
    in_set b there = (has_deep_blocks f s rules.rules b).1 there

    is_false : (b : Bool) → (b ≡ true → ⊥) → b ≡ false
    is_false true h = absurd (h refl)
    is_false false h = refl

    -- after the group was taken, as many groups are linked as the new list has deep blocks
    pub found_linked : (h : ℕ) (group : Option ℕ) (z : X) (mid : GroupPool) → Finds t f s (state_after c steps).words.firsts p x pool (Ok group) z mid → linked_count mid.groups ≡ groups_in_use f s (insert rules.rules p h)
    found_linked h None z mid found =
        let brings = put_brings_block f s rules.rules p h in
        let was = ap (λ (b : GroupPool). linked_count b.groups) found.0 ∙ linked_resting f s c steps config rules pool begun rest in
        elim (cases_lt f p.len) [
          | inr short ↦ was ∙ sym (ap set.len (brings.1 short))
          | inl long ↦ elim found.2 [
            | inl short ↦ was ∙ sym (ap set.len (brings.1 short))
            | inr some ↦
                let size = set.len-insert nat_cmp_total (deep_blocks f s rules.rules) (block_of s p) in
                was ∙ sym (ap set.len (brings.0 long) ∙ size ∙ ap (λ b. cond b (groups_in_use f s rules.rules) (groups_in_use f s rules.rules + 1)) (in_set (block_of s p) (deep some)))
          ]
        ]
    found_linked h (Some g) z mid found =
        let brings = put_brings_block f s rules.rules p h in
        let size = set.len-insert nat_cmp_total (deep_blocks f s rules.rules) (block_of s p) in
        let none = is_false (set.contains (deep_blocks f s rules.rules) (block_of s p)) (λ e. shallow found.0.1 ((has_deep_blocks f s rules.rules (block_of s p)).0 e)) in
        found.1.linked ∙ ap (λ k. k + 1) (linked_resting f s c steps config rules pool begun rest)
        ∙ sym (ap set.len (brings.0 found.0.0) ∙ size ∙ ap (λ b. cond b (groups_in_use f s rules.rules) (groups_in_use f s rules.rules + 1)) none)

    -- ---- the change that adds the rule

    found_states : (group : Option ℕ) (z : X) (mid : GroupPool) → Finds t f s (state_after c steps).words.firsts p x pool (Ok group) z mid → length mid.groups ≡ length pool.groups
    found_states None z mid found = ap (λ (b : GroupPool). length b.groups) found.0
    found_states (Some g) z mid found = found.1.as_many

    fresh_group : (g : ℕ) (z : X) (mid : GroupPool) → Finds t f s (state_after c steps).words.firsts p x pool (Ok (Some g)) z mid → g < length pool.groups
    fresh_group g z mid found = subst (λ n. g < n) found.1.as_many (slice_get_within mid.groups g (Linked (p.bits / 2 ^ s)) found.1.here)

    found_fits : (group : Option ℕ) (z : X) (mid : GroupPool) → Finds t f s (state_after c steps).words.firsts p x pool (Ok group) z mid → AddFits f s rules.rules p (state_after c steps).words group
    found_fits None z mid found = λ long. elim found.2 [
      | inl short ↦ absurd (omega (arith, short, long))
      | inr some ↦ deep some
    ]
    found_fits (Some g) z mid found =
        (found.0.0, shallow found.0.1, (tied_taken f s (state_after c steps).words pool.groups g rest.represents.table rest.room rest.tied (fresh_group g z mid found) found.1.unlinked).0)

    found_tied : (group : Option ℕ) (z : X) (mid : GroupPool) (u : Plan) → Finds t f s (state_after c steps).words.firsts p x pool (Ok group) z mid
        → ((firsts : List ℕ) (i : ℕ) → group_held u firsts i ≡ held_with group (p.bits / 2 ^ s) firsts i) → IsTied f mid.groups (group_held u (state_after c steps).words.firsts)
    found_tied None z mid u found held = subst (λ (b : GroupPool). IsTied f b.groups (group_held u (state_after c steps).words.firsts)) (sym found.0)
        (tied_same f pool.groups (group_at (state_after c steps).words.firsts) (group_held u (state_after c steps).words.firsts) (λ i _. held (state_after c steps).words.firsts i) rest.tied)
    found_tied (Some g) z mid u found held =
        let taken = tied_taken f s (state_after c steps).words pool.groups g rest.represents.table rest.room rest.tied (fresh_group g z mid found) found.1.unlinked in
        tied_same f mid.groups (held_with (Some g) (p.bits / 2 ^ s) (state_after c steps).words.firsts) (group_held u (state_after c steps).words.firsts) (λ i _. held (state_after c steps).words.firsts i)
        (taken.1 mid.groups (p.bits / 2 ^ s) low found.0.1 found.1.here found.1.others)

    found_fills : (group : Option ℕ) (z : X) (mid : GroupPool) (u : Plan) → Finds t f s (state_after c steps).words.firsts p x pool (Ok group) z mid → FillsFor u group (p.bits / 2 ^ s)
        → (group_to_fill u (state_after c steps).words.firsts ≡ group) × IsTakenBy u None
    found_fills None z mid u found fills = none_fills u (p.bits / 2 ^ s) (state_after c steps).words.firsts fills
    found_fills (Some g) z mid u found fills = some_fills u g (p.bits / 2 ^ s) (state_after c steps).words.firsts fills found.0.1

    -- the update is due, once the group was found
    pub found_due : (h : ℕ) (group : Option ℕ) (z : X) (mid : GroupPool) (later : List WriterStep) (new : RuleList) (u : Plan) (change : RuleChange)
        → Finds t f s (state_after c steps).words.firsts p x pool (Ok group) z mid → OnlyChecks c steps later → StoresNothing steps later → GroupsMatchSteps c later mid.groups mid.queue.items mid.passed group → IsQueued mid.groups mid.queue
        → ((R : RuleMap) (W : Words) → Represents f s R W → AddFits f s R p W group → IsBegun f s u W × TurnsInto f s u R (insert R p h))
        → FillsFor u group (p.bits / 2 ^ s) → ((firsts : List ℕ) (i : ℕ) → group_held u firsts i ≡ held_with group (p.bits / 2 ^ s) firsts i)
        → new ≡ with_rule rules p h → change ≡ Puts p.bits p.len h → IsNetwork (f + s) p × (h < 2 ^ 24)
        → ((state_after c steps).token + config.groups ≤ 2 ^ 62) × (begun < 2 ^ 61) → IsDue f s c later config new mid begun u change
    found_due h group z mid later new u change found still nothing keeps queued fitting fills held put is sound left =
        let taken = found_fills group z mid u found fills in
        let begins = fitting rules.rules (state_after c steps).words rest.represents (found_fits group z mid found) in
        let put_in = ap (λ (r : RuleList). r.rules) put in
        record {
          older = steps;
          before = rules;
          kept = pool;
          rested = rest;
          still = still;
          once = nothing.once rest.between.once;
          states = found_states group z mid found;
          queued = queued;
          tied = found_tied group z mid u found held;
          keeps = subst (GroupsMatchSteps c later mid.groups mid.queue.items mid.passed) (sym taken.0) keeps;
          fresh = taken.1;
          begins = begins.0;
          turns = subst (TurnsInto f s u rules.rules) (sym put_in) begins.1;
          makes = ap (rules_by rules.rules) is ∙ sym put_in;
          max = ap (λ (r : RuleList). r.max) put;
          sound = subst (IsChange (f + s)) (sym is) sound;
          tokens = left.0;
          few = left.1;
        }

    -- ---- outcomes

    none_unlinked : (n : ℕ) (y z : X) (limbo limbo' : List ℕ) → n ≡ 0 → Unlinks t config n y limbo z limbo' → (z ≡ y) × (limbo' ≡ limbo)
    none_unlinked zero y z limbo limbo' e u = u
    none_unlinked (suc n) y z limbo limbo' e u = absurd (omega (arith, e))

    -- an add that was made with the group that was found for it
    pub found_adds : (h : ℕ) (put : Put) (group : Option ℕ) (y z : X) (mid new : GroupPool) (rules' : RuleList) (begun' : ℕ) → Finds t f s (state_after c steps).words.firsts p x pool (Ok group) y mid
        → Changes t config y mid z new → linked_count new.groups ≡ groups_in_use f s rules'.rules → rules'.rules ≡ insert rules.rules p h → begun' ≡ begun + 1
        → put ≢ Unchanged → (Ok' put ≡ Ok' Replaced → IsSomeAnd (get rules.rules p) (λ old. old ≢ h)) → (Ok' put ≡ Ok' Added → (get rules.rules p ≡ None) × (len rules.rules < rules.max))
        → HasTokens t config (state_of rules.rules x pool begun) → Adds t f s config (state_of rules.rules x pool begun) p h (Ok put) (state_of rules'.rules z new begun')
    found_adds h put group y z mid new rules' begun' found changes linked made next other replaced added left =
        let none = none_unlinked (linked_count mid.groups - linked_count new.groups) changes.opened changes.last (tokens_of mid.queue.items) (tokens_of new.queue.items)
        (omega (arith, linked ∙ ap (groups_in_use f s) made, found_linked h group y mid found)) changes.unlinks in
        let takes = takes_group group y mid found in
        by_put put other replaced added takes (changes.opened, changes.begins, subst (λ l. t.ends l z) none.0 changes.ends) none.1
      where
        S : State X
        S = state_of rules.rules x pool begun

        by_put : (put : Put) → put ≢ Unchanged → (Ok' put ≡ Ok' Replaced → IsSomeAnd (get rules.rules p) (λ old. old ≢ h)) → (Ok' put ≡ Ok' Added → (get rules.rules p ≡ None) × (len rules.rules < rules.max))
            → TakesGroup t f s config (state_of rules.rules x pool begun) p (tokens_of mid.queue.items) y → ((k : X) × t.begins y k × t.ends k z) → tokens_of new.queue.items ≡ tokens_of mid.queue.items
            → Adds t f s config (state_of rules.rules x pool begun) p h (Ok put) (state_of rules'.rules z new begun')
        by_put Unchanged other r a takes updates same = absurd (other refl)
        by_put Replaced other r a takes updates same =
            let still = takes.1 (λ k. some_none (get rules.rules p) (λ old. old ≢ h) (r refl) k.absent) in
            (r refl, left, (updates.0, subst (λ q. t.begins q updates.0) still.1 updates.1, updates.2), (made, next), same ∙ still.0)
        by_put Added other r a takes updates same =
            let k = a refl in
            ((k.0, left, subst (λ m. len rules.rules < m) rest.max k.1), (y, subst (λ l. TakesGroup t f s config (state_of rules.rules x pool begun) p l y) (sym same) takes, updates), (made, next))

    -- an add that finds no group
    pub none_adds : (h : ℕ) (oldest : Option Busy) (z : X) (mid : GroupPool) → Finds t f s (state_after c steps).words.firsts p x pool (Err oldest) z mid → mid.queue ≡ pool.queue → len rules.rules < rules.max
        → HasTokens t config (state_of rules.rules x pool begun) → Adds t f s config (state_of rules.rules x pool begun) p h (Err (NoGroups oldest)) (state_of rules.rules z mid begun)
    none_adds h oldest z mid found same room left = (
      (absent found.0, left, subst (λ m. len rules.rules < m) rest.max room),
      lacks found.0 found.1.0,
      found.1.1,
      ap (λ q. record { rules = rules.rules; readers = z; limbo = tokens_of q.items; updates_begun = begun }) same,
    )
