-- Groups that wait in limbo, and are freed.
use Rattle.std.proofs.Common.{arith, ℕ, ◌<◌, inl, inr, sym, ◌∙◌, subst, List, ◌≡◌, ◌≢◌, zero, suc, ◌+◌, ◌≤◌, refl, ap, [], ◌∷◌, length, length-append, length-drop, drop, ◌++◌, Option, Some, append-nil, None}
use Rattle.std.specs.Prelude.{slice_set, slice_get, ◌↔◌, Result, Ok, Err, MatchOption}
use Rattle.std.proofs.lemmas.Bool.{cases_eq}
use Rattle.lpm_groups.specs.declared.GroupState.{GroupState}
use Rattle.lpm_groups.specs.declared.GroupState.TheVariants.{Linked, Free, Limbo}
use Rattle.lpm_groups.specs.States.{IsLeastFree, IsLinkedTo, IsLimboAt, IsFreeAt, is_free, is_linked, free_count, linked_count}
use Rattle.lpm_groups.proofs.Marks.{slice_get-set_other, slice_get-set_same, Releases-set, Retires-set, Takes-set, counts-total, count_by-some}
use Rattle.lpm_update.specs.GroupStates.{SameLinksBut}
use Rattle.lpm_writer.specs.Limbo.{IsFreed, AreWaiting, IsQueued, IsTaken, tokens_of}
use Rattle.lpm_writer.specs.TakenGroup.{LinksLeast, MayTake}
use Rattle.std.proofs.Math.ListN.{length-set}
use Rattle.std.proofs.lemmas.Option.{same_Some, slice_get_within}
use Rattle.defer_queue.specs.RetiredGroups.{IsAbsent}
use Rattle.defer_queue.specs.Limbo.{Limbo as Queue}
use Rattle.std.proofs.lemmas.List.{length-map}
use Rattle.lpm_limits.specs.declared.busy.Busy.{Busy}
use Rattle.defer_queue.proofs.Longest.{Reclaims-within}
use Rattle.lpm_limits.specs.declared.config.Config.{Config}
use Rattle.fib_model.specs.State.{Transitions, Reclaims, MakesRoom}
use Rattle.lpm_trace.specs.declared.step.WriterStep.{WriterStep}
use Rattle.lpm_trace.specs.States.{InitialState}
use Rattle.lpm_writer.specs.declared.pool.GroupPool.{GroupPool}
use Rattle.lpm_writer.specs.GroupsMatch.{GroupsMatchSteps, MayReclaim}
use Rattle.defer_queue.specs.Reclaims as queue

-- The least free group is taken, by the states of the groups.

-- ---- by the states of the groups

pub least_same : (xs : List GroupState) → LinksLeast xs xs
least_same xs g b at = inl at

pub least_linked : (xs : List GroupState) (g b : ℕ) → IsLeastFree xs g → LinksLeast xs (slice_set xs g (Linked b))
least_linked xs g b least h c at = elim (cases_eq h g) [
  | inl q ↦ inr (λ k below free.
      let under : k < g = subst (λ n. k < n) q below in
      least.least k under (sym (slice_get-set_other xs g k (Linked b) (λ e. omega (arith, e, under))) ∙ free))
  | inr q ↦ inl (sym (slice_get-set_other xs g h (Linked b) q) ∙ at)
]

-- after some items were freed
pub least_freed : (xs ys zs : List GroupState) (items : List (ℕ × ℕ)) (n : ℕ) → IsFreed xs items n ys → LinksLeast ys zs → LinksLeast xs zs
least_freed xs ys zs items n freed least g b at = elim (least g b at) [
  | inl was ↦ inl ((freed.links g b).0 was)
  | inr none ↦ inr none
]

-- what is written to another group's state leaves the items waiting
pub waiting_set : (xs : List GroupState) (g : ℕ) (s : GroupState) (items : List (ℕ × ℕ)) → IsAbsent g items → AreWaiting xs items → AreWaiting (slice_set xs g s) items
waiting_set xs g s [] apart waits = tt
waiting_set xs g s (item ∷ items) apart waits = (slice_get-set_other xs g item.0 s apart.0 ∙ waits.0, waits.1, waiting_set xs g s items apart.1 waits.2)

-- the states after the first n items were freed
abbrev pub freed_states : ℕ → List (ℕ × ℕ) → List GroupState → List GroupState
freed_states zero items xs = xs
freed_states (suc n) [] xs = xs
freed_states (suc n) (item ∷ items) xs = freed_states n items (slice_set xs item.0 Free)

pub limbo_linked : (x : Option GroupState) (b : ℕ) → x ≡ Some Limbo → x ≡ Some (Linked b) → ⊥
limbo_linked x b p q = cc

pub free_linked : (x : Option GroupState) (b : ℕ) → x ≡ Some Free → x ≡ Some (Linked b) → ⊥
free_linked x b p q = cc

-- a group in limbo that is freed changes no link
freed_link : (xs : List GroupState) (g h b : ℕ) → IsLimboAt xs g → IsLinkedTo (slice_set xs g Free) h b ↔ IsLinkedTo xs h b
freed_link xs g h b at = elim (cases_eq h g) [
  | inl q ↦
      let here = slice_get-set_same xs g Free (slice_get_within xs g Limbo at) in
      ((λ l. absurd (free_linked (slice_get (slice_set xs g Free) h) b (ap (slice_get (slice_set xs g Free)) q ∙ here) l)), (λ l. absurd (limbo_linked (slice_get xs h) b (ap (slice_get xs) q ∙ at) l)))
  | inr q ↦
      let e = slice_get-set_other xs g h Free q in
      ((λ l. sym e ∙ l), (λ l. e ∙ l))
]

pub is_freed : (n : ℕ) (items : List (ℕ × ℕ)) (xs : List GroupState) → n ≤ length items → AreWaiting xs items → IsFreed xs items n (freed_states n items xs)
is_freed zero items xs few waits = record {
  as_many = refl;
  links = λ g b. ((λ l. l), (λ l. l));
  others = λ g apart. refl;
  linked = refl;
  limbo = omega arith;
  free = omega arith;
}
is_freed (suc n) [] xs few waits = absurd (omega (arith, few))
is_freed (suc n) (item ∷ items) xs few waits =
    let ys = slice_set xs item.0 Free in
    let rest = is_freed n items ys (omega (arith, few)) (waiting_set xs item.0 Free items waits.1 waits.2) in
    let one = Releases-set xs item.0 waits.0 in
    record {
      as_many = rest.as_many ∙ length-set xs item.0 Free;
      links = λ g b.
          let k = freed_link xs item.0 g b waits.0 in
          let r = rest.links g b in
          ((λ l. k.0 (r.0 l)), (λ l. r.1 (k.1 l)));
      others = λ g apart. rest.others g apart.1 ∙ slice_get-set_other xs item.0 g Free (λ q. apart.0 (sym q));
      linked = rest.linked ∙ one.linked;
      limbo = omega (arith, rest.limbo, one.limbo);
      free = omega (arith, rest.free, one.free);
    }

-- ---- which items a group is not among

-- a group that isn't in limbo
pub absent_other : (xs : List GroupState) (g : ℕ) (s : GroupState) (items : List (ℕ × ℕ)) → slice_get xs g ≡ Some s → s ≢ Limbo → AreWaiting xs items → IsAbsent g items
absent_other xs g s [] at other waits = tt
absent_other xs g s (item ∷ items) at other waits = ((λ q. other (same_Some s Limbo (sym at ∙ ap (slice_get xs) (sym q) ∙ waits.0))), absent_other xs g s items at other waits.2)

pub absent_drop : (g n : ℕ) (items : List (ℕ × ℕ)) → IsAbsent g items → IsAbsent g (drop n items)
absent_drop g zero items h = h
absent_drop g (suc n) [] h = tt
absent_drop g (suc n) (item ∷ items) h = absent_drop g n items h.1

absent_last : (h g t : ℕ) (items : List (ℕ × ℕ)) → g ≢ h → IsAbsent h items → IsAbsent h (items ++ (g, t) ∷ [])
absent_last h g t [] apart a = (apart, tt)
absent_last h g t (item ∷ items) apart a = (a.0, absent_last h g t items apart a.1)

-- one more group that is in limbo goes last
pub waiting_last : (xs : List GroupState) (g t : ℕ) (items : List (ℕ × ℕ)) → IsLimboAt xs g → IsAbsent g items → AreWaiting xs items → AreWaiting xs (items ++ (g, t) ∷ [])
waiting_last xs g t [] at apart waits = (at, tt, tt)
waiting_last xs g t (item ∷ items) at apart waits = (waits.0, absent_last item.0 g t items (λ q. apart.0 (sym q)) waits.1, waiting_last xs g t items at apart.1 waits.2)

pub linked_limbo : (b : ℕ) → Linked b ≡ Limbo → ⊥
linked_limbo b q = cc

pub free_limbo : Free ≡ Limbo → ⊥
free_limbo q = cc

-- ---- a group that is retired: its state becomes limbo, the first n items are freed, and it goes last

-- the group is in limbo, and of the items that waited the first n were freed
pub record MadeRoom (old : GroupPool) (g : ℕ) (new : GroupPool) : Type 0 where
  pub n : ℕ
  pub few : n ≤ length old.queue.items
  pub queue : new.queue ≡ record old.queue { items = drop n old.queue.items }
  pub waits : AreWaiting new.groups new.queue.items
  pub freed : IsFreed (slice_set old.groups g Limbo) old.queue.items n new.groups

-- no item is freed
pub no_more_room : (old new : GroupPool) (g : ℕ) → new ≡ record old { groups = slice_set old.groups g Limbo }
    → AreWaiting (slice_set old.groups g Limbo) old.queue.items → MadeRoom old g new
no_more_room old new g same waits = subst (MadeRoom old g) (sym same) (record {
  n = 0;
  few = omega arith;
  queue = refl;
  waits = waits;
  freed = is_freed 0 old.queue.items (slice_set old.groups g Limbo) (omega arith) waits;
})

pub retired_queue : (old new : GroupPool) (g b t : ℕ) → IsLinkedTo old.groups g b → IsQueued old.groups old.queue → MadeRoom old g new
    → IsQueued new.groups (record new.queue { items = new.queue.items ++ (g, t) ∷ [] })
retired_queue old new g b t at queued made =
    let apart = absent_other old.groups g (Linked b) old.queue.items at (linked_limbo b) queued.waiting in
    let here = slice_get-set_same old.groups g Limbo (slice_get_within old.groups g (Linked b) at) in
    let one = Retires-set old.groups g b at in
    let left = drop made.n old.queue.items in
    let waits = subst (λ (q : Queue). AreWaiting new.groups q.items) made.queue made.waits in
    subst (λ (q : Queue). IsQueued new.groups (record q { items = q.items ++ (g, t) ∷ [] })) (sym made.queue) (record {
      waiting = waiting_last new.groups g t left (made.freed.others g apart ∙ here) (absent_drop g made.n old.queue.items apart) waits;
      all = omega (arith, length-append left ((g, t) ∷ []), length-drop made.n old.queue.items, made.few, made.freed.limbo, one.limbo, queued.all);
      room = queued.room ∙ sym (made.freed.as_many ∙ length-set old.groups g Limbo);
    })

pub retired_room : (xs : List GroupState) (q : Queue) (g b n : ℕ) → IsLinkedTo xs g b → IsQueued xs q → length (drop n q.items) < q.capacity
retired_room xs q g b n at queued = omega (arith, length-drop n q.items, queued.all, queued.room, counts-total xs, count_by-some is_linked xs g (Linked b) at refl)

pub retired_linked : (old new : GroupPool) (g b : ℕ) → IsLinkedTo old.groups g b → MadeRoom old g new → linked_count new.groups + 1 ≡ linked_count old.groups
retired_linked old new g b at made = omega (arith, made.freed.linked, (Retires-set old.groups g b at).linked)

pub retired_others : (old new : GroupPool) (g : ℕ) → MadeRoom old g new → SameLinksBut g old.groups new.groups
retired_others old new g made h c other =
    let e = slice_get-set_other old.groups g h Limbo other in
    let k = made.freed.links h c in
    ((λ l. sym e ∙ k.0 l), (λ l. k.1 (e ∙ l)))

pub retired_gone : (old new : GroupPool) (g b : ℕ) → IsLinkedTo old.groups g b → MadeRoom old g new → (c : ℕ) → ¬ IsLinkedTo new.groups g c
retired_gone old new g b at made c l =
    limbo_linked (slice_get (slice_set old.groups g Limbo) g) c (slice_get-set_same old.groups g Limbo (slice_get_within old.groups g (Linked b) at)) ((made.freed.links g c).0 l)

-- ---- a group that is taken

pub taken_from : (xs : List GroupState) (g b : ℕ) → IsFreeAt xs g → IsTaken xs g b (slice_set xs g (Linked b))
taken_from xs g b at = record {
  here = slice_get-set_same xs g (Linked b) (slice_get_within xs g Free at);
  unlinked = λ c l. free_linked (slice_get xs g) c at l;
  others = λ h c other. let e = slice_get-set_other xs g h (Linked b) other in ((λ l. sym e ∙ l), (λ l. e ∙ l));
  as_many = length-set xs g (Linked b);
  linked = (Takes-set xs g b at).linked;
}

pub taken_queue : (xs : List GroupState) (q : Queue) (g b : ℕ) → IsFreeAt xs g → IsQueued xs q → IsQueued (slice_set xs g (Linked b)) q
taken_queue xs q g b at queued = record {
  waiting = waiting_set xs g (Linked b) q.items (absent_other xs g Free q.items at free_limbo queued.waiting) queued.waiting;
  all = queued.all ∙ sym (Takes-set xs g b at).limbo;
  room = queued.room ∙ sym (length-set xs g (Linked b));
}

-- after some items were freed
pub taken_after : (xs ys zs : List GroupState) (items : List (ℕ × ℕ)) (n g b : ℕ) → IsFreed xs items n ys → IsTaken ys g b zs → IsTaken xs g b zs
taken_after xs ys zs items n g b freed taken = record {
  here = taken.here;
  unlinked = λ c l. taken.unlinked c ((freed.links g c).1 l);
  others = λ h c other. let k = taken.others h c other in let f = freed.links h c in ((λ l. f.0 (k.0 l)), (λ l. k.1 (f.1 l)));
  as_many = taken.as_many ∙ freed.as_many;
  linked = taken.linked ∙ ap (λ n. n + 1) freed.linked;
}

pub freed_queue : (xs ys : List GroupState) (q : Queue) (n : ℕ) → IsQueued xs q → n ≤ length q.items → IsFreed xs q.items n ys → AreWaiting ys (drop n q.items) → IsQueued ys (record q { items = drop n q.items })
freed_queue xs ys q n queued few freed waits = record {
  waiting = waits;
  all = omega (arith, length-drop n q.items, few, freed.limbo, queued.all);
  room = queued.room ∙ sym freed.as_many;
}

-- a free group is counted
pub still_free : (xs : List GroupState) (g : ℕ) → slice_get xs g ≡ Some Free → free_count xs ≡ 0 → ⊥
still_free xs g at none = let some = count_by-some is_free xs g Free at refl in omega (arith, some, none)

-- a linked group is counted
pub some_linked : (xs : List GroupState) (g b : ℕ) → IsLinkedTo xs g b → 0 < linked_count xs
some_linked xs g b at = count_by-some is_linked xs g (Linked b) at refl

pub few_linked : (xs : List GroupState) → linked_count xs ≤ length xs
few_linked xs = omega (arith, counts-total xs)

-- What a reclaim comes to, item by item.

pub more_items : (n : ℕ) (items : List (ℕ × ℕ)) (g t : ℕ) (rest : List (ℕ × ℕ)) → drop n items ≡ (g, t) ∷ rest → n + 1 ≤ length items
more_items zero [] g t rest e = absurd (cc)
more_items zero (item ∷ items) g t rest e = omega arith
more_items (suc n) [] g t rest e = absurd (cc)
more_items (suc n) (item ∷ items) g t rest e = omega (arith, more_items n items g t rest e)

-- a reclaim freed no more than waited
pub freed_within : {X : Type 0} {checks : X → ℕ → Result (Unit {0}) Busy → X → Type 0} {frees : X → ℕ → X → Type 0} {x z : X} {max n : ℕ} {stopped : Option Busy} {left : List ℕ}
    (items : List (ℕ × ℕ)) → queue.Reclaims checks frees max (tokens_of items) x n stopped left z → n ≤ length items
freed_within {n = n} items r = subst (λ m. n ≤ m) (length-map items (λ item. item.1)) (Reclaims-within r)

-- What a reclaim of one group, or of none, comes to.

module _ {X : Type 0} (t : Transitions X) where
  -- a reclaim of one that freed some freed the front
  pub reclaims_one : (x z : X) (limbo left : List ℕ) (n : ℕ) (stopped : Option Busy) → Reclaims t x 1 limbo n stopped left z → n ≢ 0 → (u : ℕ) × (limbo ≡ u ∷ left) × t.checks x u (Ok tt) z
  reclaims_one x z limbo left zero stopped r some = absurd (some refl)
  reclaims_one x z [] left (suc zero) stopped r some = absurd r.front
  reclaims_one x z (u ∷ limbo) left (suc zero) None r some =
      let freed = r.front in
      (u, ap (λ xs. u ∷ xs) (sym freed.4.0), subst (λ y. t.checks x u (Ok tt) y) (sym (r.end.1 ∙ freed.4.1 ∙ freed.3)) freed.2)
  reclaims_one x z (u ∷ limbo) [] (suc zero) (Some busy) r some = absurd r.end
  reclaims_one x z (u ∷ limbo) (v ∷ left) (suc zero) (Some busy) r some = absurd (let w = r.end.0 in omega (arith, w))
  reclaims_one x z limbo left (suc (suc n)) stopped r some = absurd (let m = r.at_most in omega (arith, m))

  -- one that freed none met a worker at the front, or an empty limbo list
  pub reclaims_none : (x z : X) (limbo left : List ℕ) (n : ℕ) (stopped : Option Busy) → Reclaims t x 1 limbo n stopped left z → n ≡ 0
      → MatchOption stopped ((limbo ≡ []) × (z ≡ x)) (λ busy. (u : ℕ) × (slice_get limbo 0 ≡ Some u) × t.checks x u (Err busy) z)
  reclaims_none x z limbo left (suc n) stopped r none = absurd (omega (arith, none))
  reclaims_none x z limbo left zero None r none = (
    elim r.end.0 [
      | inl e ↦ absurd (omega (arith, e))
      | inr e ↦ sym r.front.0 ∙ e
    ],
    r.end.1 ∙ r.front.1,
  )
  reclaims_none x z limbo [] zero (Some busy) r none = absurd r.end
  reclaims_none x z limbo (u ∷ left) zero (Some busy) r none =
      (u, ap (λ xs. slice_get xs 0) (sym r.front.0), subst (λ y. t.checks y u (Err busy) z) r.front.1 r.end.1)

  -- above the threshold room is made by a reclaim
  pub room_above : (config : Config) (x z : X) (limbo left : List ℕ) (n : ℕ) (stopped : Option Busy) → config.threshold < length limbo
      → Reclaims t x config.reclaim_max limbo n stopped left z → MakesRoom t config x limbo left z
  room_above config x z limbo left n stopped more r = ((λ _. (n, stopped, r)), (λ less. absurd (omega (arith, more, less))))

  -- up to it nothing is done
  pub room_below : (config : Config) (x : X) (limbo : List ℕ) → length limbo ≤ config.threshold → MakesRoom t config x limbo limbo x
  room_below config x limbo less = ((λ more. absurd (omega (arith, more, less))), (λ _. (refl, refl)))

-- ---- what a reclaim asks and leaves between updates

pub no_tail : (c : InitialState) (steps : List WriterStep) (states : List GroupState) (items : List (ℕ × ℕ)) (passed : ℕ) (held : Option ℕ)
    → GroupsMatchSteps c steps states items passed held → GroupsMatchSteps c steps states (items ++ []) passed held
no_tail c steps states items passed held k = subst (λ xs. GroupsMatchSteps c steps states xs passed held) (sym (append-nil items)) k

pub without_tail : (c : InitialState) (steps : List WriterStep) (states : List GroupState) (items : List (ℕ × ℕ)) (passed : ℕ) (held : Option ℕ)
    → GroupsMatchSteps c steps states (items ++ []) passed held → GroupsMatchSteps c steps states items passed held
without_tail c steps states items passed held k = subst (λ xs. GroupsMatchSteps c steps states xs passed held) (append-nil items) k

pub may_reclaim : (c : InitialState) (steps : List WriterStep) (pool : GroupPool) → MayTake c steps pool → MayReclaim c steps pool.queue.items
may_reclaim c steps pool may = record { idle = may.idle; updating = λ up. absurd (may.rests up); before = λ up. absurd (may.rests up) }
