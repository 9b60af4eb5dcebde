-- The next store of a change, by what it is of.
use Rattle.std.proofs.Common.{arith, ◌≡◌, ◌≢◌, ℕ, ◌+◌, ◌/◌, ◌%◌, ◌^◌, ◌<◌, ◌≤◌, ◌⊎◌, inl, inr, refl, sym, ap, subst, ◌∙◌, List, slice_index, Option, Some, None, Bool, true, false, cond, eq-eqb}
use Rattle.std.proofs.lemmas.Nat.{pow_pos, mod_below, div-mul-add, shr_below}
use Rattle.lpm_cells.specs.declared.entry.Entry.{Entry}
use Rattle.lpm_cells.specs.declared.entry.Entry.TheVariants.{Miss, Hop, Group}
use Rattle.lpm_cells.specs.Words.{IsLast, entry_in, group_in, hop_in, Words, entry_at, with_first, with_second}
use Rattle.lpm_update.specs.declared.link_group.LinkGroup.{LinkGroup}
use Rattle.lpm_update.specs.declared.rewrite_range.RewriteRange.{RewriteRange}
use Rattle.lpm_update.specs.declared.update.Plan.{Plan}
use Rattle.lpm_update.specs.declared.update.Plan.TheVariants.{Range, Link, Unlink, Flush}
use Rattle.lpm_update.specs.BlockGroups.{IsTable, IsLinkTo, group_at}
use Rattle.lpm_update.specs.Kinds.{IsSecondStore, final_entry}
use Rattle.lpm_update.specs.Update.{IsUnderWay, IsNextFirst, IsNextSecond, IsNextUnlink, IsOnward, group_held, IsOver, entry_after, from_of, end_of, rewrite_of}
use Rattle.std.proofs.lemmas.Bool.{cases_eq}
use Rattle.lpm_update.proofs.Groups.{last_none, here_is, there_is}
use Rattle.lpm_update.proofs.Places.{word_entry}
use Rattle.lpm_update.proofs.Unlinks.{some_group, unlink_word}
use Rattle.lpm_update.proofs.Onward.{by_kind}
use Rattle.lpm_writer.specs.GroupToFill.{group_to_fill, unless_linked, IsTakenBy}
use Rattle.lpm_groups.specs.declared.GroupState.{GroupState}
use Rattle.lpm_update.specs.Laws.{StoreMoves, HasCome}
use Rattle.lpm_update.specs.GroupStates.{IsTied}
use Rattle.lpm_update.proofs.Runs.{next_store, next_first, next_second, next_unlink, from_same, end_same, rewrite_same, over_entries}
use Rattle.lpm_trace.specs.declared.step.WriterStep.{WriterStep}
use Rattle.lpm_trace.specs.declared.step.WriterStep.TheVariants.{StoreFirst, StoreSecond, EndUpdate}
use Rattle.lpm_trace.specs.States.{InitialState, TableState, Status, Unused, Linked, Retired, state_after, addresses, answer, IsAnswer, updates_done_in, updates_begun_in, is_same, answer_changed_by, IsFree, MayFill, MayLink, Moves}
use Rattle.lpm_trace.specs.Progress.{WriterProgress, FillsOwn, LinksOwn, HasLinkedOwn}
use Rattle.lpm_trace.specs.Writer.{progress_after, MayStep}
use Rattle.lpm_writer.specs.GroupsMatch.{GroupsMatchSteps, HasNothingDue}
use Rattle.lpm_writer.proofs.RunningUpdate.{IsMaking, answer_after}

none_last : (e : Entry) → group_in e ≡ None → IsLast e
none_last Miss h = tt
none_last (Hop hop depth) h = tt
none_last (Group g) h = absurd cc

pub none_some : (o : Option ℕ) (g : ℕ) → o ≡ None → o ≡ Some g → ⊥
none_some o g p q = cc

-- the next store in the first table, where no group is unlinked: it replaces no group's word, by one at
-- which a lookup ends, or by that of the group that the change fills
pub record IsFirstKind (v : Plan) (T : Words) (i x : ℕ) : Type 0 where
  pub old : IsLast (entry_in (slice_index T.firsts i))
  pub new : (IsLast (entry_in x) × (group_to_fill v T.firsts ≡ None))
      ⊎ ((g : ℕ) × (entry_in x ≡ Group g) × (group_to_fill v T.firsts ≡ Some g) × (group_held v T.firsts i ≡ Some g)
      × ((taken : Option ℕ) → IsTakenBy v taken → taken ≡ Some g)
      × ((b : ℕ) → group_held v T.firsts b ≡ Some g → b ≡ i))

module _ (f s : ℕ) where
  link_kind : (u : LinkGroup) (T : Words) (i x : ℕ) → IsUnderWay f s (Link u) T → IsNextFirst f s (Link u) T i x → IsFirstKind (Link u) T i x
  link_kind u T i x k n =
      let low : u.next ≤ 2 ^ s = let e = n.0 in omega (arith, e) in
      let last = k.old low in
      let none : group_at T.firsts u.block ≡ None = last_none (entry_in (slice_index T.firsts u.block)) last in
      let pos = pow_pos s in
      record {
        old = subst (λ j. IsLast (entry_in (slice_index T.firsts j))) (sym n.1) last;
        new = inr (
          u.group,
          word_entry (f + s) x (Group u.group) k.group n.2,
          ap (λ o. unless_linked o u.group) none,
          here i n.1,
          (λ taken h. first taken h (let e = n.0 in omega (arith, e, pos))),
          λ b e. only b (k.free low b) e ∙ sym n.1,
        );
      }
    where
      here : (j : ℕ) → j ≡ u.block → group_held (Link u) T.firsts j ≡ Some u.group
      here j e = elim (cases_eq j u.block) [
        | inl q ↦ here_is j u.block (Some u.group) (group_at T.firsts j) q
        | inr q ↦ absurd (q e)
      ]

      first : (taken : Option ℕ) → (taken ≡ Some u.group) ⊎ ((taken ≡ None) × (u.next ≡ 0)) → u.next ≢ 0 → taken ≡ Some u.group
      first taken (inl e) more = e
      first taken (inr h) more = absurd (more h.1)

      only : (b : ℕ) → (IsLinkTo T.firsts b u.group → ⊥) → group_held (Link u) T.firsts b ≡ Some u.group → b ≡ u.block
      only b free e = elim (cases_eq b u.block) [
        | inl q ↦ q
        | inr q ↦ absurd (free (some_group (entry_in (slice_index T.firsts b)) u.group (sym (there_is b u.block (Some u.group) (group_at T.firsts b) q) ∙ e)))
      ]

  pub first_kind : (v : Plan) (T : Words) (i x : ℕ) → IsUnderWay f s v T → IsNextFirst f s v T i x → IsFirstKind v T i x
  first_kind (Range u) T i x k n = record { old = n.last; new = inl (subst IsLast (sym (word_entry (f + s) x u.rewrite.entry k.entry n.word)) k.last, refl) }
  first_kind (Link u) T i x k n = link_kind u T i x k n
  first_kind (Unlink u) T i x k n =
      let d = (k.0 n.0).rewriting in
      record { old = n.1.last; new = inl (subst IsLast (sym (word_entry (f + s) x u.range.rewrite.entry d.entry n.1.word)) d.last, refl) }
  first_kind (Flush u) T i x k n = record {
    old = none_last (entry_in (slice_index T.firsts i)) n.1;
    new = inl (subst IsLast (sym (word_entry (f + s) x Miss tt n.0.word)) tt, refl);
  }

  -- the next store in the second table is into a group that a block has, or into the one that is filled
  pub record IsSecondKind (v : Plan) (T : Words) (j : ℕ) : Type 0 where
    pub group : ℕ
    pub place : j / 2 ^ s ≡ group
    pub kind : ((b : ℕ) × (b < 2 ^ f) × (group_held v T.firsts b ≡ Some group) × (group_to_fill v T.firsts ≡ None))
        ⊎ ((group_to_fill v T.firsts ≡ Some group) × ((taken : Option ℕ) → IsTakenBy v taken → (taken ≡ None) ⊎ (taken ≡ Some group)))

  range_kind : (v : Plan) (u : RewriteRange) (T : Words) (g y j x : ℕ) → u.end ≤ 2 ^ (f + s) → IsSecondStore s u.at u.end u.rewrite T g y j x
      → ((b : ℕ) → group_held v T.firsts b ≡ group_at T.firsts b) → group_to_fill v T.firsts ≡ None → IsSecondKind v T j
  range_kind v u T g y j x fits n held none = record {
    group = g;
    place = ap (λ p. p / 2 ^ s) n.place ∙ div-mul-add g (2 ^ s) (y % 2 ^ s) (mod_below y (2 ^ s) (pow_pos s));
    kind = inl (y / 2 ^ s, shr_below y f s (let h = n.high in omega (arith, h, fits)), held (y / 2 ^ s) ∙ ap group_in n.group, none);
  }

  pub second_kind : (v : Plan) (T : Words) (j x : ℕ) → IsUnderWay f s v T → IsNextSecond s v T j x → IsSecondKind v T j
  second_kind (Range u) T j x k n = range_kind (Range u) u T n.0 n.1 j x k.fits n.2 (λ b. refl) refl
  second_kind (Link u) T j x k n =
      let low : u.next ≤ 2 ^ s = let e = n.0 in omega (arith, e) in
      let none : group_at T.firsts u.block ≡ None = last_none (entry_in (slice_index T.firsts u.block)) (k.old low) in
      record {
        group = u.group;
        place = ap (λ p. p / 2 ^ s) n.1 ∙ div-mul-add u.group (2 ^ s) u.next n.0;
        kind = inr (ap (λ o. unless_linked o u.group) none, λ taken h. by h);
      }
    where
      by : {taken : Option ℕ} → (taken ≡ Some u.group) ⊎ ((taken ≡ None) × (u.next ≡ 0)) → (taken ≡ None) ⊎ (taken ≡ Some u.group)
      by (inl e) = inr e
      by (inr h) = inl h.0
  second_kind (Unlink u) T j x k n = range_kind (Unlink u) u.range T n.1.0 n.1.1 j x (k.0 n.0).rewriting.fits n.1.2 (λ b. refl) refl
  second_kind (Flush u) T j x k n = absurd n

  -- the store that unlinks a group replaces its word by one at which a lookup ends
  pub unlink_kind : (v : Plan) (T : Words) (b g x : ℕ) → IsTable f s T → IsUnderWay f s v T → IsNextUnlink f s v T b g x
      → IsLinkTo T.firsts b g × IsLast (entry_in x) × (group_to_fill v T.firsts ≡ None) × (group_held v T.firsts b ≡ Some g)
  unlink_kind (Range u) T b g x t k n = absurd n
  unlink_kind (Link u) T b g x t k n = absurd n
  unlink_kind (Unlink u) T b g x t k n =
      (n.3.group, (unlink_word f s T b g x t (subst (λ y. y < 2 ^ f) (sym n.1) (k.0 n.0).in_table) n.3).1, refl, ap group_in n.3.group)
  unlink_kind (Flush u) T b g x t k n =
      (some_group (entry_in (slice_index T.firsts b)) g n.1, subst IsLast (sym (word_entry (f + s) x Miss tt n.0.word)) tt, refl, n.1)

-- ---- the group that is filled, and the one that was taken, from step to step

same_link : (u v : LinkGroup) → IsOnward (Link u) (Link v) → (v.block ≡ u.block) × (v.group ≡ u.group)
same_link u v o = (ap (λ (z : LinkGroup). z.block) o.0, ap (λ (z : LinkGroup). z.group) o.0)

-- where the words of the first table stay
pub filling_same : (u v : Plan) (F : List ℕ) → IsOnward u v → group_to_fill v F ≡ group_to_fill u F
filling_same u v F = by_kind (λ x y. group_to_fill y F ≡ group_to_fill x F) (λ x y o. refl)
    (λ x y o. let e = same_link x y o in ap (λ b. unless_linked (group_at F b) y.group) e.0 ∙ ap (unless_linked (group_at F x.block)) e.1)
    (λ x y o. refl) (λ x y o. refl) u v

-- The answers of an update that runs, and which of its stores may come next.

same_answer : (x : Option ℕ) → is_same x x ≡ true
same_answer None = refl
same_answer (Some n) = eq-eqb n n refl

by_bool : (b : Bool) → (b ≡ true) ⊎ (b ≡ false)
by_bool true = inl refl
by_bool false = inr refl

may_link_last : (c : InitialState) (w : TableState) (e : Entry) → IsLast e → MayLink c w e
may_link_last c w Miss h = tt
may_link_last c w (Hop hop depth) h = tt
may_link_last c w (Group g) h = absurd h

free_fills : (c : InitialState) (p : ℕ) (s : Status) → IsFree c p s → MayFill c p s
free_fills c p Unused h = tt
free_fills c p (Linked block) h = tt
free_fills c p (Retired token) h = h

fills_own : (x : WriterProgress) (g : ℕ) (s : Status) → (x.taken ≡ None) ⊎ (x.taken ≡ Some g) → FillsOwn x g s
fills_own x g Unused h = h
fills_own x g (Linked block) h = tt
fills_own x g (Retired token) h = h

module _ (c : InitialState) (steps : List WriterStep) (u : Plan) (t : Words) (v : Plan) (m : IsMaking c steps u t v) where
  after_same : (E : ℕ → Entry) (a : ℕ) → entry_after (c.first + c.second) v E a ≡ entry_after (c.first + c.second) u E a
  after_same E a =
      let width = c.first + c.second in
      let o : IsOnward u v = m.come.onward in
      ap (λ x. final_entry x (end_of width v) (rewrite_of v) a (E a)) (from_same u v o)
      ∙ ap (λ x. final_entry (from_of u) x (rewrite_of v) a (E a)) (end_same width u v o)
      ∙ ap (λ x. final_entry (from_of u) (end_of width u) x a (E a)) (rewrite_same u v o)

  -- a store of the change moves answers as a trace asks
  moves_on : (z : Words) → StoreMoves c.first c.second v (state_after c steps).words z → Moves c (state_after c steps) z
  moves_on z sm a low = elim (sm (entry_at c.second t) m.come.stands a) [
    | inl same ↦ inl (ap hop_in same)
    | inr h ↦
        let new : answer c z a ≡ answer_after c u t a = ap hop_in (h.1 ∙ after_same (entry_at c.second t) a) in
        elim (by_bool ((state_after c steps).answer_changed a)) [
          | inl yet ↦ inl (new ∙ sym (m.answer_changed a low yet))
          | inr not_yet ↦ inr (
            not_yet,
            subst (IsAnswer c ((state_after c steps).history (updates_done_in (state_after c steps))) a) (sym (ap hop_in h.0)) (m.old a low),
            subst (IsAnswer c ((state_after c steps).history (updates_begun_in (state_after c steps))) a) (sym new) (m.new a low),
          )
        ]
  ]

  -- an address that has changed then has its new answer
  pub turned_on : (z : Words) → StoreMoves c.first c.second v (state_after c steps).words z → (a : ℕ) → a < addresses c → answer_changed_by c (state_after c steps) z a ≡ true → answer c z a ≡ answer_after c u t a
  turned_on z sm a low now = elim (sm (entry_at c.second t) m.come.stands a) [
    | inl same ↦
        let e : answer c z a ≡ answer c (state_after c steps).words a = ap hop_in same in
        let kept : is_same (answer c (state_after c steps).words a) (answer c z a) ≡ true = ap (is_same (answer c (state_after c steps).words a)) e ∙ same_answer (answer c (state_after c steps).words a) in
        e ∙ m.answer_changed a low (sym (ap (λ b. cond b ((state_after c steps).answer_changed a) true) kept) ∙ now)
    | inr h ↦ ap hop_in (h.1 ∙ after_same (entry_at c.second t) a)
  ]

  module _ (states : List GroupState) (items : List (ℕ × ℕ)) (passed : ℕ) (keeps : GroupsMatchSteps c steps states items passed (group_to_fill v (state_after c steps).words.firsts)) (idle : HasNothingDue c steps) where
    pub may_store_first : (i x : ℕ) → IsNextFirst c.first c.second v (state_after c steps).words i x → MayStep c steps (StoreFirst i x)
    may_store_first i x n =
        let w : TableState = state_after c steps in
        let law = (next_store c.first c.second v w.words m.come.table m.come.under_way).first_word i x n in
        let kind = first_kind c.first c.second v w.words i x m.come.under_way n in (
          (
            m.updating,
            (next_first c.first c.second v w.words i x m.come.table m.come.under_way n).0,
            law.0,
            elim kind.new [
              | inl last ↦ may_link_last c w (entry_in x) last.0
              | inr h ↦ subst (MayLink c w) (sym h.1) (keeps.kept.taken h.0 h.2)
            ],
            moves_on (with_first w.words i x) law.1,
          ),
          (
            idle.next_step,
            elim kind.new [
              | inl last ↦ subst (LinksOwn (progress_after c steps)) (sym (last_none (entry_in x) last.0)) tt
              | inr h ↦ subst (LinksOwn (progress_after c steps)) (sym (ap group_in h.1)) (h.4 (progress_after c steps).taken m.taken)
            ],
          ),
        )

    pub may_store_second : IsTied c.first states (group_held v (state_after c steps).words.firsts) → (j x : ℕ) → IsNextSecond c.second v (state_after c steps).words j x → MayStep c steps (StoreSecond j x)
    may_store_second tied j x n =
        let w : TableState = state_after c steps in
        let law = (next_store c.first c.second v w.words m.come.table m.come.under_way).second_word j x n in
        let kind = second_kind c.first c.second v w.words j x m.come.under_way n in
        let both = own kind in (
          (m.updating, (next_second c.first c.second v w.words j x m.come.table m.come.under_way n).0, law.0, subst (λ g. MayFill c w.passed (w.groups g)) (sym kind.place) both.0, moves_on (with_second w.words j x) law.1),
          (idle.next_step, subst (λ g. FillsOwn (progress_after c steps) g (w.groups g)) (sym kind.place) both.1),
        )
      where
        own : {j : ℕ} (k : IsSecondKind c.first c.second v (state_after c steps).words j)
            → MayFill c (state_after c steps).passed ((state_after c steps).groups k.group) × FillsOwn (progress_after c steps) k.group ((state_after c steps).groups k.group)
        own k = elim k.kind [
          | inl h ↦
              let status = keeps.kept.linked k.group h.0 (tied.linked h.0 k.group h.1 h.2) (none_some (group_to_fill v (state_after c steps).words.firsts) k.group h.3) in
              (subst (MayFill c (state_after c steps).passed) (sym status) tt, subst (FillsOwn (progress_after c steps) k.group) (sym status) tt)
          | inr h ↦ (free_fills c (state_after c steps).passed ((state_after c steps).groups k.group) (keeps.kept.taken k.group h.0), fills_own (progress_after c steps) k.group ((state_after c steps).groups k.group) (h.1 (progress_after c steps).taken m.taken))
        ]

    pub may_unlink : (b g x : ℕ) → IsNextUnlink c.first c.second v (state_after c steps).words b g x → MayStep c steps (StoreFirst b x)
    may_unlink b g x n =
        let w : TableState = state_after c steps in
        let law = (next_store c.first c.second v w.words m.come.table m.come.under_way).unlink b g x n in
        let kind = unlink_kind c.first c.second v w.words b g x m.come.table m.come.under_way n in (
          (m.updating, (next_unlink c.first c.second v w.words b g x m.come.table m.come.under_way n).0, law.0, may_link_last c w (entry_in x) kind.1, moves_on (with_first w.words b x) law.1),
          (idle.next_step, subst (LinksOwn (progress_after c steps)) (sym (last_none (entry_in x) kind.1)) tt),
        )

  -- where nothing is left to store, and the group that was taken is linked, the update may be done
  pub may_close : (v' : Plan) → HasCome c.first c.second u t v' (state_after c steps).words → HasNothingDue c steps → IsOver c.first c.second v' → HasLinkedOwn (state_after c steps) (progress_after c steps).taken
      → MayStep c steps EndUpdate
  may_close v' come idle over linked = (
    (m.updating, λ a low. subst (IsAnswer c ((state_after c steps).history (updates_begun_in (state_after c steps))) a) (sym (ap hop_in (over_entries c.first c.second u v' (state_after c steps).words (entry_at c.second t) come.onward over come.stands a))) (m.new a low)),
    (idle.next_step, linked),
  )
