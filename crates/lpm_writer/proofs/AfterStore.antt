-- What a store of an update leaves.
use Rattle.std.proofs.Common.{arith, ◌≡◌, ◌≢◌, ℕ, suc, ◌+◌, ◌/◌, ◌%◌, ◌^◌, ◌<◌, ◌⊎◌, inl, inr, refl, sym, ap, subst, ◌∙◌, List, [], ◌∷◌, ◌++◌, length, slice_index, Option, Some, None}
use Rattle.std.specs.Prelude.{slice_get, slice_set}
use Rattle.std.proofs.lemmas.Bool.{cases_eq}
use Rattle.std.proofs.lemmas.Nat.{pow_pos}
use Rattle.std.proofs.lemmas.List.Elements.{All-cons}
use Rattle.std.proofs.lemmas.Option.{same_Some, slice_get_within}
use Rattle.lpm_cells.specs.declared.entry.Entry.{Entry}
use Rattle.lpm_cells.specs.declared.entry.Entry.TheVariants.{Miss, Hop, Group}
use Rattle.lpm_cells.specs.Words.{IsLast, entry_in, group_in, Words, with_first, with_second}
use Rattle.lpm_groups.specs.declared.GroupState.{GroupState}
use Rattle.lpm_groups.specs.declared.GroupState.TheVariants.{Free, Linked as LinkedTo, Limbo}
use Rattle.lpm_groups.specs.States.{IsLinkedTo, IsFreeAt}
use Rattle.lpm_groups.proofs.Marks.{slice_get-set_same, slice_get-set_other}
use Rattle.defer_queue.specs.RetiredGroups.{IsAbsent}
use Rattle.lpm_update.specs.declared.Did.{Did}
use Rattle.lpm_update.specs.declared.link_group.LinkGroup.{LinkGroup}
use Rattle.lpm_update.specs.declared.rewrite_range.RewriteRange.{RewriteRange}
use Rattle.lpm_update.specs.declared.unlink_group.UnlinkGroup.{UnlinkGroup}
use Rattle.lpm_update.specs.declared.update.Plan.{Plan}
use Rattle.lpm_update.specs.declared.update.Plan.TheVariants.{Range, Link, Unlink, Flush}
use Rattle.lpm_update.specs.Laws.{StoreMoves, HasCome}
use Rattle.lpm_update.specs.BlockGroups.{IsLinkTo, group_at}
use Rattle.lpm_update.specs.Step.{Steps}
use Rattle.lpm_update.specs.GroupStates.{IsTied}
use Rattle.lpm_update.specs.Update.{IsUnderWay, IsNextFirst, IsNextSecond, IsNextUnlink, IsOnward, IsOver, HasGroups, HasPassedFirst, HasPassedSecond, group_held}
use Rattle.lpm_update.proofs.Groups.{group_set_same, here_is, last_none}
use Rattle.lpm_update.proofs.Onward.{by_kind}
use Rattle.lpm_update.proofs.Places.{word_entry}
use Rattle.lpm_update.proofs.Runs.{run_goes_on}
use Rattle.lpm_trace.specs.declared.step.WriterStep.{WriterStep}
use Rattle.lpm_trace.specs.declared.step.WriterStep.TheVariants.{StoreFirst, StoreSecond}
use Rattle.lpm_trace.specs.States.{InitialState, TableState, Status, Unused, Linked, Retired, state_after, with_at, with_linked, with_retired, IsFree, IsAnswer, answer, updates_done_in, updates_begun_in, done_at, begun_at}
use Rattle.lpm_trace.specs.Progress.{HasLinkedOwn, next_after_store, taken_with}
use Rattle.lpm_trace.specs.Writer.{progress_after}
use Rattle.lpm_trace.proofs.Versions.{with_at-same, with_at-other}
use Rattle.lpm_writer.specs.declared.pool.GroupPool.{GroupPool}
use Rattle.lpm_writer.specs.Limbo.{AreWaiting}
use Rattle.lpm_writer.specs.GroupsMatch.{AreAfter, AreRising, AreRetired, AreBelow, IsAmong, GroupsMatchState, HasNothingDue, SameState, GroupsMatchSteps}
use Rattle.lpm_writer.specs.Steps.{since_opened}
use Rattle.lpm_writer.specs.GroupToFill.{group_to_fill, unless_linked, IsTakenBy}
use Rattle.lpm_writer.proofs.GivenUp.{HasUnlinked}
use Rattle.lpm_writer.proofs.LimboItems.{absent_other, free_limbo, free_linked, linked_limbo}
use Rattle.lpm_writer.proofs.Reclaims.{kept_quiet, linked_not_retired}
use Rattle.lpm_writer.proofs.NextStores.{none_some, filling_same, second_kind, IsFirstKind, turned_on}
use Rattle.lpm_writer.proofs.StepsAlone.{IsStoreOf, StoresNothing, passed_on, new_word}
use Rattle.lpm_writer.proofs.RunningUpdate.{HasPassedStore, HasPassedStores, IsMaking, answer_after}

-- ---- the group that is filled

same_link : (u v : LinkGroup) → IsOnward (Link u) (Link v) → (v.block ≡ u.block) × (v.group ≡ u.group)
same_link u v o = (ap (λ (z : LinkGroup). z.block) o.0, ap (λ (z : LinkGroup). z.group) o.0)

-- the block of a group that was just linked
now_linked : (f s : ℕ) (x y : LinkGroup) (T : Words) (i w : ℕ) → IsOnward (Link x) (Link y) → i < length T.firsts → IsUnderWay f s (Link x) T → IsNextFirst f s (Link x) T i w
    → group_at (slice_set T.firsts i w) y.block ≡ Some x.group
now_linked f s x y T i w o low k n =
    let e : y.block ≡ i = (same_link x y o).0 ∙ sym n.1 in
    ap (group_at (slice_set T.firsts i w)) e ∙ group_set_same T.firsts i w low ∙ ap group_in (word_entry (f + s) w (Group x.group) k.group n.2)

pub none_filling : (f s : ℕ) (u v : Plan) (T : Words) (i w : ℕ) → IsOnward u v → i < length T.firsts → IsUnderWay f s u T → IsNextFirst f s u T i w → group_to_fill v (slice_set T.firsts i w) ≡ None
none_filling f s u v T i w = by_kind (λ x y. i < length T.firsts → IsUnderWay f s x T → IsNextFirst f s x T i w → group_to_fill y (slice_set T.firsts i w) ≡ None)
    (λ x y o low k n. refl)
    (λ x y o low k n. ap (λ g. unless_linked g y.group) (now_linked f s x y T i w o low k n))
    (λ x y o low k n. refl) (λ x y o low k n. refl) u v

-- where some of the group that is linked was stored, it is the one that was taken
link_taken : (x y : LinkGroup) (taken : Option ℕ) → y.group ≡ x.group → (x.next ≡ 0 → ⊥) → IsTakenBy (Link x) taken → taken ≡ Some y.group
link_taken x y taken same some (inl is) = is ∙ ap Some (sym same)
link_taken x y taken same some (inr h) = absurd (some h.1)

-- a store in the first table takes no group
pub taken_first : (f s : ℕ) (u v : Plan) (T : Words) (i w : ℕ) (taken : Option ℕ) → IsOnward u v → IsNextFirst f s u T i w → IsTakenBy u taken → IsTakenBy v taken
taken_first f s u v T i w taken = by_kind (λ x y. IsNextFirst f s x T i w → IsTakenBy x taken → IsTakenBy y taken)
    (λ x y o n h. h)
    (λ x y o n h. inl (link_taken x y taken (same_link x y o).1 (λ e. let all = n.0 in let some = pow_pos s in omega (arith, all, some, e)) h))
    (λ x y o n h. h) (λ x y o n h. h) u v

-- a change that unlinks a group fills none
pub unlink_filling : (f s : ℕ) (u v : Plan) (T : Words) (b g w : ℕ) (F : List ℕ) → IsOnward u v → IsNextUnlink f s u T b g w → group_to_fill v F ≡ None
unlink_filling f s u v T b g w F = by_kind (λ x y. IsNextUnlink f s x T b g w → group_to_fill y F ≡ None)
    (λ x y o n. absurd n) (λ x y o n. absurd n) (λ x y o n. refl) (λ x y o n. refl) u v

-- a store that unlinks a group takes none
pub taken_unlink : (f s : ℕ) (u v : Plan) (T : Words) (b g w : ℕ) (taken : Option ℕ) → IsOnward u v → IsNextUnlink f s u T b g w → IsTakenBy u taken → IsTakenBy v taken
taken_unlink f s u v T b g w taken = by_kind (λ x y. IsNextUnlink f s x T b g w → IsTakenBy x taken → IsTakenBy y taken)
    (λ x y o n h. absurd n) (λ x y o n h. absurd n) (λ x y o n h. h) (λ x y o n h. h) u v

-- a change that has nothing left to store has linked the group that it filled
pub over_filling : (f s : ℕ) (v : Plan) (T : Words) (L : ℕ → Option ℕ) → IsUnderWay f s v T → IsOver f s v → HasGroups f s v T.firsts L → group_to_fill v T.firsts ≡ None
over_filling f s (Range u) T L k over groups = refl
over_filling f s (Link u) T L k over groups = ap (λ o. unless_linked o u.group) (groups u.block k.block ∙ over.groups L u.block k.block ∙ here_is u.block u.block (Some u.group) (L u.block) refl)
over_filling f s (Unlink u) T L k over groups = refl
over_filling f s (Flush u) T L k over groups = refl

-- after a store into a group that is linked what was taken stays; and where it was the one that is filled,
-- it is taken
pub taken_second : (f s : ℕ) (u v : Plan) (T : Words) (j w : ℕ) (old taken : Option ℕ) → IsOnward u v → IsUnderWay f s u T → IsNextSecond s u T j w → IsTakenBy u old
    → ((group_to_fill u T.firsts ≡ None) × (taken ≡ old)) ⊎ ((g : ℕ) × (group_to_fill u T.firsts ≡ Some g) × (taken ≡ Some g)) → IsTakenBy v taken
taken_second f s u v T j w old taken = by_kind (λ x y. IsUnderWay f s x T → IsNextSecond s x T j w → IsTakenBy x old
    → ((group_to_fill x T.firsts ≡ None) × (taken ≡ old)) ⊎ ((g : ℕ) × (group_to_fill x T.firsts ≡ Some g) × (taken ≡ Some g)) → IsTakenBy y taken)
    (λ x y o k n was h. stays x h ∙ was)
    (λ x y o k n was h. inl (filled x y (same_link x y o).1 (last_none (entry_in (slice_index T.firsts x.block)) (k.old (let few = n.0 in omega (arith, few)))) h))
    (λ x y o k n was h. leaves x h ∙ was)
    (λ x y o k n was h. absurd n) u v
  where
    stays : (x : RewriteRange) → ((group_to_fill (Range x) T.firsts ≡ None) × (taken ≡ old)) ⊎ ((g : ℕ) × (group_to_fill (Range x) T.firsts ≡ Some g) × (taken ≡ Some g)) → taken ≡ old
    stays x (inl h) = h.1
    stays x (inr h) = absurd (none_some (group_to_fill (Range x) T.firsts) h.0 refl h.1)

    leaves : (x : UnlinkGroup) → ((group_to_fill (Unlink x) T.firsts ≡ None) × (taken ≡ old)) ⊎ ((g : ℕ) × (group_to_fill (Unlink x) T.firsts ≡ Some g) × (taken ≡ Some g)) → taken ≡ old
    leaves x (inl h) = h.1
    leaves x (inr h) = absurd (none_some (group_to_fill (Unlink x) T.firsts) h.0 refl h.1)

    filled : (x y : LinkGroup) → y.group ≡ x.group → group_at T.firsts x.block ≡ None
        → ((group_to_fill (Link x) T.firsts ≡ None) × (taken ≡ old)) ⊎ ((g : ℕ) × (group_to_fill (Link x) T.firsts ≡ Some g) × (taken ≡ Some g)) → taken ≡ Some y.group
    filled x y e none (inl h) = absurd (none_some (group_to_fill (Link x) T.firsts) x.group h.0 (ap (λ o. unless_linked o x.group) none))
    filled x y e none (inr h) =
        let g : h.0 ≡ x.group = same_Some h.0 x.group (sym h.1 ∙ ap (λ o. unless_linked o x.group) none) in
        h.2 ∙ ap Some (g ∙ sym e)

taken_free : (c : InitialState) (p g : ℕ) (taken : Option ℕ) (s : Status) → IsFree c p s → taken_with taken g s ≡ Some g
taken_free c p g taken Unused h = refl
taken_free c p g taken (Linked block) h = absurd h
taken_free c p g taken (Retired token) h = refl

-- ---- the statuses of the groups

retired_last : (e : Entry) (t : ℕ) (G : ℕ → Status) → IsLast e → with_retired e t G ≡ G
retired_last Miss t G h = refl
retired_last (Hop hop depth) t G h = refl
retired_last (Group g) t G h = absurd h

linked_last : (e : Entry) (i : ℕ) (G : ℕ → Status) → IsLast e → with_linked e i G ≡ G
linked_last Miss i G h = refl
linked_last (Hop hop depth) i G h = refl
linked_last (Group g) i G h = absurd h

retired_apart : (G : ℕ → Status) (g : ℕ) (s : Status) (token : ℕ) (items : List (ℕ × ℕ)) → IsAbsent g items → AreRetired G token items → AreRetired (with_at G g s) token items
retired_apart G g s token [] apart h = tt
retired_apart G g s token (item ∷ items) apart h = (with_at-other G g s item.0 apart.0 ∙ h.0, h.1, retired_apart G g s token items apart.1 h.2)

pub retired_token : (t u : ℕ) → Retired t ≡ Retired u → u ≡ t
retired_token t u e = cc

limbo_not : (x : Option GroupState) (s : GroupState) → (Limbo ≡ s → ⊥) → x ≡ Some Limbo → x ≡ Some s → ⊥
limbo_not x s other p q = other (same_Some Limbo s (sym p ∙ q))

-- ---- one more item, behind all others

below_retired : (G : ℕ → Status) (token : ℕ) (items : List (ℕ × ℕ)) → AreRetired G token items → AreBelow (suc token) items
below_retired G token [] h = tt
below_retired G token (item ∷ items) h = (let le = h.1 in omega (arith, le), below_retired G token items h.2)

after_last : (t u g : ℕ) (items : List (ℕ × ℕ)) → t < u → AreAfter t items → AreAfter t (items ++ (g, u) ∷ [])
after_last t u g [] lt h = (lt, tt)
after_last t u g (item ∷ items) lt h = (h.0, after_last t u g items lt h.1)

rising_last : (g t : ℕ) (items : List (ℕ × ℕ)) → AreBelow t items → AreRising items → AreRising (items ++ (g, t) ∷ [])
rising_last g t [] below h = (tt, tt)
rising_last g t (item ∷ items) below h = (after_last item.1 t g items below.0 h.0, rising_last g t items below.1 h.1)

retired_more : (G : ℕ → Status) (token : ℕ) (g : ℕ) (items : List (ℕ × ℕ)) → G g ≡ Retired (suc token) → AreRetired G token items → AreRetired G (suc token) (items ++ (g, suc token) ∷ [])
retired_more G token g [] e h = (e, omega arith, tt)
retired_more G token g (item ∷ items) e h = (h.0, let le = h.1 in omega (arith, le), retired_more G token g items e h.2)

among_front : (h u g t : ℕ) (items : List (ℕ × ℕ)) → IsAmong h u items → IsAmong h u (items ++ (g, t) ∷ [])
among_front h u g t [] at = absurd at
among_front h u g t (item ∷ items) (inl e) = inl e
among_front h u g t (item ∷ items) (inr at) = inr (among_front h u g t items at)

among_last : (g t : ℕ) (items : List (ℕ × ℕ)) → IsAmong g t (items ++ (g, t) ∷ [])
among_last g t [] = inl (refl, refl)
among_last g t (item ∷ items) = inr (among_last g t items)

-- ---- what is kept after a store

module _ (c : InitialState) (steps : List WriterStep) (states : List GroupState) (items : List (ℕ × ℕ)) (passed : ℕ) (v : Plan)
    (keeps : GroupsMatchSteps c steps states items passed (group_to_fill v (state_after c steps).words.firsts)) where
  -- a store that links no group
  keeps_plain : (i x : ℕ) → IsLast (entry_in (slice_index (state_after c steps).words.firsts i)) → IsLast (entry_in x) → group_to_fill v (state_after c steps).words.firsts ≡ None
      → GroupsMatchSteps c (StoreFirst i x ∷ steps) states items passed None
  keeps_plain i x old last none =
      let w : TableState = state_after c steps in
      let z : TableState = state_after c (StoreFirst i x ∷ steps) in
      let same : z.groups ≡ w.groups = linked_last (entry_in x) i (with_retired (entry_in (slice_index w.words.firsts i)) (suc w.token) w.groups) last
      ∙ retired_last (entry_in (slice_index w.words.firsts i)) (suc w.token) w.groups old in
      record {
        kept = subst (GroupsMatchState c z w.token states items) none (kept_quiet c w z w.token states items (group_to_fill v w.words.firsts) same (omega arith) keeps.kept);
        remembers = keeps.remembers;
      }

  -- the store that links the group that was filled
  keeps_linked : (i x g : ℕ) → IsLast (entry_in (slice_index (state_after c steps).words.firsts i)) → entry_in x ≡ Group g → group_to_fill v (state_after c steps).words.firsts ≡ Some g
      → IsLinkedTo states g i → ((b : ℕ) → IsLinkedTo states g b → b ≡ i) → AreWaiting states items → GroupsMatchSteps c (StoreFirst i x ∷ steps) states items passed None
  keeps_linked i x g old e fill here only waits =
      let w : TableState = state_after c steps in
      let z : TableState = state_after c (StoreFirst i x ∷ steps) in
      let same : z.groups ≡ with_at w.groups g (Linked i) = ap (λ y. with_linked y i (with_retired (entry_in (slice_index w.words.firsts i)) (suc w.token) w.groups)) e
      ∙ ap (λ G. with_at G g (Linked i)) (retired_last (entry_in (slice_index w.words.firsts i)) (suc w.token) w.groups old) in
      let at : z.groups g ≡ Linked i = ap (λ G. G g) same ∙ with_at-same w.groups g (Linked i) in
      let off : (h : ℕ) → h ≢ g → z.groups h ≡ w.groups h = λ h ne. ap (λ G. G h) same ∙ with_at-other w.groups g (Linked i) h ne in
      let apart = absent_other states g (LinkedTo i) items here (linked_limbo i) waits in
      record {
        kept = record {
          free = λ h free. subst (IsFree c w.passed) (sym (off h (free_other h free))) (keeps.kept.free h free);
          linked = λ h b link _. elim (cases_eq h g) [
            | inl q ↦ ap z.groups q ∙ at ∙ ap Linked (sym (only b (subst (λ y. IsLinkedTo states y b) q link)))
            | inr ne ↦ off h ne ∙ keeps.kept.linked h b link (λ q. ne (same_Some h g (sym q ∙ fill)))
          ];
          taken = λ h q. absurd cc;
          rising = keeps.kept.rising;
          retired = subst (λ G. AreRetired G w.token items) (sym same) (retired_apart w.groups g (Linked i) w.token items apart keeps.kept.retired);
          all = λ some h u q. elim (cases_eq h g) [
            | inl k ↦ absurd (linked_not_retired i u (sym at ∙ ap z.groups (sym k) ∙ q))
            | inr ne ↦ keeps.kept.all some h u (sym (off h ne) ∙ q)
          ];
        };
        remembers = keeps.remembers;
      }
    where
      free_other : (h : ℕ) → IsFreeAt states h → h ≢ g
      free_other h free q = free_linked (slice_get states g) i (ap (slice_get states) (sym q) ∙ free) here

  pub keeps_first : (i x : ℕ) → IsFirstKind v (state_after c steps).words i x → (first : ℕ) → IsTied first states (group_held v (state_after c steps).words.firsts) → i < 2 ^ first → AreWaiting states items
      → GroupsMatchSteps c (StoreFirst i x ∷ steps) states items passed None
  keeps_first i x kind first tied low waits = elim kind.new [
    | inl last ↦ keeps_plain i x kind.old last.0 last.1
    | inr h ↦ keeps_linked i x h.0 kind.old h.1 h.2 (tied.linked i h.0 low h.3) (λ b at. h.5 b (tied.only b h.0 at).1) waits
  ]

  pub keeps_second : (j x : ℕ) (v' : Plan) → IsOnward v v' → GroupsMatchSteps c (StoreSecond j x ∷ steps) states items passed (group_to_fill v' (state_after c steps).words.firsts)
  keeps_second j x v' o = record {
    kept = subst (GroupsMatchState c (state_after c (StoreSecond j x ∷ steps)) (state_after c steps).token states items) (sym (filling_same v v' (state_after c steps).words.firsts o))
        (kept_quiet c (state_after c steps) (state_after c (StoreSecond j x ∷ steps)) (state_after c steps).token states items (group_to_fill v (state_after c steps).words.firsts) refl (omega arith) keeps.kept);
    remembers = keeps.remembers;
  }

-- the store that unlinks a group
pub has_unlinked : (c : InitialState) (steps : List WriterStep) (pool : GroupPool) (v : Plan) (b g x : ℕ) → GroupsMatchSteps c steps pool.groups pool.queue.items pool.passed (group_to_fill v (state_after c steps).words.firsts)
    → HasNothingDue c steps → IsLinkTo (state_after c steps).words.firsts b g → IsLast (entry_in x) → group_to_fill v (state_after c steps).words.firsts ≡ None → IsLinkedTo pool.groups g b → AreWaiting pool.groups pool.queue.items
    → HasUnlinked c (StoreFirst b x ∷ steps) pool g None
has_unlinked c steps pool v b g x keeps idle link last none here waits =
    let w : TableState = state_after c steps in
    let z : TableState = state_after c (StoreFirst b x ∷ steps) in
    let t = suc w.token in
    let items = pool.queue.items in
    let states = pool.groups in
    let same : z.groups ≡ with_at w.groups g (Retired t) = linked_last (entry_in x) b (with_retired (entry_in (slice_index w.words.firsts b)) t w.groups) last ∙ ap (λ e. with_retired e t w.groups) link in
    let at : z.groups g ≡ Retired t = ap (λ G. G g) same ∙ with_at-same w.groups g (Retired t) in
    let off : (h : ℕ) → h ≢ g → z.groups h ≡ w.groups h = λ h ne. ap (λ G. G h) same ∙ with_at-other w.groups g (Retired t) h ne in
    let apart = absent_other states g (LinkedTo b) items here (linked_limbo b) waits in
    let limbo = slice_get-set_same states g Limbo (slice_get_within states g (LinkedTo b) here) in
    record {
      next_step = ap next_after_store link;
      awaited = idle.awaited;
      kept = record {
        free = λ h free. elim (cases_eq h g) [
          | inl q ↦ absurd (limbo_not (slice_get (slice_set states g Limbo) g) Free (λ e. free_limbo (sym e)) limbo (ap (slice_get (slice_set states g Limbo)) (sym q) ∙ free))
          | inr ne ↦ subst (IsFree c w.passed) (sym (off h ne)) (keeps.kept.free h (sym (slice_get-set_other states g h Limbo ne) ∙ free))
        ];
        linked = λ h k to _. elim (cases_eq h g) [
          | inl q ↦ absurd (limbo_not (slice_get (slice_set states g Limbo) g) (LinkedTo k) (λ e. linked_limbo k (sym e)) limbo (ap (slice_get (slice_set states g Limbo)) (sym q) ∙ to))
          | inr ne ↦ off h ne ∙ keeps.kept.linked h k (sym (slice_get-set_other states g h Limbo ne) ∙ to) (none_some (group_to_fill v w.words.firsts) h none)
        ];
        taken = λ h q. absurd cc;
        rising = rising_last g t items (below_retired w.groups w.token items keeps.kept.retired) keeps.kept.rising;
        retired = retired_more z.groups w.token g items at (subst (λ G. AreRetired G w.token items) (sym same) (retired_apart w.groups g (Retired t) w.token items apart keeps.kept.retired));
        all = λ some h u q. elim (cases_eq h g) [
          | inl k ↦
              let e : u ≡ t = retired_token t u (sym at ∙ ap z.groups (sym k) ∙ q) in
              inr (subst (λ y. IsAmong y u (items ++ (g, t) ∷ [])) (sym k) (subst (λ y. IsAmong g y (items ++ (g, t) ∷ [])) (sym e) (among_last g t items)))
          | inr ne ↦ elim (keeps.kept.all some h u (sym (off h ne) ∙ q)) [
            | inl le ↦ inl le
            | inr in_queue ↦ inr (among_front h u g t items in_queue)
          ]
        ];
      };
      remembers = keeps.remembers;
      started = below_retired w.groups w.token items keeps.kept.retired;
    }

-- ---- the update that runs, after a store

module _ (c : InitialState) (steps : List WriterStep) (u : Plan) (t : Words) (v : Plan) (m : IsMaking c steps u t v) (v' : Plan) (did : Did) where
  abbrev w : Words
  w = (state_after c steps).words

  pub making_first : (i x : ℕ) → Steps c.first c.second v (state_after c steps).words did v' (with_first (state_after c steps).words i x)
      → StoreMoves c.first c.second v (state_after c steps).words (with_first (state_after c steps).words i x)
      → IsTakenBy v' (progress_after c steps).taken → IsStoreOf (StoreFirst i x) did → HasPassedFirst c.second v' i → IsMaking c (StoreFirst i x ∷ steps) u t v'
  making_first i x st sm taken is passed = record {
    come = run_goes_on c.first c.second u t did v v' (state_after c steps).words (with_first (state_after c steps).words i x) m.come st;
    updating = m.updating;
    taken = taken;
    passed = All-cons (HasPassedStore c.second v' (with_first w i x).firsts) (StoreFirst i x) (since_opened steps) passed
        (passed_on c.first c.second v v' w (with_first w i x) did m.come.table m.come.under_way st steps m.passed);
    once = (new_word c.first c.second v v' w (with_first w i x) did m.come.table m.come.under_way st steps m.passed (StoreFirst i x) is, m.once);
    old = m.old;
    new = m.new;
    answer_changed = turned_on c steps u t v m (with_first (state_after c steps).words i x) sm;
  }

  pub making_second : (j x : ℕ) → Steps c.first c.second v (state_after c steps).words did v' (with_second (state_after c steps).words j x)
      → StoreMoves c.first c.second v (state_after c steps).words (with_second (state_after c steps).words j x)
      → IsTakenBy v' (progress_after c (StoreSecond j x ∷ steps)).taken → IsStoreOf (StoreSecond j x) did → HasPassedSecond c.second v' (state_after c steps).words.firsts j
      → IsMaking c (StoreSecond j x ∷ steps) u t v'
  making_second j x st sm taken is passed = record {
    come = run_goes_on c.first c.second u t did v v' (state_after c steps).words (with_second (state_after c steps).words j x) m.come st;
    updating = m.updating;
    taken = taken;
    passed = All-cons (HasPassedStore c.second v' w.firsts) (StoreSecond j x) (since_opened steps) passed
        (passed_on c.first c.second v v' w (with_second w j x) did m.come.table m.come.under_way st steps m.passed);
    once = (new_word c.first c.second v v' w (with_second w j x) did m.come.table m.come.under_way st steps m.passed (StoreSecond j x) is, m.once);
    old = m.old;
    new = m.new;
    answer_changed = turned_on c steps u t v m (with_second (state_after c steps).words j x) sm;
  }

-- the group of a store is that which the update has taken, where it is the one that is filled
pub taken_by_second : (c : InitialState) (steps : List WriterStep) (states : List GroupState) (items : List (ℕ × ℕ)) (passed : ℕ) (u : Plan) (t : Words) (v v' : Plan)
    → IsMaking c steps u t v → GroupsMatchSteps c steps states items passed (group_to_fill v (state_after c steps).words.firsts) → IsTied c.first states (group_held v (state_after c steps).words.firsts) → (j x : ℕ) → IsOnward v v'
    → IsNextSecond c.second v (state_after c steps).words j x → IsTakenBy v' (progress_after c (StoreSecond j x ∷ steps)).taken
taken_by_second c steps states items passed u t v v' m keeps tied j x o n =
    let w : TableState = state_after c steps in
    let old = (progress_after c steps).taken in
    let kind = second_kind c.first c.second v w.words j x m.come.under_way n in
    taken_second c.first c.second v v' w.words j x old (taken_with old (j / 2 ^ c.second) (w.groups (j / 2 ^ c.second))) o m.come.under_way n m.taken (elim kind.kind [
      | inl h ↦
          let status = keeps.kept.linked kind.group h.0 (tied.linked h.0 kind.group h.1 h.2) (none_some (group_to_fill v w.words.firsts) kind.group h.3) in
          inl (h.3, ap (λ g. taken_with old g (w.groups g)) kind.place ∙ ap (taken_with old kind.group) status)
      | inr h ↦ inr (
        kind.group,
        h.0,
        ap (λ g. taken_with old g (w.groups g)) kind.place ∙ taken_free c w.passed kind.group old (w.groups kind.group) (keeps.kept.taken kind.group h.0),
      )
    ])

-- where nothing is left to store, the group that was taken is linked
pub has_linked : (c : InitialState) (steps : List WriterStep) (states : List GroupState) (items : List (ℕ × ℕ)) (passed : ℕ) (v : Plan) (taken : Option ℕ) → IsTakenBy v taken
    → IsUnderWay c.first c.second v (state_after c steps).words → group_to_fill v (state_after c steps).words.firsts ≡ None → GroupsMatchSteps c steps states items passed (group_to_fill v (state_after c steps).words.firsts)
    → IsTied c.first states (group_held v (state_after c steps).words.firsts) → HasLinkedOwn (state_after c steps) taken
has_linked c steps states items passed (Range u) taken is k none keeps tied = subst (HasLinkedOwn (state_after c steps)) (sym is) tt
has_linked c steps states items passed (Link u) taken (inl is) k none keeps tied =
    let F = (state_after c steps).words.firsts in
    let link = tied.linked u.block u.group k.block (here_is u.block u.block (Some u.group) (group_at F u.block) refl) in
    subst (HasLinkedOwn (state_after c steps)) (sym is) (u.block, keeps.kept.linked u.group u.block link (none_some (group_to_fill (Link u) F) u.group none))
has_linked c steps states items passed (Link u) taken (inr h) k none keeps tied = subst (HasLinkedOwn (state_after c steps)) (sym h.0) tt
has_linked c steps states items passed (Unlink u) taken is k none keeps tied = subst (HasLinkedOwn (state_after c steps)) (sym is) tt
has_linked c steps states items passed (Flush u) taken is k none keeps tied = subst (HasLinkedOwn (state_after c steps)) (sym is) tt

-- checks leave the update as it is
pub making_quiet : (c : InitialState) (steps later : List WriterStep) (u : Plan) (t : Words) (v : Plan) → SameState (state_after c steps) (state_after c later) → (progress_after c later).taken ≡ (progress_after c steps).taken
    → StoresNothing steps later → IsMaking c steps u t v → IsMaking c later u t v
making_quiet c steps later u t v q same nothing m = record {
  come = subst (HasCome c.first c.second u t v) (sym q.words) m.come;
  updating = subst (λ n. n % 2 ≡ 1) (sym q.sequence) m.updating;
  taken = subst (IsTakenBy v) (sym same) m.taken;
  passed = subst (λ (W : Words). HasPassedStores c.second v W.firsts later) (sym q.words) (nothing.passed c.second v (state_after c steps).words.firsts m.passed);
  once = nothing.once m.once;
  old = λ a low. subst (λ n. IsAnswer c ((state_after c later).history (done_at n)) a (answer c t a)) (sym q.sequence) (subst (λ h. IsAnswer c (h (updates_done_in (state_after c steps))) a (answer c t a)) (sym q.history) (m.old a low));
  new = λ a low. subst (λ n. IsAnswer c ((state_after c later).history (begun_at n)) a (answer_after c u t a)) (sym q.sequence) (subst (λ h. IsAnswer c (h (updates_begun_in (state_after c steps))) a (answer_after c u t a)) (sym q.history) (m.new a low));
  answer_changed = λ a low now. ap (λ W. answer c W a) q.words ∙ m.answer_changed a low (ap (λ f. f a) (sym q.answer_changed) ∙ now);
}
