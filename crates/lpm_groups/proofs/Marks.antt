-- `IsSound` through each change of the groups.
use Rattle.std.proofs.Common.{◌≡◌, ℕ, ◌+◌, ◌<◌, Bool, true, cond, List, [], ◌∷◌, ◌++◌, length, get_or, set, map, replicate, zero, suc, refl, ap, ◌∙◌, arith, false, sym, inl, inr, ◌≢◌, ◌-◌, ◌≤◌, take, drop, min, eq-eqb, length-set, length-drop}
use Rattle.std.specs.Prelude.{count_by, slice_get, Some, Contains, nat_eq, option_map}
use Rattle.std.proofs.lemmas.List.Sums.{sum_by-cons, sum_by-set}
use Rattle.std.proofs.lemmas.Option.{slice_get_within, get_or_from_slice_get, slice_get-map}
use Rattle.lpm_groups.specs.declared.GroupState.{GroupState}
use Rattle.lpm_groups.specs.declared.GroupState.TheVariants.{Free, Linked, Limbo}
use Rattle.lpm_groups.specs.States.{is_free, is_linked, is_limbo, linked_count, limbo_count, free_count, IsFreeAt, IsLinkedTo, IsLimboAt, IsLinkedAt, IsLeastFree, mark_of, IsSound}
use Rattle.std.specs.List.{IsDistinct, AllByRecursion}
use Rattle.std.proofs.lemmas.Bool.Decides.{eqb_tells}
use Rattle.std.proofs.lemmas.List.{map-set, take_all, length-map, get_or-drop}
use Rattle.std.proofs.lemmas.Bool.{eqb-true}
use Rattle.std.proofs.lemmas.Grind.{common_steps}
use Rattle.memchr.specs.Find.{Nowhere, NoneBefore, Passes, is_byte}

-- How the counts of the states move as one of them is written.

-- the count of a list by its first element
pub count_by-cons : (p : GroupState → Bool) (x : GroupState) (xs : List GroupState) → count_by p (x ∷ xs) ≡ cond (p x) 1 0 + count_by p xs
count_by-cons p x xs = sum_by-cons (λ s. cond (p s) 1 0) x xs

-- each state is counted once
pub counts-total : (xs : List GroupState) → linked_count xs + limbo_count xs + free_count xs ≡ length xs
counts-total [] = refl
counts-total (Free ∷ xs) = omega (arith, counts-total xs, count_by-cons is_linked Free xs, count_by-cons is_limbo Free xs, count_by-cons is_free Free xs)
counts-total (Linked b ∷ xs) = omega (arith, counts-total xs, count_by-cons is_linked (Linked b) xs, count_by-cons is_limbo (Linked b) xs, count_by-cons is_free (Linked b) xs)
counts-total (Limbo ∷ xs) = omega (arith, counts-total xs, count_by-cons is_linked Limbo xs, count_by-cons is_limbo Limbo xs, count_by-cons is_free Limbo xs)

-- a count after a write of one state
pub count_by-set : (p : GroupState → Bool) (xs : List GroupState) (g : ℕ) (old new : GroupState) → slice_get xs g ≡ Some old → count_by p (set xs g new) + cond (p old) 1 0 ≡ count_by p xs + cond (p new) 1 0
count_by-set p xs g old new at =
    let read : get_or xs g old ≡ old = get_or_from_slice_get xs g old old at in
    rw read at (sum_by-set (λ s. cond (p s) 1 0) xs g new old (slice_get_within xs g old at))

-- a state that passes is counted
pub count_by-some : (p : GroupState → Bool) (xs : List GroupState) (g : ℕ) (s : GroupState) → slice_get xs g ≡ Some s → p s ≡ true → 0 < count_by p xs
count_by-some p [] g s at passes = cc
count_by-some p (x ∷ xs) zero s at passes =
    let same : x ≡ s = cc in
    let one : cond {A = ℕ} (p x) 1 0 ≡ 1 = ap (λ b. cond b 1 0) (ap p same ∙ passes) in
    omega (arith, count_by-cons p x xs)
count_by-some p (x ∷ xs) (suc g) s at passes = omega (arith, count_by-cons p x xs, count_by-some p xs g s at passes)

-- a group is taken: one more is linked, one fewer is free
pub record Takes (old new : List GroupState) : Type 0 where
  pub linked : linked_count new ≡ linked_count old + 1
  pub limbo : limbo_count new ≡ limbo_count old
  pub free : free_count new + 1 ≡ free_count old

pub Takes-set : (xs : List GroupState) (g b : ℕ) → IsFreeAt xs g → Takes xs (set xs g (Linked b))
Takes-set xs g b at = record {
  linked = omega (arith, count_by-set is_linked xs g Free (Linked b) at);
  limbo = omega (arith, count_by-set is_limbo xs g Free (Linked b) at);
  free = omega (arith, count_by-set is_free xs g Free (Linked b) at);
}

-- a group is retired: one fewer is linked, one more is in limbo
pub record Retires (old new : List GroupState) : Type 0 where
  pub linked : linked_count new + 1 ≡ linked_count old
  pub limbo : limbo_count new ≡ limbo_count old + 1
  pub free : free_count new ≡ free_count old

pub Retires-set : (xs : List GroupState) (g b : ℕ) → IsLinkedTo xs g b → Retires xs (set xs g Limbo)
Retires-set xs g b at = record {
  linked = omega (arith, count_by-set is_linked xs g (Linked b) Limbo at);
  limbo = omega (arith, count_by-set is_limbo xs g (Linked b) Limbo at);
  free = omega (arith, count_by-set is_free xs g (Linked b) Limbo at);
}

-- a group is released: one fewer is in limbo, one more is free
pub record Releases (old new : List GroupState) : Type 0 where
  pub linked : linked_count new ≡ linked_count old
  pub limbo : limbo_count new + 1 ≡ limbo_count old
  pub free : free_count new ≡ free_count old + 1

pub Releases-set : (xs : List GroupState) (g : ℕ) → IsLimboAt xs g → Releases xs (set xs g Free)
Releases-set xs g at = record {
  linked = omega (arith, count_by-set is_linked xs g Limbo Free at);
  limbo = omega (arith, count_by-set is_limbo xs g Limbo Free at);
  free = omega (arith, count_by-set is_free xs g Limbo Free at);
}

pub linked_count-replicate : (n : ℕ) → linked_count (replicate n Free) ≡ 0
linked_count-replicate zero = refl
linked_count-replicate (suc n) = omega (arith, count_by-cons is_linked Free (replicate n Free), linked_count-replicate n)

pub limbo_count-replicate : (n : ℕ) → limbo_count (replicate n Free) ≡ 0
limbo_count-replicate zero = refl
limbo_count-replicate (suc n) = omega (arith, count_by-cons is_limbo Free (replicate n Free), limbo_count-replicate n)

-- the counts where the first groups are linked, and the others free
pub linked_count-of_blocks : (bs : List ℕ) (n : ℕ) → linked_count (map Linked bs ++ replicate n Free) ≡ length bs
linked_count-of_blocks [] n = linked_count-replicate n
linked_count-of_blocks (b ∷ bs) n = omega (arith, count_by-cons is_linked (Linked b) (map Linked bs ++ replicate n Free), linked_count-of_blocks bs n)

pub limbo_count-of_blocks : (bs : List ℕ) (n : ℕ) → limbo_count (map Linked bs ++ replicate n Free) ≡ 0
limbo_count-of_blocks [] n = limbo_count-replicate n
limbo_count-of_blocks (b ∷ bs) n = omega (arith, count_by-cons is_limbo (Linked b) (map Linked bs ++ replicate n Free), limbo_count-of_blocks bs n)

-- The blocks that the linked groups stand for.

-- the blocks that have a group, in the order of their groups
abbrev pub linked_blocks : List GroupState → List ℕ
linked_blocks [] = []
linked_blocks (Free ∷ states) = linked_blocks states
linked_blocks (Linked block ∷ states) = block ∷ linked_blocks states
linked_blocks (Limbo ∷ states) = linked_blocks states

-- no block has two groups
abbrev pub IsLinkedOnce : List GroupState → Type 0
IsLinkedOnce states = (g h block : ℕ)
    → IsLinkedTo states g block → IsLinkedTo states h block → g ≡ h

-- as many blocks as linked groups
pub length-linked_blocks : (xs : List GroupState) → length (linked_blocks xs) ≡ linked_count xs
length-linked_blocks [] = refl
length-linked_blocks (Free ∷ xs) = omega (arith, count_by-cons is_linked Free xs, length-linked_blocks xs)
length-linked_blocks (Linked b ∷ xs) = omega (arith, count_by-cons is_linked (Linked b) xs, length-linked_blocks xs)
length-linked_blocks (Limbo ∷ xs) = omega (arith, count_by-cons is_linked Limbo xs, length-linked_blocks xs)

-- a block that a group is linked to is among them
pub Contains-linked_blocks : (xs : List GroupState) (g b : ℕ) → IsLinkedTo xs g b → Contains (linked_blocks xs) b
Contains-linked_blocks [] g b at = cc
Contains-linked_blocks (Free ∷ xs) zero b at = cc
Contains-linked_blocks (Limbo ∷ xs) zero b at = cc
Contains-linked_blocks (Linked c ∷ xs) zero b at = (0, omega arith, cc)
Contains-linked_blocks (Free ∷ xs) (suc g) b at = Contains-linked_blocks xs g b at
Contains-linked_blocks (Limbo ∷ xs) (suc g) b at = Contains-linked_blocks xs g b at
Contains-linked_blocks (Linked c ∷ xs) (suc g) b at =
    let rest = Contains-linked_blocks xs g b at in
    (suc rest.0, omega (arith, rest.1), rest.2)

-- each of them has a group
pub group_of_block : (xs : List GroupState) (b : ℕ) → Contains (linked_blocks xs) b → (g : ℕ) × IsLinkedTo xs g b
group_of_block [] b among = absurd (omega (arith, among.1))
group_of_block (Free ∷ xs) b among = let rest = group_of_block xs b among in (suc rest.0, rest.1)
group_of_block (Limbo ∷ xs) b among = let rest = group_of_block xs b among in (suc rest.0, rest.1)
group_of_block (Linked c ∷ xs) b (zero, within, is) = (0, ap (λ x. Some (Linked x)) is)
group_of_block (Linked c ∷ xs) b (suc k, within, is) = let rest = group_of_block xs b (k, omega arith, is) in (suc rest.0, rest.1)

-- a block that no group is linked to differs from all of them
apart : (b : ℕ) (xs : List GroupState) → ((g : ℕ) → IsLinkedTo xs g b → ⊥) → AllByRecursion (λ y. nat_eq b y ≡ false) (linked_blocks xs)
apart b [] none = tt
apart b (Free ∷ xs) none = apart b xs (λ g at. none (suc g) at)
apart b (Limbo ∷ xs) none = apart b xs (λ g at. none (suc g) at)
apart b (Linked c ∷ xs) none =
    let differs : nat_eq b c ≡ false = elim (eqb_tells b c) [ inl same ↦ absurd (none 0 (ap (λ x. Some (Linked x)) (sym same.1))) | inr other ↦ other.0 ] in
    (differs, apart b xs (λ g at. none (suc g) at))

-- no block has two groups, so none of them stands twice
pub IsDistinct-linked_blocks : (xs : List GroupState) → IsLinkedOnce xs → IsDistinct nat_eq (linked_blocks xs)
unfolding IsDistinct
IsDistinct-linked_blocks [] once = tt
IsDistinct-linked_blocks (Free ∷ xs) once = IsDistinct-linked_blocks xs (λ g h b x y. let e = once (suc g) (suc h) b x y in omega arith)
IsDistinct-linked_blocks (Limbo ∷ xs) once = IsDistinct-linked_blocks xs (λ g h b x y. let e = once (suc g) (suc h) b x y in omega arith)
IsDistinct-linked_blocks (Linked c ∷ xs) once = (
  apart c xs (λ g at. let e = once 0 (suc g) c refl at in omega arith),
  IsDistinct-linked_blocks xs (λ g h b x y. let e = once (suc g) (suc h) b x y in omega arith),
)

-- What stands in a list of states after one of them is written.

-- the written place holds what was written
pub slice_get-set_same : (xs : List GroupState) (g : ℕ) (s : GroupState) → g < length xs → slice_get (set xs g s) g ≡ Some s
slice_get-set_same [] g s within = absurd (omega arith)
slice_get-set_same (x ∷ xs) zero s within = refl
slice_get-set_same (x ∷ xs) (suc g) s within = slice_get-set_same xs g s (omega arith)

-- every other place holds what it did
pub slice_get-set_other : (xs : List GroupState) (g k : ℕ) (s : GroupState) → k ≢ g → slice_get (set xs g s) k ≡ slice_get xs k
slice_get-set_other [] g k s other = refl
slice_get-set_other (x ∷ xs) zero zero s other = absurd (other refl)
slice_get-set_other (x ∷ xs) zero (suc k) s other = refl
slice_get-set_other (x ∷ xs) (suc g) zero s other = refl
slice_get-set_other (x ∷ xs) (suc g) (suc k) s other = slice_get-set_other xs g k s (λ same. other (ap suc same))

-- a group that is free after a write of another state was free before
pub free_before_set : (xs : List GroupState) (g k : ℕ) (s : GroupState) → is_free s ≡ false → slice_get (set xs g s) k ≡ Some Free → slice_get xs k ≡ Some Free
free_before_set [] g k s used free = free
free_before_set (x ∷ xs) zero zero s used free = let same : s ≡ Free = cc in let no : true ≡ false = sym (ap is_free same) ∙ used in cc
free_before_set (x ∷ xs) zero (suc k) s used free = free
free_before_set (x ∷ xs) (suc g) zero s used free = free
free_before_set (x ∷ xs) (suc g) (suc k) s used free = free_before_set xs g k s used free

-- a linked group is linked to a block
pub linked_to : (xs : List GroupState) (g : ℕ) → IsLinkedAt xs g → (b : ℕ) × IsLinkedTo xs g b
linked_to [] g linked = cc
linked_to (Free ∷ xs) zero linked = cc
linked_to (Linked b ∷ xs) zero linked = (b, refl)
linked_to (Limbo ∷ xs) zero linked = cc
linked_to (x ∷ xs) (suc g) linked = linked_to xs g linked

-- the mark of a group by its state
pub mark-at : (xs : List GroupState) (k : ℕ) (s : GroupState) → slice_get xs k ≡ Some s → get_or (map mark_of xs) k 0 ≡ mark_of s
mark-at xs k s at = get_or_from_slice_get (map mark_of xs) k (mark_of s) 0 (slice_get-map mark_of xs k ∙ ap (option_map mark_of) at)

-- a group whose mark is 1 is free
pub free_from_mark : (xs : List GroupState) (k : ℕ) → get_or (map mark_of xs) k 0 ≡ 1 → slice_get xs k ≡ Some Free
free_from_mark [] k mark = absurd (omega arith)
free_from_mark (Free ∷ xs) zero mark = refl
free_from_mark (Linked b ∷ xs) zero mark = absurd (omega arith)
free_from_mark (Limbo ∷ xs) zero mark = absurd (omega arith)
free_from_mark (x ∷ xs) (suc k) mark = free_from_mark xs k mark

-- a write that keeps a group's mark keeps the marks
map-mark_of-set : (xs : List GroupState) (g : ℕ) (old new : GroupState) → slice_get xs g ≡ Some old → mark_of new ≡ mark_of old → map mark_of (set xs g new) ≡ map mark_of xs
map-mark_of-set [] g old new at same = refl
map-mark_of-set (x ∷ xs) zero old new at same = let is : x ≡ old = cc in let e : mark_of new ≡ mark_of x = same ∙ sym (ap mark_of is) in ap (λ m. m ∷ map mark_of xs) e
map-mark_of-set (x ∷ xs) (suc g) old new at same = ap (λ ms. mark_of x ∷ ms) (map-mark_of-set xs g old new at same)

map-mark_of-replicate : (n : ℕ) → map mark_of (replicate n Free) ≡ replicate n 1
map-mark_of-replicate zero = refl
map-mark_of-replicate (suc n) = ap (λ ms. 1 ∷ ms) (map-mark_of-replicate n)

-- where no place has a free group, none is counted
pub none_free : (xs : List GroupState) → ((k : ℕ) → k < length xs → slice_get xs k ≢ Some Free) → free_count xs ≡ 0
none_free [] none = refl
none_free (Free ∷ xs) none = absurd (none 0 (omega arith) refl)
none_free (Linked b ∷ xs) none = omega (arith, count_by-cons is_free (Linked b) xs, none_free xs (λ k lt. none (suc k) (omega arith)))
none_free (Limbo ∷ xs) none = omega (arith, count_by-cons is_free Limbo xs, none_free xs (λ k lt. none (suc k) (omega arith)))

-- the marks from the hint on, as the code cuts them
pub take_rest : (ms : List ℕ) (h : ℕ) → take (length ms - h) (drop h ms) ≡ drop h ms
take_rest ms h = take_all _ (drop h ms) (omega (arith, length-drop h ms))

-- no free group up to the end of a part of the marks where no 1 stands
pub none_up_to : (xs : List GroupState) (ms : List ℕ) (h u l n : ℕ) → IsSound xs ms h u l → Nowhere (Passes (is_byte 1) (drop h ms)) 0 n → (k : ℕ) → k < h + n → slice_get xs k ≢ Some Free
none_up_to xs ms h u l n t nowhere k below free =
    let past : ¬ (k < h) = λ lt. t.none_below k lt free in
    let place : h + (k - h) ≡ k = omega arith in
    let mark : get_or (drop h ms) (k - h) 0 ≡ 1 =
    get_or-drop h ms (k - h) 0 ∙ ap (λ i. get_or ms i 0) place ∙ ap (λ m. get_or m k 0) t.marked ∙ mark-at xs k Free free in
    nowhere (k - h) (omega arith) (omega arith) (eq-eqb _ _ mark)

-- the place of the first 1 from the hint on is that of the least free group
pub IsLeastFree-found : (xs : List GroupState) (ms : List ℕ) (h u l n k : ℕ) → IsSound xs ms h u l → NoneBefore (Passes (is_byte 1) (drop h ms)) 0 n k → Passes (is_byte 1) (drop h ms) k → IsLeastFree xs (h + k)
IsLeastFree-found xs ms h u l n k t first passes = record {
  free = free_from_mark xs (h + k) (ap (λ m. get_or m (h + k) 0) (sym t.marked) ∙ sym (get_or-drop h ms k 0) ∙ eqb-true _ _ passes);
  least = none_up_to xs ms h u l k t first.before;
}

-- where no 1 stands from the hint on, no group is free
pub free_count-not_found : (xs : List GroupState) (ms : List ℕ) (h u l : ℕ) → IsSound xs ms h u l → Nowhere (Passes (is_byte 1) (drop h ms)) 0 (length (drop h ms)) → free_count xs ≡ 0
free_count-not_found xs ms h u l t nowhere =
    let len : length ms ≡ length xs = ap length t.marked ∙ length-map xs mark_of in
    none_free xs (λ k lt. none_up_to xs ms h u l _ t nowhere k (omega (arith, length-drop h ms)))

-- the hint may then stand behind them all
pub IsSound-none : (xs : List GroupState) (ms : List ℕ) (h u l n : ℕ) → n ≡ length ms → IsSound xs ms h u l → Nowhere (Passes (is_byte 1) (drop h ms)) 0 (length (drop h ms)) → IsSound xs ms n u l
IsSound-none xs ms h u l n end t nowhere =
    let len : length ms ≡ length xs = ap length t.marked ∙ length-map xs mark_of in record {
      few = t.few;
      marked = t.marked;
      within = omega arith;
      none_below = λ k lt. none_up_to xs ms h u l _ t nowhere k (omega (arith, length-drop h ms, t.within));
      all_in_use = t.all_in_use;
      all_limbo = t.all_limbo;
    }

pub IsSound-new : (n : ℕ) → n ≤ 65536 → IsSound (replicate n Free) (replicate n 1) 0 0 0
IsSound-new n few = record {
  few = grind (arith, common_steps);
  marked = sym (map-mark_of-replicate n);
  within = omega arith;
  none_below = λ k below. absurd (omega arith);
  all_in_use = sym (linked_count-replicate n);
  all_limbo = sym (limbo_count-replicate n);
}

pub IsSound-taken : (xs : List GroupState) (ms : List ℕ) (h u l g b : ℕ) → IsSound xs ms h u l → IsLeastFree xs g → IsSound (set xs g (Linked b)) (set ms g 0) (g + 1) (u + 1) l
IsSound-taken xs ms h u l g b t least =
    let takes = Takes-set xs g b least.free in
    let within = slice_get_within xs g Free least.free in record {
      few = omega (arith, length-set xs g (Linked b), t.few);
      marked = ap (λ m. set m g 0) t.marked ∙ sym (map-set mark_of xs g (Linked b));
      within = omega (arith, length-set xs g (Linked b));
      none_below = λ k below free.
          let before = free_before_set xs g k (Linked b) refl free in
          let past : ¬ (k < g) = λ lt. least.least k lt before in
          let same : k ≡ g = omega arith in
          let now : slice_get (set xs g (Linked b)) g ≡ Some Free = rw same at free in
          let written = slice_get-set_same xs g (Linked b) within in cc;
      all_in_use = omega (arith, t.all_in_use, takes.linked);
      all_limbo = omega (arith, t.all_limbo, takes.limbo);
    }

pub IsSound-retired : (xs : List GroupState) (ms : List ℕ) (h u l g b : ℕ) → IsSound xs ms h u l → IsLinkedTo xs g b → IsSound (set xs g Limbo) ms h (u - 1) (l + 1)
IsSound-retired xs ms h u l g b t at =
    let retires = Retires-set xs g b at in record {
      few = omega (arith, length-set xs g Limbo, t.few);
      marked = t.marked ∙ sym (map-mark_of-set xs g (Linked b) Limbo at refl);
      within = omega (arith, length-set xs g Limbo, t.within);
      none_below = λ k below free. t.none_below k below (free_before_set xs g k Limbo refl free);
      all_in_use = omega (arith, t.all_in_use, retires.linked);
      all_limbo = omega (arith, t.all_limbo, retires.limbo);
    }

pub IsSound-released : (xs : List GroupState) (ms : List ℕ) (h u l g : ℕ) → IsSound xs ms h u l → IsLimboAt xs g → IsSound (set xs g Free) (set ms g 1) (min h g) u (l - 1)
IsSound-released xs ms h u l g t at =
    let releases = Releases-set xs g at in record {
      few = omega (arith, length-set xs g Free, t.few);
      marked = ap (λ m. set m g 1) t.marked ∙ sym (map-set mark_of xs g Free);
      within = omega (arith, length-set xs g Free, t.within);
      none_below = λ k below free.
          let other : k ≢ g = omega arith in
          t.none_below k (omega arith) (sym (slice_get-set_other xs g k Free other) ∙ free);
      all_in_use = omega (arith, t.all_in_use, releases.linked);
      all_limbo = omega (arith, t.all_limbo, releases.limbo);
    }

-- the marks where the first groups are linked, and the others free
map-mark_of-of_blocks : (bs : List ℕ) (n : ℕ) → map mark_of (map Linked bs ++ replicate n Free) ≡ replicate (length bs) 0 ++ replicate n 1
map-mark_of-of_blocks [] n = map-mark_of-replicate n
map-mark_of-of_blocks (b ∷ bs) n = ap (λ ms. 0 ∷ ms) (map-mark_of-of_blocks bs n)

-- none of the first groups is free then
used_below : (bs : List ℕ) (n k : ℕ) → k < length bs → slice_get (map Linked bs ++ replicate n Free) k ≢ Some Free
used_below [] n k below = absurd (omega arith)
used_below (b ∷ bs) n zero below = λ is. cc
used_below (b ∷ bs) n (suc k) below = used_below bs n k (omega arith)

pub IsSound-of_blocks : (bs : List ℕ) (n : ℕ) → length bs + n ≤ 65536 → IsSound (map Linked bs ++ replicate n Free) (replicate (length bs) 0 ++ replicate n 1) (length bs) (length bs) 0
IsSound-of_blocks bs n few =
    let all : length (map Linked bs ++ replicate n Free) ≡ length bs + n = grind (arith, common_steps) in record {
      few = omega (arith, few, all);
      marked = sym (map-mark_of-of_blocks bs n);
      within = omega (arith, all);
      none_below = used_below bs n;
      all_in_use = sym (linked_count-of_blocks bs n);
      all_limbo = sym (limbo_count-of_blocks bs n);
    }
