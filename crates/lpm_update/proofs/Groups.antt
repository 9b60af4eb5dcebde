-- The groups of the blocks, as a change goes on.
use Rattle.std.proofs.Common.{arith, ◌≡◌, ◌≢◌, ℕ, ◌+◌, ◌*◌, ◌^◌, ◌<◌, ◌≤◌, inl, inr, refl, ap, sym, ◌∙◌, List, length, Bool, true, false, Option, Some, None}
use Rattle.std.specs.Prelude.{slice_index, slice_set, nat_le, nat_lt, ◌==◌, ◌&&◌, if◌then◌else◌}
use Rattle.std.proofs.lemmas.Bool.{cases_eq, cases_lt, eq-eqb, ne_eqb, le-leb, lt-leb, lt-ltb, le-ltb}
use Rattle.std.proofs.lemmas.List.{get_or-set_same, get_or-set_other}
use Rattle.std.proofs.lemmas.Nat.{pow-add}
use Rattle.std.proofs.Math.Nat.{mul-le-mul_right}
use Rattle.lpm_cells.specs.declared.entry.Entry.{Entry}
use Rattle.lpm_cells.specs.declared.entry.Entry.TheVariants.{Miss, Hop, Group}
use Rattle.lpm_cells.specs.Words.{entry_in, IsLast, group_in}
use Rattle.lpm_update.specs.BlockGroups.{IsLinkTo, group_at}
use Rattle.lpm_update.specs.Kinds.{AllMiss}
use Rattle.lpm_update.specs.Update.{GivesUp}

pub if_true : {A : Type 0} (b : Bool) (x y : A) → b ≡ true → (if b then x else y) ≡ x
if_true b x y e = ap (λ z. if z then x else y) e

pub if_false : {A : Type 0} (b : Bool) (x y : A) → b ≡ false → (if b then x else y) ≡ y
if_false b x y e = ap (λ z. if z then x else y) e

pub last_none : (e : Entry) → IsLast e → group_in e ≡ None
last_none Miss h = refl
last_none (Hop hop depth) h = refl
last_none (Group group) h = absurd h

not_group_none : (e : Entry) → ((g : ℕ) → e ≡ Group g → ⊥) → group_in e ≡ None
not_group_none Miss h = refl
not_group_none (Hop hop depth) h = refl
not_group_none (Group group) h = absurd (h group refl)

-- a block whose word is no group's has none
pub no_group_at : (F : List ℕ) (i : ℕ) → ((g : ℕ) → IsLinkTo F i g → ⊥) → group_at F i ≡ None
no_group_at F i h = not_group_none (entry_in (slice_index F i)) h

pub first_within : (f s i end : ℕ) → i * 2 ^ s < end → end ≤ 2 ^ (f + s) → i < 2 ^ f
first_within f s i end h l = elim (cases_lt i (2 ^ f)) [
  | inl below ↦ below
  | inr above ↦
      let z = mul-le-mul_right (2 ^ s) above in
      absurd (omega (arith, z, h, l, pow-add 2 f s))
]

-- ---- one store in the first table

pub group_set_same : (F : List ℕ) (i w : ℕ) → i < length F → group_at (slice_set F i w) i ≡ group_in (entry_in w)
group_set_same F i w h = ap (λ x. group_in (entry_in x)) (get_or-set_same F i w 0 h)

pub group_set_other : (F : List ℕ) (i k w : ℕ) → k ≢ i → group_at (slice_set F i w) k ≡ group_at F k
group_set_other F i k w n = ap (λ x. group_in (entry_in x)) (get_or-set_other F i k w 0 n)

-- an entry that is no group over one that is none
pub keeps_groups : (F : List ℕ) (i k w : ℕ) → i < length F → group_at F i ≡ None → IsLast (entry_in w) → group_at (slice_set F i w) k ≡ group_at F k
keeps_groups F i k w h none m = elim (cases_eq k i) [
  | inl e ↦ ap (group_at (slice_set F i w)) e ∙ group_set_same F i w h ∙ last_none (entry_in w) m ∙ sym none ∙ ap (group_at F) (sym e)
  | inr n ↦ group_set_other F i k w n
]

-- an entry that is no group over a link
pub gives_up : (f : ℕ) (F : List ℕ) (b g w : ℕ) → b < 2 ^ f → b < length F → group_at F b ≡ Some g → IsLast (entry_in w) → GivesUp f (group_at F) (group_at (slice_set F b w)) b g
gives_up f F b g w low within had last = record {
  in_table = low;
  had = had;
  gone = group_set_same F b w within ∙ last_none (entry_in w) last;
  others = λ i _ apart. group_set_other F b i w apart;
}

-- ---- the group of a block by now

-- a group that isn't linked yet is no block's
pub unlinked_yet : {A : Type 0} (s next : ℕ) (x y : A) → next ≤ 2 ^ s → (if nat_le next (2 ^ s) then x else y) ≡ x
unlinked_yet s next x y h = if_true (nat_le next (2 ^ s)) x y (le-leb next (2 ^ s) h)

pub linked_now : {A : Type 0} (s next : ℕ) (x y : A) → 2 ^ s < next → (if nat_le next (2 ^ s) then x else y) ≡ y
linked_now s next x y h = if_false (nat_le next (2 ^ s)) x y (lt-leb next (2 ^ s) h)

pub here_is : (i b : ℕ) (x y : Option ℕ) → i ≡ b → (if i == b then x else y) ≡ x
here_is i b x y e = if_true (i == b) x y (eq-eqb i b e)

pub there_is : (i b : ℕ) (x y : Option ℕ) → i ≢ b → (if i == b then x else y) ≡ y
there_is i b x y n = if_false (i == b) x y (ne_eqb i b n)

-- what holds of the other blocks holds of each, where the two sides are one at the block itself
pub held_by : (i b : ℕ) (x y z : Option ℕ) → (i ≢ b → y ≡ z) → (if i == b then x else y) ≡ (if i == b then x else z)
held_by i b x y z same = elim (cases_eq i b) [
  | inl q ↦ here_is i b x y q ∙ sym (here_is i b x z q)
  | inr n ↦ there_is i b x y n ∙ same n ∙ sym (there_is i b x z n)
]

pub not_unlinked : (u : Bool) (k block : ℕ) (o : Option ℕ) → u ≡ false → o ≡ (if u && k == block then None else o)
not_unlinked u k block o e = sym (ap (λ b. if b && k == block then None else o) e)

pub flushed_by : (k m : ℕ) (o : Option ℕ) → k < m → (if nat_lt k m then None else o) ≡ None
flushed_by k m o h = if_true (nat_lt k m) None o (lt-ltb k m h)

pub flushed_not : (k m : ℕ) (o : Option ℕ) → m ≤ k → (if nat_lt k m then None else o) ≡ o
flushed_not k m o h = if_false (nat_lt k m) None o (le-ltb k m h)

-- over words that are misses
pub misses_groups : (n m k : ℕ) (F : List ℕ) (o : Option ℕ) → n ≤ m → AllMiss F n m → group_at F k ≡ (if nat_lt k n then None else o) → group_at F k ≡ (if nat_lt k m then None else o)
misses_groups n m k F o l misses known = elim (cases_lt k m) [
  | inl below ↦ elim (cases_lt k n) [
    | inl low ↦ known ∙ flushed_by k n o low ∙ sym (flushed_by k m o below)
    | inr from ↦ ap group_in (misses k from below) ∙ sym (flushed_by k m o below)
  ]
  | inr above ↦ known ∙ flushed_not k n o (omega (arith, above, l)) ∙ sym (flushed_not k m o above)
]

-- and a miss stored after them
pub flush_groups : (n i w k : ℕ) (F : List ℕ) (o : Option ℕ) → i < length F → n ≤ i → AllMiss F n i → IsLast (entry_in w) → group_at F k ≡ (if nat_lt k n then None else o)
    → group_at (slice_set F i w) k ≡ (if nat_lt k (i + 1) then None else o)
flush_groups n i w k F o h l misses last known = elim (cases_eq k i) [
  | inl q ↦ ap (group_at (slice_set F i w)) q ∙ group_set_same F i w h ∙ last_none (entry_in w) last ∙ sym (flushed_by k (i + 1) o (omega (arith, q)))
  | inr q ↦ group_set_other F i k w q ∙ misses_groups n i k F o l misses known ∙ elim (cases_lt k i) [
    | inl below ↦ flushed_by k i o below ∙ sym (flushed_by k (i + 1) o (omega (arith, below)))
    | inr above ↦ flushed_not k i o above ∙ sym (flushed_not k (i + 1) o (omega (arith, above, q)))
  ]
]
