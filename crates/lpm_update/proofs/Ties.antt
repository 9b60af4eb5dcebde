-- The states of the groups go along with the groups of the blocks.
use Rattle.std.proofs.Common.{arith, ◌≡◌, ◌≢◌, ℕ, suc, zero, ◌+◌, ◌*◌, ◌^◌, ◌<◌, ◌≤◌, inl, inr, refl, ap, sym, ◌∙◌, subst, List, length, Option, Some, None, ◌/◌, ◌%◌, [], ◌∷◌, false, cond}
use Rattle.std.specs.Prelude.{slice_get, replicate, slice_index, Contains, IsSome, nat_eq, ◌||◌}
use Rattle.std.proofs.lemmas.Bool.{cases_eq, cases_lt}
use Rattle.std.proofs.Math.Nat.{mul-le-mul_right}
use Rattle.lpm_cells.specs.Words.{group_in, entry_in, word_of, Words, entry_at, last_entry}
use Rattle.lpm_groups.specs.declared.GroupState.{GroupState}
use Rattle.lpm_groups.specs.declared.GroupState.TheVariants.{Free, Linked}
use Rattle.lpm_groups.specs.States.{IsLinkedTo}
use Rattle.lpm_update.specs.BlockGroups.{IsTable, group_at, IsLinkTo}
use Rattle.lpm_update.specs.Represents.{IsFreshGroup, HasDeepGroups}
use Rattle.lpm_update.specs.GroupStates.{IsTied, HasGroupRoom}
use Rattle.lpm_update.specs.Laws.{TiedSame, TiedGone, TiedTaken, BlankRepresents, blank_words, LinkedAreDeep}
use Rattle.lpm_update.proofs.Groups.{here_is, there_is}
use Rattle.lpm_update.proofs.RangeSteps.{past_group}
use Rattle.std.specs.FinMap.{empty, get-empty}
use Rattle.std.proofs.lemmas.List.{get_or-replicate, length-replicate, get_or_past}
use Rattle.lpm_rules.specs.RuleMap.{network_cmp, RuleMap, AllNetworks}
use Rattle.lpm_rules.proofs.Views.{not_some, networks_empty}
use Rattle.lpm_cells.specs.declared.entry.Entry.TheVariants.{Miss, Group}
use Rattle.lpm_cells.proofs.ReadBack.{entry_in_zero, blank as blank_cells}
use Rattle.lpm_update.specs.Best.{IsBest}
use Rattle.std.specs.List.{list_any, IsDistinct, AllByRecursion}
use Rattle.std.specs.Ordering.{nat_cmp, eq_by_cmp}
use Rattle.std.specs.Cmp.{nat_cmp_total, unsigned_tied, eq_by_cmp_equiv}
use Rattle.std.specs.FinSet.{FinSet, nat_cmp-IsAntisymmetric}
use Rattle.std.proofs.lemmas.Bool.Decides.{same_from_decides}
use Rattle.std.proofs.lemmas.Map.Keys.{IsDistinct-head, IsDistinct-tail}
use Rattle.std.proofs.lemmas.Map.Lookups.{exact_unsigned}
use Rattle.std.proofs.lemmas.Map.Views.{Contains-from_any, list_any-from_Contains, tells_apart}
use Rattle.lpm_groups.proofs.Marks.{length-linked_blocks, Contains-linked_blocks, group_of_block, IsDistinct-linked_blocks, IsLinkedOnce, linked_blocks}
use Rattle.lpm_rules.specs.Deep.{deep_blocks}
use Rattle.lpm_rules.proofs.Deep.{has_deep_blocks, deep_below}
use Rattle.std.specs.FinSet as set

same_block : (x : Option GroupState) (b c : ℕ) → x ≡ Some (Linked b) → x ≡ Some (Linked c) → b ≡ c
same_block x b c p q = cc

same_number : (x : Option ℕ) (g h : ℕ) → x ≡ Some g → x ≡ Some h → g ≡ h
same_number x g h p q = cc

none_or_some : (x : Option ℕ) (g : ℕ) → x ≡ None → x ≡ Some g → ⊥
none_or_some x g p q = cc

pub tied_same : TiedSame
tied_same f xs L M same t = record {
  linked = λ b g low e. t.linked b g low (sym (same b low) ∙ e);
  only = λ b g at. let k = t.only b g at in (k.0, same b k.0 ∙ k.1);
}

pub tied_gone : TiedGone
tied_gone f xs L M b g t gives =
    let was = t.linked b g gives.in_table gives.had in (
      was,
      λ ys others gone. record {
        linked = λ c h low e.
            let apart : c ≢ b = λ q. none_or_some (M c) h (ap M q ∙ gives.gone) e in
            let old = t.linked c h low (sym (gives.others c low apart) ∙ e) in
            let other : h ≢ g = λ q. apart (same_block (slice_get xs h) c b old (ap (slice_get xs) q ∙ was)) in
            (others h c other).1 old;
        only = λ c h at.
            let other : h ≢ g = λ q. gone c (subst (λ x. IsLinkedTo ys x c) q at) in
            let old = t.only c h ((others h c other).0 at) in
            let apart : c ≢ b = λ q. other (same_number (L c) h g old.1 (ap L q ∙ gives.had)) in
            (old.0, gives.others c old.0 apart ∙ old.1);
      },
    )

-- a group that is linked to no block is one that no block has
fresh : (f s : ℕ) (W : Words) (xs : List GroupState) (g : ℕ) → IsTable f s W → HasGroupRoom s W xs → IsTied f xs (group_at W.firsts) → g < length xs → ((c : ℕ) → IsLinkedTo xs g c → ⊥)
    → IsFreshGroup s g W
fresh f s W xs g table size tied within unlinked =
    let few = size.few in
    let words = size.words in
    let z = mul-le-mul_right (2 ^ s) within in
    let one : suc g * 2 ^ s ≡ g * 2 ^ s + 2 ^ s = omega arith in
    record {
      small = omega (arith, within, few);
      room = omega (arith, z, one, words);
      free = λ i e. elim (cases_lt i (2 ^ f)) [
        | inl low ↦ unlinked i (tied.linked i g low (ap group_in e))
        | inr high ↦ past_group W.firsts i g (subst (λ n. n ≤ i) (sym table.words.firsts_len) high) e
      ];
    }

pub tied_taken : TiedTaken
tied_taken f s W xs g table size t within unlinked =
    let L = group_at W.firsts in (
      fresh f s W xs g table size t within unlinked,
      λ ys b low none here others. record {
        linked = λ c h lc e. elim (cases_eq c b) [
          | inl q ↦
              let same : g ≡ h = same_number (Some g) g h refl (sym (here_is c b (Some g) (L c) q) ∙ e) in
              subst (λ x. slice_get ys x ≡ Some (Linked c)) same (here ∙ ap (λ x. Some (Linked x)) (sym q))
          | inr q ↦
              let old = t.linked c h lc (sym (there_is c b (Some g) (L c) q) ∙ e) in
              let other : h ≢ g = λ z. unlinked c (subst (λ x. IsLinkedTo xs x c) z old) in
              (others h c other).1 old
        ];
        only = λ c h at. elim (cases_eq h g) [
          | inl z ↦
              let q : b ≡ c = same_block (slice_get ys g) b c here (ap (slice_get ys) (sym z) ∙ at) in
              (subst (λ x. x < 2 ^ f) q low, here_is c b (Some g) (L c) (sym q) ∙ ap (λ x. Some x) (sym z))
          | inr z ↦
              let old = t.only c h ((others h c z).0 at) in
              let apart : c ≢ b = λ q. none_or_some (L c) h (ap L q ∙ none) old.1 in
              (old.0, there_is c b (Some g) (L c) apart ∙ old.1)
        ];
      },
    )

-- no block has two groups
pub tied_once : (f : ℕ) (xs : List GroupState) (L : ℕ → Option ℕ) → IsTied f xs L → IsLinkedOnce xs
tied_once f xs L t g h b x y = same_number (L b) g h (t.only b g x).1 (t.only b h y).1

-- with no group linked, no block has one
pub tied_none : (f n : ℕ) (L : ℕ → Option ℕ) → ((i : ℕ) → L i ≡ None) → IsTied f (replicate n Free) L
tied_none f n L none = record {
  linked = λ b g low e. absurd (none_or_some (L b) g (none b) e);
  only = λ b g at. absurd (unlinked n g b at);
}
  where
    unlinked : (n g b : ℕ) → IsLinkedTo (replicate n Free) g b → ⊥
    unlinked zero g b at = cc
    unlinked (suc n) zero b at = cc
    unlinked (suc n) (suc g) b at = unlinked n g b at

-- A table whose words are all misses represents the empty rule list.

word_at : (n i : ℕ) → slice_index (replicate n (word_of Miss)) i ≡ word_of Miss
word_at n i = elim (cases_lt i n) [
  | inl below ↦ get_or-replicate n i (word_of Miss) 0 below
  | inr above ↦ get_or_past (replicate n (word_of Miss)) i 0 (omega (arith, above, length-replicate {A = ℕ} n (word_of Miss)))
]

miss_at : (n i : ℕ) → entry_in (slice_index (replicate n (word_of Miss)) i) ≡ Miss
miss_at n i = ap entry_in (word_at n i) ∙ entry_in_zero

no_group : (n i g : ℕ) → IsLinkTo (replicate n (word_of Miss)) i g → ⊥
no_group n i g e =
    let z : Miss ≡ Group g = sym (miss_at n i) ∙ e in
    cc

blank_miss : (s n m a : ℕ) → entry_at s (blank_words n m) a ≡ Miss
blank_miss s n m a = ap (last_entry s (replicate m (word_of Miss)) (a % 2 ^ s)) (miss_at n (a / 2 ^ s))

pub blank : BlankRepresents
blank f s m n = (
  record {
    table = record {
      words = blank_cells f s m (replicate (2 ^ f) (word_of Miss)) (replicate m (word_of Miss)) refl refl;
      linked_once = λ i j g h k e d. absurd (no_group (2 ^ f) i g e);
    };
    networks = networks_empty (f + s);
    groups = λ i low. ((λ some. absurd (not_some (ap group_in (miss_at (2 ^ f) i)) some)), (λ d. absurd (not_some (get-empty network_cmp d.0) d.1)));
    best = λ a low. subst (IsBest (f + s) empty a) (sym (blank_miss s (2 ^ f) m a)) (λ q some cov. not_some (get-empty network_cmp q) some);
  },
  tied_none f n _ (λ i. ap group_in (miss_at (2 ^ f) i)),
)

-- As many groups are linked as blocks need one.

-- a number that differs from each of the list is not among them
none_tied : (k : ℕ) (ks : List ℕ) → AllByRecursion (λ y. nat_eq k y ≡ false) ks → list_any (eq_by_cmp nat_cmp k) ks ≡ false
none_tied k [] all = refl
none_tied k (x ∷ ks) all = ap (λ b. b || list_any (eq_by_cmp nat_cmp k) ks) (unsigned_tied k x ∙ all.0) ∙ none_tied k ks all.1

-- the set of a list without repeats has as many items as the list
pub len_from_distinct : (ks : List ℕ) → IsDistinct nat_eq ks → set.len (set.from_list {R = nat_cmp} ks) ≡ length ks
len_from_distinct [] distinct = set.len-empty nat_cmp
len_from_distinct (k ∷ ks) distinct =
    let rest : FinSet nat_cmp = set.from_list ks in
    let absent : set.contains rest k ≡ false = set.contains-from_list nat_cmp_total ks k ∙ none_tied k ks (IsDistinct-head nat_eq k ks distinct) in
    let more : set.len (set.insert rest k) ≡ set.len rest + 1 = set.len-insert nat_cmp_total rest k ∙ ap (λ b. cond b (set.len rest) (set.len rest + 1)) absent in
    let same : set.len rest ≡ length ks = len_from_distinct ks (IsDistinct-tail nat_eq k ks distinct) in
    more ∙ omega (arith, same)

some_value : (x : Option ℕ) → IsSome x → (g : ℕ) × (x ≡ Some g)
some_value None some = cc
some_value (Some g) some = (g, refl)

-- the deep blocks are the blocks that have a group
deep_linked : (f s : ℕ) (R : RuleMap) (xs : List GroupState) (L : ℕ → Option ℕ) → AllNetworks (f + s) R → IsTied f xs L → HasDeepGroups f s R L
    → deep_blocks f s R ≡ set.from_list (linked_blocks xs)
deep_linked f s R xs L nets t deep =
    set.same_set nat_cmp_total nat_cmp-IsAntisymmetric (deep_blocks f s R) (set.from_list (linked_blocks xs)) (λ b.
    same_from_decides {P = Contains (linked_blocks xs) b} (set.contains (deep_blocks f s R) b) (list_any (eq_by_cmp nat_cmp b) (linked_blocks xs)) (
      (λ h.
          let d = (has_deep_blocks f s R b).0 h in
          let low = deep_below f s R b nets d in
          let g = some_value (L b) ((deep b low).1 d) in
          Contains-linked_blocks xs g.0 b (t.linked b g.0 low g.1)),
      (λ c.
          let at = group_of_block xs b c in
          let k = t.only b at.0 at.1 in
          (has_deep_blocks f s R b).1 ((deep b k.0).0 (subst IsSome (sym k.1) refl))),
    )
    (Contains-from_any (tells_apart exact_unsigned) b (linked_blocks xs), list_any-from_Contains (eq_by_cmp_equiv nat_cmp_total) b (linked_blocks xs))
    ∙ sym (set.contains-from_list nat_cmp_total (linked_blocks xs) b))

-- as many groups are linked as there are deep blocks
pub linked_deep : LinkedAreDeep
linked_deep f s R t xs known tied =
    sym (length-linked_blocks xs)
    ∙ sym (len_from_distinct (linked_blocks xs) (IsDistinct-linked_blocks xs (tied_once f xs (group_at t.firsts) tied)))
    ∙ ap set.len (sym (deep_linked f s R xs (group_at t.firsts) known.networks tied known.groups))
