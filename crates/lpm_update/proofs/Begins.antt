-- Each kind of change, as it begins.
use Rattle.std.proofs.Common.{arith, ◌≡◌, ℕ, suc, ◌+◌, ◌*◌, ◌/◌, ◌^◌, ◌<◌, refl, ap, sym, ◌∙◌, subst, List, ◌≤◌, ◌-◌, ◌⊎◌, inl, inr, Option, Some, None, false}
use Rattle.std.specs.Prelude.{IsSome, slice_index, ◌==◌, if◌then◌else◌}
use Rattle.std.proofs.lemmas.Nat.{pow-add, pow_pos, shr_high, shr_below}
use Rattle.std.proofs.Math.Nat.{mul-le-mul_right}
use Rattle.lpm_rules.specs.RuleMap.{RuleMap, AllNetworks, network_cmp}
use Rattle.lpm_rules.specs.Deep.{IsDeepBlock}
use Rattle.lpm_rules.proofs.Deep.{deep_insert_cases, deep_kept, deep_inserted, deep_remains, deep_remove_cases}
use Rattle.lpm_rules.proofs.Views.{not_some, networks_insert, networks_remove}
use Rattle.lpm_cells.specs.declared.entry.Entry.{Entry}
use Rattle.lpm_cells.specs.declared.entry.Entry.TheVariants.{Miss, Hop, Group}
use Rattle.lpm_cells.specs.Words.{entry_in, IsLast, group_in, entry_at, Words}
use Rattle.lpm_update.specs.declared.rewrite.Rewrite.{Rewrite}
use Rattle.lpm_update.specs.Rewrite.{Stands, rewritten_entry}
use Rattle.lpm_update.specs.BlockGroups.{group_at}
use Rattle.lpm_update.specs.Best.{AllBest, IsBest}
use Rattle.lpm_update.specs.Represents.{HasDeepGroups, Represents, IsBegun, TurnsInto, IsFreshGroup}
use Rattle.lpm_update.proofs.Rules.{best_unique, best_block, all_short, add_covered, add_other, covers_range, range_covers, del_covered, del_other, IsCoverEntry}
use Rattle.lpm_update.proofs.Places.{block_high, block_low, deep_high}
use Rattle.std.specs.FinMap.{get, insert, remove, empty, get-empty}
use Rattle.std.proofs.lemmas.Bool.{cases_lt, cases_eq}
use Rattle.lpm_bits.specs.Network.{Network, Covers, IsNetwork}
use Rattle.lpm_update.specs.declared.rewrite.Kind.TheVariants.{Add, Delete}
use Rattle.lpm_update.specs.Kinds.{final_entry, IsLinking, rewrite_to_miss, IsRangeOf, IsRewriting}
use Rattle.lpm_update.proofs.Links.{range_true, range_low, range_high, reached_low, final_same}
use Rattle.lpm_update.proofs.Flushes.{flushed_miss}
use Rattle.lpm_update.specs.declared.rewrite_range.RewriteRange.{RewriteRange}
use Rattle.lpm_update.specs.declared.link_group.LinkGroup.{LinkGroup}
use Rattle.lpm_update.specs.declared.update.Plan.TheVariants.{Range, Link, Unlink}
use Rattle.lpm_update.proofs.Groups.{unlinked_yet, here_is, there_is}

-- A change begins on words that answer the rule list.

some_group : (e : Entry) → IsSome (group_in e) → (g : ℕ) × (e ≡ Group g)
some_group Miss h = absurd (not_some refl h)
some_group (Hop hop depth) h = absurd (not_some refl h)
some_group (Group group) h = (group, refl)

-- a deep block has a group
pub deep_group : (f s : ℕ) (R : RuleMap) (F : List ℕ) (b : ℕ) → HasDeepGroups f s R (group_at F) → b < 2 ^ f → IsDeepBlock f s R b → (g : ℕ) × (entry_in (slice_index F b) ≡ Group g)
deep_group f s R F b known low deep = some_group (entry_in (slice_index F b)) ((known b low).1 deep)

no_group_last : (e : Entry) → (IsSome (group_in e) → ⊥) → IsLast e
no_group_last Miss h = tt
no_group_last (Hop hop depth) h = tt
no_group_last (Group group) h = absurd (h refl)

-- a block that isn't deep has none
pub shallow_last : (f s : ℕ) (R : RuleMap) (F : List ℕ) (b : ℕ) → HasDeepGroups f s R (group_at F) → b < 2 ^ f → (IsDeepBlock f s R b → ⊥) → IsLast (entry_in (slice_index F b))
shallow_last f s R F b known low none = no_group_last (entry_in (slice_index F b)) (λ some. none ((known b low).0 some))

-- nothing is changed yet
pub stands_still : (s from : ℕ) (c : Rewrite) (W : Words) → Stands s from from c W (entry_at s W)
stands_still s from c W = record {
  before = λ a p. refl;
  done = λ a p q. absurd (omega (arith, p, q));
  todo = λ a p. refl;
}

in_block : (f s a b : ℕ) → b < 2 ^ f → a / 2 ^ s ≡ b → a < 2 ^ (f + s)
in_block f s a b low e =
    let z = mul-le-mul_right (2 ^ s) low in
    let one : suc b * 2 ^ s ≡ b * 2 ^ s + 2 ^ s = omega arith in
    let same : a / 2 ^ s * 2 ^ s ≡ b * 2 ^ s = ap (λ x. x * 2 ^ s) e in
    omega (arith, z, one, same, block_high s a, pow-add 2 f s)

-- where no deep rule lies in a block, its addresses have one entry
pub uniform_block : (f s b : ℕ) (R : RuleMap) (X : ℕ → Entry) → AllNetworks (f + s) R → AllBest (f + s) R X → b < 2 ^ f → (IsDeepBlock f s R b → ⊥)
    → (x : Entry) × ((a : ℕ) → a / 2 ^ s ≡ b → X a ≡ x)
uniform_block f s b R X nets best low none =
    let a0 = b * 2 ^ s + 0 in
    let here : a0 / 2 ^ s ≡ b = shr_high b s 0 (pow_pos s) in
    let short = λ (a : ℕ) (e : a / 2 ^ s ≡ b). all_short f s a R nets (λ d. none (subst (IsDeepBlock f s R) e d)) in (
      X a0,
      λ a e.
          let first = best a0 (in_block f s a0 b low here) in
          best_unique (f + s) R a (X a) (X a0) nets (best a (in_block f s a b low e))
          (best_block f s a0 a R (X a0) (here ∙ sym e) (short a0 here) (short a e) first),
    )

-- Each kind of change turns to the rule list after it.

-- ---- entries

-- what holds of the entries inside and outside the range holds of all
by_range : (width : ℕ) (R' : RuleMap) (from end a : ℕ) (c : Rewrite) (e : Entry) → (from ≤ a → a < end → IsBest width R' a (rewritten_entry c e)) → ((a < from) ⊎ (end ≤ a) → IsBest width R' a e)
    → IsBest width R' a (final_entry from end c a e)
by_range width R' from end a c e inside outside = elim (cases_lt a from) [
  | inl below ↦ subst (IsBest width R' a) (sym (range_low from end a (rewritten_entry c e) e below)) (outside (inl below))
  | inr above ↦ elim (cases_lt a end) [
    | inl below ↦ subst (IsBest width R' a) (sym (range_true from end a (rewritten_entry c e) e above below)) (inside above below)
    | inr past ↦ subst (IsBest width R' a) (sym (range_high from end a (rewritten_entry c e) e past)) (outside (inr past))
  ]
]

not_covered : (width : ℕ) (p : Network) (a : ℕ) → IsNetwork width p → (a < p.bits) ⊎ (p.bits + 2 ^ (width - p.len) ≤ a) → Covers width p a → ⊥
not_covered width p a n (inl below) c = let z = (range_covers width p a n c).0 in absurd (omega (arith, z, below))
not_covered width p a n (inr past) c = let z = (range_covers width p a n c).1 in absurd (omega (arith, z, past))

pub add_best : (width : ℕ) (R : RuleMap) (p : Network) (h : ℕ) (E : ℕ → Entry) → IsNetwork width p → AllBest width R E
    → AllBest width (insert R p h) (λ a. final_entry p.bits (p.bits + 2 ^ (width - p.len)) (record { kind = Add; depth = p.len; entry = Hop h p.len }) a (E a))
add_best width R p h E n best a low = by_range width (insert R p h) p.bits (p.bits + 2 ^ (width - p.len)) a (record { kind = Add; depth = p.len; entry = Hop h p.len }) (E a)
    (λ above below. add_covered width R p h a (E a) (covers_range width p a n above below) (best a low))
    (λ out. add_other width R p h a (E a) (not_covered width p a n out) (best a low))

pub delete_best : (width : ℕ) (R : RuleMap) (p : Network) (e : Entry) (E : ℕ → Entry) → AllNetworks width R → IsNetwork width p → IsCoverEntry width R p e → AllBest width R E
    → AllBest width (remove R p) (λ a. final_entry p.bits (p.bits + 2 ^ (width - p.len)) (record { kind = Delete; depth = p.len; entry = e }) a (E a))
delete_best width R p e E nets n cover best a low = by_range width (remove R p) p.bits (p.bits + 2 ^ (width - p.len)) a (record { kind = Delete; depth = p.len; entry = e }) (E a)
    (λ above below. del_covered width R p a (E a) e nets n (covers_range width p a n above below) cover (best a low))
    (λ out. del_other width R p a (E a) (not_covered width p a n out) (best a low))

pub flush_best : (width : ℕ) (E : ℕ → Entry) → AllBest width (empty {R = network_cmp}) (λ a. final_entry 0 (2 ^ width) rewrite_to_miss a (E a))
flush_best width E a low = subst (IsBest width empty a) (sym (range_true 0 (2 ^ width) a (rewritten_entry rewrite_to_miss (E a)) (E a) (omega arith) low ∙ flushed_miss (E a)))
    (λ q some cov. not_some (get-empty network_cmp q) some)

-- ---- groups

pub add_groups : (f s : ℕ) (R : RuleMap) (p : Network) (h : ℕ) (L : ℕ → Option ℕ) → (f < p.len → IsDeepBlock f s R (p.bits / 2 ^ s)) → HasDeepGroups f s R L → HasDeepGroups f s (insert R p h) L
add_groups f s R p h L deep known i low = (
  (λ some. deep_kept f s R p h i ((known i low).0 some)),
  (λ d. (known i low).1 (elim (deep_insert_cases f s R p h i d) [
    | inl k ↦ k
    | inr k ↦ subst (IsDeepBlock f s R) k.1 (deep k.0)
  ])),
)

pub link_deep : (f s : ℕ) (R : RuleMap) (p : Network) (h g : ℕ) (L : ℕ → Option ℕ) → f < p.len → HasDeepGroups f s R L → HasDeepGroups f s (insert R p h) (λ i. if i == p.bits / 2 ^ s then Some g else L i)
link_deep f s R p h g L long known i low = elim (cases_eq i (p.bits / 2 ^ s)) [
  | inl here ↦
      let e = here_is i (p.bits / 2 ^ s) (Some g) (L i) here in
      ((λ _. subst (IsDeepBlock f s (insert R p h)) (sym here) (deep_inserted f s R p h long)), (λ _. subst IsSome (sym e) refl))
  | inr other ↦
      let e = there_is i (p.bits / 2 ^ s) (Some g) (L i) other in (
        (λ some. deep_kept f s R p h i ((known i low).0 (subst IsSome e some))),
        (λ d. subst IsSome (sym e) ((known i low).1 (elim (deep_insert_cases f s R p h i d) [
          | inl k ↦ k
          | inr k ↦ absurd (other (sym k.1))
        ]))),
      )
]

-- a rule goes that is short, or leaves another deep one in its block
pub delete_groups : (f s : ℕ) (R : RuleMap) (p : Network) (L : ℕ → Option ℕ) → (f < p.len → IsDeepBlock f s (remove R p) (p.bits / 2 ^ s)) → HasDeepGroups f s R L → HasDeepGroups f s (remove R p) L
delete_groups f s R p L deep known i low = (
  (λ some. elim (deep_remove_cases f s R p i ((known i low).0 some)) [
    | inl k ↦ k
    | inr k ↦ subst (IsDeepBlock f s (remove R p)) k.1 (deep k.0)
  ]),
  (λ d. (known i low).1 (deep_remains f s R p i d)),
)

-- the last deep rule of its block goes
pub unlinked_groups : (f s : ℕ) (R : RuleMap) (p : Network) (L : ℕ → Option ℕ) → (IsDeepBlock f s (remove R p) (p.bits / 2 ^ s) → ⊥) → HasDeepGroups f s R L
    → HasDeepGroups f s (remove R p) (λ i. if i == p.bits / 2 ^ s then None else L i)
unlinked_groups f s R p L none known i low = elim (cases_eq i (p.bits / 2 ^ s)) [
  | inl here ↦
      let e = here_is i (p.bits / 2 ^ s) None (L i) here in
      ((λ some. absurd (not_some e some)), (λ d. absurd (none (subst (IsDeepBlock f s (remove R p)) here d))))
  | inr other ↦
      let e = there_is i (p.bits / 2 ^ s) None (L i) other in (
        (λ some. elim (deep_remove_cases f s R p i ((known i low).0 (subst IsSome e some))) [
          | inl k ↦ k
          | inr k ↦ absurd (other (sym k.1))
        ]),
        (λ d. subst IsSome (sym e) ((known i low).1 (deep_remains f s R p i d))),
      )
]

pub flush_deep : (f s : ℕ) → HasDeepGroups f s (empty {R = network_cmp}) (λ i. None)
flush_deep f s i low = ((λ some. absurd (not_some refl some)), (λ d. absurd (not_some (get-empty network_cmp d.0) d.1)))

block_in : (f s : ℕ) (p : Network) → IsNetwork (f + s) p → p.bits / 2 ^ s < 2 ^ f
block_in f s p n = shr_below p.bits f s n.1

-- ---- ranges

pub rewriting_from : (f s : ℕ) (R : RuleMap) (p : Network) (u : RewriteRange) (W : Words) → IsNetwork (f + s) p → Represents f s R W → IsRangeOf f s p u
    → (f < p.len → IsDeepBlock f s R (p.bits / 2 ^ s)) → IsRewriting f s u.from u.at u.end u.rewrite W.firsts
rewriting_from f s R p u W n known made deep = elim (cases_lt f p.len) [
  | inl long ↦ let g = deep_group f s R W.firsts (p.bits / 2 ^ s) known.groups (block_in f s p n) (deep long) in made.deep long W.firsts g.0 g.1
  | inr short ↦ made.short short W.firsts
]

range_stands : (f s : ℕ) (p : Network) (u : RewriteRange) (W : Words) → IsRangeOf f s p u → Stands s u.from u.at u.rewrite W (entry_at s W)
range_stands f s p u W made = subst (λ x. Stands s u.from x u.rewrite W (entry_at s W)) (made.from ∙ sym made.at) (stands_still s u.from u.rewrite W)

pub begun_range : (f s : ℕ) (R : RuleMap) (p : Network) (u : RewriteRange) (W : Words) → IsNetwork (f + s) p → Represents f s R W → IsRangeOf f s p u
    → (f < p.len → IsDeepBlock f s R (p.bits / 2 ^ s)) → IsBegun f s (Range u) W
begun_range f s R p u W n known made deep = record {
  under_way = rewriting_from f s R p u W n known made deep;
  stands = range_stands f s p u W made;
  groups = λ i low. refl;
}

best_along : (width : ℕ) (R : RuleMap) (X Y : ℕ → Entry) → ((a : ℕ) → X a ≡ Y a) → AllBest width R Y → AllBest width R X
best_along width R X Y e best a low = subst (IsBest width R a) (sym (e a)) (best a low)

pub adds_range : (f s : ℕ) (R : RuleMap) (p : Network) (h : ℕ) (u : RewriteRange) → IsNetwork (f + s) p → IsRangeOf f s p u → u.rewrite ≡ record { kind = Add; depth = p.len; entry = Hop h p.len }
    → (f < p.len → IsDeepBlock f s R (p.bits / 2 ^ s)) → TurnsInto f s (Range u) R (insert R p h)
adds_range f s R p h u n made is deep = record {
  networks = networks_insert (f + s) R p h n;
  best = λ E best. best_along (f + s) (insert R p h) _ _ (λ a. final_same a (E a) _ _ _ _ _ _ made.from made.end is) (add_best (f + s) R p h E n best);
  groups = λ L known. add_groups f s R p h L deep known;
}

-- ---- links

pub begun_link : (f s : ℕ) (R : RuleMap) (p : Network) (h g : ℕ) (u : LinkGroup) (W : Words) → IsNetwork (f + s) p → Represents f s R W
    → u ≡ record { from = p.bits; end = p.bits + 2 ^ (f + s - p.len); rewrite = record { kind = Add; depth = p.len; entry = Hop h p.len }; block = p.bits / 2 ^ s; group = g; next = 0 }
    → (f < p.len → (t : Words) → IsLast (entry_in (slice_index t.firsts (p.bits / 2 ^ s))) → IsFreshGroup s g t → IsLinking f s u t)
    → (f < p.len) × (IsDeepBlock f s R (p.bits / 2 ^ s) → ⊥) × IsFreshGroup s g W → IsBegun f s (Link u) W
begun_link f s R p h g u W n known is made fits =
    let next : u.next ≡ 0 = ap (λ (x : LinkGroup). x.next) is in
    let low : u.next ≤ 2 ^ s = omega (arith, next) in
    record {
      under_way = made fits.0 W (shallow_last f s R W.firsts (p.bits / 2 ^ s) known.groups (block_in f s p n) fits.1) fits.2;
      stands = subst (λ x. Stands s u.from x u.rewrite W (entry_at s W)) (sym (reached_low s u low)) (stands_still s u.from u.rewrite W);
      groups = λ i _. sym (unlinked_yet s u.next (group_at W.firsts i) (if i == u.block then Some u.group else group_at W.firsts i) low);
    }

pub adds_link : (f s : ℕ) (R : RuleMap) (p : Network) (h g : ℕ) (u : LinkGroup) → IsNetwork (f + s) p
    → u ≡ record { from = p.bits; end = p.bits + 2 ^ (f + s - p.len); rewrite = record { kind = Add; depth = p.len; entry = Hop h p.len }; block = p.bits / 2 ^ s; group = g; next = 0 }
    → f < p.len → TurnsInto f s (Link u) R (insert R p h)
adds_link f s R p h g u n is long =
    subst (λ x. TurnsInto f s (Link x) R (insert R p h)) (sym is) (record {
      networks = networks_insert (f + s) R p h n;
      best = λ E best. add_best (f + s) R p h E n best;
      groups = λ L known. link_deep f s R p h g L long known;
    })

-- ---- deletes

rewrite_is : (c : Rewrite) (n : ℕ) → c.kind ≡ Delete → c.depth ≡ n → c ≡ record { kind = Delete; depth = n; entry = c.entry }
rewrite_is c n p q = λ i. record { kind = p i; depth = q i; entry = c.entry }

deletes_best : (f s : ℕ) (R : RuleMap) (p : Network) (u : RewriteRange) → AllNetworks (f + s) R → IsNetwork (f + s) p → IsRangeOf f s p u → u.rewrite.kind ≡ Delete → u.rewrite.depth ≡ p.len
    → IsCoverEntry (f + s) R p u.rewrite.entry → (E : ℕ → Entry) → AllBest (f + s) R E → AllBest (f + s) (remove R p) (λ a. final_entry u.from u.end u.rewrite a (E a))
deletes_best f s R p u nets n made k d cover E best =
    best_along (f + s) (remove R p) _ _ (λ a. final_same a (E a) _ _ _ _ _ _ made.from made.end (rewrite_is u.rewrite p.len k d)) (delete_best (f + s) R p u.rewrite.entry E nets n cover best)

pub deletes_range : (f s : ℕ) (R : RuleMap) (p : Network) (u : RewriteRange) → AllNetworks (f + s) R → IsNetwork (f + s) p → IsRangeOf f s p u → u.rewrite.kind ≡ Delete → u.rewrite.depth ≡ p.len
    → IsCoverEntry (f + s) R p u.rewrite.entry → (f < p.len → IsDeepBlock f s (remove R p) (p.bits / 2 ^ s)) → TurnsInto f s (Range u) R (remove R p)
deletes_range f s R p u nets n made k d cover left = record {
  networks = networks_remove (f + s) R p;
  best = deletes_best f s R p u nets n made k d cover;
  groups = λ L known. delete_groups f s R p L left known;
}

pub deletes_unlink : (f s : ℕ) (R : RuleMap) (p : Network) (u : RewriteRange) (block : ℕ) → AllNetworks (f + s) R → IsNetwork (f + s) p → IsRangeOf f s p u → u.rewrite.kind ≡ Delete → u.rewrite.depth ≡ p.len
    → IsCoverEntry (f + s) R p u.rewrite.entry → block ≡ p.bits / 2 ^ s → (IsDeepBlock f s (remove R p) (p.bits / 2 ^ s) → ⊥)
    → TurnsInto f s (Unlink (record { range = u; block = block; unlinked = false })) R (remove R p)
deletes_unlink f s R p u block nets n made k d cover here none = record {
  networks = networks_remove (f + s) R p;
  best = deletes_best f s R p u nets n made k d cover;
  groups = λ L known. subst (λ x. HasDeepGroups f s (remove R p) (λ i. if i == x then None else L i)) (sym here) (unlinked_groups f s R p L none known);
}

pub begun_unlink : (f s : ℕ) (R : RuleMap) (p : Network) (u : RewriteRange) (block : ℕ) (W : Words) → IsNetwork (f + s) p → Represents f s R W → IsRangeOf f s p u
    → u.rewrite.kind ≡ Delete → u.rewrite.depth ≡ p.len → IsCoverEntry (f + s) R p u.rewrite.entry → IsSome (get R p) → f < p.len
    → block ≡ p.bits / 2 ^ s → (IsDeepBlock f s (remove R p) (p.bits / 2 ^ s) → ⊥) → IsBegun f s (Unlink (record { range = u; block = block; unlinked = false })) W
begun_unlink f s R p u block W n known made k d cover there long here none =
    let deep : IsDeepBlock f s R (p.bits / 2 ^ s) = (p, there, long, refl) in
    let within = block_in f s p n in
    let low = block_low s p.bits in
    let high = deep_high f s p n long in
    let from = made.from in
    let end = made.end in
    let best = deletes_best f s R p u known.networks n made k d cover (entry_at s W) known.best in
    record {
      under_way = (
        (λ _. record {
          rewriting = rewriting_from f s R p u W n known made (λ _. deep);
          in_table = subst (λ x. x < 2 ^ f) (sym here) within;
          low = subst (λ x. x * 2 ^ s ≤ u.from) (sym here) (subst (λ x. p.bits / 2 ^ s * 2 ^ s ≤ x) (sym from) low);
          high = subst (λ x. u.end ≤ x * 2 ^ s + 2 ^ s) (sym here) (subst (λ x. x ≤ p.bits / 2 ^ s * 2 ^ s + 2 ^ s) (sym end) high);
          group = subst (λ x. (g : ℕ) × (entry_in (slice_index W.firsts x) ≡ Group g)) (sym here) (deep_group f s R W.firsts (p.bits / 2 ^ s) known.groups within deep);
          uniform = (
            entry_at s W,
            range_stands f s p u W made,
            uniform_block f s block (remove R p) (λ a. final_entry u.from u.end u.rewrite a (entry_at s W a)) (networks_remove (f + s) R p known.networks) best
                (subst (λ x. x < 2 ^ f) (sym here) within) (subst (λ x. IsDeepBlock f s (remove R p) x → ⊥) (sym here) none),
          );
        }),
        (λ e. absurd cc),
      );
      stands = range_stands f s p u W made;
      groups = λ i _. refl;
    }
