use Rattle.std.proofs.Common.{arith, ◌≡◌, ◌≢◌, ℕ, ◌+◌, ◌-◌, ◌/◌, ◌^◌, ◌≤◌, inl, inr, refl, ap, sym, ◌∙◌, subst, Bool, true, false, cond, Option, Some, ◌<◌, ◌*◌}
use Rattle.std.specs.Prelude.{IsSome, nat_eq, nat_le}
use Rattle.std.specs.FinMap.{get, remove, insert}
use Rattle.std.proofs.lemmas.Bool.{cases_eq, eqb-true, eq-eqb, cases_lt, leb-true, leb-false}
use Rattle.std.proofs.lemmas.Nat.{shr-shr}
use Rattle.lpm_bits.specs.Network.{Network, Covers, IsNetwork}
use Rattle.lpm_rules.specs.RuleMap.{RuleMap, AllNetworks}
use Rattle.lpm_rules.proofs.Longest.{same_length}
use Rattle.lpm_rules.proofs.Views.{not_some, remove_cases, remove_here, insert_cases, insert_here}
use Rattle.lpm_cells.specs.declared.entry.Entry.{Entry}
use Rattle.lpm_cells.specs.declared.entry.Entry.TheVariants.{Miss, Hop, Group}
use Rattle.lpm_update.specs.declared.rewrite.Kind.TheVariants.{Delete, Add}
use Rattle.lpm_update.specs.Rewrite.{rewritten_entry}
use Rattle.lpm_update.specs.Best.{IsBest}
use Rattle.lpm_rules.specs.Deep.{IsDeepBlock}
use Rattle.lpm_rules.specs.Longest.{IsCoverRule, IsLongestHop, IsUncovered}
use Rattle.lpm_cells.specs.Words.{hop_in}
use Rattle.lpm_update.proofs.Places.{block_low, block_high, block_of}

pub removed_was : (R : RuleMap) (p q : Network) → IsSome (get (remove R p) q) → IsSome (get R q)
removed_was R p q some = elim (remove_cases R p q) [
  | inl k ↦ absurd (not_some k.1 some)
  | inr k ↦ subst IsSome k some
]

stays : (R : RuleMap) (p q : Network) (h : ℕ) → q.len ≢ p.len → get R q ≡ Some h → get (remove R p) q ≡ Some h
stays R p q h n e = elim (remove_cases R p q) [
  | inl k ↦ absurd (n (ap (λ (x : Network). x.len) k.0))
  | inr k ↦ k ∙ e
]

-- two prefixes of one length that cover one address are one
pub same_net : (width a : ℕ) (p q : Network) → IsNetwork width p → IsNetwork width q → Covers width p a → Covers width q a → q.len ≡ p.len → q ≡ p
same_net width a p q n m c d e = same_length width a q p m n d c e

-- a shorter prefix covers an address as it covers the prefix
pub shift_more : (n j k m : ℕ) → m ≡ k + j → n / 2 ^ m ≡ n / 2 ^ k / 2 ^ j
shift_more n j k m e = ap (λ x. n / 2 ^ x) e ∙ sym (shr-shr n k j)

pub covers_up : (width a : ℕ) (p q : Network) → p.len ≤ width → q.len ≤ p.len → Covers width p a → a / 2 ^ (width - q.len) ≡ p.bits / 2 ^ (width - q.len)
covers_up width a p q h l c =
    let e : width - q.len ≡ (width - p.len) + (p.len - q.len) = omega (arith, h, l) in
    shift_more a (p.len - q.len) (width - p.len) (width - q.len) e
    ∙ ap (λ x. x / 2 ^ (p.len - q.len)) c
    ∙ sym (shift_more p.bits (p.len - q.len) (width - p.len) (width - q.len) e)

gone_miss : (width : ℕ) (R : RuleMap) (p : Network) (a : ℕ) → IsBest width R a Miss → IsBest width (remove R p) a Miss
gone_miss width R p a b = λ q some cov. b q (removed_was R p q some) cov

kept_rule : (width : ℕ) (R : RuleMap) (p : Network) (a v d : ℕ) → d ≢ p.len → IsBest width R a (Hop v d) → IsBest width (remove R p) a (Hop v d)
kept_rule width R p a v d n b =
    (b.0, stays R p b.0 v (λ e. n (sym b.2 ∙ e)) b.1, b.2, b.3, λ q some cov. b.4 q (removed_was R p q some) cov)

eq_not : (d n : ℕ) → d ≡ n → nat_eq d n ≡ false → ⊥
eq_not d n e z =
    let y : true ≡ false = sym (eq-eqb d n e) ∙ z in
    cc

-- e is the entry of the longest rule of R that is shorter than p and covers it, a miss where there
-- is none
abbrev pub IsCoverEntry : ℕ → RuleMap → Network → Entry → Type 0
IsCoverEntry width R p Miss = IsUncovered width R p
IsCoverEntry width R p (Hop h d) = (c : Network) × IsCoverRule width R p c h × (c.len ≡ d)
IsCoverEntry width R p (Group g) = ⊥

-- the entry of p itself gives way to that of its cover
to_cover : (width : ℕ) (R : RuleMap) (p : Network) (a v : ℕ) (e : Entry) → AllNetworks width R → IsNetwork width p → Covers width p a → IsBest width R a (Hop v p.len) → IsCoverEntry width R p e
    → IsBest width (remove R p) a e
to_cover width R p a v Miss nets n c b k = λ q some cov.
    let was = removed_was R p q some in
    let most = b.4 q was cov in
    elim (cases_eq q.len p.len) [
      | inl e ↦ elim (remove_cases R p q) [
        | inl z ↦ not_some z.1 some
        | inr z ↦
            let same = same_net width a p q n (nets q was) c cov e in
            not_some ((ap (get (remove R p)) same ∙ remove_here R p)) some
      ]
      | inr ne ↦ k q was (omega (arith, most, ne)) (sym (covers_up width a p q n.0 most c) ∙ cov)
    ]
to_cover width R p a v (Hop h d) nets n c b k =
    let short = k.1.shorter in
    let len = k.2 in (
      k.0,
      stays R p k.0 h (λ e. absurd (omega (arith, e, short))) k.1.rule,
      len,
      covers_up width a p k.0 n.0 (omega (arith, short)) c ∙ k.1.covers,
      λ q some cov.
          let was = removed_was R p q some in
          let most = b.4 q was cov in
          elim (cases_eq q.len p.len) [
            | inl e ↦ absurd (not_some (ap (get (remove R p)) (same_net width a p q n (nets q was) c cov e) ∙ remove_here R p) some)
            | inr ne ↦ subst (λ x. q.len ≤ x) len (k.1.longest q was (omega (arith, most, ne)) (sym (covers_up width a p q n.0 most c) ∙ cov))
          ],
    )
to_cover width R p a v (Group g) nets n c b k = absurd k

del_hop : (width : ℕ) (R : RuleMap) (p : Network) (a v d : ℕ) (e : Entry) (t : Bool) → nat_eq d p.len ≡ t → AllNetworks width R → IsNetwork width p → Covers width p a → IsBest width R a (Hop v d)
    → IsCoverEntry width R p e → IsBest width (remove R p) a (cond t e (Hop v d))
del_hop width R p a v d e true z nets n c b k = to_cover width R p a v e nets n c (subst (λ x. IsBest width R a (Hop v x)) (eqb-true d p.len z) b) k
del_hop width R p a v d e false z nets n c b k = kept_rule width R p a v d (λ q. eq_not d p.len q z) b

pub del_covered : (width : ℕ) (R : RuleMap) (p : Network) (a : ℕ) (old new : Entry) → AllNetworks width R → IsNetwork width p → Covers width p a → IsCoverEntry width R p new → IsBest width R a old
    → IsBest width (remove R p) a (rewritten_entry (record { kind = Delete; depth = p.len; entry = new }) old)
del_covered width R p a Miss new nets n c k b = gone_miss width R p a b
del_covered width R p a (Hop v d) new nets n c k b = del_hop width R p a v d new (nat_eq d p.len) refl nets n c b k
del_covered width R p a (Group g) new nets n c k b = absurd b

pub del_other : (width : ℕ) (R : RuleMap) (p : Network) (a : ℕ) (e : Entry) → (Covers width p a → ⊥) → IsBest width R a e → IsBest width (remove R p) a e
del_other width R p a Miss n b = gone_miss width R p a b
del_other width R p a (Hop v d) n b = (
  b.0,
  elim (remove_cases R p b.0) [
    | inl k ↦ absurd (n (subst (λ x. Covers width x a) k.0 b.3))
    | inr k ↦ k ∙ b.1
  ],
  b.2,
  b.3,
  λ q some cov. b.4 q (removed_was R p q some) cov,
)
del_other width R p a (Group g) n b = absurd b

-- Addresses of one block, where no rule longer than FIRST bits lies in it.

same_some : (x : Option ℕ) (v w : ℕ) → x ≡ Some v → x ≡ Some w → v ≡ w
same_some x v w p q =
    let z : Some v ≡ Some w = sym p ∙ q in
    cc

is_some : (x : Option ℕ) (v : ℕ) → x ≡ Some v → IsSome x
is_some x v e = subst IsSome (sym e) refl

-- the longest rule at an address is one
pub best_unique : (width : ℕ) (R : RuleMap) (a : ℕ) (x y : Entry) → AllNetworks width R → IsBest width R a x → IsBest width R a y → x ≡ y
best_unique width R a Miss Miss n b c = refl
best_unique width R a Miss (Hop v d) n b c = absurd (b c.0 (is_some _ _ c.1) c.3)
best_unique width R a Miss (Group g) n b c = absurd c
best_unique width R a (Hop v d) Miss n b c = absurd (c b.0 (is_some _ _ b.1) b.3)
best_unique width R a (Hop v d) (Hop w k) n b c =
    let le = c.4 b.0 (is_some _ _ b.1) b.3 in
    let ge = b.4 c.0 (is_some _ _ c.1) c.3 in
    let p = b.2 in
    let q = c.2 in
    let len : b.0.len ≡ c.0.len = omega (arith, le, ge, p, q) in
    let same = same_net width a c.0 b.0 (n c.0 (is_some _ _ c.1)) (n b.0 (is_some _ _ b.1)) c.3 b.3 len in
    let hop : v ≡ w = same_some (get R c.0) v w (ap (get R) (sym same) ∙ b.1) c.1 in
    let depth : d ≡ k = omega (arith, len, p, q) in
    cc
best_unique width R a (Hop v d) (Group g) n b c = absurd c
best_unique width R a (Group g) y n b c = absurd b

-- rules no longer than FIRST bits cover whole blocks
pub covers_block : (f s a b : ℕ) (q : Network) → q.len ≤ f → a / 2 ^ s ≡ b / 2 ^ s → Covers (f + s) q a → Covers (f + s) q b
covers_block f s a b q h e c =
    let k : f + s - q.len ≡ s + (f - q.len) = omega arith in
    shift_more b (f - q.len) s (f + s - q.len) k ∙ ap (λ x. x / 2 ^ (f - q.len)) (sym e) ∙ sym (shift_more a (f - q.len) s (f + s - q.len) k) ∙ c

-- where no longer rule lies in their block, two addresses have one entry
pub best_block : (f s a b : ℕ) (R : RuleMap) (e : Entry) → a / 2 ^ s ≡ b / 2 ^ s → ((q : Network) → IsSome (get R q) → Covers (f + s) q a → q.len ≤ f) → ((q : Network) → IsSome (get R q) → Covers (f + s) q b → q.len ≤ f)
    → IsBest (f + s) R a e → IsBest (f + s) R b e
best_block f s a b R Miss p k l t = λ q some cov. t q some (covers_block f s b a q (l q some cov) (sym p) cov)
best_block f s a b R (Hop v d) p k l t =
    (t.0, t.1, t.2, covers_block f s a b t.0 (k t.0 (is_some _ _ t.1) t.3) p t.3, λ q some cov. t.4 q some (covers_block f s b a q (l q some cov) (sym p) cov))
best_block f s a b R (Group g) p k l t = absurd t

-- a rule longer than FIRST bits that covers an address lies in its block
pub deep_covers : (f s a : ℕ) (q : Network) → f < q.len → q.len ≤ f + s → Covers (f + s) q a → q.bits / 2 ^ s ≡ a / 2 ^ s
deep_covers f s a q long fits c =
    let k = f + s - q.len in
    let e : s ≡ k + (s - k) = omega (arith, long, fits) in
    shift_more q.bits (s - k) k s e ∙ ap (λ x. x / 2 ^ (s - k)) (sym c) ∙ sym (shift_more a (s - k) k s e)

-- where no such rule lies in its block, each rule that covers the address is short
pub all_short : (f s a : ℕ) (R : RuleMap) → AllNetworks (f + s) R → (IsDeepBlock f s R (a / 2 ^ s) → ⊥) → (q : Network) → IsSome (get R q) → Covers (f + s) q a → q.len ≤ f
all_short f s a R nets none q some c = elim (cases_lt f q.len) [
  | inl long ↦ absurd (none (q, some, long, deep_covers f s a q long (nets q some).0 c))
  | inr short ↦ short
]

-- a longest rule that stays the longest
longest_with : (width : ℕ) (R : RuleMap) (p : Network) (h a d n : ℕ) → d ≤ n → (Covers width p a → p.len ≤ n)
    → ((q : Network) → IsSome (get R q) → Covers width q a → q.len ≤ d)
    → (q : Network) → IsSome (get (insert R p h) q) → Covers width q a → q.len ≤ n
longest_with width R p h a d n l m old q some cov = elim (insert_cases R p h q) [
  | inl k ↦
      let z = m (subst (λ x. Covers width x a) k.0 cov) in
      subst (λ x. x ≤ n) (ap (λ (x : Network). x.len) (sym k.0)) z
  | inr k ↦ let z = old q (subst IsSome k some) cov in omega (arith, z, l)
]

kept_hop : (width : ℕ) (R : RuleMap) (p : Network) (h a v d : ℕ) → (Covers width p a → p.len < d) → IsBest width R a (Hop v d) → IsBest width (insert R p h) a (Hop v d)
kept_hop width R p h a v d shorter b = (
  b.0,
  elim (insert_cases R p h b.0) [
    | inl k ↦
        let z = shorter (subst (λ x. Covers width x a) k.0 b.3) in
        let len = ap (λ (x : Network). x.len) k.0 in
        let len2 = b.2 in
        absurd (omega (arith, z, len, len2))
    | inr k ↦ k ∙ b.1
  ],
  b.2,
  b.3,
  longest_with width R p h a d d (omega arith) (λ c. let z = shorter c in omega (arith, z)) b.4,
)

new_hop : (width : ℕ) (R : RuleMap) (p : Network) (h a d : ℕ) → d ≤ p.len → Covers width p a → ((q : Network) → IsSome (get R q) → Covers width q a → q.len ≤ d)
    → IsBest width (insert R p h) a (Hop h p.len)
new_hop width R p h a d l c old = (p, insert_here R p h, refl, c, longest_with width R p h a d p.len l (λ _. omega arith) old)

hop_by : (width : ℕ) (R : RuleMap) (p : Network) (h a v d : ℕ) (t : Bool) → nat_le d p.len ≡ t → Covers width p a → IsBest width R a (Hop v d)
    → IsBest width (insert R p h) a (cond t (Hop h p.len) (Hop v d))
hop_by width R p h a v d true e c b = new_hop width R p h a d (leb-true d p.len e) c b.4
hop_by width R p h a v d false e c b = kept_hop width R p h a v d (λ _. leb-false d p.len e) b

-- an address that the new rule covers
pub add_covered : (width : ℕ) (R : RuleMap) (p : Network) (h a : ℕ) (e : Entry) → Covers width p a → IsBest width R a e
    → IsBest width (insert R p h) a (rewritten_entry (record { kind = Add; depth = p.len; entry = Hop h p.len }) e)
add_covered width R p h a Miss c b = new_hop width R p h a 0 (omega arith) c (λ q some cov. absurd (b q some cov))
add_covered width R p h a (Hop v d) c b = hop_by width R p h a v d (nat_le d p.len) refl c b
add_covered width R p h a (Group g) c b = absurd b

-- an address that it doesn't cover
pub add_other : (width : ℕ) (R : RuleMap) (p : Network) (h a : ℕ) (e : Entry) → (Covers width p a → ⊥) → IsBest width R a e → IsBest width (insert R p h) a e
add_other width R p h a Miss n b = λ q some cov. elim (insert_cases R p h q) [
  | inl k ↦ n (subst (λ x. Covers width x a) k.0 cov)
  | inr k ↦ b q (subst IsSome k some) cov
]
add_other width R p h a (Hop v d) n b = kept_hop width R p h a v d (λ c. absurd (n c)) b
add_other width R p h a (Group g) n b = absurd b

-- the addresses that a prefix covers are those of its range
pub covers_range : (width : ℕ) (p : Network) (a : ℕ) → IsNetwork width p → p.bits ≤ a → a < p.bits + 2 ^ (width - p.len) → Covers width p a
covers_range width p a n l h =
    let k = width - p.len in
    let net : p.bits / 2 ^ k * 2 ^ k ≡ p.bits = n.2 in
    block_of k a (p.bits / 2 ^ k) (omega (arith, net, l)) (omega (arith, net, h))

pub range_covers : (width : ℕ) (p : Network) (a : ℕ) → IsNetwork width p → Covers width p a → (p.bits ≤ a) × (a < p.bits + 2 ^ (width - p.len))
range_covers width p a n c =
    let k = width - p.len in
    let net : p.bits / 2 ^ k * 2 ^ k ≡ p.bits = n.2 in
    let same : a / 2 ^ k * 2 ^ k ≡ p.bits = ap (λ x. x * 2 ^ k) c ∙ net in
    let low = block_low k a in
    let high = block_high k a in
    (omega (arith, same, low), omega (arith, same, high))

-- the next hop of the longest rule's entry
pub best_hop : (width : ℕ) (R : RuleMap) (a : ℕ) (e : Entry) → IsBest width R a e → IsLongestHop width R a (hop_in e)
best_hop width R a Miss b = b
best_hop width R a (Hop h d) b = (b.0, b.1, record { covers = b.3; longest = λ q some cov. let len = b.2 in let z = b.4 q some cov in omega (arith, len, z) })
best_hop width R a (Group g) b = absurd b
