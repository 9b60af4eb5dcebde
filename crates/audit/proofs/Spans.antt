-- The versions of a span that give an answer.
use Rattle.std.proofs.Common.{ℕ, refl, inl, inr, subst, List, [], ◌∷◌, Bool, true, false, length, arith, ◌≡◌, ◌≢◌, ◌+◌, ◌-◌, ◌<◌, ◌≤◌, ap, sym, ◌∙◌, Option, Some, None, get_or, suc, zero, take, ◌↔◌, nat_eq, eqb-true, eq-eqb, drop, min}
use Rattle.std.specs.Prelude.{filter, not, count_by, IsSome, IsTrue}
use Rattle.std.proofs.lemmas.List.Sums.{length-filter}
use Rattle.lpm_rules.specs.RuleMap.{RuleMap, AllNetworks, network_cmp}
use Rattle.lpm_rules.specs.declared.Change.{Change}
use Rattle.lpm_rules.specs.declared.Answer.{Answer}
use Rattle.audit.specs.Wrong.{AreWrong, version_of, IsOfSomeVersion, version_from}
use Rattle.audit.specs.Index.{AreMarks, Touches, prefix_in, hop_in}
use Rattle.std.specs.FinMap.{get, insert, remove, empty, get-empty}
use Rattle.std.proofs.lemmas.Bool.{cases_eq, cases_lt}
use Rattle.std.proofs.lemmas.List.{take_more, length-drop}
use Rattle.std.proofs.lemmas.List.Elements.{All-cons, All-nil}
use Rattle.lpm_bits.specs.Network.{Network, Covers, prefix_of}
use Rattle.lpm_rules.specs.Changes.{rules_with, rules_after, Spares}
use Rattle.lpm_rules.specs.Longest.{IsLongestHop}
use Rattle.lpm_rules.specs.declared.Change.TheVariants.{Add, Delete, Flush, Synchronize}
use Rattle.lpm_rules.proofs.Views.{not_some, insert_cases, insert_here, remove_cases, remove_here}
use Rattle.lpm_rules.proofs.Longest.{network_at, covers_masked, one_longest_hop, rules_after-append, spared_is_kept}
use Rattle.std.specs.Option.{option_eq}
use Rattle.std.proofs.Math.Nat.{min-le_left, min-le_right, le-min}
use Rattle.std.proofs.Math.Seq.{take-add}

-- The count of the answers that are marked.

wrong_kept : (f s : ℕ) (R : RuleMap) (history : List (Change f s)) (answers : List (ℕ × Answer)) (marks : List Bool) → AreMarks R history answers marks
    → AreWrong R history answers (length (filter (λ m. not m) marks))
wrong_kept f s R history [] [] all = refl
wrong_kept f s R history (x ∷ xs) (true ∷ ms) all = inr (all.0.0 refl, wrong_kept f s R history xs ms all.1)
wrong_kept f s R history (x ∷ xs) (false ∷ ms) all =
    inl (λ is. (let z = all.0.1 is in cc), (length (filter (λ m. not m) ms), refl, wrong_kept f s R history xs ms all.1))
wrong_kept f s R history _ _ all = absurd all

pub wrong_marks : (f s : ℕ) (R : RuleMap) (history : List (Change f s)) (answers : List (ℕ × Answer)) (marks : List Bool) → AreMarks R history answers marks
    → AreWrong R history answers (count_by (λ m. not m) marks)
wrong_marks f s R history answers marks all =
    subst (AreWrong R history answers) (length-filter (λ m. not m) marks) (wrong_kept f s R history answers marks all)

-- The rules of the versions of a history.

-- ---- one change

-- a prefix that the change spares keeps its rule
pub kept_one : (f s : ℕ) (R : RuleMap) (p : Network) (c : Change f s) → Spares p c → get (rules_with R c) p ≡ get R p
kept_one f s R p c h = spared_is_kept f s R p (c ∷ []) (All-cons (Spares p) c [] h (All-nil (Spares p)))

-- the prefix of a change has what the change says
pub set_here : (f s : ℕ) (R : RuleMap) (c : Change f s) (p : Network) → prefix_in c ≡ Some p → get (rules_with R c) p ≡ hop_in c
set_here f s R (Add q h) p e = let same : q ≡ p = cc in ap (get (insert R q h)) (sym same) ∙ insert_here R q h
set_here f s R (Delete q) p e = let same : q ≡ p = cc in ap (get (remove R q)) (sym same) ∙ remove_here R q
set_here f s R c p e = cc

-- a change spares a prefix that it isn't of, unless it is a flush
pub spares : (f s : ℕ) (p : Network) (c : Change f s) → (prefix_in c ≡ Some p → ⊥) → c ≢ Flush → Spares p c
spares f s p (Add q h) other calm = λ e. other (ap Some (sym e))
spares f s p (Delete q) other calm = λ e. other (ap Some (sym e))
spares f s p Flush other calm = absurd (calm refl)
spares f s p c other calm = tt

-- a change that doesn't touch an address spares the prefixes that cover it
spared : (f s a : ℕ) (q : Network) (c : Change f s) → (Touches a c → ⊥) → Covers (f + s) q a → Spares q c
spared f s a q (Add p h) calm cov = λ e. calm (subst (λ x. Covers (f + s) x a) e cov)
spared f s a q (Delete p) calm cov = λ e. calm (subst (λ x. Covers (f + s) x a) e cov)
spared f s a q Flush calm cov = absurd (calm tt)
spared f s a q c calm cov = tt

-- what holds of the prefix of a change, and of each prefix that has a rule, holds after the change
all_with : (f s : ℕ) (P : Network → Type 0) (R : RuleMap) (c : Change f s) → ((p : Network) → prefix_in c ≡ Some p → P p)
    → ((q : Network) → IsSome (get R q) → P q) → (q : Network) → IsSome (get (rules_with R c) q) → P q
all_with f s P R (Add p h) new old q some = elim (insert_cases R p h q) [
  | inl k ↦ subst P (sym k.0) (new p refl)
  | inr k ↦ old q (subst IsSome k some)
]
all_with f s P R (Delete p) new old q some = elim (remove_cases R p q) [
  | inl k ↦ absurd (not_some k.1 some)
  | inr k ↦ old q (subst IsSome k some)
]
all_with f s P R Flush new old q some = absurd (not_some (get-empty network_cmp q) some)
all_with f s P R c new old q some = old q some

-- where two rule lists have the same rules of the prefixes that cover an address, it goes to the same
longest_same : (width a : ℕ) (Q R : RuleMap) (hop : Option ℕ) → ((q : Network) → Covers width q a → get Q q ≡ get R q)
    → IsLongestHop width Q a hop → IsLongestHop width R a hop
longest_same width a Q R None same old = λ q some cov. old q (subst IsSome (sym (same q cov)) some) cov
longest_same width a Q R (Some h) same old = (
  old.0,
  sym (same old.0 old.2.covers) ∙ old.1,
  record {
    covers = old.2.covers;
    longest = λ q some cov. old.2.longest q (subst IsSome (sym (same q cov)) some) cov;
  },
)

-- ---- the search for the longest match, from the greatest length down

none_unless : (x : Option ℕ) → (IsSome x → ⊥) → None ≡ x
none_unless None h = refl
none_unless (Some y) h = absurd (h refl)

-- no rule is longer than an address
pub too_long : (width : ℕ) (R : RuleMap) (q : Network) → AllNetworks width R → width < q.len → None ≡ get R q
too_long width R q nets long = none_unless (get R q) (λ some. let low = (nets q some).0 in absurd (omega (arith, low, long)))

-- a rule of this length covers the address, and none that does is longer
pub found_at : (width a len : ℕ) (R : RuleMap) (h : ℕ) → Some h ≡ get R (prefix_of width len a) → ((q : Network) → IsSome (get R q) → Covers width q a → q.len ≤ len)
    → IsLongestHop width R a (Some h)
found_at width a len R h is old = (prefix_of width len a, sym is, record { covers = covers_masked width len a; longest = old })

-- no rule of this length covers the address, so the rules that do are shorter
pub shorter_at : (width a len n : ℕ) (R : RuleMap) → AllNetworks width R → len + n ≡ 32 → None ≡ get R (prefix_of width len a)
    → ((q : Network) → IsSome (get R q) → Covers width q a → q.len + n ≤ 32)
    → (q : Network) → IsSome (get R q) → Covers width q a → q.len + (n + 1) ≤ 32
shorter_at width a len n R nets sum none old q some cov =
    let z = old q some cov in
    elim (cases_eq q.len len) [
      | inl e ↦ absurd (not_some (ap (get R) (network_at width a q (nets q some) cov) ∙ ap (λ m. get R (prefix_of width m a)) e ∙ sym none) some)
      | inr other ↦ omega (arith, z, other, sum)
    ]

-- ---- the versions of a history

module _ (f s : ℕ) (history : List (Change f s)) where
  pub version_more : (i : ℕ) (d : Change f s) → i < length history → version_of history (i + 1) ≡ rules_with (version_of history i) (get_or history i d)
  version_more i d lt =
      ap (λ (cs : List (Change f s)). rules_after empty cs) (take_more history i d lt)
      ∙ rules_after-append f s empty (take i history) (get_or history i d ∷ [])

  kept_by : (p : Network) (v n : ℕ) → v + n ≤ length history → ((j : ℕ) (d : Change f s) → v ≤ j → j < v + n → Spares p (get_or history j d))
      → get (version_of history (v + n)) p ≡ get (version_of history v) p
  kept_by p v zero l calm = ap (λ k. get (version_of history k) p) (omega arith)
  kept_by p v (suc n) l calm =
      let more : v + suc n ≡ v + n + 1 = omega arith in
      ap (λ k. get (version_of history k) p) more
      ∙ ap (λ (R : RuleMap). get R p) (version_more (v + n) Synchronize (omega arith))
      ∙ kept_one f s (version_of history (v + n)) p (get_or history (v + n) Synchronize) (calm (v + n) Synchronize (omega arith) (omega arith))
      ∙ kept_by p v n (omega arith) (λ j d le lt. calm j d le (omega (arith, lt)))

  -- a prefix that each change from version v on spares has in version k what it has in version v
  pub kept_until : (p : Network) (v k : ℕ) → v ≤ k → k ≤ length history → ((j : ℕ) (d : Change f s) → v ≤ j → j < k → Spares p (get_or history j d))
      → get (version_of history k) p ≡ get (version_of history v) p
  kept_until p v k le most calm =
      let sum : v + (k - v) ≡ k = omega arith in
      ap (λ n. get (version_of history n) p) (sym sum)
      ∙ kept_by p v (k - v) (omega arith) (λ j d low lt. calm j d low (omega (arith, lt)))

  -- what holds of the prefix of each change holds of each prefix that has a rule in a version
  pub all_of : (P : Network → Type 0) → ((j : ℕ) (d : Change f s) → j < length history → (p : Network) → prefix_in (get_or history j d) ≡ Some p → P p)
      → (k : ℕ) → k ≤ length history → (q : Network) → IsSome (get (version_of history k) q) → P q
  all_of P new zero le q some = absurd (not_some (get-empty network_cmp q) some)
  all_of P new (suc k) le q some =
      let more : suc k ≡ k + 1 = omega arith in
      let c = get_or history k Synchronize in
      let same : version_of history (suc k) ≡ rules_with (version_of history k) c = ap (λ n. version_of history n) more ∙ version_more k Synchronize (omega arith) in
      all_with f s P (version_of history k) c (new k Synchronize (omega arith)) (all_of P new k (omega arith)) q (subst (λ (R : RuleMap). IsSome (get R q)) same some)

  -- an address that a change doesn't touch goes to what it went to before
  pub untouched : (a i : ℕ) (hop : Option ℕ) (c : Change f s) → i < length history → ((d : Change f s) → c ≡ get_or history i d) → (Touches a c → ⊥)
      → IsLongestHop (f + s) (version_of history (i + 1)) a hop → IsLongestHop (f + s) (version_of history i) a hop
  untouched a i hop c lt at calm new =
      let step : version_of history (i + 1) ≡ rules_with (version_of history i) c =
      version_more i Synchronize lt ∙ ap (λ (x : Change f s). rules_with (version_of history i) x) (sym (at Synchronize)) in
      longest_same (f + s) a (version_of history (i + 1)) (version_of history i) hop
      (λ q cov. ap (λ (R : RuleMap). get R q) step ∙ kept_one f s (version_of history i) q c (spared f s a q c calm cov))
      new

pub same_hops : (x y : Option ℕ) → IsTrue (option_eq nat_eq x y) ↔ (x ≡ y)
same_hops None None = (λ _. refl, λ _. refl)
same_hops (Some x) (Some y) = (λ e. ap Some (eqb-true x y e), λ e. eq-eqb x y cc)
same_hops _ _ = (λ e. cc, λ e. cc)

-- a hop is the longest match just where it equals the one that is
pub same_longest : (width a : ℕ) (R : RuleMap) (x y : Option ℕ) (r : Bool) → AllNetworks width R → IsLongestHop width R a x → r ≡ option_eq nat_eq x y
    → IsTrue r ↔ IsLongestHop width R a y
same_longest width a R x y r nets is e = (
  λ t. subst (IsLongestHop width R a) ((same_hops x y).0 (sym e ∙ t)) is,
  λ other. e ∙ (same_hops x y).1 (one_longest_hop width R a x y nets is other),
)

module _ (f s : ℕ) (history : List (Change f s)) (a : ℕ) (hop : Option ℕ) (first last : ℕ) where
  abbrev pub Gives : ℕ → Type 0
  Gives k = IsLongestHop (f + s) (version_of history k) a hop

  abbrev pub NoneBefore : ℕ → Type 0
  NoneBefore n = (k : ℕ) → first ≤ k → k < n → Gives k → ⊥

  pub none_more : (n : ℕ) → NoneBefore n → (Gives n → ⊥) → NoneBefore (n + 1)
  none_more n before here k from to gives = elim (cases_lt k n) [
    | inl lt ↦ before k from lt gives
    | inr le ↦ let same : k ≡ n = omega (arith, le, to) in here (subst Gives same gives)
  ]

  -- a version whose change doesn't touch the address gives what the version before it gives
  pub not_given : (n : ℕ) (c : Change f s) → first < n → n ≤ length history → ((d : Change f s) → c ≡ get_or history (n - 1) d) → (Touches a c → ⊥)
      → NoneBefore n → Gives n → ⊥
  not_given n c low most at calm before gives =
      let one : n ≡ n - 1 + 1 = omega (arith, low) in
      before (n - 1) (omega (arith, low)) (omega (arith, low))
      (untouched f s history a (n - 1) hop c (omega (arith, low, most)) at calm (subst Gives one gives))

  pub none_at_end : (n : ℕ) → NoneBefore n → last < n → IsTrue false ↔ ((k : ℕ) × (first ≤ k) × (k ≤ last) × Gives k)
  none_at_end n before past = (λ e. cc, λ has. absurd (let to = has.2 in before has.0 has.1 (omega (arith, to, past)) has.3))

-- the versions of a history from one of them on are those of the changes that are left
pub version_behind : (f s : ℕ) (history : List (Change f s)) (start k : ℕ)
    → version_of history (start + k) ≡ version_from (version_of history start) (drop start history) k
version_behind f s history start k =
    ap (λ (l : List (Change f s)). rules_after empty l) (take-add start k history)
    ∙ rules_after-append f s empty (take start history) (take k (drop start history))

-- an answer is explained by a version from one on, where it counts them from there
module _ (f s : ℕ) (history : List (Change f s)) (start a : ℕ) (answer : Answer) where
  abbrev Explained : Type 0
  Explained = IsOfSomeVersion (version_of history start) (drop start history) (a, answer)

  abbrev left : ℕ
  left = length history - start

  pub explained_behind : (last : ℕ) (r : Bool) → start ≤ length history → last ≡ min answer.hi left
      → IsTrue r ↔ ((k : ℕ) × (start + answer.lo ≤ k) × (k ≤ start + last) × IsLongestHop (f + s) (version_of history k) a answer.hop)
      → IsTrue r ↔ Explained
  explained_behind last r within least is =
      let high : last ≤ answer.hi = omega (arith, least, min-le_left answer.hi left) in
      let low : last ≤ left = omega (arith, least, min-le_right answer.hi left) in
      let rest = length-drop start history in (
        λ t.
            let found = is.0 t in
            let k : ℕ = found.0 - start in
            let from = found.1 in
            let to = found.2 in
            let same : found.0 ≡ start + k = omega (arith, from) in
            record {
              k = k;
              from = omega (arith, from);
              to = omega (arith, to, high);
              within = omega (arith, to, low, rest, within);
              answers = subst (λ (R : RuleMap). IsLongestHop (f + s) R a answer.hop)
                  (ap (λ (n : ℕ). version_of history n) same ∙ version_behind f s history start k) found.3;
            },
        λ e.
            let from = e.from in
            let to = e.to in
            let inside = e.within in
            let most : e.k ≤ last = omega (arith, least, le-min {k = e.k} {a = answer.hi} {b = left} to (omega (arith, inside, rest))) in
            is.1 (
              start + e.k,
              omega (arith, from),
              omega (arith, most),
              subst (λ (R : RuleMap). IsLongestHop (f + s) R a answer.hop) (sym (version_behind f s history start e.k)) e.answers,
            ),
      )
