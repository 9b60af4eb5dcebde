-- The table of octets: how many digits each has, and these digits.
use Rattle.std.proofs.Common.{◌≡◌, ℕ, zero, suc, ◌+◌, ◌-◌, ◌*◌, ◌/◌, ◌%◌, ◌<◌, ◌≤◌, Bool, true, false, ◌&&◌, eqb, ltb, List, [], ◌∷◌, ◌++◌, length, get_or, drop, refl, sym, ap, ap₂, subst, ◌∙◌, arith, inl, inr, cond}
use Rattle.std.specs.Fmt.{decimal}
use Rattle.std.proofs.lemmas.Bool.{false≢true, cases_lt, cond-true, cond-false, lt-ltb, le-ltb, ltb-true, and_parts, eqb-true}
use Rattle.std.proofs.lemmas.List.{drop-drop}
use Rattle.route_text.proofs.Octets.{one_digit, two_digits, three_digits}
use Rattle.route_text.specs.declared.answers.TheConstants.{OCTETS}

-- the same bytes
abbrev same : List ℕ → List ℕ → Bool
same [] [] = true
same [] (b ∷ bs) = false
same (a ∷ xs) [] = false
same (a ∷ xs) (b ∷ bs) = eqb a b && same xs bs

same_is : (xs bs : List ℕ) → same xs bs ≡ true → xs ≡ bs
same_is [] [] t = refl
same_is [] (b ∷ bs) t = absurd (false≢true t)
same_is (a ∷ xs) [] t = absurd (false≢true t)
same_is (a ∷ xs) (b ∷ bs) t = let p = and_parts (eqb a b) (same xs bs) t in ap₂ (λ x ys. x ∷ ys) (eqb-true a b p.0) (same_is xs bs p.1)

-- the last l of three bytes
abbrev digits : ℕ → ℕ → ℕ → ℕ → List ℕ
digits l a b c = drop (3 - l) (a ∷ b ∷ c ∷ [])

-- the digits of an octet
abbrev octet_text : ℕ → List ℕ
octet_text n = cond (ltb n 10) ((48 + n) ∷ []) (cond (ltb n 100) ((48 + n / 10) ∷ (48 + n % 10) ∷ []) ((48 + n / 100) ∷ (48 + n / 10 % 10) ∷ (48 + n % 10) ∷ []))

octet_decimal : (n : ℕ) → n < 1000 → octet_text n ≡ decimal n
octet_decimal n small =
    elim (cases_lt n 10) [
      | inl one ↦ cond-true _ _ _ (lt-ltb n 10 one) ∙ sym (one_digit (48 + n) n (omega arith) refl)
      | inr many ↦ cond-false _ _ _ (le-ltb n 10 (omega arith)) ∙ elim (cases_lt n 100) [
        | inl two ↦ cond-true _ _ _ (lt-ltb n 100 two) ∙ sym (two_digits (48 + n / 10) (48 + n % 10) (n / 10) (n % 10) n (omega arith) refl (omega arith) refl (omega arith) (omega arith))
        | inr three ↦ cond-false _ _ _ (le-ltb n 100 (omega arith)) ∙ sym (three_digits (48 + n / 100) (48 + n / 10 % 10) (48 + n % 10) (n / 100) (n / 10 % 10) (n % 10) n (omega arith) refl (omega arith) refl (omega arith) refl (omega arith) (omega arith))
      ]
    ]

-- the first byte is the count of digits, and these are the digits of n
abbrev is_entry : ℕ → ℕ → ℕ → ℕ → ℕ → Bool
is_entry n l a b c = (ltb 0 l && ltb l 4) && same (digits l a b c) (octet_text n)

abbrev are_entries : ℕ → List ℕ → Bool
are_entries n (l ∷ a ∷ b ∷ c ∷ rest) = is_entry n l a b c && are_entries (suc n) rest
are_entries n _ = true

entry_at : (n : ℕ) (xs : List ℕ) → are_entries n xs ≡ true → (k : ℕ) → k * 4 + 3 < length xs → is_entry (n + k) (get_or xs (k * 4) 0) (get_or xs (k * 4 + 1) 0) (get_or xs (k * 4 + 2) 0) (get_or xs (k * 4 + 3) 0) ≡ true
entry_at n [] t k lt = absurd (omega arith)
entry_at n (l ∷ []) t k lt = absurd (omega arith)
entry_at n (l ∷ a ∷ []) t k lt = absurd (omega arith)
entry_at n (l ∷ a ∷ b ∷ []) t k lt = absurd (omega arith)
entry_at n (l ∷ a ∷ b ∷ c ∷ rest) t zero lt = let e : n ≡ n + zero = omega arith in subst (λ m. is_entry m l a b c ≡ true) e (and_parts (is_entry n l a b c) (are_entries (suc n) rest) t).0
entry_at n (l ∷ a ∷ b ∷ c ∷ rest) t (suc k) lt =
    let rec = entry_at (suc n) rest (and_parts (is_entry n l a b c) (are_entries (suc n) rest) t).1 k (omega arith) in
    let e : suc n + k ≡ n + suc k = omega arith in
    let p : suc k * 4 ≡ suc (suc (suc (suc (k * 4)))) = omega arith in
    let q : suc k * 4 + 1 ≡ suc (suc (suc (suc (k * 4 + 1)))) = omega arith in
    let r : suc k * 4 + 2 ≡ suc (suc (suc (suc (k * 4 + 2)))) = omega arith in
    let s : suc k * 4 + 3 ≡ suc (suc (suc (suc (k * 4 + 3)))) = omega arith in
    rw (← e, q, r, s, p) rec

all_entries : are_entries 0 OCTETS ≡ true
all_entries = refl

-- what the table has of n
pub record Entry (n l a b c : ℕ) : Type 0 where
  pub some : 0 < l
  pub short : l < 4
  pub spelled : digits l a b c ≡ decimal n

entry_is : (n l a b c : ℕ) → n < 256 → is_entry n l a b c ≡ true → Entry n l a b c
entry_is n l a b c fits t =
    let parts = and_parts (ltb 0 l && ltb l 4) (same (digits l a b c) (octet_text n)) t in
    let range = and_parts (ltb 0 l) (ltb l 4) parts.0 in
    record {
      some = ltb-true 0 l range.0;
      short = ltb-true l 4 range.1;
      spelled = same_is (digits l a b c) (octet_text n) parts.1 ∙ octet_decimal n (omega arith);
    }

pub entry : (n : ℕ) → n < 256 → Entry n (get_or OCTETS (n * 4) 0) (get_or OCTETS (n * 4 + 1) 0) (get_or OCTETS (n * 4 + 2) 0) (get_or OCTETS (n * 4 + 3) 0)
entry n fits =
    let all : length OCTETS ≡ 1024 = refl in
    let e : 0 + n ≡ n = omega arith in
    entry_is n _ _ _ _ fits (subst (λ m. is_entry m (get_or OCTETS (n * 4) 0) (get_or OCTETS (n * 4 + 1) 0) (get_or OCTETS (n * 4 + 2) 0) (get_or OCTETS (n * 4 + 3) 0) ≡ true) e (entry_at 0 OCTETS all_entries n (omega (arith, all))))

-- the last l of four bytes
ends : (l a b c : ℕ) (rest : List ℕ) → 0 < l → l < 4 → drop (4 - l) (l ∷ a ∷ b ∷ c ∷ rest) ≡ digits l a b c ++ rest
ends zero a b c rest some short = absurd (omega arith)
ends (suc zero) a b c rest some short = refl
ends (suc (suc zero)) a b c rest some short = refl
ends (suc (suc (suc zero))) a b c rest some short = refl
ends (suc (suc (suc (suc l)))) a b c rest some short = absurd (omega arith)

pub written : (n l a b c end : ℕ) (line rest : List ℕ) → Entry n l a b c → 4 ≤ end → drop (end - 4) line ≡ l ∷ a ∷ b ∷ c ∷ rest → drop (end - l) line ≡ decimal n ++ rest
written n l a b c end line rest is room e =
    let short : l < 4 = is.short in
    let at : end - l ≡ (end - 4) + (4 - l) = omega arith in
    ap (λ i. drop i line) at ∙ (sym (drop-drop (4 - l) (end - 4) line) ∙ (ap (drop (4 - l)) e ∙ (ends l a b c rest is.some is.short ∙ ap (λ t. t ++ rest) is.spelled)))
