-- An address that a text begins with is one, and is read octet by octet.
use Rattle.std.proofs.Common.{◌≡◌, ℕ, zero, suc, ◌+◌, ◌^◌, ◌<◌, ◌≤◌, List, [], ◌∷◌, ◌++◌, length, get_or, take, drop, refl, sym, ap, subst, ◌∙◌, arith, inl, inr, ◌*◌, append_assoc, ◌-◌, add-one}
use Rattle.std.specs.Fmt.{decimal}
use Rattle.std.specs.Int.{IsInRange, IsOutOfRange}
use Rattle.std.specs.Net.Text.{dotted_text}
use Rattle.std.specs.Str.Parse.{AllDigits, digits_value}
use Rattle.std.proofs.lemmas.Bool.{cases_lt}
use Rattle.std.proofs.lemmas.Fmt.{decimal_is_IsNumeral, decimal_nonempty, first_decimal, decimal_digit, decimal_injective, decimal-digits_value}
use Rattle.std.proofs.lemmas.List.{take-append-le, get_or-take, get_or-append-add, get_or_append_left, length-append, length-take-le, take-append-drop, append-nil, take_at, drop_at, drop-drop}
use Rattle.std.proofs.lemmas.Str.Parse.{digit_at, digits_value-take-le, numerals_by_value, tells_digits}
use Rattle.route_text.specs.Fields.{IsNumber, IsAddress}
use Rattle.route_text.specs.Starts.{StartsNumber, StartsNoDigit, StartsNextOctet, StartsNoNextOctet, StartsAddress, StartsNumberBefore, StartsAddressBefore}
use Rattle.route_text.specs.declared.lines.End.{End}
use Rattle.std.proofs.lemmas.Str.{digit_value_digit}
use Rattle.std.proofs.Math.Seq.{drop-cons}
use Rattle.route_text.specs.declared.lines.End.TheVariants as ends

-- What a text that begins with a number looks like, and when a text does.

-- digits without a leading zero are the decimal of their value
pub spells : (text : List ℕ) → AllDigits 10 text → 0 < length text → (get_or text 0 0 ≡ 48 → length text ≡ 1) → digits_value 10 text < 2 ^ 64 → text ≡ decimal (digits_value 10 text)
spells text all some lead small = sym (decimal-digits_value (numerals_by_value (AllDigits 10) tells_digits) text all some lead small)

decimal_digits : (n : ℕ) → n < 2 ^ 64 → AllDigits 10 (decimal n)
decimal_digits n small = (decimal_is_IsNumeral n small).0.1

no_digit_first : (rest : List ℕ) → StartsNoDigit rest → 0 < length rest → IsInRange 48 57 (get_or rest 0 0) → ⊥
no_digit_first [] ends some is = absurd (omega arith)
no_digit_first (b ∷ bs) ends some is = ends is

module _ (max n : ℕ) (text rest : List ℕ) (small : max < 2 ^ 64) (is : StartsNumber max text n rest) where
  fits : n < 2 ^ 64
  fits = omega (arith, is.small)

  long : length text ≡ length (decimal n) + length rest
  long = ap length is.split ∙ length-append (decimal n) rest

  pub some : 0 < length text
  some = omega (arith, decimal_nonempty n fits, long)

  in_decimal : (i : ℕ) → i < length (decimal n) → get_or text i 0 ≡ get_or (decimal n) i 0
  in_decimal i lt = ap (λ t. get_or t i 0) is.split ∙ get_or_append_left (decimal n) rest 0 i lt

  pub first_digit : IsInRange 48 57 (get_or text 0 0)
  first_digit =
      let some = decimal_nonempty n fits in
      subst (IsInRange 48 57) (sym (in_decimal 0 some)) (digit_at (decimal n) 0 (decimal_digits n fits) some)

  -- a run of digits doesn't go past the number
  pub within : (k : ℕ) → k ≤ length text → AllDigits 10 (take k text) → k ≤ length (decimal n)
  within k le digits =
      elim (cases_lt (length (decimal n)) k) [
        | inr fine ↦ omega arith
        | inl past ↦
            let m = length (decimal n) in
            let at = digit_at (take k text) m digits (omega (arith, length-take-le k text le)) in
            let here : get_or (take k text) m 0 ≡ get_or rest 0 0 = get_or-take k text m 0 past ∙ (ap (λ i. get_or text i 0) (omega arith) ∙ (ap (λ t. get_or t (m + 0) 0) is.split ∙ get_or-append-add (decimal n) rest 0 0)) in
            absurd (no_digit_first rest is.ends (omega (arith, long)) (subst (IsInRange 48 57) here at))
      ]

  pub not_more : (k : ℕ) → k ≤ length text → AllDigits 10 (take k text) → digits_value 10 (take k text) ≤ max
  not_more k le digits =
      let short = within k le digits in
      let same : take k text ≡ take k (decimal n) = ap (take k) is.split ∙ take-append-le k (decimal n) rest short in
      let part = digits_value-take-le 10 (decimal n) k (omega arith) in
      let value : digits_value 10 (decimal n) ≡ n = (decimal_is_IsNumeral n fits).1 in
      omega (arith, is.small, ap (digits_value 10) same)

  pub lead : get_or text 0 0 ≡ 48 → (k : ℕ) → k ≤ length text → AllDigits 10 (take k text) → k ≤ 1
  lead is_zero k le digits =
      elim (cases_lt 0 n) [
        | inl pos ↦ absurd (let above = first_decimal n pos fits in let at = in_decimal 0 (decimal_nonempty n fits) in omega arith)
        | inr none ↦ let one = ap length (decimal_digit n (omega arith)) in let short = within k le digits in omega arith
      ]

-- a run of digits and then no digit is a number
pub starts : (max value k : ℕ) (text : List ℕ) → max < 2 ^ 64 → 0 < k → k ≤ length text → AllDigits 10 (take k text) → (get_or text 0 0 ≡ 48 → k ≡ 1) → digits_value 10 (take k text) ≡ value → value ≤ max → StartsNoDigit (drop k text) → StartsNumber max text value (drop k text)
starts max value k text low some le digits lead is small ends =
    let long = length-take-le k text le in
    let first = get_or-take k text 0 0 some in
    let spelled = spells (take k text) digits (omega arith) (λ zero. long ∙ lead (sym first ∙ zero)) (omega arith) in
    record { small = small; split = sym (take-append-drop k text) ∙ ap (λ t. t ++ drop k text) (spelled ∙ ap decimal is); ends = ends }

pub no_digit_drop : (text : List ℕ) (k : ℕ) → (k < length text → IsInRange 48 57 (get_or text k 0) → ⊥) → StartsNoDigit (drop k text)
no_digit_drop [] zero h = tt
no_digit_drop [] (suc k) h = tt
no_digit_drop (b ∷ bs) zero h = h (omega arith)
no_digit_drop (b ∷ bs) (suc k) h = no_digit_drop bs k (λ lt. h (omega arith))

no_longer : (max m n : ℕ) (text r s : List ℕ) → max < 2 ^ 64 → StartsNumber max text m r → StartsNumber max text n s → length (decimal m) ≤ length (decimal n)
no_longer max m n text r s low p q =
    let fits : m < 2 ^ 64 = omega (arith, p.small) in
    let same : take (length (decimal m)) text ≡ decimal m = ap (take (length (decimal m))) p.split ∙ take_at (decimal m) r _ refl in
    within max n text s low q (length (decimal m)) (omega (arith, ap length p.split, length-append (decimal m) r)) (subst (AllDigits 10) (sym same) (decimal_digits m fits))

-- a text begins with one number
pub one_start : (max m n : ℕ) (text r s : List ℕ) → max < 2 ^ 64 → StartsNumber max text m r → StartsNumber max text n s → (m ≡ n) × (r ≡ s)
one_start max m n text r s low p q =
    let e : length (decimal m) ≡ length (decimal n) = omega (arith, no_longer max m n text r s low p q, no_longer max n m text s r low q p) in
    let both : decimal m ++ r ≡ decimal n ++ s = sym p.split ∙ q.split in
    let front : decimal m ≡ decimal n = sym (take_at (decimal m) r _ e) ∙ (ap (take (length (decimal n))) both ∙ take_at (decimal n) s _ refl) in
    let back : r ≡ s = sym (drop_at (decimal m) r _ e) ∙ (ap (drop (length (decimal n))) both ∙ drop_at (decimal n) s _ refl) in
    (decimal_injective m n (omega (arith, p.small)) (omega (arith, q.small)) front, back)

-- a whole text
pub whole_number : (max n : ℕ) (text : List ℕ) → IsNumber max text n → StartsNumber max text n []
whole_number max n text is = record { small = is.small; split = is.spelled ∙ sym (append-nil (decimal n)); ends = tt }

pub one_number : (max m n : ℕ) (text : List ℕ) → max < 2 ^ 64 → IsNumber max text m → IsNumber max text n → m ≡ n
one_number max m n text small a b = decimal_injective m n (omega (arith, a.small)) (omega (arith, b.small)) (sym a.spelled ∙ b.spelled)

pub not_digit : (b : ℕ) → IsOutOfRange 48 57 b → IsInRange 48 57 b → ⊥
not_digit b out is = elim out [ inl low ↦ omega arith | inr high ↦ omega arith ]

-- a dot, an octet and what stands after it
abbrev pub after_dot : ℕ → List ℕ → List ℕ
after_dot n rest = 46 ∷ (decimal n ++ rest)

dot_ends : (bs : List ℕ) → StartsNoDigit (46 ∷ bs)
dot_ends bs is = omega arith

-- the octets of an address that a text begins with, and what stands after each
pub record Octets (text rest : List ℕ) (a b c d : ℕ) : Type 0 where
  pub fits : (a < 256) × (b < 256) × (c < 256) × (d < 256)
  pub split : text ≡ decimal a ++ after_dot b (after_dot c (after_dot d rest))
  pub ends : StartsNoDigit rest

regroup : (a b c d rest : List ℕ) → (a ++ 46 ∷ [] ++ b ++ 46 ∷ [] ++ c ++ 46 ∷ [] ++ d) ++ rest ≡ a ++ 46 ∷ (b ++ 46 ∷ (c ++ 46 ∷ (d ++ rest)))
regroup a b c d rest = simp append_assoc

pub octets_of : (text rest : List ℕ) (addr : ℕ) (is : StartsAddress text addr rest) → Octets text rest is.address.a is.address.b is.address.c is.address.d
octets_of text rest addr is = record {
  fits = is.address.octets;
  split = is.split ∙ (ap (λ t. t ++ rest) is.address.spelled ∙ regroup (decimal is.address.a) (decimal is.address.b) (decimal is.address.c) (decimal is.address.d) rest);
  ends = is.ends;
}

pub address_from : (text rest : List ℕ) (a b c d : ℕ) → Octets text rest a b c d → StartsAddress text (((a * 256 + b) * 256 + c) * 256 + d) rest
address_from text rest a b c d is = record {
  front = dotted_text a b c d;
  address = record { a = a; b = b; c = c; d = d; octets = is.fits; spelled = refl; value = refl };
  split = is.split ∙ sym (regroup (decimal a) (decimal b) (decimal c) (decimal d) rest);
  ends = is.ends;
}

starts_octet : (n : ℕ) (text rest : List ℕ) → n < 256 → text ≡ decimal n ++ rest → StartsNoDigit rest → StartsNumber 255 text n rest
starts_octet n text rest fits e ends = record { small = omega arith; split = e; ends = ends }

one_next : (text r s : List ℕ) (m n : ℕ) → StartsNextOctet text m r → text ≡ after_dot n s → n < 256 → StartsNoDigit s → (m ≡ n) × (r ≡ s)
one_next text r s m n p e fits ends =
    let same : p.front ≡ decimal n ++ s = cc (p.dot, e) in
    one_start 255 m n p.front r s (omega arith) p.octet (starts_octet n p.front s fits same ends)

none_next : (text s : List ℕ) (n : ℕ) → StartsNoNextOctet text → text ≡ after_dot n s → n < 256 → StartsNoDigit s → ⊥
none_next text s n none_is e fits ends = none_is n s (record { front = decimal n ++ s; dot = e; octet = starts_octet n (decimal n ++ s) s fits refl ends })

module _ (text rest : List ℕ) (a b c d : ℕ) (is : Octets text rest a b c d) where
  pub first_octet : StartsNumber 255 text a (after_dot b (after_dot c (after_dot d rest)))
  first_octet = starts_octet a text (after_dot b (after_dot c (after_dot d rest))) is.fits.0 is.split (dot_ends (decimal b ++ after_dot c (after_dot d rest)))

  module _ (w : ℕ) (r : List ℕ) (first : StartsNumber 255 text w r) where
    pub one_first : (w ≡ a) × (r ≡ after_dot b (after_dot c (after_dot d rest)))
    one_first = one_start 255 w a text r (after_dot b (after_dot c (after_dot d rest))) (omega arith) first first_octet

    pub no_second : StartsNoNextOctet r → ⊥
    no_second none_is = none_next r (after_dot c (after_dot d rest)) b none_is one_first.1 is.fits.1 (dot_ends (decimal c ++ after_dot d rest))

    module _ (x : ℕ) (s : List ℕ) (second : StartsNextOctet r x s) where
      pub one_second : (x ≡ b) × (s ≡ after_dot c (after_dot d rest))
      one_second = one_next r s (after_dot c (after_dot d rest)) x b second one_first.1 is.fits.1 (dot_ends (decimal c ++ after_dot d rest))

      pub no_third : StartsNoNextOctet s → ⊥
      no_third none_is = none_next s (after_dot d rest) c none_is one_second.1 is.fits.2 (dot_ends (decimal d ++ rest))

      module _ (y : ℕ) (t : List ℕ) (third : StartsNextOctet s y t) where
        pub one_third : (y ≡ c) × (t ≡ after_dot d rest)
        one_third = one_next s t (after_dot d rest) y c third one_second.1 is.fits.2 (dot_ends (decimal d ++ rest))

        pub no_fourth : StartsNoNextOctet t → ⊥
        no_fourth none_is = none_next t rest d none_is one_third.1 is.fits.3 is.ends

        pub one_fourth : (z : ℕ) (u : List ℕ) → StartsNextOctet t z u → (z ≡ d) × (u ≡ rest)
        one_fourth z u fourth = one_next t u rest z d fourth one_third.1 is.fits.3 is.ends

pub made_octets : (text r s t rest : List ℕ) (a b c d : ℕ) → StartsNumber 255 text a r → StartsNextOctet r b s → StartsNextOctet s c t → StartsNextOctet t d rest → Octets text rest a b c d
made_octets text r s t rest a b c d p q u v =
    let third : t ≡ after_dot d rest = v.dot ∙ ap (λ x. 46 ∷ x) v.octet.split in
    let second : s ≡ after_dot c (after_dot d rest) = u.dot ∙ ap (λ x. 46 ∷ x) (u.octet.split ∙ ap (λ x. decimal c ++ x) third) in
    let first : r ≡ after_dot b (after_dot c (after_dot d rest)) = q.dot ∙ ap (λ x. 46 ∷ x) (q.octet.split ∙ ap (λ x. decimal b ++ x) second) in
    record { fits = (omega (arith, p.small), omega (arith, q.octet.small), omega (arith, u.octet.small), omega (arith, v.octet.small)); split = p.split ∙ ap (λ x. decimal a ++ x) first; ends = v.octet.ends }

step : (n : ℕ) (rest : List ℕ) → n < 256 → StartsNoDigit rest → StartsNextOctet (after_dot n rest) n rest
step n rest fits ends = record { front = decimal n ++ rest; dot = refl; octet = starts_octet n (decimal n ++ rest) rest fits refl ends }

-- a text begins with one address
pub one_address_start : (m n : ℕ) (text r s : List ℕ) → StartsAddress text m r → StartsAddress text n s → (m ≡ n) × (r ≡ s)
one_address_start m n text r s p q =
    same_octets (octets_of text r m p) (octets_of text s n q) p.address.value q.address.value
  where
    same_octets : {a b c d e f g h : ℕ} → Octets text r a b c d → Octets text s e f g h → m ≡ ((a * 256 + b) * 256 + c) * 256 + d → n ≡ ((e * 256 + f) * 256 + g) * 256 + h → (m ≡ n) × (r ≡ s)
    same_octets {a} {b} {c} {d} {e} {f} {g} {h} have is one two =
        let third = after_dot d r in
        let second = after_dot c third in
        let first = after_dot b second in
        let p = first_octet text r a b c d have in
        let q : StartsNextOctet first b second = step b second have.fits.1 (dot_ends (decimal c ++ third)) in
        let u : StartsNextOctet second c third = step c third have.fits.2 (dot_ends (decimal d ++ r)) in
        let v : StartsNextOctet third d r = step d r have.fits.3 have.ends in
        let i = one_first text s e f g h is a first p in
        let j = one_second text s e f g h is a first p b second q in
        let k = one_third text s e f g h is a first p b second q c third u in
        let l = one_fourth text s e f g h is a first p b second q c third u d r v in
        (omega (arith, one, two, i.0, j.0, k.0, l.0), l.1)

-- a whole text
pub whole_address : (addr : ℕ) (text : List ℕ) → IsAddress text addr → StartsAddress text addr []
whole_address addr text is = record { front = text; address = is; split = sym (append-nil text); ends = tt }

pub one_address : (m n : ℕ) (text : List ℕ) → IsAddress text m → IsAddress text n → m ≡ n
one_address m n text p q = (one_address_start m n text [] [] (whole_address m text p) (whole_address n text q)).0

-- an address of which each octet was read with what stands after it
pub octets_before : (end : End) (text r s t rest : List ℕ) (a b c d : ℕ) → StartsNumberBefore (ends.Byte 46) 255 text a r → StartsNumberBefore (ends.Byte 46) 255 r b s → StartsNumberBefore (ends.Byte 46) 255 s c t → StartsNumberBefore end 255 t d rest → StartsAddressBefore end text (((a * 256 + b) * 256 + c) * 256 + d) rest
octets_before end text r s t rest a b c d p q u v =
    let fourth : u.after ≡ after_dot d v.after = u.ends ∙ ap (λ x. 46 ∷ x) v.split in
    let third : q.after ≡ after_dot c (after_dot d v.after) = q.ends ∙ ap (λ x. 46 ∷ x) (u.split ∙ ap (λ x. decimal c ++ x) fourth) in
    let second : p.after ≡ after_dot b (after_dot c (after_dot d v.after)) = p.ends ∙ ap (λ x. 46 ∷ x) (q.split ∙ ap (λ x. decimal b ++ x) third) in
    record {
      front = dotted_text a b c d;
      after = v.after;
      address = record {
        a = a;
        b = b;
        c = c;
        d = d;
        octets = (omega (arith, p.small), omega (arith, q.small), omega (arith, u.small), omega (arith, v.small));
        spelled = refl;
        value = refl;
      };
      split = p.split ∙ (ap (λ x. decimal a ++ x) second ∙ sym (regroup (decimal a) (decimal b) (decimal c) (decimal d) v.after));
      ends = v.ends;
    }

-- Numbers of one, two and three digits at a place.

-- what a digit's byte spells
is_digit : (a d : ℕ) → d ≤ 9 → a ≡ 48 + d → IsInRange 48 57 a
is_digit a d low e = omega arith

pub one_digit : (a n : ℕ) → n ≤ 9 → a ≡ 48 + n → decimal n ≡ a ∷ []
one_digit a n low e =
    let value = digit_value_digit a (is_digit a n low e) in
    let same : digits_value 10 (a ∷ []) ≡ n = omega arith in
    ap decimal (sym same) ∙ sym (spells (a ∷ []) (omega arith, tt) (omega arith) (λ _. refl) (omega arith))

pub two_digits : (a b c d n : ℕ) → c ≤ 9 → a ≡ 48 + c → d ≤ 9 → b ≡ 48 + d → 0 < c → n ≡ c * 10 + d → decimal n ≡ a ∷ b ∷ []
two_digits a b c d n low e most f some is =
    let value = digit_value_digit a (is_digit a c low e) in
    let more = digit_value_digit b (is_digit b d most f) in
    let same : digits_value 10 (a ∷ b ∷ []) ≡ n = omega arith in
    ap decimal (sym same) ∙ sym (spells (a ∷ b ∷ []) (omega arith, (omega arith, tt)) (omega arith) (λ zero. absurd (omega (arith, zero))) (omega arith))

pub three_digits : (a b g c d h n : ℕ) → c ≤ 9 → a ≡ 48 + c → d ≤ 9 → b ≡ 48 + d → h ≤ 9 → g ≡ 48 + h → 0 < c → n ≡ (c * 10 + d) * 10 + h → decimal n ≡ a ∷ b ∷ g ∷ []
three_digits a b g c d h n low e most f last k some is =
    let value = digit_value_digit a (is_digit a c low e) in
    let more = digit_value_digit b (is_digit b d most f) in
    let end = digit_value_digit g (is_digit g h last k) in
    let same : digits_value 10 (a ∷ b ∷ g ∷ []) ≡ n = omega arith in
    ap decimal (sym same) ∙ sym (spells (a ∷ b ∷ g ∷ []) (omega arith, (omega arith, (omega arith, tt))) (omega arith) (λ zero. absurd (omega (arith, zero))) (omega arith))

-- the bytes from a place on
pub from : (xs : List ℕ) (i j b : ℕ) → i < length xs → get_or xs i 0 ≡ b → j ≡ i + 1 → drop i xs ≡ b ∷ drop j xs
from xs i j b lt is e = drop-cons xs i 0 lt ∙ (ap (λ n. get_or xs i 0 ∷ drop n xs) (sym (add-one i) ∙ sym e) ∙ ap (λ x. x ∷ drop j xs) is)

module _ (xs : List ℕ) (at : ℕ) where
  pub one_at : (n : ℕ) → at < length xs → n ≤ 9 → get_or xs at 0 ≡ 48 + n → drop at xs ≡ decimal n ++ drop (at + 1) xs
  one_at n room low a = from xs at (at + 1) _ room refl refl ∙ ap (λ t. t ++ drop (at + 1) xs) (sym (one_digit _ n low a))

  pub two_at : (c d : ℕ) → at + 1 < length xs → c ≤ 9 → get_or xs at 0 ≡ 48 + c → d ≤ 9 → get_or xs (at + 1) 0 ≡ 48 + d → 0 < c → drop at xs ≡ decimal (c * 10 + d) ++ drop (at + 2) xs
  two_at c d room low a high b some =
      from xs at (at + 1) _ (omega arith) refl refl ∙ (ap (λ t. get_or xs at 0 ∷ t) (from xs (at + 1) (at + 2) _ room refl (omega arith)) ∙ ap (λ t. t ++ drop (at + 2) xs) (sym (two_digits _ _ c d _ low a high b some refl)))

  pub three_at : (c d h : ℕ) → at + 2 < length xs → c ≤ 9 → get_or xs at 0 ≡ 48 + c → d ≤ 9 → get_or xs (at + 1) 0 ≡ 48 + d → h ≤ 9 → get_or xs (at + 2) 0 ≡ 48 + h → 0 < c → drop at xs ≡ decimal ((c * 10 + d) * 10 + h) ++ drop (at + 3) xs
  three_at c d h room low a high b last k some =
      from xs at (at + 1) _ (omega arith) refl refl ∙ (ap (λ t. get_or xs at 0 ∷ t) (from xs (at + 1) (at + 2) _ (omega arith) refl (omega arith) ∙ ap (λ t. get_or xs (at + 1) 0 ∷ t) (from xs (at + 2) (at + 3) _ room refl (omega arith))) ∙ ap (λ t. t ++ drop (at + 3) xs) (sym (three_digits _ _ _ c d h _ low a high b last k some refl)))

-- what stands at the end of bytes is what is left after the bytes before it
last_of : (xs front rest : List ℕ) → xs ≡ front ++ rest → drop (length xs - length rest) xs ≡ rest
last_of xs front rest e =
    let n : length front ≡ length xs - length rest = omega (arith, ap length e, length-append front rest) in
    ap (drop (length xs - length rest)) e ∙ drop_at front rest (length xs - length rest) n

-- a number, and what stands some bytes after its digits
pub after_number : (max n at k last : ℕ) (xs rest : List ℕ) → StartsNumber max (drop at xs) n rest → last ≡ length xs - length rest + k → drop last xs ≡ drop k rest
after_number max n at k last xs rest is place =
    let whole : xs ≡ take at xs ++ decimal n ++ rest = sym (take-append-drop at xs) ∙ (ap (λ t. take at xs ++ t) is.split ∙ sym (append_assoc (take at xs) (decimal n) rest)) in
    ap (λ i. drop i xs) (place ∙ omega arith) ∙ (sym (drop-drop k (length xs - length rest) xs) ∙ ap (drop k) (last_of xs (take at xs ++ decimal n) rest whole))

pub wider : (end : End) (max most n : ℕ) (text rest : List ℕ) → max ≤ most → StartsNumberBefore end max text n rest → StartsNumberBefore end most text n rest
wider end max most n text rest le is = record { after = is.after; small = omega (arith, is.small); split = is.split; ends = is.ends }
