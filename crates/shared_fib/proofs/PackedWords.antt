-- The words of a table that is cut into twos, with the last of an odd number left over.
use Rattle.std.proofs.Common.{◌≡◌, ℕ, zero, suc, ◌+◌, ◌*◌, ◌/◌, ◌%◌, ◌^◌, List, [], ◌∷◌, ◌++◌, map, length, get_or, take, drop, slice_index, refl, ap, sym, ◌∙◌, arith, append_assoc, ◌≢◌, ◌-◌, ◌<◌, ◌≤◌, inl, inr, replicate, slice_set, subst}
use Rattle.std.specs.List.{range_with_len}
use Rattle.std.specs.Simd.{first_chunks}
use Rattle.std.proofs.lemmas.List.{get_or-take, get_or-drop, get_or_past, ext_get_or, get_or-set_same, get_or-set_other, length-set, get_or_append_left, get_or-append_right, get_or_read, get_or-replicate, length-append, length-drop, length-replicate, append-nil, take_all, replicate-append-replicate}
use Rattle.std.proofs.lemmas.List.FromFn.{map-range_with_len_more, length-map-range_with_len, get_or-map-range_with_len}
use Rattle.shared_words.specs.Layout.{pair_at, packed_words, pairs, half, first_at, sequence_at}
use Rattle.std.proofs.lemmas.Bool.{cases_eq, cases_lt}
use Rattle.shared_words.proofs.WordPlaces.{half_even, half_odd, low_half, high_half, even_or_odd, packed_at, packed_length}
use Rattle.shared_fib.specs.Pairs.{ArePairs, unpacked_pairs}

-- the first two of what is left from pair a on
first_two : (a : ℕ) (xs rest : List ℕ) → ((i : ℕ) → slice_index rest i ≡ slice_index xs (2 * a + i))
    → pair_at (take 2 rest) 0 ≡ pair_at xs a
first_two a xs rest is =
    let low : slice_index (take 2 rest) 0 ≡ slice_index xs (2 * a) =
    get_or-take 2 rest 0 0 (omega arith) ∙ is 0 ∙ ap (slice_index xs) (omega arith) in
    let high : slice_index (take 2 rest) 1 ≡ slice_index xs (2 * a + 1) =
    get_or-take 2 rest 1 0 (omega arith) ∙ is 1 in
    λ i. low i + high i * 2 ^ 32

-- what is left from pair a on, cut into n twos
twos_from : (n a : ℕ) (xs rest : List ℕ) → ((i : ℕ) → slice_index rest i ≡ slice_index xs (2 * a + i))
    → map (λ two. pair_at two 0) (first_chunks 2 n rest) ≡ map (pair_at xs) (range_with_len a n)
twos_from zero a xs rest is = refl
twos_from (suc n) a xs rest is =
    let here : pair_at (take 2 rest) 0 ≡ pair_at xs a = first_two a xs rest is in
    let further : (i : ℕ) → slice_index (drop 2 rest) i ≡ slice_index xs (2 * (a + 1) + i) =
    λ i. get_or-drop 2 rest i 0 ∙ is (2 + i) ∙ ap (slice_index xs) (omega arith) in
    let there = twos_from n (a + 1) xs (drop 2 rest) further in
    λ i. here i ∷ there i

-- all of it, cut into n twos
twos_of : (n : ℕ) (xs : List ℕ)
    → map (λ two. pair_at two 0) (first_chunks 2 n xs) ≡ map (pair_at xs) (range_with_len 0 n)
twos_of n xs = twos_from n 0 xs xs (λ i. ap (slice_index xs) (omega arith))

-- an even number of words is cut into twos alone
pub put_even : (xs old items : List ℕ) → length xs % 2 ≡ 0
    → items ≡ old ++ map (λ two. pair_at two 0) (first_chunks 2 (length xs / 2) xs)
    → items ≡ old ++ packed_words xs
put_even xs old items even put =
    let half : length xs / 2 ≡ pairs (length xs) = omega (arith, even) in
    put ∙ ap (λ (z : List ℕ). old ++ z) (twos_of (length xs / 2) xs)
    ∙ ap (λ (n : ℕ). old ++ map (pair_at xs) (range_with_len 0 n)) half

-- the last of an odd number has a word of its own
pub put_odd : (xs old items rest : List ℕ) (last : ℕ) → length xs % 2 ≡ 1
    → items ≡ old ++ map (λ two. pair_at two 0) (first_chunks 2 (length xs / 2) xs)
    → rest ≡ drop (length xs / 2 * 2) xs → last ≡ slice_index rest 0
    → items ++ last ∷ [] ≡ old ++ packed_words xs
put_odd xs old items rest last odd put left is =
    let k : ℕ = length xs / 2 in
    let low : slice_index xs (2 * k) ≡ last =
    ap (slice_index xs) (omega arith) ∙ sym (get_or-drop (k * 2) xs 0 0)
    ∙ sym (ap (λ (z : List ℕ). slice_index z 0) left) ∙ sym is in
    let none : slice_index xs (2 * k + 1) ≡ 0 = get_or_past xs (2 * k + 1) 0 (omega (arith, odd)) in
    let alone : pair_at xs k ≡ last = omega (arith, low, none) in
    let half : k + 1 ≡ pairs (length xs) = omega (arith, odd) in
    ap (λ (z : List ℕ). z ++ last ∷ []) (put ∙ ap (λ (z : List ℕ). old ++ z) (twos_of k xs))
    ∙ append_assoc old (map (pair_at xs) (range_with_len 0 k)) (last ∷ [])
    ∙ ap (λ (z : ℕ). old ++ (map (pair_at xs) (range_with_len 0 k) ++ z ∷ [])) (sym alone)
    ∙ ap (λ (z : List ℕ). old ++ z) (sym (map-range_with_len_more (pair_at xs) 0 k k (omega arith)))
    ∙ ap (λ (n : ℕ). old ++ map (pair_at xs) (range_with_len 0 n)) half

-- A list of table words that is packed while it grows.

-- ---- the table words

pub unpaired_length : (n : ℕ) (ws : List ℕ) → length (unpacked_pairs n ws) ≡ n
unpaired_length n ws = length-map-range_with_len (λ i. half i (slice_index ws (first_at i))) 0 n

unpaired_at : (n : ℕ) (ws : List ℕ) (i : ℕ) → i < n → slice_index (unpacked_pairs n ws) i ≡ half i (slice_index ws (first_at i))
unpaired_at n ws i lt =
    get_or-map-range_with_len (λ i. half i (slice_index ws (first_at i))) 0 n i i 0 lt (omega arith)

-- the shared words zs have the table words of ws, and the word w so many times behind them
grown : (n m : ℕ) (ws zs : List ℕ) (w : ℕ)
    → ((i : ℕ) → i < n → half i (slice_index zs (first_at i)) ≡ half i (slice_index ws (first_at i)))
    → ((i : ℕ) → n ≤ i → i < n + m → half i (slice_index zs (first_at i)) ≡ w)
    → unpacked_pairs (n + m) zs ≡ unpacked_pairs n ws ++ replicate m w
grown n m ws zs w kept new =
    let old : List ℕ = unpacked_pairs n ws in
    let more : List ℕ = replicate m w in
    let len = unpaired_length (n + m) zs in
    let many : length old ≡ n = unpaired_length n ws in
    let all : length (old ++ more) ≡ n + m = omega (arith, length-append old more, many, length-replicate {A = ℕ} m w) in
    ext_get_or 0 (unpacked_pairs (n + m) zs) (old ++ more) (len ∙ sym all)
    (λ i inside. unpaired_at (n + m) zs i (omega (arith, inside, len))
    ∙ elim (cases_lt i n) [
      | inl low ↦ kept i low ∙ sym (unpaired_at n ws i low)
          ∙ sym (get_or_append_left old more 0 i (omega (arith, low, many)))
      | inr high ↦ new i high (omega (arith, inside, len))
          ∙ sym (get_or-append_right old more n i 0 many high ∙ get_or-replicate m (i - n) w 0 (omega (arith, high, inside, len)))
    ])

-- a word twice
both_are : (k w x : ℕ) → w < 2 ^ 32 → x ≡ w + w * 2 ^ 32 → half k x ≡ w
both_are k w x small is = elim (even_or_odd k) [
  | inl even ↦ low_half k w w x even small is
  | inr odd ↦ high_half k w w x odd small small is
]

-- ---- a word in the half that was left over

module _ (n : ℕ) (ws : List ℕ) (w at x : ℕ) (are : ArePairs n ws) (odd : n % 2 ≡ 1) (small : w < 2 ^ 32)
    (last : at ≡ length ws - 1) (is : x ≡ slice_index ws at + w * 2 ^ 32) where
  there : at ≡ first_at n
  there = omega (arith, last, are.all, odd)

  inside : at < length ws
  inside = omega (arith, last, are.all)

  before : slice_index ws at < 2 ^ 32
  before = subst (λ (k : ℕ). slice_index ws k < 2 ^ 32) (sym there) (are.left odd)

  pub high_fits : slice_index ws at + w * 2 ^ 32 < 2 ^ 64
  high_fits = omega (arith, before, small)

  abbrev pub after : List ℕ
  after = slice_set ws at x

  stored : slice_index after at ≡ x
  stored = get_or-set_same ws at x 0 inside

  away : (k : ℕ) → k ≢ at → slice_index after k ≡ slice_index ws k
  away k ne = get_or-set_other ws at k x 0 ne

  pub high_paired : ArePairs (n + 1) after
  high_paired = record {
    all = length-set ws at x ∙ omega (arith, are.all, odd);
    sequence = away sequence_at (λ e. omega (arith, e, there)) ∙ are.sequence;
    low = λ k. elim (cases_eq k at) [
      | inl here ↦ subst (λ (v : ℕ). v < 2 ^ 64) (sym (ap (slice_index after) here ∙ stored ∙ is)) high_fits
      | inr other ↦ subst (λ (v : ℕ). v < 2 ^ 64) (sym (away k other)) (are.low k)
    ];
    left = λ more. absurd (omega (arith, more, odd));
  }

  kept : (i : ℕ) → i < n → half i (slice_index after (first_at i)) ≡ half i (slice_index ws (first_at i))
  kept i lt = elim (cases_eq (first_at i) at) [
    | inl here ↦
        let even : i % 2 ≡ 0 = omega (arith, here, there, lt, odd) in
        let old = half_even i (slice_index ws at) even in
        let new : half i x ≡ slice_index ws at = low_half i (slice_index ws at) w x even before is in
        ap (λ (k : ℕ). half i (slice_index after k)) here ∙ ap (half i) stored ∙ new
        ∙ omega (arith, old, before) ∙ ap (λ (k : ℕ). half i (slice_index ws k)) (sym here)
    | inr other ↦ ap (half i) (away (first_at i) other)
  ]

  pub high_put : unpacked_pairs (n + 1) after ≡ unpacked_pairs n ws ++ replicate (n % 2) w
  high_put = grown n 1 ws after w kept
      (λ i from to. let here : i ≡ n = omega (arith, from, to) in
      ap (λ (k : ℕ). half k (slice_index after (first_at k))) here ∙ ap (λ (k : ℕ). half n (slice_index after k)) (sym there)
      ∙ ap (half n) stored ∙ high_half n (slice_index ws at) w x odd before small is)
      ∙ ap (λ (m : ℕ). unpacked_pairs n ws ++ replicate m w) (sym odd)

-- ---- words behind an even number of them

module _ (n : ℕ) (ws more : List ℕ) (are : ArePairs n ws) (even : n % 2 ≡ 0) where
  full : length ws ≡ first_at n
  full = omega (arith, are.all, even)

  old_at : (k : ℕ) → k < length ws → slice_index (ws ++ more) k ≡ slice_index ws k
  old_at k lt = get_or_append_left ws more 0 k lt

  old_kept : (i : ℕ) → i < n → half i (slice_index (ws ++ more) (first_at i)) ≡ half i (slice_index ws (first_at i))
  old_kept i lt = ap (half i) (old_at (first_at i) (omega (arith, lt, full, even)))

  new_at : (k : ℕ) → length ws ≤ k → slice_index (ws ++ more) k ≡ slice_index more (k - length ws)
  new_at k le = get_or-append_right ws more (length ws) k 0 refl le

  more_low : ((j : ℕ) → slice_index more j < 2 ^ 64) → (k : ℕ) → slice_index (ws ++ more) k < 2 ^ 64
  more_low low k = elim (cases_lt k (length ws)) [
    | inl lt ↦ subst (λ (v : ℕ). v < 2 ^ 64) (sym (old_at k lt)) (are.low k)
    | inr le ↦ subst (λ (v : ℕ). v < 2 ^ 64) (sym (new_at k le)) (low (k - length ws))
  ]

  more_sequence : slice_index (ws ++ more) sequence_at ≡ 0
  more_sequence = old_at sequence_at (omega (arith, full)) ∙ are.sequence

replicated_low : (m x j : ℕ) → x < 2 ^ 64 → slice_index (replicate m x) j < 2 ^ 64
replicated_low m x j low =
    let many = length-replicate {A = ℕ} m x in
    elim (cases_lt j m) [
      | inl lt ↦ subst (λ (v : ℕ). v < 2 ^ 64) (sym (get_or-replicate m j x 0 lt)) low
      | inr le ↦ subst (λ (v : ℕ). v < 2 ^ 64) (sym (get_or_past (replicate m x) j 0 (omega (arith, many, le)))) (omega arith)
    ]

module _ (n m w x : ℕ) (ws : List ℕ) (are : ArePairs n ws) (even : n % 2 ≡ 0) (small : w < 2 ^ 32)
    (is : x ≡ w + w * 2 ^ 32) where
  twos_paired : ArePairs (n + 2 * m) (ws ++ replicate m x)
  twos_paired = record {
    all = omega (arith, length-append ws (replicate m x), length-replicate {A = ℕ} m x, are.all, even);
    sequence = more_sequence n ws (replicate m x) are even;
    low = more_low n ws (replicate m x) are even (λ j. replicated_low m x j (omega (arith, is, small)));
    left = λ odd. absurd (omega (arith, odd, even));
  }

  twos_put : unpacked_pairs (n + 2 * m) (ws ++ replicate m x) ≡ unpacked_pairs n ws ++ replicate (2 * m) w
  twos_put = grown n (2 * m) ws (ws ++ replicate m x) w (old_kept n ws (replicate m x) are even)
      (λ i from to. let len = full n ws (replicate m x) are even in
      both_are i w _ small (new_at n ws (replicate m x) are even (first_at i) (omega (arith, len, from))
      ∙ get_or-replicate m (first_at i - length ws) x 0 (omega (arith, len, from, to, even)) ∙ is))

module _ (n w : ℕ) (ws : List ℕ) (are : ArePairs n ws) (even : n % 2 ≡ 0) (small : w < 2 ^ 32) where
  last_at : (k : ℕ) → k ≡ first_at n → slice_index (ws ++ replicate 1 w) k ≡ w
  last_at k is =
      let len = full n ws (replicate 1 w) are even in
      new_at n ws (replicate 1 w) are even k (omega (arith, len, is))
      ∙ get_or-replicate 1 (k - length ws) w 0 (omega (arith, len, is))

  last_paired : ArePairs (n + 1) (ws ++ replicate 1 w)
  last_paired = record {
    all = omega (arith, length-append ws (replicate 1 w), are.all, even);
    sequence = more_sequence n ws (replicate 1 w) are even;
    low = more_low n ws (replicate 1 w) are even (λ j. replicated_low 1 w j (omega (arith, small)));
    left = λ odd. subst (λ (v : ℕ). v < 2 ^ 32) (sym (last_at (first_at (n + 1)) (omega (arith, even)))) small;
  }

  last_put : unpacked_pairs (n + 1) (ws ++ replicate 1 w) ≡ unpacked_pairs n ws ++ replicate 1 w
  last_put = grown n 1 ws (ws ++ replicate 1 w) w (old_kept n ws (replicate 1 w) are even)
      (λ i from to. let here : i ≡ n = omega (arith, from, to) in
      let even' : i % 2 ≡ 0 = omega (arith, here, even) in
      low_half i w 0 _ even' small (last_at (first_at i) (omega (arith, here)) ∙ omega arith))

-- ---- what a list was and what it became

pub count_is : (n : ℕ) (ws xs : List ℕ) → unpacked_pairs n ws ≡ xs → n ≡ length xs
count_is n ws xs is = sym (unpaired_length n ws) ∙ ap length is

-- a list that had the table words xs has n, of which the new ones are w
pub record HasGrown (xs : List ℕ) (w n : ℕ) (ws : List ℕ) : Type 0 where
  pub paired : ArePairs n ws
  pub listed : unpacked_pairs n ws ≡ xs ++ replicate (n - length xs) w
  pub more : length xs ≤ n

-- an even number, up to this one
pub record HasEven (xs : List ℕ) (w to n : ℕ) (ws : List ℕ) : Type 0 where
  pub grown : HasGrown xs w n ws
  pub even : n % 2 ≡ 0
  pub within : n ≤ to

-- all of them, or all but one
pub record HasNearly (xs : List ℕ) (w to n : ℕ) (ws : List ℕ) : Type 0 where
  pub evenly : HasEven xs w to n ws
  pub near : to ≤ n + 1

grows : (xs ws zs : List ℕ) (w n m : ℕ) → HasGrown xs w n ws → ArePairs (n + m) zs
    → unpacked_pairs (n + m) zs ≡ unpacked_pairs n ws ++ replicate m w → HasGrown xs w (n + m) zs
grows xs ws zs w n m was paired put = record {
  paired = paired;
  listed = put ∙ ap (λ (l : List ℕ). l ++ replicate m w) was.listed ∙ append_assoc xs (replicate (n - length xs) w) (replicate m w)
      ∙ ap (λ (l : List ℕ). xs ++ l) (replicate-append-replicate (n - length xs) m w)
      ∙ (let all : n - length xs + m ≡ n + m - length xs = omega (arith, was.more) in ap (λ (k : ℕ). xs ++ replicate k w) all);
  more = omega (arith, was.more);
}

-- before the first
begins : (xs ws : List ℕ) (w n : ℕ) → ArePairs n ws → unpacked_pairs n ws ≡ xs → HasGrown xs w n ws
begins xs ws w n are put =
    let same = count_is n ws xs put in
    let none : 0 ≡ n - length xs = omega (arith, same) in
    record {
      paired = are;
      listed = put ∙ sym (append-nil xs) ∙ ap (λ (k : ℕ). xs ++ replicate k w) none;
      more = omega (arith, same);
    }

pub evened : (xs ws : List ℕ) (w to n len low high : ℕ) → ArePairs n ws → unpacked_pairs n ws ≡ xs → length xs < to → w < 2 ^ 32
    → n % 2 ≡ 1 → len ≡ length ws → low ≡ get_or ws (len - 1) low → high ≡ w
    → HasEven xs w to (n + 1) (slice_set ws (len - 1) (low + high * 2 ^ 32))
evened xs ws w to n len low high are put less small odd all value same =
    let at : ℕ = len - 1 in
    let x : ℕ = low + high * 2 ^ 32 in
    let last : at ≡ length ws - 1 = omega (arith, all) in
    let read : low ≡ slice_index ws at = get_or_read ws at low (omega (arith, last, are.all)) value 0 in
    let is : x ≡ slice_index ws at + w * 2 ^ 32 = λ i. read i + same i * 2 ^ 32 in
    let count = count_is n ws xs put in
    record {
      grown = grows xs ws (slice_set ws at x) w n 1 (begins xs ws w n are put) (high_paired n ws w at x are odd small last is)
          (high_put n ws w at x are odd small last is ∙ ap (λ (k : ℕ). unpacked_pairs n ws ++ replicate k w) odd);
      even = omega (arith, odd);
      within = omega (arith, count, less);
    }

pub was_even : (xs ws : List ℕ) (w to n : ℕ) → ArePairs n ws → unpacked_pairs n ws ≡ xs → length xs < to → n % 2 ≢ 1
    → HasEven xs w to n ws
was_even xs ws w to n are put less not =
    let same = count_is n ws xs put in
    record {
      grown = begins xs ws w n are put;
      even = omega (arith, not);
      within = omega (arith, same, less);
    }

pub by_twos : (xs ws zs : List ℕ) (w to n len k low high : ℕ) → HasEven xs w to n ws → w < 2 ^ 32 → low ≡ w → high ≡ w
    → len ≡ length ws → k ≡ (to - n) / 2 → zs ≡ take (len + (to - n) / 2) ws ++ replicate k (low + high * 2 ^ 32)
    → HasNearly xs w to (n + 2 * ((to - n) / 2)) zs
by_twos xs ws zs w to n len k low high was small first second all many is =
    let m : ℕ = (to - n) / 2 in
    let x : ℕ = low + high * 2 ^ 32 in
    let twice : x ≡ w + w * 2 ^ 32 = λ i. first i + second i * 2 ^ 32 in
    let whole : take (len + m) ws ≡ ws = take_all (len + m) ws (omega (arith, all)) in
    let made : zs ≡ ws ++ replicate m x = is ∙ (λ i. whole i ++ replicate (many i) x) in
    let are = was.grown.paired in
    let even = was.even in
    record {
      evenly = record {
        grown = subst (HasGrown xs w (n + 2 * m)) (sym made)
            (grows xs ws (ws ++ replicate m x) w n (2 * m) was.grown (twos_paired n m w x ws are even small twice)
            (twos_put n m w x ws are even small twice));
        even = omega (arith, even);
        within = omega (arith, was.within);
      };
      near = omega (arith, was.within);
    }

pub no_twos : (xs ws : List ℕ) (w to n : ℕ) → HasEven xs w to n ws → (to - n) / 2 ≤ 0 → HasNearly xs w to n ws
no_twos xs ws w to n was none = record { evenly = was; near = omega (arith, was.within, none) }

pub by_one : (xs ws zs : List ℕ) (w to n a : ℕ) → HasNearly xs w to n ws → w < 2 ^ 32 → n < to → a ≡ w → zs ≡ ws ++ a ∷ []
    → ArePairs (n + 1) zs × (unpacked_pairs (n + 1) zs ≡ xs ++ replicate (to - length xs) w)
by_one xs ws zs w to n a was small less same is =
    let made : zs ≡ ws ++ replicate 1 w = is ∙ ap (λ (v : ℕ). ws ++ v ∷ []) same in
    let are = was.evenly.grown.paired in
    let even = was.evenly.even in
    let now : HasGrown xs w (n + 1) zs = subst (HasGrown xs w (n + 1)) (sym made)
    (grows xs ws (ws ++ replicate 1 w) w n 1 was.evenly.grown (last_paired n w ws are even small) (last_put n w ws are even small)) in
    let all : n + 1 ≡ to = omega (arith, was.near, less) in
    (now.paired, now.listed ∙ ap (λ (k : ℕ). xs ++ replicate (k - length xs) w) all)

pub by_none : (xs ws : List ℕ) (w to n : ℕ) → HasNearly xs w to n ws → to ≤ n
    → unpacked_pairs n ws ≡ xs ++ replicate (to - length xs) w
by_none xs ws w to n was all =
    let same : n ≡ to = omega (arith, was.evenly.within, all) in
    was.evenly.grown.listed ∙ ap (λ (k : ℕ). xs ++ replicate (k - length xs) w) same

-- ---- the shared words

module _ (n : ℕ) (ws : List ℕ) (are : ArePairs n ws) where
  abbrev pub listed : List ℕ
  listed = unpacked_pairs n ws

  -- the two halves of a word that is shared by two, or by one
  two_halves : (k at v : ℕ) → at ≡ 2 + k → v ≡ slice_index ws at → k < pairs n → v ≡ pair_at listed k
  two_halves k at v is value lt =
      let low : v < 2 ^ 64 = subst (λ (z : ℕ). z < 2 ^ 64) (sym value) (are.low at) in
      let same : (i : ℕ) → i / 2 ≡ k → v ≡ slice_index ws (first_at i) = λ i e. value ∙ ap (slice_index ws) (omega (arith, is, e)) in
      let front : slice_index listed (2 * k) ≡ v % 2 ^ 32 =
      unpaired_at n ws (2 * k) (omega (arith, lt)) ∙ ap (half (2 * k)) (sym (same (2 * k) (omega arith))) ∙ half_even (2 * k) v (omega arith) in
      elim (cases_lt (2 * k + 1) n) [
        | inl two ↦
            let back : slice_index listed (2 * k + 1) ≡ v / 2 ^ 32 % 2 ^ 32 =
            unpaired_at n ws (2 * k + 1) two ∙ ap (half (2 * k + 1)) (sym (same (2 * k + 1) (omega arith))) ∙ half_odd (2 * k + 1) v (omega arith) in
            omega (arith, front, back, low)
        | inr one ↦
            let none : slice_index listed (2 * k + 1) ≡ 0 = get_or_past listed (2 * k + 1) 0 (omega (arith, unpaired_length n ws, one)) in
            let left : v < 2 ^ 32 = subst (λ (z : ℕ). z < 2 ^ 32) (sym (same n (omega (arith, lt, one)))) (are.left (omega (arith, lt, one))) in
            omega (arith, front, none, left)
      ]

  -- what lies behind the first two words
  pub packed_behind : drop 2 ws ≡ packed_words listed
  packed_behind =
      let many = length-drop 2 ws in
      let all : length (packed_words listed) ≡ pairs n = packed_length listed ∙ ap pairs (unpaired_length n ws) in
      ext_get_or 0 (drop 2 ws) (packed_words listed) (omega (arith, many, all, are.all))
      (λ k lt. two_halves k (2 + k) (slice_index (drop 2 ws) k) refl (get_or-drop 2 ws k 0) (omega (arith, lt, many, are.all))
      ∙ sym (packed_at listed k (omega (arith, lt, many, are.all, ap pairs (unpaired_length n ws)))))

  -- with a token in the second of them
  pub packed_whole : (token : ℕ) → slice_set ws 1 token ≡ 0 ∷ token ∷ packed_words listed
  packed_whole token = whole ws are.all are.sequence packed_behind
    where
      whole : (l : List ℕ) → length l ≡ 2 + pairs n → slice_index l 0 ≡ 0 → drop 2 l ≡ packed_words listed
          → slice_set l 1 token ≡ 0 ∷ token ∷ packed_words listed
      whole [] count first rest = absurd (omega (arith, count))
      whole (a ∷ []) count first rest = absurd (omega (arith, count))
      whole (a ∷ b ∷ l) count first rest = λ i. first i ∷ token ∷ rest i
