use Rattle.std.proofs.Common.{arith, ◌^◌, ◌≡◌, ℕ, ◌+◌, ◌*◌, ◌/◌, ◌%◌, ◌<◌, ◌≤◌, refl, ap, sym, ◌∙◌, subst, length, get_or}
use Rattle.lpm_cells.specs.Words.{IsEntry, IsWord, word_of, entry_in, IsLastWord, IsWords, IsFirstWord}
use Rattle.lpm_cells.specs.declared.entry.Entry.{Entry}
use Rattle.lpm_cells.specs.declared.entry.Entry.TheVariants.{Miss, Hop, Group}
use Rattle.std.proofs.lemmas.Nat.{div-mul-add, mod-mul-add}
use Rattle.std.specs.Prelude.{replicate, List}
use Rattle.std.proofs.lemmas.List.{get_or-replicate, length-replicate}

hop_high : (h d : ℕ) → h < 2 ^ 24 → (h + 2 ^ 24 + d * 2 ^ 26) / 2 ^ 24 ≡ 1 + d * 4
hop_high h d b = ap (λ n. n / 2 ^ 24) (omega arith) ∙ div-mul-add (1 + d * 4) (2 ^ 24) h b

hop_low : (h d : ℕ) → h < 2 ^ 24 → (h + 2 ^ 24 + d * 2 ^ 26) % 2 ^ 24 ≡ h
hop_low h d b = ap (λ n. n % 2 ^ 24) (omega arith) ∙ mod-mul-add (1 + d * 4) (2 ^ 24) h b

entry_in_hop : (h d : ℕ) → h < 2 ^ 24 → entry_in (h + 2 ^ 24 + d * 2 ^ 26) ≡ Hop h d
unfolding entry_in
entry_in_hop h d b =
    rw (hop_high h d b, hop_low h d b) (
    let e1 : (1 + d * 4) % 4 ≡ 1 = omega arith in
    let e2 : (h + 2 ^ 24 + d * 2 ^ 26) / 2 ^ 26 ≡ d = omega arith in
    rw (e1, e2) refl)

entry_in_group : (g : ℕ) → g < 2 ^ 24 → entry_in (g + 2 ^ 24 + 2 ^ 25) ≡ Group g
unfolding entry_in
entry_in_group g b =
    let e1 : (g + 2 ^ 24 + 2 ^ 25) / 2 ^ 24 ≡ 3 = omega arith in
    let e2 : (g + 2 ^ 24 + 2 ^ 25) % 2 ^ 24 ≡ g = omega arith in
    rw (e1, e2) refl

pub entry_in_zero : entry_in 0 ≡ Miss
unfolding entry_in
entry_in_zero = refl

-- the word of an entry is read back as that entry
pub entry_in-word_of : (w : ℕ) (e : Entry) → IsEntry w e → entry_in (word_of e) ≡ e
entry_in-word_of w Miss h = entry_in_zero
entry_in-word_of w (Hop n d) h = entry_in_hop n d h.0
entry_in-word_of w (Group g) h = entry_in_group g h

pub read_back : (w : ℕ) (e : Entry) (word : ℕ) → IsEntry w e → word_of e ≡ word → e ≡ entry_in word
read_back w e word h q = sym (entry_in-word_of w e h) ∙ ap entry_in q

-- the word of an entry takes 32 bits
word_of-below : (width : ℕ) (e : Entry) → width ≤ 32 → IsEntry width e → word_of e < 2 ^ 32
word_of-below width Miss l h = omega arith
word_of-below width (Hop n d) l h = let a = h.0 in let b = h.1 in omega (arith, a, b)
word_of-below width (Group g) l h = omega arith

pub word_below : (width w : ℕ) → width ≤ 32 → IsWord width w → w < 2 ^ 32
word_below width w l h = subst (λ n. n < 2 ^ 32) h.1 (word_of-below width (entry_in w) l h.0)

zero_first : (w s : ℕ) (seconds : List ℕ) → IsFirstWord w s seconds 0
zero_first w s seconds = rw entry_in_zero ((tt, refl), tt)

zero_last : (w : ℕ) → IsLastWord w 0
zero_last w = rw entry_in_zero ((tt, refl), tt)

-- a table of misses
pub blank : (first second n : ℕ) (a b : List ℕ) → a ≡ replicate (2 ^ first) 0 → b ≡ replicate n 0
    → IsWords first second (record { firsts = a; seconds = b })
blank first second n a b p q = record {
  firsts_len = ap length p ∙ length-replicate _ _;
  first_words = λ i l.
      let l2 : i < 2 ^ first = omega (arith, l, ap length p, length-replicate {A = ℕ} (2 ^ first) 0) in
      subst (IsFirstWord (first + second) second b) (sym (ap (λ x. get_or x i 0) p ∙ get_or-replicate _ i 0 0 l2)) (zero_first _ _ b);
  second_words = λ i l.
      let l2 : i < n = omega (arith, l, ap length q, length-replicate {A = ℕ} n 0) in
      subst (IsLastWord (first + second)) (sym (ap (λ x. get_or x i 0) q ∙ get_or-replicate _ i 0 0 l2)) (zero_last _);
}
