-- Lines that were cut at a line's end: their items and their first fault.
use Rattle.std.proofs.Common.{◌≡◌, ◌≢◌, ℕ, suc, ◌+◌, ◌-◌, ◌<◌, ◌==◌, true, false, cond, List, [], ◌∷◌, length, count_by, get_or, drop, refl, sym, ap, ◌∙◌, arith, inl, inr, ◌≤◌, ◌⊎◌, ◌++◌, take, map, subst, append_assoc}
use Rattle.std.proofs.lemmas.Bool.{cases_Bool, cond-true, cond-false, eq-eqb, ne_eqb}
use Rattle.std.proofs.lemmas.List.{length-map, append-nil, length-append, take-append-drop, take_all, drop_all, map-append, length-take-le, get_or-take}
use Rattle.std.proofs.lemmas.List.Recursion.{is_count_by}
use Rattle.bstr.specs.Text.{line_len, lines_of, without_terminator}
use Rattle.bstr.proofs.lemmas.LineLemmas.{lines-nil, lines-step, lines-one, lines-append}
use Rattle.route_text.specs.Files.{lines, fields, StandsFor, AreItems, IsFirstFault}
use Rattle.route_text.specs.declared.fault.Fault.{Fault}
use Rattle.route_text.specs.declared.fault.FaultKind.{FaultKind}
use Rattle.route_text.proofs.Items.{nil_lines, add_all}

-- The lines of bytes, by the line feeds that end them.

-- how many line feeds the bytes have
abbrev feeds : List ℕ → ℕ
feeds [] = 0
feeds (b ∷ bs) = cond (b == 10) (1 + feeds bs) (feeds bs)

-- how many lines of the bytes have no line feed: the last one, where it has none
abbrev unended : List ℕ → ℕ
unended [] = 0
unended (b ∷ []) = cond (b == 10) 0 1
unended (b ∷ c ∷ bs) = unended (c ∷ bs)

-- a line feed ends a line
fed : (b : ℕ) (bs : List ℕ) → (b == 10) ≡ true → length (lines_of (b ∷ bs)) ≡ 1 + length (lines_of bs)
unfolding line_len
fed b bs is =
    let one : line_len (b ∷ bs) ≡ 1 = cond-true _ _ _ is in
    ap length (lines-step (b ∷ bs) (omega arith)) ∙ (ap (λ k. suc (length (lines_of (drop k (b ∷ bs))))) one ∙ omega arith)

-- another byte goes on with its line
unfed : (b c : ℕ) (bs : List ℕ) → (b == 10) ≡ false → length (lines_of (b ∷ c ∷ bs)) ≡ length (lines_of (c ∷ bs))
unfolding line_len
unfed b c bs other =
    let one : line_len (b ∷ c ∷ bs) ≡ suc (line_len (c ∷ bs)) = cond-false _ _ _ other in
    ap length (lines-step (b ∷ c ∷ bs) (omega arith)) ∙ (ap (λ k. suc (length (lines_of (drop k (b ∷ c ∷ bs))))) one ∙ sym (ap length (lines-step (c ∷ bs) (omega arith))))

-- each line has its line feed, but for a last one without
counted : (bs : List ℕ) → length (lines_of bs) ≡ feeds bs + unended bs
counted [] = ap length lines-nil
counted (b ∷ []) =
    let one : length (lines_of (b ∷ [])) ≡ 1 = ap length (lines-one (b ∷ []) (omega arith) (λ k lt. absurd (omega arith))) in
    elim (cases_Bool (b == 10)) [
      | inl is ↦
          let feed : feeds (b ∷ []) ≡ 1 = cond-true _ _ _ is in
          let none : cond {A = ℕ} (b == 10) 0 1 ≡ 0 = cond-true _ _ _ is in
          omega (arith, one, feed, none)
      | inr other ↦
          let none : feeds (b ∷ []) ≡ 0 = cond-false _ _ _ other in
          let open_line : cond {A = ℕ} (b == 10) 0 1 ≡ 1 = cond-false _ _ _ other in
          omega (arith, one, none, open_line)
    ]
counted (b ∷ c ∷ bs) =
    let rest = counted (c ∷ bs) in
    elim (cases_Bool (b == 10)) [
      | inl is ↦
          let feed : feeds (b ∷ c ∷ bs) ≡ 1 + feeds (c ∷ bs) = cond-true _ _ _ is in
          omega (arith, fed b (c ∷ bs) is, rest, feed)
      | inr other ↦
          let none : feeds (b ∷ c ∷ bs) ≡ feeds (c ∷ bs) = cond-false _ _ _ other in
          omega (arith, unfed b c bs other, rest, none)
    ]

-- the last byte says whether its line has an end
unended_last : (bs : List ℕ) → 0 < length bs → unended bs ≡ cond (get_or bs (length bs - 1) 0 == 10) 0 1
unended_last [] pos = absurd (omega arith)
unended_last (b ∷ []) pos = refl
unended_last (b ∷ c ∷ bs) pos =
    let place : length (b ∷ c ∷ bs) - 1 ≡ suc (length (c ∷ bs) - 1) = omega arith in
    unended_last (c ∷ bs) (omega arith) ∙ sym (ap (λ k. cond (get_or (b ∷ c ∷ bs) k 0 == 10) 0 1) place)

feeds_count : (bs : List ℕ) → feeds bs ≡ count_by (λ b. b == 10) bs
feeds_count = is_count_by feeds (λ b. b == 10) refl (λ b bs. refl)

found : (bs : List ℕ) → length (lines bs) ≡ count_by (λ b. b == 10) bs + unended bs
found bs = omega (arith, length-map (lines_of bs) without_terminator, counted bs, feeds_count bs)

pub no_bytes : (bs : List ℕ) → length bs ≡ 0 → length (lines bs) ≡ count_by (λ b. b == 10) bs
no_bytes [] none = omega (arith, found [])
no_bytes (b ∷ bs) none = absurd (omega arith)

pub ended : (bs : List ℕ) → 0 < length bs → get_or bs (length bs - 1) 0 ≡ 10 → length (lines bs) ≡ count_by (λ b. b == 10) bs
ended bs some feed =
    let none : unended bs ≡ 0 = unended_last bs some ∙ cond-true _ _ _ (eq-eqb _ 10 feed) in
    omega (arith, found bs, none)

pub not_ended : (bs : List ℕ) → 0 < length bs → get_or bs (length bs - 1) 0 ≢ 10 → length (lines bs) ≡ count_by (λ b. b == 10) bs + 1
not_ended bs some other =
    let one : unended bs ≡ 1 = unended_last bs some ∙ cond-false _ _ _ (ne_eqb _ 10 other) in
    omega (arith, found bs, one)

module _ {Item : Type 0} (Spells : ℕ → List (List ℕ) → Item → Type 0) (later : ℕ → Item → Item)
    (spells_later : (k n : ℕ) (fs : List (List ℕ)) (item : Item) → Spells n fs item → Spells (n + k) fs (later k item)) where
  stands_later : (k n : ℕ) (fs : List (List ℕ)) (here : List Item) → StandsFor Spells n fs here → StandsFor Spells (n + k) fs (map (later k) here)
  stands_later k n fs [] is = is
  stands_later k n fs (a ∷ []) is = (is.0, spells_later k n fs a is.1)
  stands_later k n fs (a ∷ b ∷ more) is = is

  -- lines that stand k lines later
  pub items_later : (k n : ℕ) (ls : List (List ℕ)) (items : List Item) → AreItems Spells n ls items → AreItems Spells (n + k) ls (map (later k) items)
  items_later k n [] items is = ap (map (later k)) is
  items_later k n (l ∷ ls) items is =
      let next : n + 1 + k ≡ n + k + 1 = omega arith in
      let rest = subst (λ m. AreItems Spells m ls (map (later k) is.1)) next (items_later k (n + 1) ls is.1 is.3) in
      (map (later k) is.0, map (later k) is.1, stands_later k n (fields l) is.0 is.2, rest, ap (map (later k)) is.4 ∙ map-append (later k) is.0 is.1)

  module _ (all front back : List (List ℕ)) (cut : all ≡ front ++ back) where
    after_front : (ls : List (List ℕ)) (items : List Item) → AreItems Spells 1 ls items → AreItems Spells (1 + length front) ls (map (later (length front)) items)
    after_front ls items is = items_later (length front) 1 ls items is

    pub both_lists : (a b : List Item) → AreItems Spells 1 front a → AreItems Spells 1 back b → AreItems Spells 1 all (a ++ map (later (length front)) b)
    both_lists a b p q =
        let c = map (later (length front)) b in
        subst (λ ls. AreItems Spells 1 ls (a ++ c)) (sym cut) (add_all Spells 1 front back a c p (after_front back b q))

    pub back_fault : (HasFault : List (List ℕ) → FaultKind → Type 0) (a : List Item) (f g : Fault) → AreItems Spells 1 front a → IsFirstFault Spells HasFault 1 back f → g.line ≡ f.line + length front → g.kind ≡ f.kind → IsFirstFault Spells HasFault 1 all g
    back_fault HasFault a f g p q line kind = record {
      before = front ++ q.before;
      line = q.line;
      after = q.after;
      items = a ++ map (later (length front)) q.items;
      split = cut ∙ (ap (λ (t : List (List ℕ)). front ++ t) q.split ∙ sym (append_assoc front q.before (q.line ∷ q.after)));
      number = omega (arith, line, q.number, length-append front q.before);
      good = add_all Spells 1 front q.before a (map (later (length front)) q.items) p (after_front q.before q.items q.good);
      unskipped = q.unskipped;
      bad = subst (λ k. HasFault (fields q.line) k) (sym kind) q.bad;
    }

module _ {Item : Type 0} (Spells : ℕ → List (List ℕ) → Item → Type 0) (HasFault : List (List ℕ) → FaultKind → Type 0) where
  -- a fault's line is one of the lines
  pub fault_within : (back : List (List ℕ)) (f : Fault) → IsFirstFault Spells HasFault 1 back f → f.line ≤ length back
  fault_within back f q = omega (arith, q.number, ap length q.split, length-append q.before (q.line ∷ q.after))

-- lines that are cut where one ends
pub cut_lines : (bytes : List ℕ) (k : ℕ) → k ≤ length bytes → (k ≡ length bytes) ⊎ ((0 < k) × (get_or bytes (k - 1) 0 ≡ 10)) → lines bytes ≡ lines (take k bytes) ++ lines (drop k bytes)
cut_lines bytes k le ends =
    elim ends [
      | inl whole ↦ ap lines (sym (take_all k bytes (omega arith))) ∙ (sym (append-nil (lines (take k bytes))) ∙ ap (λ t. lines (take k bytes) ++ t) (sym nil_lines ∙ ap lines (sym (drop_all k bytes (omega arith)))))
      | inr at ↦
          let long = length-take-le k bytes le in
          let same : length (take k bytes) - 1 ≡ k - 1 = omega arith in
          let last : get_or (take k bytes) (length (take k bytes) - 1) 0 ≡ 10 = ap (λ i. get_or (take k bytes) i 0) same ∙ (get_or-take k bytes (k - 1) 0 (omega arith) ∙ at.1) in
          ap (map without_terminator) (ap lines_of (sym (take-append-drop k bytes)) ∙ lines-append (length (take k bytes)) (take k bytes) (drop k bytes) (omega arith) (inr last)) ∙ map-append without_terminator (lines_of (take k bytes)) (lines_of (drop k bytes))
    ]
