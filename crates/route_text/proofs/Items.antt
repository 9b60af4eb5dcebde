-- Items are added line by line.
use Rattle.std.proofs.Common.{◌≡◌, ◌≢◌, ℕ, zero, suc, ◌+◌, ◌-◌, ◌<◌, ◌==◌, nat_lt, List, [], ◌∷◌, ◌++◌, length, get_or, take, map, refl, sym, ap, ◌∙◌, arith, append_assoc, inl, inr, ◌≤◌, subst, ap₂}
use Rattle.std.proofs.lemmas.Bool.{cases_lt, cond-true, cond-false, and_from, and_right, eq-eqb, ne_eqb, lt-ltb}
use Rattle.std.proofs.lemmas.List.{length-append, get_or_append_left, get_or-append-add, take_at, append-nil}
use Rattle.bstr.specs.Text.{lines_of, no_cr, without_terminator}
use Rattle.bstr.proofs.lemmas.LineLemmas.{lines-nil, lines-step, lines-one, lines-append}
use Rattle.route_text.specs.Files.{lines, fields, AreItems, StandsFor, IsFirstFault, IsSkipped}
use Rattle.route_text.specs.Starts.{StartsEnd, SaysFirst, SaysItems, SaysFault}
use Rattle.route_text.specs.declared.fault.Fault.{Fault}
use Rattle.route_text.specs.declared.fault.FaultKind.{FaultKind}
use Rattle.bstr.proofs.lemmas.LengthLemmas.{length-lines}
use Rattle.route_text.specs.declared.lines.End.TheVariants as ends
use Rattle.route_text.specs.declared.grammar.Line.TheVariants as kinds

-- The first line of bytes, as `bstr` breaks them.

pub nil_lines : lines [] ≡ []
nil_lines = ap (map without_terminator) lines-nil

pub no_lines : (bs : List ℕ) → length bs ≡ 0 → lines bs ≡ []
no_lines [] none = nil_lines
no_lines (b ∷ bs) none = absurd (omega arith)

-- bytes have a first line
pub some_line : (bs : List ℕ) → 0 < length bs → lines bs ≡ [] → ⊥
some_line bs some none = cc (sym (ap (map without_terminator) (lines-step bs some)) ∙ none)

-- each byte is a space or past it, so none belongs to a line's end
abbrev pub IsWritten : List ℕ → Type 0
IsWritten [] = Unit {0}
IsWritten (b ∷ bs) = (31 < b) × IsWritten bs

written_at : (bs : List ℕ) (k : ℕ) → IsWritten bs → k < length bs → 31 < get_or bs k 0
written_at [] k p lt = absurd (omega arith)
written_at (b ∷ bs) zero p lt = p.0
written_at (b ∷ bs) (suc k) p lt = written_at bs k p.1 (omega arith)

-- without a carriage return at its end a text stays as it is
keeps : (bs : List ℕ) → IsWritten bs → no_cr bs ≡ bs
keeps [] p = refl
keeps (b ∷ bs) p =
    let last = get_or (b ∷ bs) (length (b ∷ bs) - 1) 0 in
    let high : 31 < last = written_at (b ∷ bs) (length (b ∷ bs) - 1) p (omega arith) in
    let other : last ≢ 13 = λ e. omega (arith, e) in
    cond-false _ _ _ (and_right (nat_lt 0 (length (b ∷ bs))) (last == 13) (ne_eqb last 13 other))

-- a carriage return at its end is taken off
unreturned : (bs : List ℕ) → no_cr (bs ++ 13 ∷ []) ≡ bs
unreturned bs =
    let n = length (bs ++ 13 ∷ []) in
    let long : n ≡ length bs + 1 = length-append bs (13 ∷ []) in
    let end = get_or (bs ++ 13 ∷ []) (n - 1) 0 in
    let last : end ≡ 13 = ap (λ i. get_or (bs ++ 13 ∷ []) i 0) (omega (arith, long)) ∙ get_or-append-add bs (13 ∷ []) 0 0 in
    cond-true _ _ _ (and_from (nat_lt 0 n) (end == 13) (lt-ltb 0 n (omega (arith, long))) (eq-eqb end 13 last)) ∙ take_at bs (13 ∷ []) (n - 1) (omega (arith, long))

-- no byte is a line feed
abbrev HasNoFeed : List ℕ → Type 0
HasNoFeed bs = (k : ℕ) → k < length bs → get_or bs k 0 ≢ 10

module _ (bs : List ℕ) (clean : HasNoFeed bs) where
  long : length (bs ++ 10 ∷ []) ≡ length bs + 1
  long = length-append bs (10 ∷ [])

  last : get_or (bs ++ 10 ∷ []) (length (bs ++ 10 ∷ []) - 1) 0 ≡ 10
  last = ap (λ i. get_or (bs ++ 10 ∷ []) i 0) (omega (arith, long)) ∙ get_or-append-add bs (10 ∷ []) 0 0

  front : take (length (bs ++ 10 ∷ []) - 1) (bs ++ 10 ∷ []) ≡ bs
  front = take_at bs (10 ∷ []) _ (omega (arith, long))

  ended : without_terminator (bs ++ 10 ∷ []) ≡ no_cr bs
  ended =
      let n = length (bs ++ 10 ∷ []) in
      let some : 0 < n = omega (arith, long) in
      let end = get_or (bs ++ 10 ∷ []) (n - 1) 0 in
      cond-true _ _ _ (and_from (nat_lt 0 n) (end == 10) (lt-ltb 0 n some) (eq-eqb end 10 last)) ∙ ap no_cr front

  inner : (k : ℕ) → k + 1 < length (bs ++ 10 ∷ []) → get_or (bs ++ 10 ∷ []) k 0 ≢ 10
  inner k lt e = clean k (omega (arith, lt, long)) (sym (get_or_append_left bs (10 ∷ []) 0 k (omega (arith, lt, long))) ∙ e)

  one_line : lines_of (bs ++ 10 ∷ []) ≡ (bs ++ 10 ∷ []) ∷ []
  one_line = lines-one (bs ++ 10 ∷ []) (omega (arith, long)) inner

  -- a line, its line feed and what stands after it
  fed_line : (rest : List ℕ) → lines (bs ++ 10 ∷ rest) ≡ no_cr bs ∷ lines rest
  fed_line rest =
      ap lines (sym (append_assoc bs (10 ∷ []) rest))
      ∙ (ap (map without_terminator) (lines-append (length (bs ++ 10 ∷ [])) (bs ++ 10 ∷ []) rest (omega arith) (inr last) ∙ ap (λ ls. ls ++ lines_of rest) one_line)
      ∙ ap (λ t. t ∷ lines rest) ended)

module _ (bs : List ℕ) (p : IsWritten bs) where
  no_feed : HasNoFeed bs
  no_feed k lt e = omega (arith, e, written_at bs k p lt)

  returned : HasNoFeed (bs ++ 13 ∷ [])
  returned k lt e =
      elim (cases_lt k (length bs)) [
        | inl inside ↦ no_feed k inside (sym (get_or_append_left bs (13 ∷ []) 0 k inside) ∙ e)
        | inr past ↦
            let at : k ≡ length bs + 0 = omega (arith, lt, past, length-append bs (13 ∷ [])) in
            omega (arith, e, ap (λ i. get_or (bs ++ 13 ∷ []) i 0) at, get_or-append-add bs (13 ∷ []) 0 0)
      ]

  -- a line with its line feed
  written_line : (rest : List ℕ) → lines (bs ++ 10 ∷ rest) ≡ bs ∷ lines rest
  written_line rest = fed_line bs no_feed rest ∙ ap (λ t. t ∷ lines rest) (keeps bs p)

  pub line_first : (rest : List ℕ) → lines (bs ++ 10 ∷ [] ++ rest) ≡ bs ∷ lines rest
  line_first rest = ap lines (append_assoc bs (10 ∷ []) rest) ∙ written_line rest

  returned_line : (rest : List ℕ) → lines (bs ++ 13 ∷ 10 ∷ rest) ≡ bs ∷ lines rest
  returned_line rest =
      ap lines (sym (append_assoc bs (13 ∷ []) (10 ∷ rest)))
      ∙ (fed_line (bs ++ 13 ∷ []) returned rest ∙ ap (λ t. t ∷ lines rest) (unreturned bs))

  -- a line with either end
  pub ended_line : (end rest : List ℕ) → StartsEnd ends.Line end rest → lines (bs ++ end) ≡ bs ∷ lines rest
  ended_line end rest is = elim is [
    | inl feed ↦ ap (λ t. lines (bs ++ t)) feed ∙ written_line rest
    | inr return ↦ ap (λ t. lines (bs ++ t)) return ∙ returned_line rest
  ]

module _ {Item : Type 0} (Spells : ℕ → List (List ℕ) → Item → Type 0) where
  pub add : (n : ℕ) (xs : List (List ℕ)) (x : List ℕ) (a b : List Item) → AreItems Spells n xs a → StandsFor Spells (n + length xs) (fields x) b → AreItems Spells n (xs ++ x ∷ []) (a ++ b)
  add n [] x a b none h =
      let here = subst (λ m. StandsFor Spells m (fields x) b) (omega arith) h in
      (b, [], here, refl, ap (λ (t : List Item). t ++ b) none ∙ sym (append-nil b))
  add n (y ∷ ys) x a b i h =
      let e : n + length (y ∷ ys) ≡ n + 1 + length ys = omega arith in
      let rec = add (n + 1) ys x i.1 b i.3 (subst (λ m. StandsFor Spells m (fields x) b) e h) in
      (i.0, i.1 ++ b, i.2, rec, ap (λ (t : List Item). t ++ b) i.4 ∙ append_assoc i.0 i.1 b)

-- one more line is read
pub taken : (all done rest more : List (List ℕ)) (line : List ℕ) → all ≡ done ++ rest → rest ≡ line ∷ more → all ≡ (done ++ line ∷ []) ++ more
taken all done rest more line e f = e ∙ (ap (λ (t : List (List ℕ)). done ++ t) f ∙ sym (append_assoc done (line ∷ []) more))

-- the lines so far are `items`, and with the next line they are `more`
module _ {Item : Type 0} (Spells : ℕ → List (List ℕ) → Item → Type 0) where
  pub grown : (n : ℕ) (done : List (List ℕ)) (line : List ℕ) (number : ℕ) (items here more : List Item) → n + length done ≡ number → AreItems Spells n done items → StandsFor Spells number (fields line) here → more ≡ items ++ here → AreItems Spells n (done ++ line ∷ []) more
  grown n done line number items here more count good stands e =
      let added = add Spells n done line items here good (subst (λ m. StandsFor Spells m (fields line) here) (sym count) stands) in
      subst (AreItems Spells n (done ++ line ∷ [])) (sym e) added

module _ {Item : Type 0} (Spells : ℕ → List (List ℕ) → Item → Type 0) where
  -- lines after lines
  pub add_all : (n : ℕ) (xs ys : List (List ℕ)) (a b : List Item) → AreItems Spells n xs a → AreItems Spells (n + length xs) ys b → AreItems Spells n (xs ++ ys) (a ++ b)
  add_all n [] ys a b none more = subst (λ t. AreItems Spells n ys (t ++ b)) (sym none) (subst (λ m. AreItems Spells m ys b) (omega arith) more)
  add_all n (x ∷ xs) ys a b i more =
      let e : n + length (x ∷ xs) ≡ n + 1 + length xs = omega arith in
      let rec = add_all (n + 1) xs ys i.1 b i.3 (subst (λ m. AreItems Spells m ys b) e more) in
      (i.0, i.1 ++ b, i.2, rec, ap (λ (t : List Item). t ++ b) i.4 ∙ append_assoc i.0 i.1 b)

  -- one more line
  pub takes_one : (HasFault : List (List ℕ) → FaultKind → Type 0) (n : ℕ) (bytes : List ℕ) (before after next : List Item) (count : ℕ) (rest last : List ℕ) (item : Item)
      → SaysItems Spells n bytes before after count rest → SaysFirst Spells HasFault (n + count) rest (kinds.Item item) last → next ≡ after ++ item ∷ []
      → SaysItems Spells n bytes before next (count + 1) last
  takes_one HasFault n bytes before after next count rest last item is one e = record {
    done = is.done ++ one.line ∷ [];
    more = is.more ++ item ∷ [];
    split = taken _ is.done _ _ one.line is.split one.split;
    counted = omega (arith, is.counted, length-append is.done (one.line ∷ []));
    good = add Spells n is.done one.line is.more (item ∷ []) is.good (subst (λ m. StandsFor Spells m (fields one.line) (item ∷ [])) (ap (λ k. n + k) (sym is.counted)) one.says);
    grown = e ∙ (ap (λ (t : List Item). t ++ item ∷ []) is.grown ∙ append_assoc before is.more (item ∷ []));
  }

  -- lines and then more lines
  pub takes_more : (n : ℕ) (bytes : List ℕ) (a b c : List Item) (k m : ℕ) (mid last : List ℕ)
      → SaysItems Spells n bytes a b k mid → SaysItems Spells (n + k) mid b c m last → SaysItems Spells n bytes a c (k + m) last
  takes_more n bytes a b c k m mid last p q = record {
    done = p.done ++ q.done;
    more = p.more ++ q.more;
    split = p.split ∙ (ap (λ (t : List (List ℕ)). p.done ++ t) q.split ∙ sym (append_assoc p.done q.done (lines last)));
    counted = omega (arith, p.counted, q.counted, length-append p.done q.done);
    good = add_all n p.done q.done p.more q.more p.good (subst (λ j. AreItems Spells j q.done q.more) (ap (λ j. n + j) (sym p.counted)) q.good);
    grown = q.grown ∙ (ap (λ (t : List Item). t ++ q.more) p.grown ∙ append_assoc a p.more q.more);
  }

  -- lines, and then more lines into the same list with more room
  pub takes_on : (n : ℕ) (bytes : List ℕ) (a roomy b : List Item) (k m : ℕ) (mid last : List ℕ)
      → SaysItems Spells n bytes [] a k mid → roomy ≡ a → SaysItems Spells (n + k) mid roomy b m last → SaysItems Spells n bytes [] b (k + m) last
  takes_on n bytes a roomy b k m mid last is same more =
      takes_more n bytes [] a b k m mid last is (subst (λ items. SaysItems Spells (n + k) mid items b m last) same more)

  -- the lines that were read and those that are left
  pub takes_count : (n : ℕ) (bytes : List ℕ) (a b : List Item) (k : ℕ) (rest : List ℕ) → SaysItems Spells n bytes a b k rest → k + length (lines rest) ≡ length (lines bytes)
  takes_count n bytes a b k rest is = omega (arith, is.counted, ap length is.split, length-append is.done (lines rest))

  pub takes_within : (n : ℕ) (bytes : List ℕ) (a b : List Item) (k : ℕ) (rest : List ℕ) → SaysItems Spells n bytes a b k rest → k + length (lines rest) ≤ length bytes
  takes_within n bytes a b k rest is = omega (arith, takes_count n bytes a b k rest is, length-lines bytes)

  -- all lines
  pub takes_all : (n : ℕ) (bytes : List ℕ) (b : List Item) (k : ℕ) (rest : List ℕ) → SaysItems Spells n bytes [] b k rest → length rest ≡ 0 → AreItems Spells n (lines bytes) b
  takes_all n bytes b k rest is none =
      let all : lines bytes ≡ is.done = is.split ∙ (ap (λ (t : List (List ℕ)). is.done ++ t) (no_lines rest none) ∙ append-nil is.done) in
      subst (λ (t : List Item). AreItems Spells n (lines bytes) t) (sym is.grown) (subst (λ (t : List (List ℕ)). AreItems Spells n t is.more) (sym all) is.good)

  -- lines, and then one with a fault
  pub takes_fault : (HasFault : List (List ℕ) → FaultKind → Type 0) (n : ℕ) (bytes : List ℕ) (b : List Item) (k : ℕ) (rest : List ℕ) (fault : Fault)
      → SaysItems Spells n bytes [] b k rest → SaysFault Spells HasFault (n + k) rest fault → IsFirstFault Spells HasFault n (lines bytes) fault
  takes_fault HasFault n bytes b k rest fault is bad = record {
    before = is.done;
    line = bad.first.line;
    after = lines bad.rest;
    items = is.more;
    split = is.split ∙ ap (λ (t : List (List ℕ)). is.done ++ t) bad.first.split;
    number = omega (arith, bad.number, is.counted);
    good = is.good;
    unskipped = bad.first.says.0;
    bad = bad.first.says.1;
  }

-- Lines are one list or have one first fault, where each line's fields spell one item or have one fault.

module _ {Item : Type 0} (Spells : ℕ → List (List ℕ) → Item → Type 0) where
  module _ (one_item : (n : ℕ) (fs : List (List ℕ)) (a b : Item) → Spells n fs a → Spells n fs b → a ≡ b) where
    one_here : (n : ℕ) (fs : List (List ℕ)) (a b : List Item) → StandsFor Spells n fs a → StandsFor Spells n fs b → a ≡ b
    one_here n fs [] [] p q = refl
    one_here n fs [] (y ∷ []) p q = absurd (q.0 p)
    one_here n fs (x ∷ []) [] p q = absurd (p.0 q)
    one_here n fs (x ∷ []) (y ∷ []) p q = ap (λ (i : Item). i ∷ []) (one_item n fs x y p.1 q.1)
    one_here n fs (x ∷ []) (y ∷ z ∷ more) p q = absurd q
    one_here n fs [] (y ∷ z ∷ more) p q = absurd q
    one_here n fs (x ∷ y ∷ more) b p q = absurd p

    -- lines are one list
    pub one_list : (n : ℕ) (ls : List (List ℕ)) (a b : List Item) → AreItems Spells n ls a → AreItems Spells n ls b → a ≡ b
    one_list n [] a b p q = p ∙ sym q
    one_list n (l ∷ ls) a b p q = p.4 ∙ (ap₂ (λ (x y : List Item). x ++ y) (one_here n (fields l) p.0 q.0 p.2 q.2) (one_list (n + 1) ls p.1 q.1 p.3 q.3) ∙ sym q.4)

  module _ (HasFault : List (List ℕ) → FaultKind → Type 0) (not_both : (n : ℕ) (fs : List (List ℕ)) (a : Item) (kind : FaultKind) → Spells n fs a → HasFault fs kind → ⊥) where
    not_here : (n : ℕ) (fs : List (List ℕ)) (here : List Item) (kind : FaultKind) → StandsFor Spells n fs here → ¬ IsSkipped fs → HasFault fs kind → ⊥
    not_here n fs [] kind p unskipped bad = unskipped p
    not_here n fs (x ∷ []) kind p unskipped bad = not_both n fs x kind p.1 bad
    not_here n fs (x ∷ y ∷ more) kind p unskipped bad = p

    not_within : (n : ℕ) (before : List (List ℕ)) (line : List ℕ) (after : List (List ℕ)) (items : List Item) (kind : FaultKind) → AreItems Spells n (before ++ line ∷ after) items → ¬ IsSkipped (fields line) → HasFault (fields line) kind → ⊥
    not_within n [] line after items kind p unskipped bad = not_here n (fields line) p.0 kind p.2 unskipped bad
    not_within n (l ∷ ls) line after items kind p unskipped bad = not_within (n + 1) ls line after p.1 kind p.3 unskipped bad

    -- lines that are a list have no fault
    pub no_fault : (n : ℕ) (ls : List (List ℕ)) (items : List Item) (fault : Fault) → AreItems Spells n ls items → IsFirstFault Spells HasFault n ls fault → ⊥
    no_fault n ls items fault p q = not_within n q.before q.line q.after items fault.kind (subst (λ t. AreItems Spells n t items) q.split p) q.unskipped q.bad

    module _ (one_kind : (fs : List (List ℕ)) (j k : FaultKind) → HasFault fs j → HasFault fs k → j ≡ k) where
      same_place : (n : ℕ) (a b : List (List ℕ)) (x y : List ℕ) (c d : List (List ℕ)) (is js : List Item) (j k : FaultKind)
          → AreItems Spells n a is → AreItems Spells n b js → ¬ IsSkipped (fields x) → ¬ IsSkipped (fields y) → HasFault (fields x) j → HasFault (fields y) k
          → a ++ x ∷ c ≡ b ++ y ∷ d → (length a ≡ length b) × (j ≡ k)
      same_place n [] [] x y c d is js j k good fine p q bad spoiled e =
          let same : x ≡ y = cc in
          (refl, one_kind (fields y) j k (subst (λ t. HasFault (fields t) j) same bad) spoiled)
      same_place n [] (m ∷ b) x y c d is js j k good fine p q bad spoiled e =
          let same : x ≡ m = cc in
          absurd (not_here n (fields m) fine.0 j fine.2 (subst (λ t. ¬ IsSkipped (fields t)) same p) (subst (λ t. HasFault (fields t) j) same bad))
      same_place n (l ∷ a) [] x y c d is js j k good fine p q bad spoiled e =
          let same : y ≡ l = cc in
          absurd (not_here n (fields l) good.0 k good.2 (subst (λ t. ¬ IsSkipped (fields t)) same q) (subst (λ t. HasFault (fields t) k) same spoiled))
      same_place n (l ∷ a) (m ∷ b) x y c d is js j k good fine p q bad spoiled e =
          let rest : a ++ x ∷ c ≡ b ++ y ∷ d = cc in
          let rec = same_place (n + 1) a b x y c d good.1 fine.1 j k good.3 fine.3 p q bad spoiled rest in
          (ap suc rec.0, rec.1)

      -- lines have one first fault
      pub one_fault : (n : ℕ) (ls : List (List ℕ)) (a b : Fault) → IsFirstFault Spells HasFault n ls a → IsFirstFault Spells HasFault n ls b → a ≡ b
      one_fault n ls a b p q =
          let same = same_place n p.before q.before p.line q.line p.after q.after p.items q.items a.kind b.kind p.good q.good p.unskipped q.unskipped p.bad q.bad (sym p.split ∙ q.split) in
          let line : a.line ≡ b.line = p.number ∙ (ap (λ k. k + n) same.0 ∙ sym q.number) in
          ap₂ (λ l k. made l k) line same.1
        where
          made : ℕ → FaultKind → Fault
          made l k = record { line = l; kind = k }
