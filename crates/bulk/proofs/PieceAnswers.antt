-- Pieces that are answered each are answered together.
use Rattle.std.proofs.Common.{◌≡◌, ℕ, zero, suc, ◌+◌, ◌-◌, ◌*◌, ◌/◌, ◌<◌, ◌≤◌, List, [], ◌∷◌, ◌++◌, length, get_or, take, drop, map, sym, ap, subst, ◌∙◌, zero-add, arith, Option, refl}
use Rattle.std.specs.Prelude.{All}
use Rattle.std.specs.List.{flat_map, range_with_len}
use Rattle.std.proofs.lemmas.List.{take_all, append-nil, get_or-map, length-map, get_or_default}
use Rattle.std.proofs.lemmas.List.FromFn.{map-range_with_len_more, get_or-map-range_with_len, length-map-range_with_len, length-range_with_len, get_or-range_with_len}
use Rattle.std.proofs.lemmas.List.Elements.{All-take, All-drop}
use Rattle.std.proofs.lemmas.List.Folds.{flat_map-map}
use Rattle.std.proofs.lemmas.Grind.{flat_map-append}
use Rattle.std.proofs.Math.Seq.{take-add}
use Rattle.std.proofs.Math.Nat.{mul-div_cancel_left, div-mul-le_self}
use Rattle.std.proofs.lemmas.Nat.{le-div}
use Rattle.bulk.specs.Pieces.{piece_start_before, piece_of, first_pieces}
use Rattle.lpm_rules.specs.RuleMap.{RuleMap}
use Rattle.lpm_rules.specs.Longest.{AreLongestHops}

-- The pieces of a list, one after another, are the list.

-- the starts rise
pub rises : (k n w : ℕ) → 0 < w → k * n / w ≤ (k + 1) * n / w
rises k n w pos =
    let part = div-mul-le_self (k * n) w in
    let more : k * n ≤ (k + 1) * n = omega arith in
    le-div (k * n / w) ((k + 1) * n) w pos (omega arith)

-- one more piece follows directly on those before it
more : (xs before : List ℕ) (from to : ℕ) → from ≤ to → before ≡ take from xs → before ++ take (to - from) (drop from xs) ≡ take to xs
more xs before from to le e =
    let sum : from + (to - from) ≡ to = omega arith in
    ap (λ l. l ++ take (to - from) (drop from xs)) e ∙ (sym (take-add from (to - from) xs) ∙ ap (λ n. take n xs) sum)

-- one more of the first pieces
first_pieces-more : (xs : List ℕ) (w k : ℕ) → 0 < w
    → flat_map (λ l. l) (first_pieces xs w k) ≡ take (piece_start_before k (length xs) w) xs
    → flat_map (λ l. l) (first_pieces xs w (k + 1)) ≡ take (piece_start_before (k + 1) (length xs) w) xs
first_pieces-more xs w k pos e =
    ap (flat_map (λ l. l)) (map-range_with_len_more (piece_of xs w) 0 k k (zero-add k))
    ∙ (flat_map-append (λ l. l) (first_pieces xs w k) (piece_of xs w k ∷ [])
    ∙ (ap (λ l. flat_map (λ l. l) (first_pieces xs w k) ++ l) (append-nil (piece_of xs w k))
    ∙ more xs _ _ _ (rises k (length xs) w pos) e))

-- the first pieces are what stands before the next start
pub first_pieces-joined : (xs : List ℕ) (w k : ℕ) → 0 < w
    → flat_map (λ l. l) (first_pieces xs w k) ≡ take (piece_start_before k (length xs) w) xs
first_pieces-joined xs w zero pos =
    let start : 0 ≡ piece_start_before 0 (length xs) w = omega arith in
    ap (λ n. take n xs) start
first_pieces-joined xs w (suc k) pos =
    let next : k + 1 ≡ suc k = omega arith in
    subst (λ n. flat_map (λ l. l) (first_pieces xs w n) ≡ take (piece_start_before n (length xs) w) xs) next
    (first_pieces-more xs w k pos (first_pieces-joined xs w k pos))

-- all pieces are the whole list
pub all_pieces-joined : {P : Type 0} (addrs : P → List ℕ) (pieces : List P) (xs : List ℕ) (w : ℕ) → 0 < w → map addrs pieces ≡ first_pieces xs w w → flat_map addrs pieces ≡ xs
all_pieces-joined addrs pieces xs w pos e =
    sym (flat_map-map (λ l. l) addrs pieces)
    ∙ (ap (flat_map (λ l. l)) e
    ∙ (first_pieces-joined xs w w pos
    ∙ take_all _ xs (omega (arith, mul-div_cancel_left (length xs) pos))))

-- there are as many pieces as workers
pub as_many_pieces : {P : Type 0} (addrs : P → List ℕ) (pieces : List P) (xs : List ℕ) (w : ℕ) → map addrs pieces ≡ first_pieces xs w w → length pieces ≡ w
as_many_pieces addrs pieces xs w e =
    sym (length-map pieces addrs) ∙ (ap length e ∙ length-map-range_with_len (piece_of xs w) 0 w)

-- what all addresses are, those of each piece are
pub pieces_within : {P : Type 0} (addrs : P → List ℕ) (Q : ℕ → Type 0) (pieces : List P) (xs : List ℕ) (w : ℕ) → map addrs pieces ≡ first_pieces xs w w → All Q xs → All (λ p. All Q (addrs p)) pieces
pieces_within addrs Q pieces xs w e all k d lt =
    let many = as_many_pieces addrs pieces xs w e in
    let here : addrs (get_or pieces k d) ≡ piece_of xs w k =
    sym (get_or-map addrs pieces k d [] lt)
    ∙ (ap (λ l. get_or l k []) e
    ∙ get_or-map-range_with_len (piece_of xs w) 0 w k k [] (omega arith) (zero-add k)) in
    subst (All Q) (sym here) (All-take Q _ _ (All-drop Q _ xs all))

-- lists of addresses and their hops, one after another
pub AreLongestHops-join : (width : ℕ) (R : RuleMap) (xs ys : List ℕ) (hs ks : List (Option ℕ))
    → AreLongestHops width R xs hs → AreLongestHops width R ys ks → AreLongestHops width R (xs ++ ys) (hs ++ ks)
AreLongestHops-join width R [] ys [] ks here rest = rest
AreLongestHops-join width R [] ys (h ∷ hs) ks here rest = absurd here
AreLongestHops-join width R (x ∷ xs) ys [] ks here rest = absurd here
AreLongestHops-join width R (x ∷ xs) ys (h ∷ hs) ks here rest = (here.0, AreLongestHops-join width R xs ys hs ks here.1 rest)

-- pieces, and the answers of each
answered : {P Q : Type 0} (addrs : P → List ℕ) (hops : Q → List (Option ℕ)) (width : ℕ) (R : RuleMap) (old : List P) (new : List Q)
    → length new ≡ length old
    → ((i : ℕ) (d : P) (e : Q) → i < length old → AreLongestHops width R (addrs (get_or old i d)) (hops (get_or new i e)))
    → AreLongestHops width R (flat_map addrs old) (flat_map hops new)
answered addrs hops width R [] [] e each = tt
answered addrs hops width R [] (q ∷ new) e each = absurd (omega arith)
answered addrs hops width R (p ∷ old) [] e each = absurd (omega arith)
answered addrs hops width R (p ∷ old) (q ∷ new) e each =
    AreLongestHops-join width R (addrs p) (flat_map addrs old) (hops q) (flat_map hops new)
    (each 0 p q (omega arith))
    (answered addrs hops width R old new (omega arith) (λ i d e lt. each (suc i) d e (omega arith)))

-- the pieces of a list, answered each, have the answers of the list
pub all_answered : {P : Type 0} (addrs : P → List ℕ) (hops : P → List (Option ℕ)) (width : ℕ) (R : RuleMap) (old new : List P)
    → (xs : List ℕ) (w : ℕ) → 0 < w → map addrs old ≡ first_pieces xs w w
    → length new ≡ length old
    → ((i : ℕ) (d : P) → i < length old → AreLongestHops width R (addrs (get_or old i d)) (hops (get_or new i d)))
    → AreLongestHops width R xs (flat_map hops new)
all_answered {P} addrs hops width R old new xs w pos cut e each =
    subst (λ l. AreLongestHops width R l (flat_map hops new)) (all_pieces-joined addrs old xs w pos cut)
    (answered addrs hops width R old new e (λ i d q lt.
    subst (λ (p : P). AreLongestHops width R (addrs (get_or old i d)) (hops p)) (get_or_default new i d q (omega (arith, lt, e))) (each i d lt)))

-- as many as there are pieces of a list, of which each has the answers of its piece
pub pieces_answered : {Q : Type 0} (hops : Q → List (Option ℕ)) (width : ℕ) (R : RuleMap) (xs : List ℕ) (new : List Q) → 0 < length new
    → ((k : ℕ) (d : Q) → k < length new → AreLongestHops width R (piece_of xs (length new) k) (hops (get_or new k d)))
    → AreLongestHops width R xs (flat_map hops new)
pieces_answered hops width R xs new pos each =
    let w : ℕ = length new in
    let numbers : List ℕ = range_with_len 0 w in
    subst (λ (l : List ℕ). AreLongestHops width R l (flat_map hops new)) (all_pieces-joined (piece_of xs w) numbers xs w pos refl)
    (answered (piece_of xs w) hops width R numbers new (sym (length-range_with_len 0 w)) (λ k d q lt.
    let within : k < w = omega (arith, lt, length-range_with_len 0 w) in
    let here : get_or numbers k d ≡ k = get_or-range_with_len 0 w k d within ∙ zero-add k in
    subst (λ (n : ℕ). AreLongestHops width R (piece_of xs w n) (hops (get_or new k q))) (sym here) (each k q within)))
