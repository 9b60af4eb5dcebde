-- One more line of answers.
use Rattle.std.proofs.Common.{◌≡◌, ℕ, zero, suc, ◌+◌, ◌<◌, ◌≤◌, List, [], ◌∷◌, ◌++◌, Option, length, get_or, take, drop, refl, sym, ap, ap₂, ◌∙◌, arith, add-one, append_assoc}
use Rattle.std.proofs.Math.Seq.{drop-cons}
use Rattle.std.proofs.lemmas.List.{drop_all, drop-drop, length-drop}
use Rattle.route_text.specs.Texts.{answer_line, answer_lines}

first : (a : ℕ) (h : Option ℕ) (ads : List ℕ) (hs : List (Option ℕ)) → answer_lines (a ∷ ads) (h ∷ hs) ≡ answer_line a h ++ answer_lines ads hs
unfolding answer_lines
first a h ads hs = refl

pub next : (ads : List ℕ) (hs : List (Option ℕ)) (i : ℕ) (d : Option ℕ) → i < length ads → length hs ≡ length ads → answer_lines (drop i ads) (drop i hs) ≡ answer_line (get_or ads i 0) (get_or hs i d) ++ answer_lines (drop (i + 1) ads) (drop (i + 1) hs)
next ads hs i d lt same =
    ap₂ answer_lines (drop-cons ads i 0 lt) (drop-cons hs i d (omega arith))
    ∙ (first (get_or ads i 0) (get_or hs i d) (drop (suc i) ads) (drop (suc i) hs)
    ∙ ap (λ n. answer_line (get_or ads i 0) (get_or hs i d) ++ answer_lines (drop n ads) (drop n hs)) (sym (add-one i)))

nothing : (hs : List (Option ℕ)) → answer_lines [] hs ≡ []
unfolding answer_lines
nothing hs = refl

pub done : (ads : List ℕ) (hs : List (Option ℕ)) (i : ℕ) → length ads ≤ i → answer_lines (drop i ads) (drop i hs) ≡ []
done ads hs i le = ap (λ t. answer_lines t (drop i hs)) (drop_all i ads le) ∙ nothing (drop i hs)

-- some lines and then the others
pub parted : (m : ℕ) (ads : List ℕ) (hs : List (Option ℕ)) → length hs ≡ length ads → answer_lines ads hs ≡ answer_lines (take m ads) (take m hs) ++ answer_lines (drop m ads) (drop m hs)
parted zero ads hs same = sym (ap (λ t. t ++ answer_lines ads hs) (nothing []))
parted (suc m) [] [] same = sym (ap (λ t. t ++ answer_lines [] []) (nothing []))
parted (suc m) [] (h ∷ hs) same = absurd (omega arith)
parted (suc m) (a ∷ ads) [] same = absurd (omega arith)
parted (suc m) (a ∷ ads) (h ∷ hs) same =
    first a h ads hs ∙ (ap (λ t. answer_line a h ++ t) (parted m ads hs (omega arith))
    ∙ (sym (append_assoc (answer_line a h) (answer_lines (take m ads) (take m hs)) (answer_lines (drop m ads) (drop m hs)))
    ∙ ap (λ t. t ++ answer_lines (drop m ads) (drop m hs)) (sym (first a h (take m ads) (take m hs)))))

-- the lines of so many more answers
pub grown : (ads : List ℕ) (hs : List (Option ℕ)) (i m n : ℕ) (text more all : List ℕ) → length hs ≡ length ads → n ≡ m → text ++ answer_lines (drop i ads) (drop i hs) ≡ all → more ≡ text ++ answer_lines (take n (drop i ads)) (take n (drop i hs)) → more ++ answer_lines (drop (i + m) ads) (drop (i + m) hs) ≡ all
grown ads hs i m n text more all same e whole here =
    let piece = answer_lines (take n (drop i ads)) (take n (drop i hs)) in
    let rest = answer_lines (drop (i + m) ads) (drop (i + m) hs) in
    let long : length (drop i hs) ≡ length (drop i ads) = omega (arith, length-drop i hs, length-drop i ads) in
    let at : i + n ≡ i + m = ap (λ k. i + k) e in
    let left : answer_lines (drop n (drop i ads)) (drop n (drop i hs)) ≡ rest = ap₂ answer_lines (drop-drop n i ads ∙ ap (λ k. drop k ads) at) (drop-drop n i hs ∙ ap (λ k. drop k hs) at) in
    ap (λ t. t ++ rest) here ∙ (append_assoc text piece rest ∙ (ap (λ t. text ++ t) (ap (λ t. piece ++ t) (sym left) ∙ sym (parted n (drop i ads) (drop i hs) long)) ∙ whole))
