-- What the plain program finds in a list of events, and in what waits.
use Rattle.std.proofs.Common.{arith, ◌≡◌, ℕ, ◌+◌, ◌<◌, ◌≤◌, inl, inr, min, ap, sym, ◌∙◌, subst, refl, List, [], ◌∷◌, ◌++◌, length, reverse, remove, drop, take, get_or, Option, Some, None, MatchOption, Bool, IsTrue, IsFalse, ◌&&◌, cond, nat_lt, zero, suc}
use Rattle.std.proofs.Math.Seq.{drop-cons}
use Rattle.std.proofs.lemmas.Bool.{cases_Bool, true≢false, cases_lt}
use Rattle.std.proofs.lemmas.List.{length-reverse, length-take-le, reverse-append, take_more, drop_all}
use Rattle.lpm_limits.specs.declared.busy.Busy.{Busy}
use Rattle.lpm_limits.specs.declared.config.Config.{Config}
use Rattle.qsbr.specs.Intervals.{IsRunningSince, IsHeldByWorker, IsTidy}
use Rattle.qsbr.proofs.RunningIntervals.{since_new, since_kept, since_cases, held_start}
use Rattle.defer_queue.specs.Reclaims.{Ends, FreesFront}
use Rattle.fib_model.specs.declared.event.Event.{Event}
use Rattle.fib_model.specs.Textbook.{begins, ends, by_reports, textbook, is_unlinking, unlinkings_before, IsFirstHolder}
use Rattle.fib_model.specs.State.{Reclaims}
use Rattle.fib_model.proofs.Unique.{IsUnheld, Freed}

-- Going over the events from the oldest on: what is found in the first of them, and in one more.

-- the place where a running interval of w began, or none where none runs
abbrev pub IsFound : List Event → ℕ → Option ℕ → Type 0
IsFound E w since = MatchOption since ((s : ℕ) → IsRunningSince by_reports E w s → ⊥) (λ s. IsRunningSince by_reports E w s)

pub reverse_more : (xs : List Event) (i : ℕ) (e d : Event) → i < length xs → e ≡ get_or xs i d → reverse (take (i + 1) xs) ≡ e ∷ reverse (take i xs)
reverse_more xs i e d low is =
    ap reverse (take_more xs i d low) ∙ reverse-append (take i xs) (get_or xs i d ∷ []) ∙ ap (λ x. x ∷ reverse (take i xs)) (sym is)

pub length_front : (xs : List Event) (i : ℕ) → i ≤ length xs → length (reverse (take i xs)) ≡ i
length_front xs i low = length-reverse (take i xs) ∙ length-take-le i xs low

found_kept : (E : List Event) (e : Event) (w : ℕ) (since : Option ℕ) → IsFalse (begins w e) → IsFalse (ends w e) → IsFound E w since → IsFound (e ∷ E) w since
found_kept E e w None begin end found = λ s r. elim (since_cases by_reports e E w s r) [
  | inl now ↦ true≢false (sym now.1 ∙ begin)
  | inr before ↦ found s before.0
]
found_kept E e w (Some s) begin end found = since_kept by_reports e E w s (λ ended. true≢false (sym ended ∙ end)) found

found_ended : (E : List Event) (e : Event) (w : ℕ) → IsFalse (begins w e) → IsTrue (ends w e) → IsFound (e ∷ E) w None
found_ended E e w begin end = λ s r. elim (since_cases by_reports e E w s r) [
  | inl now ↦ true≢false (sym now.1 ∙ begin)
  | inr before ↦ before.1 end
]

found_after : (E : List Event) (e : Event) (w place : ℕ) (since result : Option ℕ) → place ≡ length E → IsFound E w since
    → (IsTrue (begins w e) → result ≡ Some place) → (IsFalse (begins w e) → IsTrue (ends w e) → result ≡ None) → (IsFalse (begins w e) → IsFalse (ends w e) → result ≡ since)
    → IsFound (e ∷ E) w result
found_after E e w place since result at found begin end other = elim (cases_Bool (begins w e)) [
  | inl b ↦ subst (IsFound (e ∷ E) w) (ap Some (sym at) ∙ sym (begin b)) (since_new by_reports e E w b)
  | inr nb ↦ elim (cases_Bool (ends w e)) [
    | inl n ↦ subst (IsFound (e ∷ E) w) (sym (end nb n)) (found_ended E e w nb n)
    | inr nn ↦ subst (IsFound (e ∷ E) w) (sym (other nb nn)) (found_kept E e w since nb nn found)
  ]
]

pub found_more : (xs : List Event) (i w : ℕ) (e d : Event) (since result : Option ℕ) → i < length xs → e ≡ get_or xs i d → IsFound (reverse (take i xs)) w since
    → (IsTrue (begins w e) → result ≡ Some i) → (IsFalse (begins w e) → IsTrue (ends w e) → result ≡ None) → (IsFalse (begins w e) → IsFalse (ends w e) → result ≡ since)
    → IsFound (reverse (take (i + 1) xs)) w result
found_more xs i w e d since result low is found begin end other =
    subst (λ E. IsFound E w result) (sym (reverse_more xs i e d low is))
    (found_after (reverse (take i xs)) e w i since result (sym (length_front xs i (omega (arith, low)))) found begin end other)

-- ---- unlinkings

-- one more event counts where it is an unlinking before the place
pub counted : (xs : List Event) (i place n m : ℕ) (e d : Event) (counts : Bool) → i < length xs → e ≡ get_or xs i d → counts ≡ (is_unlinking e && nat_lt i place)
    → n ≡ unlinkings_before (reverse (take i xs)) place → m ≡ n + cond counts 1 0 → m ≡ unlinkings_before (reverse (take (i + 1) xs)) place
counted xs i place n m e d counts low is test old new =
    new
    ∙ ap (λ k. k + cond counts 1 0) old
    ∙ ap (λ b. unlinkings_before (reverse (take i xs)) place + cond b 1 0) test
    ∙ ap (λ k. unlinkings_before (reverse (take i xs)) place + cond (is_unlinking e && nat_lt k place) 1 0) (sym (length_front xs i (omega (arith, low))))
    ∙ sym (ap (λ E. unlinkings_before E place) (reverse_more xs i e d low is))

-- What is pushed last is the newest, and the front of a list is taken.

pub newest : (xs : List Event) (e : Event) → reverse (xs ++ e ∷ []) ≡ e ∷ reverse xs
newest xs e = reverse-append xs (e ∷ [])

pub tidy_pushed : (workers : ℕ) (xs : List Event) (e : Event) (ys : List Event) → ys ≡ xs ++ e ∷ [] → IsTidy by_reports workers (e ∷ reverse xs) → IsTidy by_reports workers (reverse ys)
tidy_pushed workers xs e ys is tidy = subst (IsTidy by_reports workers) (sym (ap reverse is ∙ newest xs e)) tidy

pub front_removed : (limbo : List ℕ) (u d : ℕ) → 0 < length limbo → u ≡ get_or limbo 0 d → limbo ≡ u ∷ remove limbo 0
front_removed [] u d some is = absurd (omega (arith, some))
front_removed (x ∷ limbo) u d some is = ap (λ y. y ∷ limbo) (sym is)

-- How far the front of a limbo list goes that no worker holds.

pub none_hold : (c : Config) (E : List Event) (place : ℕ) → IsTidy by_reports c.workers E → ((w : ℕ) → w < c.workers → IsHeldByWorker by_reports E place w → ⊥) → IsUnheld c E place
none_hold c E place tidy none busy h = elim (cases_lt busy.worker c.workers) [
  | inl low ↦ none busy.worker low h.holds
  | inr high ↦ let k = held_start by_reports E place busy.worker h.holds in tidy.others busy.worker k.0 high k.1
]

-- each of the first n is checked, and passes
all_pass : (c : Config) (E : List Event) (n : ℕ) (limbo : List ℕ) → n ≤ length limbo → ((k : ℕ) → k < n → IsUnheld c E (get_or limbo k 0)) → FreesFront (textbook c).checks Freed n limbo E (drop n limbo) E
all_pass c E zero limbo within none = (refl, refl)
all_pass c E (suc n) [] within none = absurd (omega (arith, within))
all_pass c E (suc n) (u ∷ limbo) within none =
    (E, E, (none 0 (omega arith), refl), refl, all_pass c E n limbo (omega (arith, within)) (λ k low. none (suc k) (omega (arith, low))))

pub front_all : (c : Config) (E : List Event) (max : ℕ) (limbo : List ℕ) (freed : ℕ) → freed ≡ min max (length limbo) → ((k : ℕ) → k < freed → IsUnheld c E (get_or limbo k 0))
    → Reclaims (textbook c) E max limbo freed None (drop freed limbo) E
front_all c E max limbo freed is none = record {
  at_most = omega (arith, is);
  last = E;
  front = all_pass c E freed limbo (omega (arith, is)) none;
  end = (
    elim (cases_lt freed max) [
      | inl below ↦ inr (drop_all freed limbo (omega (arith, is, below)))
      | inr above ↦ inl (omega (arith, is, above))
    ],
    refl,
  );
}

pub front_stopped : (c : Config) (E : List Event) (max : ℕ) (limbo : List ℕ) (freed u d : ℕ) (busy : Busy) → freed < min max (length limbo) → u ≡ get_or limbo freed d
    → IsFirstHolder c.first_token E u busy → ((k : ℕ) → k < freed → IsUnheld c E (get_or limbo k 0)) → Reclaims (textbook c) E max limbo freed (Some busy) (drop freed limbo) E
front_stopped c E max limbo freed u d busy low is holds none = record {
  at_most = omega (arith, low);
  last = E;
  front = all_pass c E freed limbo (omega (arith, low)) none;
  end = subst (λ left. Ends (textbook c).checks Freed max freed left E (Some busy) E)
      (sym (drop-cons limbo freed d (omega (arith, low)) ∙ ap (λ v. v ∷ drop (suc freed) limbo) (sym is)))
      (omega (arith, low), (holds, refl));
}
