-- A command on a state comes out in one way, unless memory is refused.
use Rattle.std.proofs.Common.{arith, ◌≡◌, ◌≢◌, ℕ, zero, suc, ◌+◌, ◌^◌, ◌<◌, ◌≤◌, ◌==◌, nat_lt, cond, Bool, true, false, ◌⊎◌, inl, inr, refl, ap, sym, ◌∙◌, subst, List, [], ◌∷◌, map, slice_get, Option, Some, None, Result, Ok, Err, IsSomeAnd, All}
use Rattle.std.specs.FinMap.{get, insert, len}
use Rattle.std.proofs.lemmas.Bool.{cases_lt, eq-eqb, ne_eqb, lt-ltb, le-ltb}
use Rattle.lpm_bits.specs.Network.{Network}
use Rattle.lpm_rules.specs.RuleMap.{RuleMap}
use Rattle.lpm_rules.specs.declared.Put.{Put}
use Rattle.lpm_rules.specs.declared.Put.TheVariants.{Added, Replaced, Unchanged}
use Rattle.lpm_limits.specs.declared.busy.Busy.{Busy}
use Rattle.lpm_limits.specs.declared.config.Config.{Config}
use Rattle.lpm_limits.specs.declared.refusal.Refusal.{Refusal}
use Rattle.lpm_limits.specs.declared.refusal.Refusal.TheVariants.{TooManyRules, NoSuchRule, Exhausted, NoGroups, Memory, NoSuchWorker}
use Rattle.defer_queue.specs.declared.Reclaimed.{Reclaimed}
use Rattle.fib_model.specs.declared.orders.Order.{Order}
use Rattle.fib_model.specs.declared.orders.Order.TheVariants as order
use Rattle.fib_model.specs.declared.orders.Outcome.{Outcome}
use Rattle.fib_model.specs.declared.orders.Outcome.TheVariants as outcome
use Rattle.fib_model.specs.declared.orders.ReaderReport.{ReaderReport}
use Rattle.fib_model.specs.declared.orders.ReaderReport.TheVariants as report
use Rattle.fib_model.specs.declared.event.Event.{Event}
use Rattle.fib_model.specs.State.{State, IsExhausted, HasTokens}
use Rattle.fib_model.specs.Outcomes.{LacksGroup, TakesGroup, HoldsFront, IsNew, Adds, Shrinks, Deletes, Flushes, Frees, MayReport, refusal_of, Reports, Does}
use Rattle.fib_model.specs.Textbook.{IsFirstHolder, textbook, by_intervals}
use Rattle.fib_model.specs.Laws.{OutcomesAreUnique}
use Rattle.fib_model.proofs.Relations.{lacks_or_not}
use Rattle.fib_model.proofs.Unique.{IsUnheld, one_front, one_reclaims, one_unlinks}
use Rattle.std.proofs.lemmas.Option.{same_Some}

abbrev Book : Type 0
Book = State (List Event)

not_both : (c : Config) (s : Book) → HasTokens (textbook c) c s → IsExhausted (textbook c) c s → ⊥
not_both c s has (inl h) = let t = has.0 in absurd (omega (arith, t, h))
not_both c s has (inr h) = let t = has.1 in absurd (omega (arith, t, h))

-- states of the same parts
state_is : {X : Type 0} (z z' : State X) → z.rules ≡ z'.rules → z.readers ≡ z'.readers → z.limbo ≡ z'.limbo → z.updates_begun ≡ z'.updates_begun → z ≡ z'
state_is z z' a b d e = λ i. record { rules = a i; readers = b i; limbo = d i; updates_begun = e i }

-- ---- adding: which check decides

abbrev stage : Option ℕ → ℕ → Bool → Bool → ℕ
stage (Some g) h exhausted place = cond (g == h) 0 (cond exhausted 1 2)
stage None h exhausted place = cond exhausted 1 (cond place 4 3)

stage_same : (o : Option ℕ) (h : ℕ) (x y : Bool) → o ≡ Some h → stage o h x y ≡ 0
stage_same o h x y is = ap (λ o. stage o h x y) is ∙ ap (λ b. cond b 0 (cond x 1 2)) (eq-eqb h h refl)

stage_exhausted : (o : Option ℕ) (h : ℕ) (x y : Bool) → o ≢ Some h → x ≡ true → stage o h x y ≡ 1
stage_exhausted (Some g) h x y n is = ap (λ b. cond b 0 (cond x 1 2)) (ne_eqb g h (λ e. n (ap Some e))) ∙ ap (λ b. cond b 1 2) is
stage_exhausted None h x y n is = ap (λ b. cond b 1 (cond y 4 3)) is

stage_replaced : (o : Option ℕ) (h : ℕ) (x y : Bool) → IsSomeAnd o (λ old. old ≢ h) → x ≡ false → stage o h x y ≡ 2
stage_replaced (Some g) h x y n is = ap (λ b. cond b 0 (cond x 1 2)) (ne_eqb g h n) ∙ ap (λ b. cond b 1 2) is
stage_replaced None h x y n is = absurd n

stage_new : (o : Option ℕ) (h : ℕ) (x y : Bool) → o ≡ None → x ≡ false → stage o h x y ≡ cond y 4 3
stage_new o h x y none is = ap (λ o. stage o h x y) none ∙ ap (λ b. cond b 1 (cond y 4 3)) is

abbrev is_exhausted : Config → Book → Bool
is_exhausted c s = cond (nat_lt (2 ^ 62) ((textbook c).token s.readers + c.groups)) true (cond (nat_lt s.updates_begun (2 ^ 61)) false true)

exhausted : (c : Config) (s : Book) → IsExhausted (textbook c) c s → is_exhausted c s ≡ true
exhausted c s (inl h) = ap (λ b. cond b true (cond (nat_lt s.updates_begun (2 ^ 61)) false true)) (lt-ltb _ _ h)
exhausted c s (inr h) = elim (cases_lt (2 ^ 62) ((textbook c).token s.readers + c.groups)) [
  | inl over ↦ ap (λ b. cond b true (cond (nat_lt s.updates_begun (2 ^ 61)) false true)) (lt-ltb _ _ over)
  | inr within ↦ ap (λ b. cond b true (cond (nat_lt s.updates_begun (2 ^ 61)) false true)) (le-ltb _ _ within) ∙ ap (λ b. cond b false true) (le-ltb _ _ h)
]

has_tokens : (c : Config) (s : Book) → HasTokens (textbook c) c s → is_exhausted c s ≡ false
has_tokens c s has = ap (λ b. cond b true (cond (nat_lt s.updates_begun (2 ^ 61)) false true)) (le-ltb _ _ has.0) ∙ ap (λ b. cond b false true) (lt-ltb _ _ has.1)

abbrev stage_of : Config → Book → Network → ℕ → ℕ
stage_of c s p h = stage (get s.rules p) h (is_exhausted c s) (nat_lt (len s.rules) c.rules)

-- a new rule, for which a group is taken where it lacks one
abbrev IsIn : ℕ → ℕ → Config → Book → Network → ℕ → Result Put Refusal → Book → Type 0
IsIn f g c s p h r z = (r ≡ Ok Added) × ((y : List Event) × TakesGroup (textbook c) f g c s p z.limbo y)
    × (z ≡ record s { rules = insert s.rules p h; updates_begun = s.updates_begun + 1; limbo = z.limbo })

-- the same, and none can be taken
abbrev IsOut : ℕ → ℕ → Config → Book → Network → Result Put Refusal → Book → Type 0
IsOut f g c s p r z = (oldest : Option Busy) × (r ≡ Err (NoGroups oldest)) × LacksGroup f g c s p × HoldsFront (textbook c) s oldest z.readers × (z ≡ s)

abbrev Answer : ℕ → ℕ → Config → Book → Network → ℕ → ℕ → Result Put Refusal → Book → Type 0
Answer f g c s p h zero r z = (r ≡ Ok Unchanged) × (z ≡ s)
Answer f g c s p h (suc zero) r z = (r ≡ Err Exhausted) × (z ≡ s)
Answer f g c s p h (suc (suc zero)) r z = (r ≡ Ok Replaced) × (z ≡ record s { rules = insert s.rules p h; updates_begun = s.updates_begun + 1 })
Answer f g c s p h (suc (suc (suc zero))) r z = (r ≡ Err TooManyRules) × (z ≡ s)
Answer f g c s p h (suc (suc (suc (suc n)))) r z = (get s.rules p ≡ None) × (IsIn f g c s p h r z ⊎ IsOut f g c s p r z)

stage_room : (c : Config) (s : Book) (p : Network) (h : ℕ) → IsNew (textbook c) c s p → stage_of c s p h ≡ 4
stage_room c s p h new = stage_new _ h _ _ new.0 (has_tokens c s new.1) ∙ ap (λ b. cond b 4 3) (lt-ltb _ _ new.2)

taken_readers : (f g : ℕ) (c : Config) (s : Book) (p : Network) (left : List ℕ) (y : List Event) → get s.rules p ≡ None → TakesGroup (textbook c) f g c s p left y → y ≡ s.readers
taken_readers f g c s p left y absent h = elim (lacks_or_not f g c s p absent) [
  | inl lacks ↦ (h.0 lacks).2.1
  | inr not ↦ (h.1 not).1
]

front_readers : (c : Config) (s : Book) (oldest : Option Busy) (y : List Event) → HoldsFront (textbook c) s oldest y → y ≡ s.readers
front_readers c s None y h = h.1
front_readers c s (Some busy) y h = h.2.1

answer : (f g : ℕ) (c : Config) (s z : Book) (p : Network) (h : ℕ) (r : Result Put Refusal) → r ≢ Err Memory
    → Adds (textbook c) f g c s p h r z → Answer f g c s p h (stage_of c s p h) r z
answer f g c s z p h (Ok Unchanged) m d = subst (λ n. Answer f g c s p h n (Ok Unchanged) z) (sym (stage_same _ h _ _ d.0)) (refl, d.1)
answer f g c s z p h (Ok Replaced) m d =
    subst (λ n. Answer f g c s p h n (Ok Replaced) z) (sym (stage_replaced _ h _ _ d.0 (has_tokens c s d.1)))
    (refl, state_is z (record s { rules = insert s.rules p h; updates_begun = s.updates_begun + 1 }) d.3.0 (d.2.2 ∙ d.2.1) d.4 d.3.1)
answer f g c s z p h (Ok Added) m d =
    let group = d.1 in
    let readers = group.2.2 ∙ group.2.1 ∙ taken_readers f g c s p z.limbo group.0 d.0.0 group.1 in
    subst (λ n. Answer f g c s p h n (Ok Added) z) (sym (stage_room c s p h d.0))
    (d.0.0, inl (refl, (group.0, group.1), state_is z (record s { rules = insert s.rules p h; updates_begun = s.updates_begun + 1; limbo = z.limbo }) d.2.0 readers refl d.2.1))
answer f g c s z p h (Err Exhausted) m d = subst (λ n. Answer f g c s p h n (Err Exhausted) z) (sym (stage_exhausted _ h _ _ d.0 (exhausted c s d.1))) (refl, d.2)
answer f g c s z p h (Err TooManyRules) m d =
    subst (λ n. Answer f g c s p h n (Err TooManyRules) z) (sym (stage_new _ h _ _ d.0 (has_tokens c s d.1) ∙ ap (λ b. cond b 4 3) (le-ltb _ _ d.2))) (refl, d.3)
answer f g c s z p h (Err Memory) m d = absurd (m refl)
answer f g c s z p h (Err (NoGroups oldest)) m d =
    subst (λ n. Answer f g c s p h n (Err (NoGroups oldest)) z) (sym (stage_room c s p h d.0))
    (d.0.0, inr (oldest, refl, d.1, d.2, d.3 ∙ ap (λ r. record s { readers = r }) (front_readers c s oldest z.readers d.2)))
answer f g c s z p h (Err other) m d = absurd d

one_left : (f g : ℕ) (c : Config) (s : Book) (p : Network) (a b : List ℕ) (y y' : List Event) → get s.rules p ≡ None → TakesGroup (textbook c) f g c s p a y → TakesGroup (textbook c) f g c s p b y' → a ≡ b
one_left f g c s p a b y y' absent h k = elim (lacks_or_not f g c s p absent) [
  | inl lacks ↦
      let one = h.0 lacks in
      let other = k.0 lacks in
      let same : one.0 ∷ a ≡ other.0 ∷ b = sym one.1 ∙ other.1 in
      cc
  | inr not ↦ (h.1 not).0 ∙ sym (k.1 not).0
]

front_held : (c : Config) (s : Book) (left : List ℕ) (u : ℕ) (oldest : Option Busy) (y : List Event) → s.limbo ≡ u ∷ left → IsUnheld c s.readers u → HoldsFront (textbook c) s oldest y → ⊥
front_held c s left u None y is unheld h = let no : [] ≡ u ∷ left = sym h.0 ∙ is in cc
front_held c s left u (Some busy) y is unheld h =
    unheld busy (subst (λ v. IsFirstHolder c.first_token s.readers v busy) (same_Some h.0 u (sym h.1 ∙ ap (λ l. slice_get l 0) is)) h.2.0)

not_in_and_out : (f g : ℕ) (c : Config) (s z z' : Book) (p : Network) (h : ℕ) (r r' : Result Put Refusal) → IsIn f g c s p h r z → IsOut f g c s p r' z' → ⊥
not_in_and_out f g c s z z' p h r r' a b = let front = a.1.1.0 b.2 in front_held c s z.limbo front.0 b.0 z'.readers front.1 front.2.0 b.3

one_answer : (f g : ℕ) (c : Config) (s z z' : Book) (p : Network) (h n : ℕ) (r r' : Result Put Refusal)
    → Answer f g c s p h n r z → Answer f g c s p h n r' z' → (r ≡ r') × (z ≡ z')
one_answer f g c s z z' p h zero r r' a b = (a.0 ∙ sym b.0, a.1 ∙ sym b.1)
one_answer f g c s z z' p h (suc zero) r r' a b = (a.0 ∙ sym b.0, a.1 ∙ sym b.1)
one_answer f g c s z z' p h (suc (suc zero)) r r' a b = (a.0 ∙ sym b.0, a.1 ∙ sym b.1)
one_answer f g c s z z' p h (suc (suc (suc zero))) r r' a b = (a.0 ∙ sym b.0, a.1 ∙ sym b.1)
one_answer f g c s z z' p h (suc (suc (suc (suc n)))) r r' a b = elim a.1 [
  | inl i ↦ elim b.1 [
    | inl j ↦
        let same = one_left f g c s p z.limbo z'.limbo i.1.0 j.1.0 a.0 i.1.1 j.1.1 in
        (i.0 ∙ sym j.0, i.2 ∙ ap (λ l. record s { rules = insert s.rules p h; updates_begun = s.updates_begun + 1; limbo = l }) same ∙ sym j.2)
    | inr j ↦ absurd (not_in_and_out f g c s z z' p h r r' i j)
  ]
  | inr i ↦ elim b.1 [
    | inl j ↦ absurd (not_in_and_out f g c s z' z p h r' r j i)
    | inr j ↦ (i.1 ∙ ap (λ o. Err (NoGroups o)) (one_front c s z.readers z'.readers i.0 j.0 i.3 j.3) ∙ sym j.1, i.4 ∙ sym j.4)
  ]
]

-- ---- deleting, flushing, reclaiming

one_shrunk : (f g : ℕ) (c : Config) (s z z' : Book) (R : RuleMap) → Shrinks (textbook c) f g c s R z → Shrinks (textbook c) f g c s R z' → z ≡ z'
one_shrunk f g c s z z' R a b =
    let i = a.1 in
    let j = b.1 in
    let same = one_unlinks c _ i.0 j.0 s.limbo i.1 j.1 z.limbo z'.limbo (i.2 ∙ sym j.2) i.3 j.3 in
    state_is z z' (a.2.0 ∙ sym b.2.0) (i.4 ∙ same.0 ∙ sym j.4) same.1 (a.2.1 ∙ sym b.2.1)

one_deletion : (f g : ℕ) (c : Config) (s z z' : Book) (p : Network) (r r' : Result ℕ Refusal)
    → Deletes (textbook c) f g c s p r z → Deletes (textbook c) f g c s p r' z' → (r ≡ r') × (z ≡ z')
one_deletion f g c s z z' p (Ok h) (Ok k) a b = let same : Some h ≡ Some k = sym a.0 ∙ b.0 in (cc, one_shrunk f g c s z z' _ a.1 b.1)
one_deletion f g c s z z' p (Ok h) (Err NoSuchRule) a b = let no : Some h ≡ None = sym a.0 ∙ b.0 in cc
one_deletion f g c s z z' p (Ok h) (Err Exhausted) a b = absurd (not_both c s a.1.0 b.1)
one_deletion f g c s z z' p (Ok h) (Err other) a b = absurd b
one_deletion f g c s z z' p (Err NoSuchRule) (Ok k) a b = let no : None ≡ Some k = sym a.0 ∙ b.0 in cc
one_deletion f g c s z z' p (Err NoSuchRule) (Err NoSuchRule) a b = (refl, a.1 ∙ sym b.1)
one_deletion f g c s z z' p (Err NoSuchRule) (Err Exhausted) a b = absurd (b.0 a.0)
one_deletion f g c s z z' p (Err NoSuchRule) (Err other) a b = absurd b
one_deletion f g c s z z' p (Err Exhausted) (Ok k) a b = absurd (not_both c s b.1.0 a.1)
one_deletion f g c s z z' p (Err Exhausted) (Err NoSuchRule) a b = absurd (a.0 b.0)
one_deletion f g c s z z' p (Err Exhausted) (Err Exhausted) a b = (refl, a.2 ∙ sym b.2)
one_deletion f g c s z z' p (Err Exhausted) (Err other) a b = absurd b
one_deletion f g c s z z' p (Err other) r' a b = absurd a

one_flush : (f g : ℕ) (c : Config) (s z z' : Book) (r r' : Result ℕ Refusal)
    → Flushes (textbook c) f g c s r z → Flushes (textbook c) f g c s r' z' → (r ≡ r') × (z ≡ z')
one_flush f g c s z z' (Ok n) (Ok m) a b =
    let same : n ≡ m = a.0 ∙ sym b.0 in (
      ap Ok same,
      elim (cases_lt 0 n) [
        | inl some ↦ one_shrunk f g c s z z' _ (a.2 some) (b.2 (omega (arith, some, same)))
        | inr none ↦ a.1 (omega (arith, none)) ∙ sym (b.1 (omega (arith, none, same)))
      ],
    )
one_flush f g c s z z' (Ok n) (Err Exhausted) a b = let is = a.0 in let some = b.0 in absurd (not_both c s (a.2 (omega (arith, is, some))).0 b.1)
one_flush f g c s z z' (Ok n) (Err other) a b = absurd b
one_flush f g c s z z' (Err Exhausted) (Ok n) a b = let is = b.0 in let some = a.0 in absurd (not_both c s (b.2 (omega (arith, is, some))).0 a.1)
one_flush f g c s z z' (Err Exhausted) (Err Exhausted) a b = (refl, a.2 ∙ sym b.2)
one_flush f g c s z z' (Err Exhausted) (Err other) a b = absurd b
one_flush f g c s z z' (Err other) r' a b = absurd a

one_reclaim : (c : Config) (s z z' : Book) (max : ℕ) (r r' : Reclaimed) → Frees (textbook c) s max r z → Frees (textbook c) s max r' z' → (r ≡ r') × (z ≡ z')
one_reclaim c s z z' max r r' a b =
    let same = one_reclaims c s.readers z.readers z'.readers max s.limbo r.freed r'.freed r.stopped r'.stopped z.limbo z'.limbo a.0 b.0 in (
      λ i. record { freed = same.0 i; stopped = same.1 i },
      state_is z z' (ap (λ x. x.rules) a.1 ∙ sym (ap (λ x. x.rules) b.1)) same.3 same.2 (ap (λ x. x.updates_begun) a.1 ∙ sym (ap (λ x. x.updates_begun) b.1)),
    )

-- ---- reports

-- taken, of no worker, or refused
abbrev IsReported : Config → Book → ReaderReport → ℕ → Outcome → Book → Type 0
IsReported c s report w o z = ((w < c.workers) × MayReport (by_intervals c) s report w × (o ≡ outcome.Told) × (z ≡ record s { readers = (by_intervals c).after_report report w s.readers }))
    ⊎ ((c.workers ≤ w) × (o ≡ outcome.Refused NoSuchWorker) × (z ≡ s))
    ⊎ ((w < c.workers) × (MayReport (by_intervals c) s report w → ⊥) × (o ≡ outcome.Refused (refusal_of report)) × (z ≡ s))

reported : (c : Config) (s z : Book) (report : ReaderReport) (w : ℕ) (o : Outcome) → Reports (by_intervals c) c s report w o z → IsReported c s report w o z
reported c s z report w outcome.Told d = inl (d.0, d.1, refl, d.2)
reported c s z report w (outcome.Refused NoSuchWorker) d = inr (inl (d.0, refl, d.1))
reported c s z report w (outcome.Refused refusal) d = inr (inr (d.0, d.1, ap outcome.Refused d.2, d.3))
reported c s z report w other d = absurd d

one_report : (c : Config) (s z z' : Book) (report : ReaderReport) (w : ℕ) (o o' : Outcome) → IsReported c s report w o z → IsReported c s report w o' z' → (o ≡ o') × (z ≡ z')
one_report c s z z' report w o o' (inl a) (inl b) = (a.2 ∙ sym b.2, a.3 ∙ sym b.3)
one_report c s z z' report w o o' (inl a) (inr (inl b)) = let low = a.0 in let high = b.0 in absurd (omega (arith, low, high))
one_report c s z z' report w o o' (inl a) (inr (inr b)) = absurd (b.1 a.1)
one_report c s z z' report w o o' (inr (inl a)) (inl b) = let low = b.0 in let high = a.0 in absurd (omega (arith, low, high))
one_report c s z z' report w o o' (inr (inl a)) (inr (inl b)) = (a.1 ∙ sym b.1, a.2 ∙ sym b.2)
one_report c s z z' report w o o' (inr (inl a)) (inr (inr b)) = let low = b.0 in let high = a.0 in absurd (omega (arith, low, high))
one_report c s z z' report w o o' (inr (inr a)) (inl b) = absurd (a.1 b.1)
one_report c s z z' report w o o' (inr (inr a)) (inr (inl b)) = let low = a.0 in let high = b.0 in absurd (omega (arith, low, high))
one_report c s z z' report w o o' (inr (inr a)) (inr (inr b)) = (a.2 ∙ sym b.2, a.3 ∙ sym b.3)

-- ---- runs

abbrev put_of : Result Put Refusal → Outcome
put_of (Ok put) = outcome.Put put
put_of (Err refusal) = outcome.Refused refusal

does_add : (f g : ℕ) (c : Config) (s z : Book) (p : Network) (h : ℕ) (o : Outcome) → Does (by_intervals c) f g c s (order.Add p h) o z
    → (r : Result Put Refusal) × (o ≡ put_of r) × Adds (textbook c) f g c s p h r z
does_add f g c s z p h (outcome.Put put) d = (Ok put, refl, d)
does_add f g c s z p h (outcome.Refused refusal) d = (Err refusal, refl, d)
does_add f g c s z p h other d = absurd d

abbrev deleted_of : Result ℕ Refusal → Outcome
deleted_of (Ok h) = outcome.Deleted h
deleted_of (Err refusal) = outcome.Refused refusal

does_delete : (f g : ℕ) (c : Config) (s z : Book) (p : Network) (o : Outcome) → Does (by_intervals c) f g c s (order.Del p) o z
    → (r : Result ℕ Refusal) × (o ≡ deleted_of r) × Deletes (textbook c) f g c s p r z
does_delete f g c s z p (outcome.Deleted h) d = (Ok h, refl, d)
does_delete f g c s z p (outcome.Refused refusal) d = (Err refusal, refl, d)
does_delete f g c s z p other d = absurd d

abbrev flushed_of : Result ℕ Refusal → Outcome
flushed_of (Ok n) = outcome.Flushed n
flushed_of (Err refusal) = outcome.Refused refusal

does_flush : (f g : ℕ) (c : Config) (s z : Book) (o : Outcome) → Does (by_intervals c) f g c s order.Flush o z
    → (r : Result ℕ Refusal) × (o ≡ flushed_of r) × Flushes (textbook c) f g c s r z
does_flush f g c s z (outcome.Flushed n) d = (Ok n, refl, d)
does_flush f g c s z (outcome.Refused refusal) d = (Err refusal, refl, d)
does_flush f g c s z other d = absurd d

does_reclaim : (f g : ℕ) (c : Config) (s z : Book) (max : ℕ) (o : Outcome) → Does (by_intervals c) f g c s (order.Reclaim max) o z
    → (r : Reclaimed) × (o ≡ outcome.Reclaimed r) × Frees (textbook c) s max r z
does_reclaim f g c s z max (outcome.Reclaimed r) d = (r, refl, d)
does_reclaim f g c s z max other d = absurd d

one_step : (f g : ℕ) (c : Config) (s z z' : Book) (order : Order f g) (o o' : Outcome) → o ≢ outcome.Refused Memory → o' ≢ outcome.Refused Memory
    → Does (by_intervals c) f g c s order o z → Does (by_intervals c) f g c s order o' z' → (o ≡ o') × (z ≡ z')
one_step f g c s z z' (order.Add p h) o o' m m' d d' =
    let a = does_add f g c s z p h o d in
    let b = does_add f g c s z' p h o' d' in
    let same = one_answer f g c s z z' p h (stage_of c s p h) a.0 b.0
    (answer f g c s z p h a.0 (λ e. m (a.1 ∙ ap put_of e)) a.2) (answer f g c s z' p h b.0 (λ e. m' (b.1 ∙ ap put_of e)) b.2) in
    (a.1 ∙ ap put_of same.0 ∙ sym b.1, same.1)
one_step f g c s z z' (order.Del p) o o' m m' d d' =
    let a = does_delete f g c s z p o d in
    let b = does_delete f g c s z' p o' d' in
    let same = one_deletion f g c s z z' p a.0 b.0 a.2 b.2 in
    (a.1 ∙ ap deleted_of same.0 ∙ sym b.1, same.1)
one_step f g c s z z' order.Flush o o' m m' d d' =
    let a = does_flush f g c s z o d in
    let b = does_flush f g c s z' o' d' in
    let same = one_flush f g c s z z' a.0 b.0 a.2 b.2 in
    (a.1 ∙ ap flushed_of same.0 ∙ sym b.1, same.1)
one_step f g c s z z' (order.Reclaim max) o o' m m' d d' =
    let a = does_reclaim f g c s z max o d in
    let b = does_reclaim f g c s z' max o' d' in
    let same = one_reclaim c s z z' max a.0 b.0 a.2 b.2 in
    (a.1 ∙ ap outcome.Reclaimed same.0 ∙ sym b.1, same.1)
one_step f g c s z z' (order.Online w) o o' m m' d d' =
    one_report c s z z' report.Online w o o' (reported c s z report.Online w o d) (reported c s z' report.Online w o' d')
one_step f g c s z z' (order.Offline w) o o' m m' d d' =
    one_report c s z z' report.Offline w o o' (reported c s z report.Offline w o d) (reported c s z' report.Offline w o' d')
one_step f g c s z z' (order.Quiescent w) o o' m m' d d' =
    one_report c s z z' report.Quiescent w o o' (reported c s z report.Quiescent w o d) (reported c s z' report.Quiescent w o' d')

-- what holds of all of a list holds of its first, and of the others
rest_of : {A : Type 0} (P : A → Type 0) (x : A) (xs : List A) → All P (x ∷ xs) → P x × All P xs
rest_of P x xs all = (all 0 x (omega arith), λ i d low. all (suc i) d (omega (arith, low)))

pub outcomes_are_unique : OutcomesAreUnique
outcomes_are_unique f g c [] [] z z' same all all' r r' = (refl, r ∙ sym r')
outcomes_are_unique f g c [] (done' ∷ log') z z' same all all' r r' = cc
outcomes_are_unique f g c (done ∷ log) [] z z' same all all' r r' = cc
outcomes_are_unique f g c (done ∷ log) (done' ∷ log') z z' same all all' r r' =
    let orders : done.0 ∷ map (λ x. x.0) log ≡ done'.0 ∷ map (λ x. x.0) log' = same in
    let now : done.0 ≡ done'.0 = cc in
    let earlier : map (λ x. x.0) log ≡ map (λ x. x.0) log' = cc in
    let one = rest_of (λ x. x.1 ≢ outcome.Refused Memory) done log all in
    let other = rest_of (λ x. x.1 ≢ outcome.Refused Memory) done' log' all' in
    let before = outcomes_are_unique f g c log log' r.0 r'.0 earlier one.1 other.1 r.1 r'.1 in
    let step = one_step f g c r'.0 z z' done'.0 done.1 done'.1 one.0 other.0
    (subst (λ x. Does (by_intervals c) f g c r'.0 x done.1 z) now (subst (λ x. Does (by_intervals c) f g c x done.0 done.1 z) before.1 r.2)) r'.2 in
    ((λ i. (now i, step.0 i) ∷ before.0 i), step.1)
