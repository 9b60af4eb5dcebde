-- Reader intervals that run, before and after one more event.
use Rattle.std.proofs.Common.{arith, ◌≡◌, ◌≢◌, ℕ, suc, ◌+◌, ◌<◌, ◌≤◌, ◌&&◌, inl, inr, Bool, true, false, cond, refl, ap, sym, ◌∙◌, subst, List, [], ◌∷◌, ◌++◌, length, Some, None, IsSomeAnd, nat_lt, length-append, ◌⊎◌, IsTrue, Option}
use Rattle.std.proofs.lemmas.Bool.{cases_eq, cases_lt, cases_Bool, eq-eqb, ne_eqb, lt-ltb, le-ltb}
use Rattle.qsbr.specs.Intervals.{event_at, count_before, ReportRule, IsReaderInterval, IsRunningSince, IsHeldByWorker, IsTidy, Interval, Holds, EndsAt, RunsAfterOneMore, GracePeriodIsOver}

-- Events at their places, and events counted, before and after one more event.

-- ---- events at places

pub at_new : {T : Type 0} (e : T) (E : List T) → event_at (e ∷ E) (length E) ≡ Some e
at_new e E = ap (λ b. cond b (Some e) (event_at E (length E))) (eq-eqb (length E) (length E) refl)

pub at_old : {T : Type 0} (e : T) (E : List T) (place : ℕ) → place ≢ length E → event_at (e ∷ E) place ≡ event_at E place
at_old e E place n = ap (λ b. cond b (Some e) (event_at E place)) (ne_eqb place (length E) n)

pub at_past : {T : Type 0} (E : List T) (place : ℕ) → length E ≤ place → event_at E place ≡ None
at_past [] place h = refl
at_past (e ∷ E) place h = at_old e E place (omega (arith, h)) ∙ at_past E place (omega (arith, h))

-- many newer events change nothing below
pub at_older : {T : Type 0} (newer older : List T) (place : ℕ) → place < length older → event_at (newer ++ older) place ≡ event_at older place
at_older [] older place h = refl
at_older (e ∷ newer) older place h =
    let many = length-append newer older in
    at_old e (newer ++ older) place (λ is. absurd (omega (arith, h, many, is))) ∙ at_older newer older place h

pub some_within : {T : Type 0} (P : T → Type 0) (E : List T) (place : ℕ) → IsSomeAnd (event_at E place) P → place < length E
some_within P E place some = elim (cases_lt place (length E)) [
  | inl within ↦ within
  | inr past ↦ absurd (subst (λ o. IsSomeAnd o P) (at_past E place past) some)
]

pub at_within : {T : Type 0} (E : List T) (place : ℕ) (e : T) → event_at E place ≡ Some e → place < length E
at_within E place e at = elim (cases_lt place (length E)) [
  | inl within ↦ within
  | inr past ↦ let no : None ≡ Some e = sym (at_past E place past) ∙ at in cc
]

-- what holds of the event at a place, before and after one more event
pub some_older : {T : Type 0} (P : T → Type 0) (e : T) (E : List T) (place : ℕ) → place ≢ length E → IsSomeAnd (event_at (e ∷ E) place) P → IsSomeAnd (event_at E place) P
some_older P e E place n some = subst (λ o. IsSomeAnd o P) (at_old e E place n) some

pub some_newer : {T : Type 0} (P : T → Type 0) (e : T) (E : List T) (place : ℕ) → IsSomeAnd (event_at E place) P → IsSomeAnd (event_at (e ∷ E) place) P
some_newer P e E place some =
    let within = some_within P E place some in
    subst (λ o. IsSomeAnd o P) (sym (at_old e E place (omega (arith, within)))) some

pub some_newest : {T : Type 0} (P : T → Type 0) (e : T) (E : List T) (place : ℕ) → place ≡ length E → IsSomeAnd (event_at (e ∷ E) place) P → P e
some_newest P e E place is some = subst (λ o. IsSomeAnd o P) (ap (event_at (e ∷ E)) is ∙ at_new e E) some

-- ---- events counted

-- one event that passes the test, or not, and stands at place l
abbrev pub one_below : Bool → ℕ → ℕ → ℕ
one_below passes l n = cond (passes && nat_lt l n) 1 0

pub below_yes : (passes : Bool) (l n : ℕ) → passes ≡ true → l < n → one_below passes l n ≡ 1
below_yes passes l n is h = ap (λ b. one_below b l n) is ∙ ap (λ b. cond b 1 0) (lt-ltb l n h)

pub below_no : (passes : Bool) (l n : ℕ) → n ≤ l → one_below passes l n ≡ 0
below_no true l n h = ap (λ b. cond b 1 0) (le-ltb l n h)
below_no false l n h = refl

pub below_not : (passes : Bool) (l n : ℕ) → passes ≡ false → one_below passes l n ≡ 0
below_not passes l n is = ap (λ b. one_below b l n) is

below_mono : (passes : Bool) (l m n : ℕ) → m ≤ n → one_below passes l m ≤ one_below passes l n
below_mono false l m n h = omega arith
below_mono true l m n h = elim (cases_lt l m) [
  | inl low ↦ let a = below_yes true l m refl low in let b = below_yes true l n refl (omega (arith, low, h)) in omega (arith, a, b)
  | inr high ↦ let a = below_no true l m high in omega (arith, a)
]

pub before_mono : {T : Type 0} (test : T → Bool) (E : List T) (m n : ℕ) → m ≤ n → count_before test E m ≤ count_before test E n
before_mono test [] m n h = omega arith
before_mono test (e ∷ E) m n h =
    let rest = before_mono test E m n h in
    let one = below_mono (test e) (length E) m n h in
    omega (arith, rest, one)

-- one more event adds none before the older places
pub before_old : {T : Type 0} (test : T → Bool) (e : T) (E : List T) (n : ℕ) → n ≤ length E → count_before test (e ∷ E) n ≡ count_before test E n
before_old test e E n h = let none = below_no (test e) (length E) n h in omega (arith, none)

-- nor does an event that fails the test
pub before_not : {T : Type 0} (test : T → Bool) (e : T) (E : List T) (n : ℕ) → test e ≡ false → count_before test (e ∷ E) n ≡ count_before test E n
before_not test e E n not = let none = below_not (test e) (length E) n not in omega (arith, none)

-- past the newest event there are no more
before_past : {T : Type 0} (test : T → Bool) (E : List T) (m n : ℕ) → length E ≤ m → length E ≤ n → count_before test E m ≡ count_before test E n
before_past test [] m n l k = refl
before_past test (e ∷ E) m n l k =
    let rest = before_past test E m n (omega (arith, l)) (omega (arith, k)) in
    elim (cases_Bool (test e)) [
      | inl is ↦
          let a = below_yes (test e) (length E) m is (omega (arith, l)) in
          let b = below_yes (test e) (length E) n is (omega (arith, k)) in
          omega (arith, rest, a, b)
      | inr not ↦ before_not test e E m not ∙ rest ∙ sym (before_not test e E n not)
    ]

pub count_more : {T : Type 0} (test : T → Bool) (e : T) (E : List T) → test e ≡ true → count_before test (e ∷ E) (suc (length E)) ≡ count_before test E (length E) + 1
count_more test e E is =
    let rest = before_past test E (suc (length E)) (length E) (omega arith) (omega arith) in
    let a = below_yes (test e) (length E) (suc (length E)) is (omega arith) in
    omega (arith, rest, a)

pub count_same : {T : Type 0} (test : T → Bool) (e : T) (E : List T) → test e ≡ false → count_before test (e ∷ E) (suc (length E)) ≡ count_before test E (length E)
count_same test e E not = before_not test e E (suc (length E)) not ∙ before_past test E (suc (length E)) (length E) (omega arith) (omega arith)

-- an event that passes the test counts from the next place on
before_here : {T : Type 0} (test : T → Bool) (e : T) (E : List T) (place : ℕ) → test e ≡ true → place ≡ length E → count_before test (e ∷ E) place < count_before test (e ∷ E) (suc place)
before_here test e E place is here =
    let rest = before_mono test E place (suc place) (omega arith) in
    let a = below_no (test e) (length E) place (omega (arith, here)) in
    let b = below_yes (test e) (length E) (suc place) is (omega (arith, here)) in
    omega (arith, rest, a, b)

pub before_next : {T : Type 0} (test : T → Bool) (E : List T) (place : ℕ) (e : T) → event_at E place ≡ Some e → test e ≡ true → count_before test E place < count_before test E (suc place)
before_next test [] place e at is = cc
before_next test (f ∷ E) place e at is = elim (cases_eq place (length E)) [
  | inl here ↦
      let same : Some f ≡ Some e = sym (ap (event_at (f ∷ E)) here ∙ at_new f E) ∙ at in
      let one : f ≡ e = cc in
      before_here test f E place (ap test one ∙ is) here
  | inr n ↦
      let rest = before_next test E place e (sym (at_old f E place n) ∙ at) is in
      let one = below_mono (test f) (length E) place (suc place) (omega arith) in
      omega (arith, rest, one)
]

pub since_within : {T : Type 0} (b : ReportRule T) (E : List T) (w s : ℕ) → IsRunningSince b E w s → s < length E
since_within b E w s r = some_within (λ e. IsTrue (b.begins w e)) E s r.begins

pub since_new : {T : Type 0} (b : ReportRule T) (e : T) (E : List T) (w : ℕ) → IsTrue (b.begins w e) → IsRunningSince b (e ∷ E) w (length E)
since_new b e E w begins = record {
  begins = subst (λ o. IsSomeAnd o (λ e. IsTrue (b.begins w e))) (sym (at_new e E)) begins;
  ends = λ place after end. let within = some_within (λ e. IsTrue (b.ends w e)) (e ∷ E) place end in absurd (omega (arith, within, after));
}

pub since_kept : {T : Type 0} (b : ReportRule T) (e : T) (E : List T) (w s : ℕ) → ¬ IsTrue (b.ends w e) → IsRunningSince b E w s → IsRunningSince b (e ∷ E) w s
since_kept b e E w s lasts r = record {
  begins = some_newer (λ e. IsTrue (b.begins w e)) e E s r.begins;
  ends = λ place after end. elim (cases_eq place (length E)) [
    | inl is ↦ lasts (some_newest (λ e. IsTrue (b.ends w e)) e E place is end)
    | inr n ↦ r.ends place after (some_older (λ e. IsTrue (b.ends w e)) e E place n end)
  ];
}

since_older : {T : Type 0} (b : ReportRule T) (e : T) (E : List T) (w s : ℕ) → s ≢ length E → IsRunningSince b (e ∷ E) w s → IsRunningSince b E w s
since_older b e E w s n r = record {
  begins = some_older (λ e. IsTrue (b.begins w e)) e E s n r.begins;
  ends = λ place after end. r.ends place after (some_newer (λ e. IsTrue (b.ends w e)) e E place end);
}

since_lasts : {T : Type 0} (b : ReportRule T) (e : T) (E : List T) (w s : ℕ) → s ≢ length E → IsRunningSince b (e ∷ E) w s → ¬ IsTrue (b.ends w e)
since_lasts b e E w s n r end =
    let within = since_within b (e ∷ E) w s r in
    r.ends (length E) (omega (arith, within, n)) (subst (λ o. IsSomeAnd o (λ e. IsTrue (b.ends w e))) (sym (at_new e E)) end)

-- an interval that runs began with the newest event, or ran before it and isn't ended by it
pub since_cases : {T : Type 0} (b : ReportRule T) (e : T) (E : List T) (w s : ℕ) → IsRunningSince b (e ∷ E) w s
    → ((s ≡ length E) × IsTrue (b.begins w e)) ⊎ (IsRunningSince b E w s × ¬ IsTrue (b.ends w e))
since_cases b e E w s r = elim (cases_eq s (length E)) [
  | inl is ↦ inl (is, some_newest (λ e. IsTrue (b.begins w e)) e E s is r.begins)
  | inr n ↦ inr (since_older b e E w s n r, since_lasts b e E w s n r)
]

since_from : {T : Type 0} (b : ReportRule T) (e : T) (E : List T) (w s : ℕ) → ((s ≡ length E) × IsTrue (b.begins w e)) ⊎ (IsRunningSince b E w s × ¬ IsTrue (b.ends w e))
    → IsRunningSince b (e ∷ E) w s
since_from b e E w s (inl now) = subst (IsRunningSince b (e ∷ E) w) (sym now.0) (since_new b e E w now.1)
since_from b e E w s (inr before) = since_kept b e E w s before.1 before.0

pub runs_after_one_more : (T : Type 0) → RunsAfterOneMore T
runs_after_one_more T b e E w s = (since_cases b e E w s, since_from b e E w s)

-- ---- workers that take turns

-- an event that begins no interval where one runs on, and none of a number past the workers
pub tidy_more : {T : Type 0} (b : ReportRule T) (workers : ℕ) (e : T) (E : List T) → IsTidy b workers E → ((w s : ℕ) → IsTrue (b.begins w e) → IsRunningSince b E w s → ¬ IsTrue (b.ends w e) → ⊥) → ((w : ℕ) → workers ≤ w → IsTrue (b.begins w e) → ⊥)
    → IsTidy b workers (e ∷ E)
tidy_more b workers e E tidy fresh others = record {
  one = λ w s t r q. elim (since_cases b e E w s r) [
    | inl a ↦ elim (since_cases b e E w t q) [
      | inl n ↦ a.0 ∙ sym n.0
      | inr o ↦ absurd (fresh w t a.1 o.0 o.1)
    ]
    | inr a ↦ elim (since_cases b e E w t q) [
      | inl n ↦ absurd (fresh w s n.1 a.0 a.1)
      | inr o ↦ tidy.one w s t a.0 o.0
    ]
  ];
  others = λ w s high r. elim (since_cases b e E w s r) [
    | inl a ↦ others w high a.1
    | inr a ↦ tidy.others w s high a.0
  ];
}

-- ---- who holds a place

held_start_of : {T : Type 0} (b : ReportRule T) (E : List T) (place w v start : ℕ) (end : Option ℕ) → v ≡ w → end ≡ None → IsReaderInterval b E (record { worker = v; start = start; end = end }) → start < place
    → (s : ℕ) × IsRunningSince b E w s × (s < place)
held_start_of b E place w v start end ew ee r below =
    (start, subst (λ o. IsReaderInterval b E (record { worker = w; start = start; end = o })) ee (subst (λ u. IsReaderInterval b E (record { worker = u; start = start; end = end })) ew r), below)

pub held_start : {T : Type 0} (b : ReportRule T) (E : List T) (place w : ℕ) → IsHeldByWorker b E place w → (s : ℕ) × IsRunningSince b E w s × (s < place)
held_start b E place w h = held_start_of b E place w h.0.worker h.0.start h.0.end h.1 h.2 h.3 h.4.0

pub start_held : {T : Type 0} (b : ReportRule T) (E : List T) (place w s : ℕ) → IsRunningSince b E w s → s < place → IsHeldByWorker b E place w
start_held b E place w s r below = (record { worker = w; start = s; end = None }, refl, refl, r, (below, tt))

-- An interval that holds two places ran between them.

-- what holds of an event holds of it beneath newer events
some_beneath : {T : Type 0} (P : T → Type 0) (newer older : List T) (place : ℕ) → IsSomeAnd (event_at older place) P → IsSomeAnd (event_at (newer ++ older) place) P
some_beneath P newer older place some = subst (λ o. IsSomeAnd o P) (sym (at_older newer older place (some_within P older place some))) some

-- an interval that holds a later place has no end before it
not_ended : {T : Type 0} (b : ReportRule T) (E : List T) (w start : ℕ) (end : Option ℕ) (later : ℕ) → IsReaderInterval b E (record { worker = w; start = start; end = end })
    → Holds (record { worker = w; start = start; end = end }) later → (place : ℕ) → start < place → place < later → ¬ EndsAt b E w place
not_ended b E w start None later r holds place after before = r.ends place after
not_ended b E w start (Some end) later r holds place after before = let stop = holds.1 in r.ends.2 place after (omega (arith, before, stop))

-- an interval that holds a later place ran among the older events
ran : {T : Type 0} (b : ReportRule T) (newer older : List T) (i : Interval) (later : ℕ) → i.start < length older → length older ≤ later → IsReaderInterval b (newer ++ older) i → Holds i later
    → IsRunningSince b older i.worker i.start
ran b newer older i later low high r holds = record {
  begins = subst (λ o. IsSomeAnd o (λ e. IsTrue (b.begins i.worker e))) (at_older newer older i.start low) r.begins;
  ends = λ place after end.
      let within = some_within (λ e. IsTrue (b.ends i.worker e)) older place end in
      not_ended b (newer ++ older) i.worker i.start i.end later r holds place after (omega (arith, within, high))
      (some_beneath (λ e. IsTrue (b.ends i.worker e)) newer older place end);
}

pub grace_period_is_over : (T : Type 0) → GracePeriodIsOver T
grace_period_is_over T b newer older place later i within unheld now r holds holds_later =
    let begun = holds.0 in
    unheld i.worker (start_held b older place i.worker i.start (ran b newer older i later (omega (arith, begun, within)) now r holds_later) begun)
