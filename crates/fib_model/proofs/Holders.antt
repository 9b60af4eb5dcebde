-- What counters show of events: each worker's counter is 0 where it has no running reader interval, and else
-- the token number at the beginning of that interval. So both say the same of who holds an unlinking.
use Rattle.std.proofs.Common.{arith, ◌≡◌, ◌≢◌, ℕ, suc, ◌+◌, ◌<◌, ◌≤◌, ◌↔◌, ◌⊎◌, inl, inr, refl, ap, sym, ◌∙◌, subst, List, [], ◌∷◌, length, Some, IsSomeAnd, IsTrue, false, slice_index, slice_set, Result, Ok, Err}
use Rattle.std.proofs.lemmas.Bool.{cases_eq, cases_lt, eq-eqb, eqb-true, false≢true}
use Rattle.std.proofs.lemmas.List.{get_or-replicate, get_or-set_same, get_or-set_other, length-replicate, length-set}
use Rattle.qsbr.specs.Counters.{IsOnline, IsPast, IsHolding, Registry}
use Rattle.lpm_limits.specs.declared.busy.Busy.{Busy}
use Rattle.lpm_limits.specs.declared.config.Config.{Config}
use Rattle.fib_model.specs.declared.orders.ReaderReport.{ReaderReport}
use Rattle.fib_model.specs.declared.event.Event.{Event}
use Rattle.fib_model.specs.declared.event.Event.TheVariants.{Online, Offline, Quiescent, Unlinking}
use Rattle.qsbr.specs.Intervals.{event_at, IsRunningSince, IsHeldByWorker}
use Rattle.fib_model.specs.Textbook.{IsFirstHolder, begins, ends, by_reports, is_unlinking, unlinkings_before, unlinkings, event_of, textbook}
use Rattle.qsbr.proofs.RunningIntervals.{at_new, at_old, at_within, before_mono, before_old, before_next, count_more, count_same, since_within, since_new, since_kept, since_cases, held_start, start_held}
use Rattle.fib_model.specs.Counters.{IsFirstByCounter, by_counters, counter_of, initial_by_counters, counter_transitions}
use Rattle.fib_model.proofs.Unique.{IsUnheld}
use Rattle.fib_model.proofs.TwoWays.{Carries, IsCarried, AreNamed}
use Rattle.fib_model.proofs.Relations.{named_kept}
use Rattle.fib_model.specs.declared.orders.ReaderReport.TheVariants as kinds

-- the one running interval of worker w, and the token number at its beginning
pub record IsOn (first : ℕ) (E : List Event) (w counter start : ℕ) : Type 0 where
  pub since : IsRunningSince by_reports E w start
  pub only : (s : ℕ) → IsRunningSince by_reports E w s → s ≡ start
  pub counter_is : counter ≡ first + unlinkings_before E start

-- no interval of worker w runs
pub record IsOff (E : List Event) (w counter : ℕ) : Type 0 where
  pub none : (s : ℕ) → IsRunningSince by_reports E w s → ⊥
  pub counter_is : counter ≡ 0

abbrev pub IsKept : ℕ → List Event → ℕ → ℕ → Type 0
IsKept first E w counter = IsOff E w counter ⊎ ((start : ℕ) × IsOn first E w counter start)

pub record Shows (c : Config) (r : Registry) (E : List Event) : Type 0 where
  pub first : 1 ≤ c.first_token
  pub token : c.first_token + unlinkings E ≡ r.token
  pub workers : length r.counters ≡ c.workers
  pub kept : (w : ℕ) → w < c.workers → IsKept c.first_token E w (slice_index r.counters w)
  pub others : (w s : ℕ) → c.workers ≤ w → IsRunningSince by_reports E w s → ⊥

-- the unlinking at this place started this token
pub record IsName (first : ℕ) (E : List Event) (token place : ℕ) : Type 0 where
  pub unlinking : event_at E place ≡ Some Unlinking
  pub token_is : token ≡ first + unlinkings_before E (suc place)

-- ---- one more event

-- an event that isn't of worker w
kept_other : (first : ℕ) (e : Event) (E : List Event) (w counter : ℕ) → (IsTrue (begins w e) → ⊥) → (IsTrue (ends w e) → ⊥) → IsKept first E w counter → IsKept first (e ∷ E) w counter
kept_other first e E w counter begins ends (inl off) = inl record {
  none = λ s r. elim (since_cases by_reports e E w s r) [
    | inl now ↦ begins now.1
    | inr before ↦ off.none s before.0
  ];
  counter_is = off.counter_is;
}
kept_other first e E w counter begins ends (inr on) = inr (
  on.0,
  record {
    since = since_kept by_reports e E w on.0 ends on.1.since;
    only = λ s r. elim (since_cases by_reports e E w s r) [
      | inl now ↦ absurd (begins now.1)
      | inr before ↦ on.1.only s before.0
    ];
    counter_is = on.1.counter_is ∙ ap (λ n. first + n) (sym (before_old is_unlinking e E on.0 (let within = since_within by_reports E w on.0 on.1.since in omega (arith, within))));
  },
)

-- worker w begins an interval, and had none or ends its last
kept_begins : (first token : ℕ) (e : Event) (E : List Event) (w counter : ℕ) → IsTrue (begins w e) → is_unlinking e ≡ false → first + unlinkings E ≡ token
    → ((s : ℕ) → IsRunningSince by_reports E w s → (IsTrue (ends w e) → ⊥) → ⊥) → counter ≡ token → IsKept first (e ∷ E) w counter
kept_begins first token e E w counter begins report now last is = inr (
  length E,
  record {
    since = since_new by_reports e E w begins;
    only = λ s r. elim (since_cases by_reports e E w s r) [
      | inl here ↦ here.0
      | inr before ↦ absurd (last s before.0 before.1)
    ];
    counter_is = is ∙ sym now ∙ ap (λ n. first + n) (sym (before_old is_unlinking e E (length E) (omega arith)));
  },
)

-- worker w ends its interval
kept_ends : (first : ℕ) (e : Event) (E : List Event) (w counter : ℕ) → (IsTrue (begins w e) → ⊥) → IsTrue (ends w e) → counter ≡ 0 → IsKept first (e ∷ E) w counter
kept_ends first e E w counter begins ends is = inl record {
  none = λ s r. elim (since_cases by_reports e E w s r) [
    | inl now ↦ begins now.1
    | inr before ↦ before.1 ends
  ];
  counter_is = is;
}

-- ---- who is online

pub online : (c : Config) (r : Registry) (E : List Event) (w : ℕ) → Shows c r E → w < c.workers → IsOnline r.counters w ↔ ((start : ℕ) × IsRunningSince by_reports E w start)
online c r E w shows low = elim (shows.kept w low) [
  | inl off ↦ ((λ on. let z = off.counter_is in absurd (omega (arith, on, z))), (λ k. absurd (off.none k.0 k.1)))
  | inr on ↦ ((λ _. (on.0, on.1.since)), (λ _. let z = on.1.counter_is in let f = shows.first in omega (arith, z, f)))
]

-- ---- who holds an unlinking

begins_apart : (E : List Event) (w s place : ℕ) → IsRunningSince by_reports E w s → event_at E place ≡ Some Unlinking → s ≢ place
begins_apart E w s place r at is = false≢true (subst (λ o. IsSomeAnd o (λ e. IsTrue (begins w e))) (ap (event_at E) is ∙ at) r.begins)

-- by the counter a worker holds the unlinking exactly where a running interval of it does
pub holding : (c : Config) (r : Registry) (E : List Event) (token place w : ℕ) → Shows c r E → IsName c.first_token E token place → IsHolding token r.counters w ↔ IsHeldByWorker by_reports E place w
holding c r E token place w shows name = (
  (λ h.
      let many = shows.workers in
      let in_range = h.registered in
      elim (shows.kept w (omega (arith, many, in_range))) [
        | inl off ↦ let z = off.counter_is in let on = h.online in absurd (omega (arith, on, z))
        | inr on ↦
            let z = on.1.counter_is in
            let behind = h.behind in
            let t = name.token_is in
            let apart = begins_apart E w on.0 place on.1.since name.unlinking in
            elim (cases_lt on.0 place) [
              | inl below ↦ start_held by_reports E place w on.0 on.1.since below
              | inr above ↦
                  let mono = before_mono is_unlinking E (suc place) on.0 (omega (arith, above, apart)) in
                  absurd (omega (arith, mono, z, behind, t))
            ]
      ]),
  (λ h.
      let k = held_start by_reports E place w h in
      elim (cases_lt w c.workers) [
        | inr high ↦ absurd (shows.others w k.0 high k.1)
        | inl low ↦ elim (shows.kept w low) [
          | inl off ↦ absurd (off.none k.0 k.1)
          | inr on ↦
              let z = on.1.counter_is in
              let f = shows.first in
              let many = shows.workers in
              let same = on.1.only k.0 k.1 in
              let below = k.2 in
              let mono = before_mono is_unlinking E on.0 place (omega (arith, same, below)) in
              let next = before_next is_unlinking E place Unlinking name.unlinking refl in
              let t = name.token_is in
              record { registered = omega (arith, low, many); online = omega (arith, z, f); behind = omega (arith, z, mono, next, t) }
        ]
      ]),
)

past_cases : (token counter : ℕ) → IsPast token counter ⊎ ((0 < counter) × (counter < token))
past_cases token counter = elim (cases_eq counter 0) [
  | inl zero_is ↦ inl (inl zero_is)
  | inr n ↦ elim (cases_lt counter token) [
    | inl below ↦ inr (omega (arith, n), below)
    | inr above ↦ inl (inr above)
  ]
]

past_not : (token counter : ℕ) → IsPast token counter → 0 < counter → counter < token → ⊥
past_not token counter (inl z) some below = absurd (omega (arith, z, some))
past_not token counter (inr h) some below = absurd (omega (arith, h, below))

-- the counter of a worker with a running interval
counter_at : (c : Config) (r : Registry) (E : List Event) (w start : ℕ) → Shows c r E → IsRunningSince by_reports E w start → slice_index r.counters w ≡ c.first_token + unlinkings_before E start
counter_at c r E w start shows runs = elim (cases_lt w c.workers) [
  | inr high ↦ absurd (shows.others w start high runs)
  | inl low ↦ elim (shows.kept w low) [
    | inl off ↦ absurd (off.none start runs)
    | inr on ↦ on.1.counter_is ∙ ap (λ s. c.first_token + unlinkings_before E s) (sym (on.1.only start runs))
  ]
]

-- by counters and by intervals the same worker is the first that holds the unlinking
pub held : (c : Config) (r : Registry) (E : List Event) (token place : ℕ) (busy : Busy) → Shows c r E → IsName c.first_token E token place
    → IsFirstByCounter r token busy ↔ IsFirstHolder c.first_token E place busy
held c r E token place busy shows name = (
  (λ h. record {
    holds = (holding c r E token place busy.worker shows name).0 h.0.holds;
    first = λ w low k.
        let is = (holding c r E token place w shows name).1 k in
        past_not token (slice_index r.counters w) (h.0.first w low) is.online is.behind;
    counter = λ start runs. h.1 ∙ counter_at c r E busy.worker start shows runs;
  }),
  (λ h.
      let k = held_start by_reports E place busy.worker h.holds in
      let holds = (holding c r E token place busy.worker shows name).1 h.holds in (
        record {
          holds = holds;
          first = λ v low. elim (past_cases token (slice_index r.counters v)) [
            | inl past ↦ past
            | inr here ↦
                let many = holds.registered in
                absurd (h.first v low ((holding c r E token place v shows name).0 (record { registered = omega (arith, many, low); online = here.0; behind = here.1 })))
          ];
        },
        h.counter k.0 k.1 ∙ sym (counter_at c r E busy.worker k.0 shows k.1),
      )),
)

pub unheld : (c : Config) (r : Registry) (E : List Event) (token place : ℕ) → Shows c r E → IsName c.first_token E token place
    → ((busy : Busy) → ¬ IsFirstByCounter r token busy) → IsUnheld c E place
unheld c r E token place shows name none busy h = none busy ((held c r E token place busy shows name).1 h)

-- ---- the beginning, an unlinking, a report

pub shows_opened : (c : Config) → 1 ≤ c.first_token → Shows c (initial_by_counters c).readers []
shows_opened c first = record {
  first = first;
  token = omega arith;
  workers = length-replicate c.workers 0;
  kept = λ w low. inl record { none = λ s r. r.begins; counter_is = get_or-replicate c.workers w 0 0 low };
  others = λ w s high r. r.begins;
}

pub shows_unlinked : (c : Config) (r : Registry) (E : List Event) → Shows c r E → Shows c (record r { token = r.token + 1 }) (Unlinking ∷ E)
shows_unlinked c r E shows = record {
  first = shows.first;
  token = let more = count_more is_unlinking Unlinking E refl in let is = shows.token in omega (arith, more, is);
  workers = shows.workers;
  kept = λ w low. kept_other c.first_token Unlinking E w (slice_index r.counters w) false≢true false≢true (shows.kept w low);
  others = λ w s high run. elim (since_cases by_reports Unlinking E w s run) [
    | inl now ↦ false≢true now.1
    | inr before ↦ shows.others w s high before.0
  ];
}

-- what a report does to each worker's counter
told_itself : (c : Config) (r : Registry) (E : List Event) (report : ReaderReport) (w : ℕ) → Shows c r E → (report ≡ kinds.Online → (s : ℕ) → IsRunningSince by_reports E w s → ⊥)
    → IsKept c.first_token (event_of report w ∷ E) w (counter_of report r.token)
told_itself c r E kinds.Online w shows fresh = kept_begins c.first_token r.token (Online w) E w r.token (eq-eqb w w refl) refl shows.token (λ s run _. fresh refl s run) refl
told_itself c r E kinds.Offline w shows fresh = kept_ends c.first_token (Offline w) E w 0 false≢true (eq-eqb w w refl) refl
told_itself c r E kinds.Quiescent w shows fresh = kept_begins c.first_token r.token (Quiescent w) E w r.token (eq-eqb w w refl) refl shows.token (λ s run lasts. lasts (eq-eqb w w refl)) refl

no_beginning : (report : ReaderReport) (w v : ℕ) → v ≢ w → IsTrue (begins v (event_of report w)) → ⊥
no_beginning kinds.Online w v n is = n (sym (eqb-true w v is))
no_beginning kinds.Offline w v n is = false≢true is
no_beginning kinds.Quiescent w v n is = n (sym (eqb-true w v is))

no_end : (report : ReaderReport) (w v : ℕ) → v ≢ w → IsTrue (ends v (event_of report w)) → ⊥
no_end kinds.Online w v n is = false≢true is
no_end kinds.Offline w v n is = n (sym (eqb-true w v is))
no_end kinds.Quiescent w v n is = n (sym (eqb-true w v is))

is_report : (report : ReaderReport) (w : ℕ) → is_unlinking (event_of report w) ≡ false
is_report kinds.Online w = refl
is_report kinds.Offline w = refl
is_report kinds.Quiescent w = refl

pub shows_told : (c : Config) (r : Registry) (E : List Event) (report : ReaderReport) (w : ℕ) → Shows c r E → w < c.workers → (report ≡ kinds.Online → (s : ℕ) → IsRunningSince by_reports E w s → ⊥)
    → Shows c (by_counters.after_report report w r) (event_of report w ∷ E)
shows_told c r E report w shows low fresh =
    let many = shows.workers in
    let in_range : w < length r.counters = omega (arith, many, low) in
    record {
      first = shows.first;
      token = ap (λ n. c.first_token + n) (count_same is_unlinking (event_of report w) E (is_report report w)) ∙ shows.token;
      workers = length-set r.counters w (counter_of report r.token) ∙ shows.workers;
      kept = λ v below. elim (cases_eq v w) [
        | inl is ↦
            subst (λ u. IsKept c.first_token (event_of report w ∷ E) u (slice_index (slice_set r.counters w (counter_of report r.token)) u)) (sym is)
            (subst (IsKept c.first_token (event_of report w ∷ E) w) (sym (get_or-set_same r.counters w (counter_of report r.token) 0 in_range)) (told_itself c r E report w shows fresh))
        | inr n ↦
            subst (IsKept c.first_token (event_of report w ∷ E) v) (sym (get_or-set_other r.counters w v (counter_of report r.token) 0 n))
            (kept_other c.first_token (event_of report w) E v (slice_index r.counters v) (no_beginning report w v n) (no_end report w v n) (shows.kept v below))
      ];
      others = λ v s high run. elim (since_cases by_reports (event_of report w) E v s run) [
        | inl now ↦ no_beginning report w v (omega (arith, high, low)) now.1
        | inr before ↦ shows.others v s high before.0
      ];
    }

-- ---- names

pub name_new : (c : Config) (r : Registry) (E : List Event) → Shows c r E → IsName c.first_token (Unlinking ∷ E) (r.token + 1) (length E)
name_new c r E shows = record {
  unlinking = at_new Unlinking E;
  token_is = let more = count_more is_unlinking Unlinking E refl in let is = shows.token in omega (arith, more, is);
}

pub name_newer : (first : ℕ) (e : Event) (E : List Event) (token place : ℕ) → IsName first E token place → IsName first (e ∷ E) token place
name_newer first e E token place name =
    let within = at_within E place Unlinking name.unlinking in
    record {
      unlinking = at_old e E place (omega (arith, within)) ∙ name.unlinking;
      token_is = name.token_is ∙ ap (λ n. first + n) (sym (before_old is_unlinking e E (suc place) (omega (arith, within))));
    }

-- Each part of a change by counters is one by reader intervals.

-- an unlinking goes by its token, and by its place
abbrev pub Names : Config → Registry → List Event → ℕ → ℕ → Type 0
Names c r E token place = IsName c.first_token E token place

pub names_newer : (c : Config) (e : Event) (E : List Event) (ts ps : List ℕ) → AreNamed (IsName c.first_token E) ts ps → AreNamed (IsName c.first_token (e ∷ E)) ts ps
names_newer c e E ts ps = named_kept (IsName c.first_token E) (IsName c.first_token (e ∷ E)) (name_newer c.first_token e E) ts ps

same : (c : Config) (r z : Registry) (E : List Event) → Shows c r E → z ≡ r → IsCarried (Shows c) (Names c) r E z E
same c r z E shows is = (subst (λ x. Shows c x E) (sym is) shows, λ token place name. name)

checks : (c : Config) (r z : Registry) (E : List Event) (token place : ℕ) (a : Result (Unit {0}) Busy) → Shows c r E → IsName c.first_token E token place → counter_transitions.checks r token a z
    → (F : List Event) × (textbook c).checks E place a F × IsCarried (Shows c) (Names c) r E z F
checks c r z E token place (Ok passed) shows name d = (E, (unheld c r E token place shows name d.0, refl), same c r z E shows d.1)
checks c r z E token place (Err busy) shows name d = (E, ((held c r E token place busy shows name).0 d.0, refl), same c r z E shows d.1)

unlinks : (c : Config) (r z : Registry) (E : List Event) (token : ℕ) → Shows c r E → counter_transitions.unlinks r token z
    → (F : List Event) × (place : ℕ) × (textbook c).unlinks E place F × IsName c.first_token F token place × IsCarried (Shows c) (Names c) r E z F
unlinks c r z E token shows d = (
  Unlinking ∷ E,
  length E,
  (refl, refl),
  subst (λ t. IsName c.first_token (Unlinking ∷ E) t (length E)) (sym d.0) (name_new c r E shows),
  (subst (λ x. Shows c x (Unlinking ∷ E)) (sym d.1) (shows_unlinked c r E shows), name_newer c.first_token Unlinking E),
)

pub counters_carry : (c : Config) → Carries counter_transitions (textbook c) (Shows c) (Names c)
counters_carry c = record {
  token = λ r E shows. shows.token;
  checks = λ r z E token place a. checks c r z E token place a;
  begins = λ r z E shows is. (E, refl, same c r z E shows is);
  unlinks = λ r z E token. unlinks c r z E token;
  ends = λ r z E shows is. (E, refl, same c r z E shows is);
}
