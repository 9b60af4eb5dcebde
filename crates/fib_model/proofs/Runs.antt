-- A run by counters is followed by one by reader intervals, command by command.
use Rattle.std.proofs.Common.{◌≡◌, ℕ, ◌<◌, ◌≤◌, ◌↔◌, refl, ap, sym, subst, List, [], ◌∷◌, Ok, Err, arith, ◌+◌, ◌∙◌, ◌++◌, length, take, get_or, Result}
use Rattle.qsbr.specs.Counters.{Registry}
use Rattle.lpm_limits.specs.declared.config.Config.{Config}
use Rattle.lpm_limits.specs.declared.refusal.Refusal.TheVariants.{NoSuchWorker}
use Rattle.fib_model.specs.declared.orders.Order.{Order}
use Rattle.fib_model.specs.declared.orders.Outcome.{Outcome}
use Rattle.fib_model.specs.declared.orders.ReaderReport.{ReaderReport}
use Rattle.fib_model.specs.declared.event.Event.{Event}
use Rattle.qsbr.specs.Intervals.{IsRunningSince, IsTidy}
use Rattle.fib_model.specs.Textbook.{by_reports, textbook, by_intervals, initial_by_events, event_of}
use Rattle.fib_model.specs.State.{State}
use Rattle.fib_model.specs.Outcomes.{MayReport, Reports, Does, Log, Runs, log_after}
use Rattle.fib_model.specs.Counters.{counter_transitions, by_counters, initial_by_counters}
use Rattle.fib_model.specs.Laws.{Agrees, CountersTellIntervals}
use Rattle.fib_model.proofs.Holders.{Shows, IsName, online, held, shows_opened, shows_told, Names, names_newer, counters_carry}
use Rattle.fib_model.proofs.TwoWays.{Follows, AreFollowed, AreNamed, beside}
use Rattle.fib_model.proofs.Relations.{named_length, named_at, changes_carry_over, Keeps, IsKept, AnyName, tokens_alone, changes_keep}
use Rattle.std.proofs.lemmas.List.{length-take-le, take_more}
use Rattle.std.proofs.lemmas.Bool.{eqb-true, false≢true}
use Rattle.fib_model.specs.declared.event.Event.TheVariants.{Online, Offline, Quiescent, Unlinking}
use Rattle.qsbr.proofs.RunningIntervals.{tidy_more}
use Rattle.lpm_limits.specs.declared.busy.Busy.{Busy}
use Rattle.fib_model.specs.declared.orders.Order.TheVariants as order
use Rattle.fib_model.specs.declared.orders.Outcome.TheVariants as outcome
use Rattle.fib_model.specs.declared.orders.ReaderReport.TheVariants as kinds

-- some events that z's counters tell, so that the state by events is as D says
abbrev Tells : Config → State Registry → (State (List Event) → Type 0) → Type 0
Tells c z D = Follows (Shows c) (Names c) z D

-- a state that was left as it was
keeps : (c : Config) (s z : State Registry) (E : List Event) (ps : List ℕ) → Shows c s.readers E → AreNamed (IsName c.first_token E) s.limbo ps → z ≡ s
    → (D : State (List Event) → Type 0) → D (beside s E ps) → Tells c z D
keeps c s z E ps shows names is D d = subst (λ (x : State Registry). Tells c x D) (sym is) (E, ps, d, shows, names)

-- ---- reports

may : (c : Config) (s : State Registry) (E : List Event) (ps : List ℕ) (report : ReaderReport) (w : ℕ) → Shows c s.readers E → w < c.workers
    → MayReport by_counters s report w ↔ MayReport (by_intervals c) (beside s E ps) report w
may c s E ps kinds.Online w shows low =
    let is = online c s.readers E w shows low in
    ((λ h k. h (is.1 k)), (λ h k. h (is.0 k)))
may c s E ps kinds.Offline w shows low = online c s.readers E w shows low
may c s E ps kinds.Quiescent w shows low = online c s.readers E w shows low

pub fresh : (c : Config) (s : State (List Event)) (report : ReaderReport) (w : ℕ) → MayReport (by_intervals c) s report w → report ≡ kinds.Online → (start : ℕ) → IsRunningSince by_reports s.readers w start → ⊥
fresh c s kinds.Online w may is start r = may (start, r)
fresh c s kinds.Offline w may is start r = cc
fresh c s kinds.Quiescent w may is start r = cc

reports : (c : Config) (s z : State Registry) (E : List Event) (ps : List ℕ) (report : ReaderReport) (w : ℕ) (o : Outcome) → Shows c s.readers E → AreNamed (IsName c.first_token E) s.limbo ps
    → Reports by_counters c s report w o z → Tells c z (Reports (by_intervals c) c (beside s E ps) report w o)
reports c s z E ps report w outcome.Told shows names d =
    let can = (may c s E ps report w shows d.0).0 d.1 in
    let F = event_of report w ∷ E in (
      F,
      ps,
      (d.0, can, ap (λ x. beside x F ps) d.2),
      subst (λ (x : State Registry). Shows c x.readers F) (sym d.2) (shows_told c s.readers E report w shows d.0 (fresh c (beside s E ps) report w can)),
      subst (λ (x : State Registry). AreNamed (IsName c.first_token F) x.limbo ps) (sym d.2) (names_newer c (event_of report w) E s.limbo ps names),
    )
reports c s z E ps report w (outcome.Refused NoSuchWorker) shows names d = keeps c s z E ps shows names d.1 (Reports (by_intervals c) c (beside s E ps) report w (outcome.Refused NoSuchWorker)) (d.0, refl)
reports c s z E ps report w (outcome.Refused refusal) shows names d =
    keeps c s z E ps shows names d.3 (Reports (by_intervals c) c (beside s E ps) report w (outcome.Refused refusal)) (d.0, (λ h. d.1 ((may c s E ps report w shows d.0).1 h)), d.2, refl)
reports c s z E ps report w other shows names d = absurd d

-- ---- runs

module _ (f g : ℕ) (c : Config) (s z : State Registry) (E : List Event) (ps : List ℕ) (shows : Shows c s.readers E) (names : AreNamed (IsName c.first_token E) s.limbo ps) where
  followed_by : AreFollowed counter_transitions (textbook c) (Shows c) (Names c) f g c s (beside s E ps)
  followed_by = changes_carry_over Registry (List Event) counter_transitions (textbook c) (Shows c) (Names c) (counters_carry c) f g c s E ps shows names

  step : (order : Order f g) (outcome : Outcome) → Does by_counters f g c s order outcome z → Tells c z (Does (by_intervals c) f g c (beside s E ps) order outcome)
  step (order.Add p h) (outcome.Put put) d = followed_by.adds z p h (Ok put) d
  step (order.Add p h) (outcome.Refused refusal) d = followed_by.adds z p h (Err refusal) d
  step (order.Add p h) other d = absurd d
  step (order.Del p) (outcome.Deleted h) d = followed_by.deletes z p (Ok h) d
  step (order.Del p) (outcome.Refused refusal) d = followed_by.deletes z p (Err refusal) d
  step (order.Del p) other d = absurd d
  step order.Flush (outcome.Flushed n) d = followed_by.flushes z (Ok n) d
  step order.Flush (outcome.Refused refusal) d = followed_by.flushes z (Err refusal) d
  step order.Flush other d = absurd d
  step (order.Reclaim max) (outcome.Reclaimed r) d = followed_by.frees z max r d
  step (order.Reclaim max) other d = absurd d
  step (order.Online w) o d = reports c s z E ps kinds.Online w o shows names d
  step (order.Offline w) o d = reports c s z E ps kinds.Offline w o shows names d
  step (order.Quiescent w) o d = reports c s z E ps kinds.Quiescent w o shows names d

followed : (f g : ℕ) (c : Config) (log : Log f g) (z : State Registry) → 1 ≤ c.first_token → Runs by_counters f g c (initial_by_counters c) log z
    → Tells c z (Runs (by_intervals c) f g c initial_by_events log)
followed f g c [] z first r = subst (λ (x : State Registry). Tells c x (Runs (by_intervals c) f g c initial_by_events [])) (sym r) ([], [], refl, shows_opened c first, tt)
followed f g c (done ∷ log) z first r =
    let before = followed f g c log r.0 first r.1 in
    let now = step f g c r.0 z before.0 before.1 before.3 before.4 done.0 done.1 r.2 in
    (now.0, now.1, (beside r.0 before.0 before.1, before.2, now.2), now.3, now.4)

agrees : (c : Config) (z : State Registry) (E : List Event) (ps : List ℕ) → Shows c z.readers E → AreNamed (IsName c.first_token E) z.limbo ps → Agrees c z (beside z E ps)
agrees c z E ps shows names = record {
  rules = refl;
  begun = refl;
  token = shows.token;
  online = λ w low. online c z.readers E w shows low;
  waiting = named_length (IsName c.first_token E) z.limbo ps names;
  held = λ place low busy.
      let is = held c z.readers E _ _ busy shows (named_at (IsName c.first_token E) z.limbo ps place 0 0 names low) in
      ((λ h. (is.0 h.0, refl)), (λ h. (is.1 h.0, refl)));
}

pub counters_tell_intervals : CountersTellIntervals
counters_tell_intervals f g c log z config r =
    let is = followed f g c log z config.first_token.0 r in
    (beside z is.0 is.1, is.2, agrees c z is.0 is.1 is.3 is.4)

-- The log after one more command.

logged_last : (f g : ℕ) (log : Log f g) (orders : List (Order f g)) (outcomes : List Outcome) (order : Order f g) (outcome : Outcome) → length orders ≡ length outcomes
    → log_after log (orders ++ order ∷ []) (outcomes ++ outcome ∷ []) ≡ (order, outcome) ∷ log_after log orders outcomes
logged_last f g log [] [] order outcome same = refl
logged_last f g log [] (o ∷ os) order outcome same = absurd (omega (arith, same))
logged_last f g log (d ∷ ds) [] order outcome same = absurd (omega (arith, same))
logged_last f g log (d ∷ ds) (o ∷ os) order outcome same = logged_last f g ((d, o) ∷ log) ds os order outcome (omega (arith, same))

pub logged_more : (f g : ℕ) (orders : List (Order f g)) (i : ℕ) (outcomes more : List Outcome) (order d : Order f g) (outcome : Outcome) → i < length orders → length outcomes ≡ i
    → order ≡ get_or orders i d → more ≡ outcomes ++ outcome ∷ [] → log_after [] (take (i + 1) orders) more ≡ (order, outcome) ∷ log_after [] (take i orders) outcomes
logged_more f g orders i outcomes more order d outcome low each is pushed =
    let size = length-take-le i orders (omega (arith, low)) in
    ap (λ os. log_after [] (take (i + 1) orders) os) pushed
    ∙ ap (λ cs. log_after [] cs (outcomes ++ outcome ∷ [])) (take_more orders i d low)
    ∙ ap (λ e. log_after [] (take i orders ++ e ∷ []) (outcomes ++ outcome ∷ [])) (sym is)
    ∙ logged_last f g [] (take i orders) outcomes order outcome (omega (arith, size, each))

-- Events stay tidy.

pub tidy_unlinked : (workers : ℕ) (E : List Event) → IsTidy by_reports workers E → IsTidy by_reports workers (Unlinking ∷ E)
tidy_unlinked workers E tidy = tidy_more by_reports workers Unlinking E tidy (λ w s begins r lasts. absurd (false≢true begins)) (λ w high. false≢true)

pub tidy_told : (workers : ℕ) (E : List Event) (report : ReaderReport) (w : ℕ) → IsTidy by_reports workers E → w < workers → (report ≡ kinds.Online → (s : ℕ) → IsRunningSince by_reports E w s → ⊥) → IsTidy by_reports workers (event_of report w ∷ E)
tidy_told workers E kinds.Online w tidy low fresh =
    tidy_more by_reports workers (Online w) E tidy (λ v s begins r lasts. fresh refl s (subst (λ u. IsRunningSince by_reports E u s) (sym (eqb-true w v begins)) r)) (λ v high begins. let is = eqb-true w v begins in absurd (omega (arith, high, is, low)))
tidy_told workers E kinds.Offline w tidy low fresh = tidy_more by_reports workers (Offline w) E tidy (λ v s begins r lasts. absurd (false≢true begins)) (λ v high. false≢true)
tidy_told workers E kinds.Quiescent w tidy low fresh =
    tidy_more by_reports workers (Quiescent w) E tidy (λ v s begins r lasts. lasts begins) (λ v high begins. let is = eqb-true w v begins in absurd (omega (arith, high, is, low)))

-- The events of a run are tidy.

-- the readers of a state are tidy
abbrev pub IsTidyState : Config → State (List Event) → Type 0
IsTidyState c s = IsTidy by_reports c.workers s.readers

-- a check only looks
looked : (c : Config) (E : List Event) (place : ℕ) (r : Result (Unit {0}) Busy) (z : List Event) → (textbook c).checks E place r z → z ≡ E
looked c E place (Ok passed) z d = d.1
looked c E place (Err busy) z d = d.1

same : (c : Config) (E z : List Event) → IsTidy by_reports c.workers E → z ≡ E → IsTidy by_reports c.workers z
same c E z tidy is = subst (IsTidy by_reports c.workers) (sym is) tidy

tidy_kept : (c : Config) → Keeps (textbook c) (IsTidy by_reports c.workers)
tidy_kept c = record {
  checks = λ E place r z tidy d. same c E z tidy (looked c E place r z d);
  begins = λ E z tidy d. same c E z tidy d;
  unlinks = λ E place z tidy d. same c (Unlinking ∷ E) z (tidy_unlinked c.workers E tidy) d.1;
  ends = λ E z tidy d. same c E z tidy d;
}

tidy_reports : (c : Config) (s z : State (List Event)) (report : ReaderReport) (w : ℕ) (o : Outcome) → IsTidyState c s → Reports (by_intervals c) c s report w o z → IsTidyState c z
tidy_reports c s z report w outcome.Told tidy d =
    same c (event_of report w ∷ s.readers) z.readers (tidy_told c.workers s.readers report w tidy d.0 (fresh c s report w d.1)) (ap (λ x. x.readers) d.2)
tidy_reports c s z report w (outcome.Refused NoSuchWorker) tidy d = same c s.readers z.readers tidy (ap (λ x. x.readers) d.1)
tidy_reports c s z report w (outcome.Refused refusal) tidy d = same c s.readers z.readers tidy (ap (λ x. x.readers) d.3)
tidy_reports c s z report w other tidy d = absurd d

module _ (f g : ℕ) (c : Config) (s z : State (List Event)) (tidy : IsTidyState c s) where
  tidy_changes : AreFollowed (textbook c) tokens_alone (IsKept (textbook c) (IsTidy by_reports c.workers)) AnyName f g c s (beside s ((textbook c).token s.readers) s.limbo)
  tidy_changes = changes_keep (textbook c) (IsTidy by_reports c.workers) (tidy_kept c) f g c s tidy

  tidy_step : (order : Order f g) (outcome : Outcome) → Does (by_intervals c) f g c s order outcome z → IsTidyState c z
  tidy_step (order.Add p h) (outcome.Put put) d = (tidy_changes.adds z p h (Ok put) d).3.0
  tidy_step (order.Add p h) (outcome.Refused refusal) d = (tidy_changes.adds z p h (Err refusal) d).3.0
  tidy_step (order.Add p h) other d = absurd d
  tidy_step (order.Del p) (outcome.Deleted h) d = (tidy_changes.deletes z p (Ok h) d).3.0
  tidy_step (order.Del p) (outcome.Refused refusal) d = (tidy_changes.deletes z p (Err refusal) d).3.0
  tidy_step (order.Del p) other d = absurd d
  tidy_step order.Flush (outcome.Flushed n) d = (tidy_changes.flushes z (Ok n) d).3.0
  tidy_step order.Flush (outcome.Refused refusal) d = (tidy_changes.flushes z (Err refusal) d).3.0
  tidy_step order.Flush other d = absurd d
  tidy_step (order.Reclaim max) (outcome.Reclaimed r) d = (tidy_changes.frees z max r d).3.0
  tidy_step (order.Reclaim max) other d = absurd d
  tidy_step (order.Online w) o d = tidy_reports c s z kinds.Online w o tidy d
  tidy_step (order.Offline w) o d = tidy_reports c s z kinds.Offline w o tidy d
  tidy_step (order.Quiescent w) o d = tidy_reports c s z kinds.Quiescent w o tidy d

pub tidy_run : (f g : ℕ) (c : Config) (log : Log f g) (z : State (List Event)) → Runs (by_intervals c) f g c initial_by_events log z → IsTidyState c z
tidy_run f g c [] z r = subst (IsTidy by_reports c.workers) (sym (ap (λ x. x.readers) r)) record { one = λ w s t a b. absurd a.begins; others = λ w s high a. a.begins }
tidy_run f g c (done ∷ log) z r = tidy_step f g c r.0 z (tidy_run f g c log r.0 r.1) done.0 done.1 r.2
