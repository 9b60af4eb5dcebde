-- What a list of commands came to, told by reader intervals and versions.
use Rattle.std.proofs.Common.{arith, ◌≡◌, ℕ, ◌+◌, ◌<◌, refl, ap, sym, ◌∙◌, subst, List, [], ◌∷◌, ◌++◌, length, take, min, get_or}
use Rattle.std.specs.Prelude.{slice_set}
use Rattle.std.proofs.lemmas.List.{take_more, take_more_set, length-take}
use Rattle.lpm_limits.specs.declared.config.Config.{Config}
use Rattle.lpm_limits.specs.Limits.{IsConfig}
use Rattle.qsbr.specs.Counters.{Registry}
use Rattle.fib_model.specs.declared.orders.Order.{Order}
use Rattle.fib_model.specs.declared.orders.Outcome.{Outcome}
use Rattle.fib_model.specs.declared.event.Event.{Event}
use Rattle.fib_model.specs.State.{State}
use Rattle.fib_model.specs.Outcomes.{Log, Runs, log_after, groups_in_use}
use Rattle.fib_model.specs.Counters.{by_counters, initial_by_counters}
use Rattle.fib_model.specs.Textbook.{by_intervals, initial_by_events}
use Rattle.fib_model.specs.Laws.{Agrees, history, last_of}
use Rattle.fib_model.proofs.Runs.{counters_tell_intervals}
use Rattle.std.specs.FinMap.{len}
use Rattle.lpm_rules.specs.Longest.{AreLongestHops}
use Rattle.fib_model.proofs.Versions.{rules_are_last_version}
use Rattle.fib.specs.declared.replay.Replay.{Replay}
use Rattle.fib.specs.Fib.{FibState, initial_fib}
use Rattle.fib.specs.Replay.{GoesOn, IsAsked, IsReplay}

-- Logs that grow.

module _ (f s : ℕ) where
  -- one more command and its outcome
  pub logged_more : (log : Log f s) (cs : List (Order f s)) (os : List Outcome) (c : Order f s) (o : Outcome) → length cs ≡ length os
      → log_after log (cs ++ c ∷ []) (os ++ o ∷ []) ≡ (c, o) ∷ log_after log cs os
  logged_more log [] [] c o e = refl
  logged_more log [] (x ∷ os) c o e = absurd (omega (arith, e))
  logged_more log (y ∷ cs) [] c o e = absurd (omega (arith, e))
  logged_more log (y ∷ cs) (x ∷ os) c o e = logged_more ((y, x) ∷ log) cs os c o (omega (arith, e))

  -- what was logged before stays below
  logged_on : (log older : Log f s) (cs : List (Order f s)) (os : List Outcome) → log_after (log ++ older) cs os ≡ log_after log cs os ++ older
  logged_on log older [] os = refl
  logged_on log older (c ∷ cs) [] = refl
  logged_on log older (c ∷ cs) (o ∷ os) = logged_on ((c, o) ∷ log) older cs os

  runs_on : (c : Config) (x y z : State Registry) (log older : Log f s) → Runs by_counters f s c x older y → Runs by_counters f s c y log z → Runs by_counters f s c x (log ++ older) z
  runs_on c x y z [] older before r = subst (λ w. Runs by_counters f s c x older w) (sym r) before
  runs_on c x y z (done ∷ log) older before r = (r.0, runs_on c x y r.0 log older before r.1, r.2)

  -- a run after another, told by reader intervals
  pub told : (c : Config) (y z : State Registry) (older : Log f s) (cs : List (Order f s)) (os : List Outcome) → IsConfig c → Runs by_counters f s c (initial_by_counters c) older y → Runs by_counters f s c y (log_after [] cs os) z
      → (w : State (List Event)) × Runs (by_intervals c) f s c initial_by_events (log_after older cs os) w × Agrees c z w
  told c y z older cs os limits before r =
      counters_tell_intervals f s c (log_after older cs os) z limits
      (subst (λ l. Runs by_counters f s c (initial_by_counters c) l z) (sym (logged_on [] older cs os)) (runs_on c (initial_by_counters c) y z (log_after [] cs os) older before r))

  -- the log when one more command of a list is done
  pub log_next : (cs : List (Order f s)) (os : List Outcome) (i : ℕ) (c : Order f s) (o : Outcome) → i < length cs → c ≡ get_or cs i c → length os ≡ length cs
      → log_after [] (take (i + 1) cs) (take (i + 1) (slice_set os i o)) ≡ (c, o) ∷ log_after [] (take i cs) (take i os)
  log_next cs os i c o low read room =
      let here : i < length os = omega (arith, low, room) in
      ap (λ xs. log_after [] xs (take (i + 1) (slice_set os i o))) (take_more cs i c low ∙ ap (λ (x : Order f s). take i cs ++ x ∷ []) (sym read))
      ∙ ap (λ ys. log_after [] (take i cs ++ c ∷ []) ys) (take_more_set os i o here)
      ∙ logged_more [] (take i cs) (take i os) c o (length-take i cs ∙ ap (min i) (sym room) ∙ sym (length-take i os))

pub is_replay : (f s : ℕ) (c : Config) (x : FibState) (z : State Registry) (orders : _) (addrs : List ℕ) (r : Replay) → x ≡ initial_fib c
    → GoesOn f s x.config x.table orders r.outcomes.items z → IsAsked f s x.config z addrs r
    → IsReplay f s c (log_after [] orders r.outcomes.items) addrs r
is_replay f s c x z orders addrs r new on asked =
    let limits = ap (λ (y : FibState). y.config) new in
    let table = ap (λ (y : FibState). y.table) new in
    let told = subst (λ (k : Config). GoesOn f s k x.table orders r.outcomes.items z) limits on [] table in
    let law = rules_are_last_version f s c (log_after [] orders r.outcomes.items) told.0 told.1 in
    let agrees : Agrees c z told.0 = told.2 in
    let last : z.rules ≡ last_of (history (log_after [] orders r.outcomes.items)) = sym agrees.rules ∙ law.0 in
    record {
      state = told.0;
      runs = told.1;
      hops = subst (λ R. AreLongestHops (f + s) R addrs r.hops.items) last asked.hops;
      rules = asked.rules ∙ ap (λ R. len R) last;
      versions = asked.versions ∙ sym agrees.begun ∙ law.1;
      in_use = asked.in_use ∙ ap (groups_in_use f s) last;
      limbo = asked.limbo ∙ sym agrees.waiting;
      groups = asked.groups ∙ ap (λ (k : Config). k.groups) limits;
      token = asked.token ∙ sym agrees.token;
    }
