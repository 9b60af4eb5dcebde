-- What a writer has made of a list of commands, with one command more.
use Rattle.std.proofs.Common.{arith, ◌≡◌, ◌+◌, ◌<◌, ◌≤◌, ℕ, zero, suc, inl, inr, refl, ap, ◌∙◌, sym, subst, List, [], ◌∷◌, length, Option, Some, None, Result, Ok, Err, ◌++◌, get_or, length-append, append_assoc}
use Rattle.std.specs.Prelude.{All}
use Rattle.std.proofs.lemmas.List.{nil_from_length}
use Rattle.std.proofs.lemmas.List.Elements.{All-head, All-tail}
use Rattle.lpm_limits.specs.declared.busy.Busy.{Busy}
use Rattle.defer_queue.specs.declared.Reclaimed.{Reclaimed}
use Rattle.fib_model.specs.State.{State}
use Rattle.fib_model.specs.Outcomes.{Frees, Does, Log, Runs, log_after}
use Rattle.lpm_trace.specs.declared.step.WriterStep.{WriterStep}
use Rattle.lpm_trace.specs.States.{InitialState}
use Rattle.lpm_trace.specs.Writer.{passed_after}
use Rattle.lpm_writer.specs.Steps.{by_steps_from}
use Rattle.lpm_limits.specs.declared.config.Config.{Config}
use Rattle.fib_model.specs.declared.orders.Order.{Order}
use Rattle.fib_model.specs.declared.orders.Outcome.{Outcome}
use Rattle.lpm_writer.specs.GroupToFill.{HasWidths}
use Rattle.lpm_rules.specs.RuleMap.{RuleMap}
use Rattle.lpm_rules.specs.declared.Change.{Change}
use Rattle.shared_fib.specs.RunningTable.{Identity, Rests, WriterState, initial_writer, initial_state}
use Rattle.storm.specs.Writer.{HasMade, HasVersions, IsForWriter, IsInitial, by_own_steps, change_by, changes_by}
use Rattle.storm.proofs.Versions.{append_nil, versions_next, versions_none}
use Rattle.defer_queue.specs.Reclaims as queue

-- Where each token that waits has passed, a reclaim of all that waits leaves nothing in limbo.

module _ (c : InitialState) (some : 0 < c.workers) where
  -- these tokens have passed after the steps x
  abbrev HavePassed : List WriterStep → List ℕ → Type 0
  HavePassed x tokens = All (λ token. token ≤ passed_after c.workers x) tokens

  -- a check of a token that has passed loads nothing, and passes
  passes : (x : List WriterStep) (token : ℕ) (r : Result (Unit {0}) Busy) (z : List WriterStep) → token ≤ passed_after c.workers x
      → (by_steps_from c.workers c.token).checks x token r z → (r ≡ Ok tt) × (z ≡ x)
  passes x token r z has (inl h) = (h.1, h.2)
  passes x token r z has (inr h) = let late = h.0 some in absurd (omega (arith, has, late))

  -- what is left of the queue after the first n were freed
  record IsLeft (x : List WriterStep) (n : ℕ) (items left : List ℕ) (y : List WriterStep) : Type 0 where
    same : y ≡ x
    count : length left + n ≡ length items
    passed : HavePassed x left

  front : (n : ℕ) (items : List ℕ) (x left : _) (y : List WriterStep) → HavePassed x items
      → queue.FreesFront (by_steps_from c.workers c.token).checks (λ y name w. w ≡ y) n items x left y → IsLeft x n items left y
  front zero items x left y has h = record {
    same = h.1;
    count = let e : length left ≡ length items = ap (λ (l : List ℕ). length l) h.0 in omega (arith, e);
    passed = subst (HavePassed x) (sym h.0) has;
  }
  front (suc n) [] x left y has h = absurd h
  front (suc n) (item ∷ rest) x left y has h =
      let P = λ (token : ℕ). token ≤ passed_after c.workers x in
      let here = passes x item (Ok tt) h.0 (All-head P item rest has) h.2 in
      let still : h.1 ≡ x = h.3 ∙ here.1 in
      let then : IsLeft h.1 n rest left y =
      front n rest h.1 left y (subst (λ (s : List WriterStep). HavePassed s rest) (sym still) (All-tail P item rest has)) h.4 in
      record {
        same = then.same ∙ still;
        count = omega (arith, then.count);
        passed = subst (λ (s : List WriterStep). HavePassed s left) still then.passed;
      }

  none_left : (max n : ℕ) (left : List ℕ) (y : List WriterStep) (stopped : Option Busy) (z : List WriterStep) → HavePassed y left
      → length left + n ≡ max → queue.Ends (by_steps_from c.workers c.token).checks (λ y name w. w ≡ y) max n left y stopped z → left ≡ []
  none_left max n left y None z has count (inl most, same) = nil_from_length left (omega (arith, most, count))
  none_left max n left y None z has count (inr none, same) = none
  none_left max n [] y (Some busy) z has count h = refl
  none_left max n (item ∷ rest) y (Some busy) z has count h =
      let P = λ (token : ℕ). token ≤ passed_after c.workers y in
      absurd (not_both busy (passes y item (Err busy) z (All-head P item rest has) h.1).0)
    where
      not_both : (busy : Busy) → ◌≡◌ {A = Result (Unit {0}) Busy} (Err busy) (Ok tt) → ⊥
      not_both busy e = cc

  pub emptied : (s z : State (List WriterStep)) (r : Reclaimed) → HavePassed s.readers s.limbo
      → Frees (by_steps_from c.workers c.token) s (length s.limbo) r z → z.limbo ≡ []
  emptied s z r has h =
      let k = h.0 in
      let left : IsLeft s.readers r.freed s.limbo z.limbo k.last = front r.freed s.limbo s.readers z.limbo k.last has k.front in
      none_left (length s.limbo) r.freed z.limbo k.last r.stopped z.readers
      (subst (λ (x : List WriterStep). HavePassed x z.limbo) (sym left.same) left.passed) left.count k.end

module _ (f s : ℕ) where
  logged_none : (log : Log f s) (cs : List (Order f s)) → log_after log cs [] ≡ log
  logged_none log [] = refl
  logged_none log (c ∷ cs) = refl

  -- the next command of a list, with its outcome
  pub logged_next : (log : Log f s) (cs : List (Order f s)) (os : List Outcome) (c : Order f s) (o : Outcome)
      → length os < length cs → c ≡ get_or cs (length os) c
      → log_after log cs (os ++ o ∷ []) ≡ (c, o) ∷ log_after log cs os
  logged_next log [] os c o low at = absurd (omega (arith, low))
  logged_next log (y ∷ cs) [] c o low at = logged_none ((y, o) ∷ log) cs ∙ ap (λ (z : Order f s). (z, o) ∷ log) (sym at)
  logged_next log (y ∷ cs) (x ∷ os) c o low at = logged_next ((y, x) ∷ log) cs os c o (omega (arith, low)) at

  no_changes : (cs : List (Order f s)) → changes_by cs [] ≡ []
  no_changes [] = refl
  no_changes (c ∷ cs) = refl

  -- the changes of some commands, with those of the next one
  changes_then : (cs : List (Order f s)) (os : List Outcome) (c : Order f s) (o : Outcome) → length os < length cs
      → c ≡ get_or cs (length os) c → changes_by cs (os ++ o ∷ []) ≡ changes_by cs os ++ change_by c o
  changes_then [] os c o low at = absurd (omega (arith, low))
  changes_then (y ∷ cs) [] c o low at =
      ap (λ (xs : List (Change f s)). change_by y o ++ xs) (no_changes cs)
      ∙ (append_nil (change_by y o) ∙ ap (λ (z : Order f s). change_by z o) (sym at))
  changes_then (y ∷ cs) (x ∷ os) c o low at =
      ap (λ (xs : List (Change f s)). change_by y x ++ xs) (changes_then cs os c o (omega (arith, low)) at)
      ∙ sym (append_assoc (change_by y x) (changes_by cs os) (change_by c o))

  -- a table that was just opened with some rules has them as its first ones
  pub first_rules : (id : Identity) (config : Config) (R : RuleMap) (w : WriterState) → w ≡ initial_writer id config R → Rests w
      → id.initial.rules ≡ R
  first_rules id config R w new rests = (subst Rests new rests).rules

  -- of such a table no command was made
  pub made_none : (id : Identity) (config : Config) (R : RuleMap) (cs : List (Order f s)) (os : List Outcome) (w : WriterState)
      → HasWidths f s (initial_state id) → id.initial.token ≡ config.first_token → id.initial.workers ≡ config.workers
      → w ≡ initial_writer id config R → Rests w → os ≡ [] → HasMade id config cs os w
  made_none id config R cs os w widths token workers new rests none =
      let first : WriterState = initial_writer id config id.initial.rules in
      let is : w ≡ first = new ∙ ap (initial_writer id config) (sym (first_rules id config R w new rests)) in
      let opened : IsInitial f s config id = record { widths = widths; token = token; workers = workers; rests = subst Rests is rests } in
      let nothing : HasMade id config cs [] first = record {
        opened = opened;
        identity = refl;
        limits = refl;
        some = omega arith;
        runs = subst (λ (log : Log f s). Runs (by_own_steps id.initial) f s config first.table log first.table) (sym (logged_none [] cs)) refl;
        versions = subst (HasVersions id.initial.rules first) (sym (no_changes cs)) (versions_none f s id config);
      } in
      subst (HasMade id config cs os) (sym is) (subst (λ (l : List Outcome). HasMade id config cs l first) (sym none) nothing)

  pub made_next : (id : Identity) (config : Config) (cs : List (Order f s)) (os : List Outcome) (c : Order f s) (o : Outcome)
      (w z : WriterState) → length os < length cs → c ≡ get_or cs (length os) c → HasMade id config cs os w
      → Does (by_own_steps id.initial) f s w.config w.table c o z.table → z.identity ≡ w.identity → z.config ≡ w.config
      → IsForWriter c → Rests z → HasMade id config cs (os ++ o ∷ []) z
  made_next id config cs os c o w z low at h does own limits mine rests = record {
    opened = h.opened;
    identity = own ∙ h.identity;
    limits = limits ∙ h.limits;
    some = omega (arith, low, length-append os (o ∷ []));
    runs = subst (λ (log : Log f s). Runs (by_own_steps id.initial) f s config (initial_writer id config id.initial.rules).table log z.table)
        (sym (logged_next [] cs os c o low at))
        (w.table, h.runs, subst (λ (k : Config). Does (by_own_steps id.initial) f s k w.table c o z.table) h.limits does);
    versions = subst (HasVersions id.initial.rules z) (sym (changes_then cs os c o low at))
        (versions_next f s id.initial.rules id w.config w z (changes_by cs os) c o h.versions h.identity (own ∙ h.identity) mine rests does);
  }
