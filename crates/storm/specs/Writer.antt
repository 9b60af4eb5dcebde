-- Meaning: the commands that the writer of a running table makes one after another, what came of each, and
-- which of them made a version (DPDK Programmer's Guide, "LPM Library", "Addition" and "Deletion"; that an
-- unchanged rule makes no version is this project's).
use Rattle.std.specs.Prelude.{ℕ, suc, ◌≡◌, ◌≤◌, Bool, true, false, IsTrue, List, [], ◌∷◌, ◌++◌, length, count_by}
use Rattle.lpm_limits.specs.declared.config.Config.{Config}
use Rattle.lpm_rules.specs.RuleMap.{RuleMap}
use Rattle.lpm_rules.specs.Changes.{rules_after}
use Rattle.lpm_rules.specs.declared.Rule.{Rule}
use Rattle.lpm_rules.specs.declared.Change.{Change}
use Rattle.lpm_rules.specs.declared.Change.TheVariants as change
use Rattle.lpm_rules.specs.declared.Put.TheVariants.{Added, Replaced}
use Rattle.fib_model.specs.declared.orders.Order.{Order}
use Rattle.fib_model.specs.declared.orders.Order.TheVariants as order
use Rattle.fib_model.specs.declared.orders.Outcome.{Outcome}
use Rattle.fib_model.specs.declared.orders.Outcome.TheVariants as outcome
use Rattle.fib_model.specs.State.{ReaderModel}
use Rattle.fib_model.specs.Outcomes.{Runs, log_after}
use Rattle.lpm_trace.specs.declared.step.WriterStep.{WriterStep}
use Rattle.lpm_trace.specs.States.{updates_begun_in}
use Rattle.lpm_writer.specs.GroupToFill.{HasWidths}
use Rattle.shared_words.specs.Layout.{InitialData}
use Rattle.shared_fib.specs.RunningTable.{Identity, Rests, WriterState, by_steps, state_of_writer, initial_writer, initial_state}
use Rattle.audit.specs.Wrong.{version_from}

-- the writer's steps stand for what the readers reported; no report is made to the writer itself
abbrev pub by_own_steps : InitialData → ReaderModel (List WriterStep)
by_own_steps initial = record {
  changes = by_steps initial;
  is_online = λ steps worker. ⊥;
  after_report = λ report worker steps. steps;
}

-- whether the command is one for the writer, and no report of a worker
abbrev pub is_for_writer : {first second : ℕ} → Order first second → Bool
is_for_writer (order.Online worker) = false
is_for_writer (order.Offline worker) = false
is_for_writer (order.Quiescent worker) = false
is_for_writer other = true

abbrev pub IsForWriter : {first second : ℕ} → Order first second → Type 0
IsForWriter order = IsTrue (is_for_writer order)

-- the change of the rule list that a command made; a rule that stays, a refused command, a flush of no
-- rules and a reclaim make none
abbrev pub change_by : {first second : ℕ} → Order first second → Outcome → List (Change first second)
change_by (order.Add p h) (outcome.Put Added) = change.Add p h ∷ []
change_by (order.Add p h) (outcome.Put Replaced) = change.Add p h ∷ []
change_by (order.Del p) (outcome.Deleted h) = change.Delete p ∷ []
change_by order.Flush (outcome.Flushed (suc n)) = change.Flush ∷ []
change_by other outcome = []

-- the change that puts a rule in
abbrev pub addition_of : {first second : ℕ} → Rule first second → Change first second
addition_of r = change.Add r.prefix r.hop

-- the accepted changes of these commands, in order, by what came of each
abbrev pub changes_by : {first second : ℕ} → List (Order first second) → List Outcome
    → List (Change first second)
changes_by [] outcomes = []
changes_by (order ∷ orders) [] = []
changes_by (order ∷ orders) (outcome ∷ outcomes) =
    change_by order outcome ++ changes_by orders outcomes

-- the versions of the writer are those of these changes, from the rules R on: as many were begun, its rules
-- are those after all of them, and for each k the rules of version k are those after the first k
pub record HasVersions {first second : ℕ} (R : RuleMap) (w : WriterState)
    (changes : List (Change first second)) : Type 0 where
  pub count : w.table.updates_begun ≡ length changes
  pub begun : updates_begun_in (state_of_writer w) ≡ length changes
  pub rules : w.table.rules ≡ rules_after R changes
  pub each : (k : ℕ) → k ≤ length changes → (state_of_writer w).history k ≡ version_from R changes k

-- the table was opened with these limits, and with its rules as version 0: by these its words answer each
-- address
pub record IsInitial (first second : ℕ) (config : Config) (id : Identity) : Type 0 where
  pub widths : HasWidths first second (initial_state id)
  pub token : id.initial.token ≡ config.first_token
  pub workers : id.initial.workers ≡ config.workers
  pub rests : Rests (initial_writer id config id.initial.rules)

-- a table was opened with these limits; then its writer made as many of these commands as there are
-- outcomes, in order, which came out so, and left it like this, with the versions of the accepted changes
-- from the table's first rules on
pub record HasMade {first second : ℕ} (id : Identity) (config : Config)
    (orders : List (Order first second)) (outcomes : List Outcome) (w : WriterState) : Type 0 where
  pub opened : IsInitial first second config id
  pub identity : w.identity ≡ id
  pub limits : w.config ≡ config
  pub some : length outcomes ≤ length orders
  pub runs : Runs (by_own_steps id.initial) first second config
      (initial_writer id config id.initial.rules).table (log_after [] orders outcomes) w.table
  pub versions : HasVersions id.initial.rules w (changes_by orders outcomes)

abbrev pub is_refused : Outcome → Bool
is_refused (outcome.Refused refusal) = true
is_refused other = false

-- how many of the commands were refused
abbrev pub refused_among : List Outcome → ℕ
refused_among outcomes = count_by is_refused outcomes
