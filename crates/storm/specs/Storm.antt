-- Meaning: what comes of a storm (this project's: every answer is held against the versions of the rules).
use Rattle.std.specs.Prelude.{ℕ, ◌≡◌, ◌≢◌, ◌+◌, ◌*◌, ◌<◌, ◌≤◌, ◌^◌, ◌⊎◌, ⊤, List, All, length, if◌then◌else◌, []}
use Rattle.lpm_limits.specs.declared.config.Config.{Config}
use Rattle.lpm_limits.specs.Limits.{IsConfig}
use Rattle.lpm_rules.specs.RuleMap.{rules_of}
use Rattle.fib_model.specs.declared.orders.Outcome.{Outcome}
use Rattle.shared_fib.specs.RunningTable.{Identity, WriterState, token_of, Rests, by_steps, steps_of}
use Rattle.storm.specs.declared.plan.Plan.{Plan}
use Rattle.storm.specs.declared.plan.StormError.{StormError}
use Rattle.storm.specs.Writer.{HasMade, changes_by, refused_among}
use Rattle.std.specs.FinMap.{len}
use Rattle.fib_model.specs.State.{State}
use Rattle.fib_model.specs.Outcomes.{Frees, groups_in_use}
use Rattle.lpm_writer.specs.Steps.{Synchronizes}
use Rattle.defer_queue.specs.declared.Reclaimed.{Reclaimed}
use Rattle.shared_fib.specs.Passes.{PassState}
use Rattle.audit.specs.declared.report.TableCounts.{TableCounts}
use Rattle.audit.specs.declared.report.StormReport.{StormReport}
use Rattle.audit.specs.Wrong.{AreWrong, IsOfSomeVersion}
use Rattle.storm.specs.Workers.{AreOfWorkers, HasLookedUp, answers_of_passes}
use Rattle.lpm_limits.specs.declared.refusal.Refusal.TheVariants as refusals
use Rattle.fib_model.specs.declared.orders.Outcome.TheVariants as outcome
use Rattle.storm.specs.declared.plan.StormError.TheVariants as errors

-- What a storm is asked to do, how far its writer came, and how it comes to nothing (this
-- project's: workers look up in a running table beside the writer, which changes it).

-- the limits of the table: where a worker is stuck, it is one more than those that look up
abbrev pub limits_of : {first second : ℕ} → Plan first second → Config
limits_of p = record p.config { workers = p.config.workers + (if p.has_stuck_worker then 1 else 0) }

-- the most answers of a storm
abbrev pub most_answers : ℕ
most_answers = 16777216

-- how many answers are asked for
abbrev pub answer_count : {first second : ℕ} → Plan first second → ℕ
answer_count p = p.config.workers * (p.rounds * length p.addrs.now)

-- there is a worker, the limits of the table are in their ranges, and not too many answers are asked for
pub record IsInRange {first second : ℕ} (p : Plan first second) : Type 0 where
  pub some : 0 < p.config.workers
  pub limits : IsConfig (limits_of p)
  pub few : answer_count p ≤ most_answers

-- a limit of the table is out of range, or too many answers are asked for
abbrev pub IsTooMuch : {first second : ℕ} → Plan first second → Type 0
IsTooMuch p = (¬ IsConfig (limits_of p)) ⊎ (most_answers < answer_count p)

-- on a table that was opened with the rules of the plan its writer made all commands, none of which wanted
-- memory that wasn't there
pub record HasMadeAll {first second : ℕ} (p : Plan first second) (id : Identity) (outcomes : List Outcome)
    (w : WriterState) : Type 0 where
  pub made : HasMade id (limits_of p) p.orders.now outcomes w
  pub rules : id.initial.rules ≡ rules_of p.rules.now
  pub all : length outcomes ≡ length p.orders.now
  pub had_memory : All (λ o. o ≢ outcome.Refused refusals.Memory) outcomes

-- after all commands fewer tokens than groups were left
pub record LacksTokens {first second : ℕ} (p : Plan first second) : Type 0 where
  pub id : Identity
  pub outcomes : List Outcome
  pub last : WriterState
  pub made : HasMadeAll p id outcomes last
  pub tokens : 2 ^ 62 < token_of last + p.config.groups

-- before its table is opened a storm of this plan comes to nothing so
abbrev pub EndsBefore : {first second : ℕ} → Plan first second → StormError → Type 0
EndsBefore p errors.NoWorkers = p.config.workers ≡ 0
EndsBefore p errors.BadConfig = (0 < p.config.workers) × IsTooMuch p
EndsBefore p other = ⊥

-- on its table a storm of this plan comes to nothing so; want of memory and of a thread can come at any time
abbrev pub EndsStorm : {first second : ℕ} → Plan first second → StormError → Type 0
EndsStorm p errors.Exhausted = LacksTokens p
EndsStorm p errors.NoThread = ⊤
EndsStorm p errors.Memory = ⊤
EndsStorm p other = ⊥

-- the writer of this table has synchronized, and then reclaimed all that waited; it is at rest, and nothing
-- waits any more
pub record Settles (id : Identity) (last end : WriterState) : Type 0 where
  pub passed : WriterState
  pub reclaimed : Reclaimed
  pub synchronizes : Synchronizes id.initial.workers id.initial.token (steps_of last)
      (steps_of passed)
  pub same : passed ≡ record last { table = record last.table { readers = steps_of passed } }
  pub frees : Frees (by_steps id.initial) passed.table (length last.table.limbo) reclaimed end.table
  pub identity : end.identity ≡ id
  pub config : end.config ≡ last.config
  pub rests : Rests end
  pub emptied : end.table.limbo ≡ []

-- the report has what a table counts that has so many groups in all and this newest token
pub record IsCountOf {X : Type 0} (first second : ℕ) (table : State X) (all newest : ℕ)
    (r : TableCounts) : Type 0 where
  pub rules : r.rules ≡ len table.rules
  pub versions : r.versions ≡ table.updates_begun
  pub in_use : r.in_use ≡ groups_in_use first second table.rules
  pub limbo : r.limbo ≡ length table.limbo
  pub groups : r.in_use + r.limbo + r.free ≡ all
  pub token : r.token ≡ newest

-- A storm of this plan came out so. The pass of each worker has looked the whole list up in each round. Each
-- answer is the longest match in a version from its `lo` to its `hi`: those of the accepted changes, from the
-- rules of the plan on. So none is wrong. In the end no group waits.
pub record IsStorm {first second : ℕ} (p : Plan first second) (r : StormReport) : Type 0 where
  pub id : Identity
  pub outcomes : List Outcome
  pub last : WriterState
  pub end : WriterState
  pub passes : List PassState
  pub made : HasMadeAll p id outcomes last
  pub count : length passes ≡ p.config.workers
  pub workers : AreOfWorkers passes
  pub looked : All (HasLookedUp id p.addrs.now p.rounds (steps_of last)) passes
  pub right : All (IsOfSomeVersion (rules_of p.rules.now) (changes_by p.orders.now outcomes))
      (answers_of_passes passes)
  pub settles : Settles id last end
  pub answered : r.answers ≡ answer_count p
  pub refused : r.refused ≡ refused_among outcomes
  pub versions : r.table.versions ≡ length (changes_by p.orders.now outcomes)
  pub counted : AreWrong (rules_of p.rules.now) (changes_by p.orders.now outcomes)
      (answers_of_passes passes) r.wrong
  pub wrong : r.wrong ≡ 0
  pub limbo : r.table.limbo ≡ 0
  pub counts : IsCountOf first second end.table end.config.groups (token_of end) r.table
