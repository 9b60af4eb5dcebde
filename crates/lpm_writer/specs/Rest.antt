-- Meaning: what a writer keeps between its calls (this project's).
use Rattle.std.specs.Prelude.{ℕ, ◌≡◌, ◌-◌, ◌%◌, ◌<◌, false, List, ◌*◌, ◌^◌, ◌+◌, ◌≤◌, length, None}
use Rattle.lpm_groups.specs.States.{linked_count}
use Rattle.lpm_limits.specs.declared.config.Config.{Config}
use Rattle.fib_model.specs.State.{Transitions, State, Unlinks}
use Rattle.lpm_trace.specs.declared.step.WriterStep.{WriterStep}
use Rattle.lpm_trace.specs.States.{InitialState, state_after, addresses, Unused, IsChange, rules_by, updates_done_in}
use Rattle.lpm_writer.specs.declared.pool.GroupPool.{GroupPool}
use Rattle.lpm_writer.specs.Limbo.{tokens_of, IsQueued}
use Rattle.lpm_writer.specs.GroupsMatch.{HasNothingDue, GroupsMatchSteps, OnlyChecks}
use Rattle.lpm_writer.specs.Steps.{StoresOnce}
use Rattle.std.specs.FinMap.{empty}
use Rattle.lpm_update.specs.Laws.{blank_words}
use Rattle.lpm_bits.specs.Widths.{IsShape}
use Rattle.lpm_limits.specs.Limits.{IsConfig}
use Rattle.lpm_rules.specs.RuleMap.{RuleMap, RuleList}
use Rattle.lpm_update.specs.BlockGroups.{group_at}
use Rattle.lpm_update.specs.declared.update.Plan.{Plan}
use Rattle.lpm_update.specs.Represents.{IsBegun, Represents, TurnsInto}
use Rattle.lpm_update.specs.GroupStates.{IsTied, HasGroupRoom}
use Rattle.lpm_update.specs.Update.{group_held}
use Rattle.lpm_trace.specs.declared.step.RuleChange.{RuleChange}
use Rattle.lpm_writer.specs.GroupToFill.{HasWidths, IsTakenBy, group_to_fill}

-- A whole update, from the step that opens it to the one that closes it (this project's).

-- no update runs, nothing is due of the writer, no address has changed its answer, and in none of the
-- updates that are done was a word stored twice
pub record IsBetween (c : InitialState) (steps : List WriterStep) : Type 0 where
  pub idle : HasNothingDue c steps
  pub even : (state_after c steps).sequence % 2 ≡ 0
  pub clear : (a : ℕ) → a < addresses c → (state_after c steps).answer_changed a ≡ false
  pub once : StoresOnce steps

-- an update began, groups were unlinked one after another, and it ended
pub record Changes {X : Type 0} (t : Transitions X) (config : Config) (x : X) (old : GroupPool) (z : X)
    (new : GroupPool) : Type 0 where
  pub opened : X
  pub last : X
  pub begins : t.begins x opened
  pub unlinks : Unlinks t config (linked_count old.groups - linked_count new.groups)
      opened (tokens_of old.queue.items) last (tokens_of new.queue.items)
  pub ends : t.ends last z

-- What a table is opened with (this project's).

-- no rules, words that are all misses, and groups that were never linked
abbrev pub blank_initial_state : ℕ → ℕ → Config → InitialState
blank_initial_state first second config = record {
  first = first;
  second = second;
  workers = config.workers;
  token = config.first_token;
  words = blank_words (2 ^ first) (config.groups * 2 ^ second);
  rules = empty;
  groups = λ g. Unused;
}

-- what outcomes depend on, by what a writer keeps
abbrev pub state_of : {X : Type 0} → RuleMap → X → GroupPool → ℕ → State X
state_of R x pool updates_begun =
    record { rules = R; readers = x; limbo = tokens_of pool.queue.items; updates_begun = updates_begun }

-- no update runs; the words represent the rules, which are those of the last version; each group has
-- one state, which the steps say; and all sizes are those of the limits
pub record IsResting (first second : ℕ) (c : InitialState) (steps : List WriterStep) (config : Config)
    (rules : RuleList) (pool : GroupPool) (updates_begun : ℕ) : Type 0 where
  pub shape : IsShape first second
  pub widths : HasWidths first second c
  pub workers : c.workers ≡ config.workers
  pub between : IsBetween c steps
  pub version : (state_after c steps).history (updates_done_in (state_after c steps)) ≡ rules.rules
  pub represents : Represents first second rules.rules (state_after c steps).words
  pub tied : IsTied first pool.groups (group_at (state_after c steps).words.firsts)
  pub room : HasGroupRoom second (state_after c steps).words pool.groups
  pub queued : IsQueued pool.groups pool.queue
  pub keeps : GroupsMatchSteps c steps pool.groups pool.queue.items pool.passed None
  pub limits : IsConfig config
  pub max : rules.max ≡ config.rules
  pub states : length pool.groups ≡ config.groups
  pub versions : updates_begun ≡ updates_done_in (state_after c steps)
  pub updates : updates_begun ≤ 2 ^ 61

-- The rules are changed already, and no word yet: the update u is to make this change of the words. The writer
-- rested after the older steps, with the rules `before` and the groups `kept`, and checks alone were made since.
pub record IsDue (first second : ℕ) (c : InitialState) (steps : List WriterStep) (config : Config)
    (rules : RuleList) (pool : GroupPool) (updates_begun : ℕ) (u : Plan) (change : RuleChange) : Type 0 where
  pub older : List WriterStep
  pub before : RuleList
  pub kept : GroupPool
  pub rested : IsResting first second c older config before kept updates_begun
  pub still : OnlyChecks c older steps
  pub once : StoresOnce steps
  pub states : length pool.groups ≡ length kept.groups
  pub queued : IsQueued pool.groups pool.queue
  pub tied : IsTied first pool.groups (group_held u (state_after c older).words.firsts)
  pub keeps : GroupsMatchSteps c steps pool.groups pool.queue.items pool.passed
      (group_to_fill u (state_after c older).words.firsts)
  pub fresh : IsTakenBy u None
  pub begins : IsBegun first second u (state_after c older).words
  pub turns : TurnsInto first second u before.rules rules.rules
  pub makes : rules_by before.rules change ≡ rules.rules
  pub max : rules.max ≡ before.max
  pub sound : IsChange (first + second) change
  pub tokens : (state_after c older).token + config.groups ≤ 2 ^ 62
  pub few : updates_begun < 2 ^ 61
