-- Meaning: a grace period of a running table: a token is started, and checked until each reader has let it pass (DPDK
-- Programmer's Guide, "RCU Library": rte_rcu_qsbr_start and rte_rcu_qsbr_check; that the writer changes nothing
-- meanwhile is this project's).
use Rattle.std.specs.Prelude.{ℤ, ◌≡◌, ◌+◌, ◌^◌, ◌<◌, ◌≤◌, ◌⊎◌, ◌∷◌, All, true, false, Option, Some, None, OnErr, OnOk, Result, Ok, Err}
use Rattle.lpm_limits.specs.declared.busy.Busy.{Busy}
use Rattle.lpm_trace.specs.declared.step.WriterStep.TheVariants.{BumpToken}
use Rattle.lpm_trace.specs.Laws.{IsChecked}
use Rattle.lpm_writer.specs.Steps.{Checks}
use Rattle.shared_fib.specs.RunningTable.{passed_of, steps_of, token_of}
use Rattle.saxiko_c.specs.RunningTable.{StagedOwner, Names}
use Rattle.saxiko_c.specs.Status.{success, again, already, not_permitted, overflow}
use Rattle.saxiko_c.specs.declared.records.SaxikoHeld.{SaxikoHeld}

-- ---- the other calls of the writer

-- a call that may change the table; while a grace period lasts it is EAGAIN, and nothing changes
abbrev pub AtRest : (StagedOwner → ℤ → StagedOwner → Type 0) → (unchanged : Type 0) → StagedOwner → ℤ → StagedOwner → Type 0
AtRest call unchanged o status p =
    ((o.waits ≡ true) × (status ≡ again) × (p ≡ o) × unchanged)
    ⊎ ((o.waits ≡ false) × (p.waits ≡ false) × call o status p)

-- a call that only asks; while a grace period lasts it is EAGAIN, and nothing is told
abbrev pub AsksAtRest : (StagedOwner → ℤ → Type 0) → (unchanged : Type 0) → StagedOwner → ℤ → Type 0
AsksAtRest ask unchanged o status =
    ((o.waits ≡ true) × (status ≡ again) × unchanged)
    ⊎ ((o.waits ≡ false) × ask o status)

-- ---- its start

-- one step was made, which starts a token
pub record IsStarted (o p : StagedOwner) : Type 0 where
  pub writer : p.writer ≡ record o.writer {
    table = record o.writer.table { readers = BumpToken ∷ steps_of o.writer };
  }
  pub started : token_of p.writer ≡ token_of o.writer + 1
  pub waits : p.waits ≡ true
  pub bench : p.bench ≡ o.bench

-- it is EALREADY where a grace period lasts, and EOVERFLOW where fewer tokens than groups are left
abbrev pub Starts : StagedOwner → ℤ → StagedOwner → Type 0
Starts o status p =
    ((o.waits ≡ true) × (status ≡ already) × (p ≡ o))
    ⊎ (((o.waits ≡ false) × (2 ^ 62 < token_of o.writer + o.writer.config.groups)
    × (status ≡ overflow) × (p ≡ o))
    ⊎ ((o.waits ≡ false) × (token_of o.writer + o.writer.config.groups ≤ 2 ^ 62)
    × (status ≡ success) × IsStarted o p))

-- ---- its checks

-- the reader that stopped a check
abbrev pub stopped_by : Result (Unit {0}) Busy → Option Busy
stopped_by (Ok passed) = None
stopped_by (Err busy) = Some busy

-- a check was made, and the grace period is over where it has passed
pub record HasChecked (o : StagedOwner) (r : Result (Unit {0}) Busy) (p : StagedOwner) : Type 0 where
  pub checks : Checks o.writer.identity.initial.workers (steps_of o.writer)
      (token_of o.writer) r (steps_of p.writer)
  pub over : OnOk r (p.waits ≡ false)
  pub lasts : OnErr r (p.waits ≡ true)
  pub token : token_of p.writer ≡ token_of o.writer
  pub checked : OnOk r (IsChecked o.writer.identity.initial.workers
      o.writer.identity.initial.token (steps_of p.writer) (token_of o.writer))
  pub queued : OnOk r (0 < o.writer.config.workers
      → All (λ token. token ≤ passed_of p.writer) p.writer.table.limbo)
  pub same : p.writer ≡ record o.writer { table = record o.writer.table { readers = steps_of p.writer } }
  pub bench : p.bench ≡ o.bench

-- it is EPERM where no grace period lasts
abbrev pub ChecksOnce : SaxikoHeld → SaxikoHeld → StagedOwner → ℤ → StagedOwner → Type 0
ChecksOnce before after o status p =
    ((o.waits ≡ false) × (status ≡ not_permitted) × (after ≡ before) × (p ≡ o))
    ⊎ ((o.waits ≡ true) × (r : Result (Unit {0}) Busy) × HasChecked o r p
    × Names (stopped_by r) before status after)
