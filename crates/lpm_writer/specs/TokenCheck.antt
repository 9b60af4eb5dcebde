-- Meaning: a check of a token (DPDK Programmer's Guide, "RCU Library": a check loads one reader's counter
-- after another). `goes x s z` says that the writer's step s leads from x to z: the steps alone are read by
-- it, and a memory together with them.
use Rattle.std.specs.Prelude.{ℕ, zero, suc, ◌≡◌, ◌<◌, ◌≤◌, ◌⊎◌, true, Result, Ok, Err}
use Rattle.lpm_limits.specs.declared.busy.Busy.{Busy}
use Rattle.lpm_trace.specs.declared.step.WriterStep.{WriterStep}
use Rattle.lpm_trace.specs.declared.step.WriterStep.TheVariants.{LoadCounter}
use Rattle.lpm_trace.specs.States.{lets_pass}

-- the counters of the workers below n were loaded, in a check of the token, and each let it pass
abbrev pub Loads : {X : Type 0} → (X → WriterStep → X → Type 0) → ℕ → X → ℕ → X → Type 0
Loads goes zero x token z = z ≡ x
Loads {X} goes (suc n) x token z = (y : X) × (counter : ℕ) × Loads goes n x token y
    × (lets_pass token counter ≡ true) × goes y (LoadCounter token n counter) z

-- the workers' counters were loaded one after another: each let the token pass, or the first that didn't
-- stopped the check
abbrev pub LoadsUntilStopped : {X : Type 0} → (X → WriterStep → X → Type 0) → ℕ → X → ℕ
    → Result (Unit {0}) Busy → X → Type 0
LoadsUntilStopped goes workers x token (Ok passed) z = Loads goes workers x token z
LoadsUntilStopped {X} goes workers x token (Err busy) z = (y : X) × Loads goes busy.worker x token y
    × (busy.worker < workers) × (0 < busy.counter) × (busy.counter < token)
    × goes y (LoadCounter token busy.worker busy.counter) z

-- a check of a token, where `passed` is the greatest that has passed: one that isn't above it passes without
-- a load, and for any other the counters are loaded
abbrev pub ChecksToken : {X : Type 0} → (X → WriterStep → X → Type 0) → (workers passed : ℕ) → X → ℕ
    → Result (Unit {0}) Busy → X → Type 0
ChecksToken goes workers passed x token result z = ((token ≤ passed) × (result ≡ Ok tt) × (z ≡ x))
    ⊎ ((0 < workers → passed < token) × LoadsUntilStopped goes workers x token result z)
