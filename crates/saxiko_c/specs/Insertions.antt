-- Meaning: an add that tells which next hop it replaced, by the status that its calls answer (this project's).
use Rattle.std.specs.Prelude.{ℕ, ℤ, ◌≡◌, ◌≤◌, ◌<◌, ◌⊎◌, Option, Result, Ok, Err}
use Rattle.std.specs.FinMap.{get}
use Rattle.lpm_bits.specs.Network.{prefix_of}
use Rattle.lpm_rules.specs.declared.Put.{Put}
use Rattle.lpm_limits.specs.declared.refusal.Refusal.{Refusal}
use Rattle.fib_model.specs.Counters.{counter_transitions}
use Rattle.fib_model.specs.Outcomes.{Adds}
use Rattle.fib.specs.Fib.{FibState}
use Rattle.shared_fib.specs.FreedGroups.{TakesLeast}
use Rattle.shared_fib.specs.RunningTable.{by_steps, hop_or}
use Rattle.saxiko_c.specs.RunningTable.{StagedOwner, Changes}
use Rattle.saxiko_c.specs.Status.{invalid, add_status}
use Rattle.saxiko_c.specs.Table.{IsBad}

-- the next hop that the prefix had is stored, where it had one and the add is done
abbrev pub StoresOld : Result Put Refusal → Option ℕ → ℕ → ℕ → Type 0
StoresOld (Ok put) had before after = after ≡ hop_or before had
StoresOld (Err refusal) had before after = after ≡ before

-- an add to a table of one thread
abbrev pub InsertsRule : ℕ → ℕ → ℕ → ℕ → ℕ → FibState → ℤ → FibState → Type 0
InsertsRule addr depth hop before after f status g =
    (IsBad depth hop × (status ≡ invalid) × (after ≡ before) × (g ≡ f))
    ⊎ ((depth ≤ 32) × (hop < 16777216) × (r : Result Put Refusal)
    × Adds counter_transitions 24 8 f.config f.table (prefix_of 32 depth addr) hop r g.table
    × StoresOld r (get f.table.rules (prefix_of 32 depth addr)) before after
    × (g.config ≡ f.config) × (status ≡ add_status r))

-- an add to a running table
abbrev pub InsertsTo : ℕ → ℕ → ℕ → ℕ → ℕ → StagedOwner → ℤ → StagedOwner → Type 0
InsertsTo addr depth hop before after o status p =
    (IsBad depth hop × (status ≡ invalid) × (after ≡ before) × (p ≡ o))
    ⊎ ((depth ≤ 32) × (hop < 16777216) × (r : Result Put Refusal)
    × Adds (by_steps o.writer.identity.initial) 24 8 o.writer.config o.writer.table
    (prefix_of 32 depth addr) hop r p.writer.table
    × TakesLeast o.writer.identity.initial o.writer.table p.writer.table
    × StoresOld r (get o.writer.table.rules (prefix_of 32 depth addr)) before after
    × Changes o p × (status ≡ add_status r))
