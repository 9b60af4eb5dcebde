-- Meaning: a table of one thread as its callers see it, and what its parts keep (this project's).
use Rattle.std.specs.Prelude.{ℕ, List, refl, ◌≡◌, Option, MatchOption, IsSome}
use Rattle.std.specs.Coded.{Coded, code_by, coded×, coded_ℕ, coded_list}
use Rattle.lpm_rules.specs.RuleMap.{RuleMap, coded_network}
use Rattle.qsbr.specs.Counters.{Passes, Registry}
use Rattle.lpm_limits.specs.declared.config.Config.{Config}
use Rattle.fib_model.specs.declared.orders.ReaderReport.{ReaderReport}
use Rattle.fib_model.specs.Counters.{by_counters, initial_by_counters}
use Rattle.fib_model.specs.State.{State}
use Rattle.lpm_trace.specs.declared.step.WriterStep.{WriterStep}
use Rattle.lpm_trace.specs.States.{InitialState, state_after}
use Rattle.lpm_writer.specs.declared.plain_memory.PlainMemory.{PlainMemory}
use Rattle.lpm_writer.specs.Plain.{PlainDid}
use Rattle.lpm_writer.specs.declared.control.ControlState.{ControlState}
use Rattle.lpm_writer.specs.Rest.{IsResting, state_of}
use Rattle.std.specs.FinMap.{get}
use Rattle.lpm_bits.specs.Network.{Network, Covers}
use Rattle.lpm_rules.specs.Longest.{IsLongestHop}
use Rattle.std.specs.FinMap as map

-- the limits, and what outcomes depend on; an unlinking that waits goes by its token
pub record FibState : Type 0 where
  pub config : Config
  pub table : State Registry

-- a table that was just opened
abbrev pub initial_fib : Config → FibState
initial_fib c = record { config = c; table = initial_by_counters c }

-- a table that was just opened with these rules, as version n
abbrev pub initial_fib_at : Config → RuleMap → ℕ → FibState
initial_fib_at c R n = record { config = c; table = record (initial_by_counters c) { rules = R; updates_begun = n } }

-- the same, as version 0
abbrev pub initial_fib_with : Config → RuleMap → FibState
initial_fib_with c R = initial_fib_at c R 0

-- the table after a report of this worker
abbrev pub state_after_report : ReaderReport → ℕ → FibState → FibState
state_after_report report worker f =
    let readers = by_counters.after_report report worker f.table.readers in
    record f { table = record f.table { readers = readers } }

-- what outcomes depend on, by the writer's control state and the memory
abbrev pub table_of : {first second : ℕ} → ControlState first second → PlainMemory first second
    → State Registry
table_of control memory = state_of control.rules.rules memory.domain control.pool control.versions

-- these steps of the writer may have led from the initial state to the memory, and after them the control state
-- rests; no worker holds what was given up under a token whose check has passed
pub record HasSteps (first second : ℕ) (c : InitialState) (steps : List WriterStep)
    (control : ControlState first second) (memory : PlainMemory first second) : Type 0 where
  pub did : PlainDid first second memory.cells memory.domain c steps
  pub rests : IsResting first second c steps control.config control.rules control.pool control.versions
  pub passed : Passes (state_after c steps).passed memory.domain.counters

-- some initial state and steps have led here
abbrev pub IsSound : (first second : ℕ) → ControlState first second → PlainMemory first second → Type 0
IsSound first second control memory =
    (c : InitialState) × (steps : List WriterStep) × HasSteps first second c steps control memory

-- ---- a state as pairs, which comparisons of tables go by

abbrev pub coded_config : Coded Config
coded_config =
    code_by (ℕ × (ℕ × (ℕ × (ℕ × (ℕ × ℕ)))))
    (coded× coded_ℕ (coded× coded_ℕ (coded× coded_ℕ (coded× coded_ℕ (coded× coded_ℕ coded_ℕ)))))
    (λ c. (c.rules, (c.groups, (c.workers, (c.threshold, (c.reclaim_max, c.first_token))))))
    (λ p. record {
      rules = p.0;
      groups = p.1.0;
      workers = p.1.1.0;
      threshold = p.1.1.1.0;
      reclaim_max = p.1.1.1.1.0;
      first_token = p.1.1.1.1.1;
    })
    (λ _. refl)

abbrev pub coded_registry : Coded Registry
coded_registry =
    code_by (ℕ × List ℕ) (coded× coded_ℕ (coded_list coded_ℕ))
    (λ r. (r.token, r.counters)) (λ p. record { token = p.0; counters = p.1 }) (λ _. refl)

abbrev pub coded_state : Coded (State Registry)
coded_state =
    code_by (RuleMap × (Registry × (List ℕ × ℕ)))
    (coded× (map.code coded_network coded_ℕ)
    (coded× coded_registry (coded× (coded_list coded_ℕ) coded_ℕ)))
    (λ s. (s.rules, (s.readers, (s.limbo, s.updates_begun))))
    (λ p. record { rules = p.0; readers = p.1.0; limbo = p.1.1.0; updates_begun = p.1.1.1 })
    (λ _. refl)

abbrev pub coded_fib_state : Coded FibState
coded_fib_state =
    code_by (Config × State Registry) (coded× coded_config coded_state)
    (λ f. (f.config, f.table)) (λ p. record { config = p.0; table = p.1 }) (λ _. refl)

-- Lookups of several addresses at once (DPDK Programmer's Guide, "LPM Library": a lookup of four
-- addresses answers a default value where there is no match).

-- the next hop of the longest rule that covers the address; the default where no rule does
abbrev pub IsHopOrDefault : ℕ → RuleMap → ℕ → ℕ → ℕ → Type 0
IsHopOrDefault width R default a h =
    (x : Option ℕ) × IsLongestHop width R a x × MatchOption x (h ≡ default) (λ hop. h ≡ hop)

-- some rule covers the address
abbrev pub IsCovered : ℕ → RuleMap → ℕ → Type 0
IsCovered width R a = (q : Network) × IsSome (get R q) × Covers width q a
