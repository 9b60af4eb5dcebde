-- This layer's own: the grace period of a running table's writer, from the start of its token on.
use Rattle.std.specs.Prelude.{ℕ, List, ◌≤◌, ◌^◌, Ok}
use Rattle.lpm_writer.specs.declared.control.ControlState.{ControlState}
use Rattle.shared_words.specs.declared.view.View.{View}
use Rattle.shared_words.specs.Layout.{initial_state_of}
use Rattle.lpm_trace.specs.States.{state_after, updates_begun_in, InitialState}
use Rattle.lpm_writer.specs.Commands.{IsWaiting}
use Rattle.lpm_trace.specs.declared.step.WriterStep.{WriterStep}
use Rattle.lpm_writer.specs.Steps.{AreStopped, Checks}

-- A writer whose token was started, up to the check that passes (DPDK Programmer's Guide, "RCU
-- Library": a writer starts a token, and checks it until each reader has let it pass).

-- after the steps of the seat the control state waits for its token
abbrev pub WaitsBy : (first second : ℕ) → ControlState first second → View → Type 0
WaitsBy first second control v = IsWaiting first second (initial_state_of v.initial) v.writer_steps
    control.config control.rules control.pool control.versions

-- the same, and neither the tokens nor the updates are past their bound
pub record IsInGrace (first second : ℕ) (control : ControlState first second) (v : View) : Type 0 where
  pub waits : WaitsBy first second control v
  pub token : (state_after (initial_state_of v.initial) v.writer_steps).token ≤ 2 ^ 62
  pub updates : updates_begun_in (state_after (initial_state_of v.initial) v.writer_steps) ≤ 2 ^ 61

-- The checks of a token that was started, up to the first that passes (DPDK Programmer's Guide,
-- "RCU Library", and `rte_rcu_qsbr_synchronize` of its API: the check is made again until each
-- reader has let the token pass).

-- after the steps x some checks of the newest token were stopped, and then one passed; z are the steps then
abbrev pub PassesAtLast : InitialState → List WriterStep → List WriterStep → Type 0
PassesAtLast c x z = (stops : ℕ) × (last : List WriterStep)
    × AreStopped c.workers stops x (state_after c x).token last
    × Checks c.workers last (state_after c x).token (Ok tt) z
