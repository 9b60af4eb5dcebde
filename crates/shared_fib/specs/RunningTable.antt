-- Meaning: a running table, its writer and its passes, as their callers see them (DPDK Programmer's
-- Guide, "RCU Library": each thread registers, comes online and reports; this project's otherwise).
use Rattle.std.specs.Prelude.{ℕ, ◌≡◌, ◌≤◌, ◌<◌, ◌^◌, Bool, true, false, List, [], length, Option, Some, None, refl}
use Rattle.std.specs.FinMap as map
use Rattle.std.specs.Coded.{Coded, code_by, coded×, coded_ℕ, coded_list}
use Rattle.atomic_table.specs.Seated.{TableId, table_id_coded}
use Rattle.lpm_bits.specs.Widths.{IsShape}
use Rattle.lpm_limits.specs.declared.config.Config.{Config}
use Rattle.lpm_rules.specs.RuleMap.{RuleMap, coded_network}
use Rattle.fib_model.specs.State.{State, Transitions}
use Rattle.fib.specs.Fib.{coded_config}
use Rattle.lpm_trace.specs.declared.step.WriterStep.{WriterStep}
use Rattle.lpm_trace.specs.contracts.step.WriterStep as step_row
use Rattle.lpm_trace.specs.States.{InitialState, TableState, state_after, addresses, answer, IsAnswer, updates_done_in, updates_begun_in}
use Rattle.lpm_trace.specs.Writer.{token_after, passed_after, IsWritten}
use Rattle.lpm_trace.specs.Trace.{worker_by, Phase, Offline, Online}
use Rattle.lpm_writer.specs.declared.control.ControlState.{ControlState}
use Rattle.lpm_writer.specs.Steps.{by_steps_from, StoresOnce}
use Rattle.lpm_writer.specs.GroupsMatch.{IsLimbo}
use Rattle.lpm_writer.specs.Commands as commands
use Rattle.lpm_writer.specs.Rest.{state_of}
use Rattle.shared_words.specs.declared.layout.Layout.{Layout}
use Rattle.shared_words.specs.declared.view.View.{View}
use Rattle.shared_words.specs.Layout.{InitialData, coded_initial_data, initial_state_of, word_count}
use Rattle.shared_fib.specs.declared.initial_table.InitialTable.{InitialTable}
use Rattle.shared_fib.specs.Initial.{initial_data_of_words}

-- ---- the table

-- which running table: its words, and what it was opened with
pub record Identity : Type 0 where
  pub words : TableId
  pub initial : InitialData

-- what the traces of the table begin with
abbrev pub initial_state : Identity → InitialState
initial_state id = initial_state_of id.initial

-- what a table is opened with that goes on from what was loaded
abbrev pub initial_data_of : (first second : ℕ) → InitialTable first second → InitialData
initial_data_of first second l = initial_data_of_words first second l.words.items l.layout l.rules.rules l.groups

-- the table is of these widths and has a word for each place
pub record IsFitted (first second : ℕ) (id : Identity) (layout : Layout) : Type 0 where
  pub shape : IsShape first second
  pub first_bits : id.initial.first ≡ first
  pub second_bits : id.initial.second ≡ second
  pub firsts : layout.firsts ≡ length id.initial.firsts
  pub seconds : layout.seconds ≡ length id.initial.seconds
  pub workers : layout.workers ≡ id.initial.workers
  pub words : id.words.words ≡ word_count id.initial
  pub low : word_count id.initial < 2 ^ 63

-- ---- its writer

-- the table that it changes, its limits, and what outcomes depend on, where the writer's steps, the
-- newest first, stand for the readers
pub record WriterState : Type 0 where
  pub identity : Identity
  pub config : Config
  pub table : State (List WriterStep)

-- the writer's steps so far
abbrev pub steps_of : WriterState → List WriterStep
steps_of w = w.table.readers

-- the token, and the greatest whose check has passed
abbrev pub token_of : WriterState → ℕ
token_of w = token_after w.identity.initial.token (steps_of w)

abbrev pub passed_of : WriterState → ℕ
passed_of w = passed_after w.identity.initial.workers (steps_of w)

-- what they leave
abbrev pub state_of_writer : WriterState → TableState
state_of_writer w = state_after (initial_state w.identity) (steps_of w)

-- the parts of a change of the table that was opened so, by its writer's steps
unfoldable pub by_steps : InitialData → Transitions (List WriterStep)
by_steps initial = by_steps_from initial.workers initial.token

-- each of the writer's steps might come after those before it, and no update runs; the versions are those
-- that were done, the rules are those of the last one, and by them the words answer each address; the groups
-- that wait are those that the steps retired; and in no update was a word stored twice
pub record Rests (w : WriterState) : Type 0 where
  pub written : IsWritten (initial_state w.identity) (steps_of w)
  pub done : updates_done_in (state_of_writer w) ≡ w.table.updates_begun
  pub begun : updates_begun_in (state_of_writer w) ≡ w.table.updates_begun
  pub rules : (state_of_writer w).history w.table.updates_begun ≡ w.table.rules
  pub answers : (a : ℕ) → a < addresses (initial_state w.identity)
      → IsAnswer (initial_state w.identity) w.table.rules a
      (answer (initial_state w.identity) (state_of_writer w).words a)
  pub limbo : IsLimbo (initial_state w.identity) (state_of_writer w) w.table.limbo
  pub once : StoresOnce (steps_of w)

-- the writer of a table that was just opened with these rules
abbrev pub initial_writer : Identity → Config → RuleMap → WriterState
initial_writer id config rules = record {
  identity = id;
  config = config;
  table = record { rules = rules; readers = []; limbo = []; updates_begun = 0 };
}

-- the control state with the steps that the seat knows
abbrev pub state_by : {first second : ℕ} → ControlState first second → View → State (List WriterStep)
state_by control v = state_of control.rules.rules v.writer_steps control.pool control.versions

-- A writer between its commands: after the steps of its seat the control state rests, and the tokens are
-- not past their bound
pub record IsSoundWriter (first second : ℕ) (control : ControlState first second) (v : View) : Type 0 where
  pub rests : commands.Rests (initial_state_of v.initial) v.writer_steps control
  pub token : (state_after (initial_state_of v.initial) v.writer_steps).token ≤ 2 ^ 62

-- of what the seat knows only the writer's steps have changed
abbrev pub OnlySees : View → View → Type 0
OnlySees v w = w ≡ record v { writer_steps = w.writer_steps }

-- ---- its passes

abbrev pub phase_by : Bool → Phase
phase_by true = Online
phase_by false = Offline

-- it is online or offline as the flag says
abbrev pub IsPass : View → Bool → Type 0
IsPass v online = (worker_by v.own_steps).phase ≡ phase_by online

-- the number of a next hop, or the default where there is none
abbrev pub hop_or : ℕ → Option ℕ → ℕ
hop_or default (Some hop) = hop
hop_or default None = default

-- ---- states as pairs, which comparisons go by

abbrev pub coded_identity : Coded Identity
coded_identity = code_by (TableId × InitialData) (coded× table_id_coded coded_initial_data)
    (λ i. (i.words, i.initial)) (λ p. record { words = p.0; initial = p.1 }) (λ _. refl)

abbrev pub coded_writer : Coded WriterState
coded_writer =
    code_by (Identity × (Config × (RuleMap × (List WriterStep × (List ℕ × ℕ)))))
    (coded× coded_identity (coded× coded_config (coded× (map.code coded_network coded_ℕ)
    (coded× (coded_list step_row.the_row.coded) (coded× (coded_list coded_ℕ) coded_ℕ)))))
    (λ w. (w.identity, (w.config, (w.table.rules, (w.table.readers, (w.table.limbo, w.table.updates_begun))))))
    (λ p. record {
      identity = p.0;
      config = p.1.0;
      table = record {
        rules = p.1.1.0;
        readers = p.1.1.1.0;
        limbo = p.1.1.1.1.0;
        updates_begun = p.1.1.1.1.1;
      };
    })
    (λ _. refl)
