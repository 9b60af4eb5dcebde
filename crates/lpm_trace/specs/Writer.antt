-- Meaning: the writer's own list of steps, the newest first: what they leave, and which of its steps
-- may come next, whatever its workers do in between (DPDK Programmer's Guide, "RCU Library": the
-- writer alone starts tokens and loads the readers' counters; the order within an update is this
-- project's).
use Rattle.std.specs.Prelude.{ℕ, suc, ◌+◌, if◌then◌else◌, ◌==◌, ◌&&◌, max, List, [], ◌∷◌, slice_index, ◌≡◌, ⊤}
use Rattle.lpm_trace.specs.declared.step.WriterStep.{WriterStep}
use Rattle.lpm_trace.specs.declared.step.WriterStep.TheVariants.{StoreFirst, BumpToken, LoadCounter}
use Rattle.lpm_trace.specs.States.{lets_pass, InitialState, state_after, MayWrite}
use Rattle.lpm_trace.specs.declared.step.TraceStep.{TraceStep}
use Rattle.lpm_trace.specs.declared.step.TraceStep.TheVariants.{Writer}
use Rattle.lpm_trace.specs.Progress.{WriterProgress, initial_progress, progress_by_step, Follows}
use Rattle.lpm_trace.specs.Trace.{after, IsTrace, writes}

-- What is counted over the writer's steps, of which the newest stands first (DPDK Programmer's
-- Guide, "RCU Library": the token is one more for each that was started, and a check passes when
-- the counter of each reader has let it pass).

-- the token, where it began with `start`
abbrev pub token_after : ℕ → List WriterStep → ℕ
token_after start [] = start
token_after start (BumpToken ∷ steps) = token_after start steps + 1
token_after start (other ∷ steps) = token_after start steps

-- the greatest token whose check has passed: the last of the workers let it pass
abbrev pub passed_after : ℕ → List WriterStep → ℕ
passed_after workers [] = 0
passed_after workers (LoadCounter token worker counter ∷ steps) =
    if lets_pass token counter && (suc worker == workers)
    then max (passed_after workers steps) token else passed_after workers steps
passed_after workers (other ∷ steps) = passed_after workers steps

-- the first word of a block, where these were the first words at the beginning
abbrev pub first_word_after : List ℕ → List WriterStep → ℕ → ℕ
first_word_after initial [] block = slice_index initial block
first_word_after initial (StoreFirst i word ∷ steps) block =
    if i == block then word else first_word_after initial steps block
first_word_after initial (other ∷ steps) block = first_word_after initial steps block

-- the writer's progress after these steps of its own
abbrev pub progress_after : InitialState → List WriterStep → WriterProgress
progress_after c [] = initial_progress
progress_after c (s ∷ steps) = progress_by_step c (state_after c steps) (progress_after c steps) s

-- the counter that a step found: that of a load is what it loaded
abbrev pub counter_found : WriterStep → ℕ → ℕ
counter_found (LoadCounter token worker counter) k = counter
counter_found other k = 0

-- the step may come next after these of the writer, where a load finds what it says
abbrev pub MayStep : InitialState → List WriterStep → WriterStep → Type 0
MayStep c steps s = MayWrite c (counter_found s) (state_after c steps) s
    × Follows c (state_after c steps) (progress_after c steps) s

-- each step may come after those before it
abbrev pub IsWritten : InitialState → List WriterStep → Type 0
IsWritten c [] = ⊤
IsWritten c (s ∷ steps) = MayStep c steps s × IsWritten c steps

-- the step finds the counters as they are after this trace
abbrev pub Finds : InitialState → List TraceStep → WriterStep → Type 0
Finds c steps (LoadCounter token worker counter) =
    counter ≡ ((after c steps).workers worker).counter
Finds c steps other = ⊤

-- the writer's steps of a trace may come one after another by themselves
abbrev pub WriterIsAlone : Type 0
WriterIsAlone = (c : InitialState) (steps : List TraceStep) → IsTrace c steps → IsWritten c (writes steps)

-- what may come next after the writer's own steps may come next in the trace, where a load finds the
-- worker's counter
abbrev pub WriterGoesOn : Type 0
WriterGoesOn = (c : InitialState) (steps : List TraceStep) (s : WriterStep) → IsTrace c steps
    → MayStep c (writes steps) s → Finds c steps s → IsTrace c (Writer s ∷ steps)
