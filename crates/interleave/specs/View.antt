-- This layer's own: what a memory of the pure world holds (this project's).
use Rattle.std.specs.Prelude.{◌≡◌, ℕ, ◌*◌, ◌^◌, ◌<◌, ◌≤◌, List, [], slice_index_or, Bool}
use Rattle.lpm_cells.specs.Words.{Words}
use Rattle.lpm_trace.specs.declared.shown_step.Actor.{Actor}
use Rattle.lpm_trace.specs.declared.deed.Deed.{Deed}
use Rattle.lpm_trace.specs.declared.shown_step.Step.{Step}
use Rattle.interleave.specs.declared.finished_lookups.Seen.{Seen}
use Rattle.interleave.specs.declared.worker.Worker.{Worker as Machine}

-- the shared words, sequence and token; the workers, their scripts and the schedule; how many of its
-- items are used up; and the record: each step, and each finished lookup
pub record WorldView : Type 0 where
  pub words : Words
  pub sequence : ℕ
  pub token : ℕ
  pub machines : List Machine
  pub scripts : List (List Deed)
  pub schedule : List Actor
  pub next : ℕ
  pub steps : List Step
  pub seen : List Seen
  -- the schedule ended before the writer's last step
  pub stopped : Bool

-- what a memory keeps whatever its writer does: a token of at most 2^62, a script for each worker,
-- fewer items than 2^63, at most one step for each that is used up, at most four lookups that the step
-- finishes, and room for the steps and the lookups of all
pub record IsSoundMemory (token machines scripts items next steps steps_room seen seen_room : ℕ) : Type 0 where
  pub token_low : token ≤ 2 ^ 62
  pub as_many : machines ≡ scripts
  pub within : next ≤ items
  pub few_items : items < 2 ^ 63
  pub few_steps : steps ≤ next
  pub few_seen : seen ≤ 4 * next
  pub steps_fit : items ≤ steps_room
  pub seen_fit : 4 * items ≤ seen_room

-- the script of a worker; that of one that isn't there is empty
abbrev pub script_at : List (List Deed) → ℕ → List Deed
script_at scripts k = slice_index_or scripts k []
