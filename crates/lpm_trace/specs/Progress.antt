-- Meaning: the order in which the writer makes its steps (DPDK Programmer's Guide, "RCU Library": a
-- token is started for what was given up, and a check loads one reader's counter after another; the order
-- within an update is this project's).
use Rattle.std.specs.Prelude.{◌≡◌, ℕ, suc, ◌/◌, ◌^◌, ◌<◌, ◌≤◌, ◌⊎◌, ⊤, Bool, true, false, if◌then◌else◌, ◌==◌, Option, Some, None}
use Rattle.lpm_cells.specs.declared.entry.Entry.{Entry}
use Rattle.lpm_cells.specs.declared.entry.Entry.TheVariants.{Miss, Hop, Group}
use Rattle.lpm_cells.specs.Words.{entry_in, group_in}
use Rattle.lpm_trace.specs.declared.step.WriterStep.{WriterStep}
use Rattle.lpm_trace.specs.declared.step.WriterStep.TheVariants.{StoreFirst, StoreSecond, BeginUpdate, EndUpdate, BumpToken, LoadCounter}
use Rattle.lpm_trace.specs.States.{InitialState, TableState, Status, Unused, Linked, Retired, IsUpdating, lets_pass, first_entry}

-- what the writer has to do next: nothing that is fixed; bump the token, since its last step
-- unlinked a group; or go on with the check of a token
pub data NextStep : Type 0 where
  Nothing : NextStep
  Bump : NextStep
  Check : (token : ℕ) → NextStep

pub record WriterProgress : Type 0 where
  pub next_step : NextStep
  -- the token that a synchronize waits for, until its check has passed
  pub awaited : Option ℕ
  -- the update has just bumped the token for a group that it unlinked, and may check groups that wait,
  -- until a worker stops a check or until its next store
  pub reclaims : Bool
  -- the free group that the update which runs took
  pub taken : Option ℕ

abbrev pub initial_progress : WriterProgress
initial_progress = record { next_step = Nothing; awaited = None; reclaims = false; taken = None }

-- ---- the progress after a step

-- what is due after a store over this first word
abbrev pub next_after_store : Entry → NextStep
next_after_store Miss = Nothing
next_after_store (Hop hop depth) = Nothing
next_after_store (Group group) = Bump

-- the group that is taken, after a store into this one
abbrev pub taken_with : Option ℕ → ℕ → Status → Option ℕ
taken_with taken group Unused = Some group
taken_with taken group (Linked block) = taken
taken_with taken group (Retired token) = Some group

-- the token is bumped: for a group that was unlinked, or by a synchronize, whose check comes next;
-- without workers that check passes at once
abbrev pub progress_after_bump : InitialState → ℕ → WriterProgress → NextStep → WriterProgress
progress_after_bump c token progress Bump = record progress { next_step = Nothing; reclaims = true }
progress_after_bump c token progress Nothing =
    if c.workers == 0 then progress else record progress { next_step = Check (suc token); awaited = Some (suc token) }
progress_after_bump c token progress (Check t) = progress

-- the check has passed
abbrev pub progress_after_pass : WriterProgress → WriterProgress
progress_after_pass progress = record progress { next_step = Nothing; awaited = None }

-- a worker has stopped the check: a synchronize checks again, and a reclaim ends
abbrev pub progress_after_stop : WriterProgress → Option ℕ → WriterProgress
progress_after_stop progress None = record progress { next_step = Nothing; reclaims = false }
progress_after_stop progress (Some token) = record progress { next_step = Check token }

-- a counter was loaded in a check of the token
abbrev pub progress_after_load : InitialState → WriterProgress → ℕ → ℕ → ℕ → WriterProgress
progress_after_load c progress token worker counter =
    if lets_pass token counter
    then (if suc worker == c.workers then progress_after_pass progress else record progress { next_step = Check token })
    else progress_after_stop progress progress.awaited

-- the progress after a step of the writer
abbrev pub progress_by_step : InitialState → TableState → WriterProgress → WriterStep → WriterProgress
progress_by_step c w progress (StoreFirst i x) =
    record progress { next_step = next_after_store (first_entry w.words i); reclaims = false }
progress_by_step c w progress (StoreSecond j x) = record progress {
  taken = taken_with progress.taken (j / 2 ^ c.second) (w.groups (j / 2 ^ c.second));
  reclaims = false;
}
progress_by_step c w progress (BeginUpdate change) = record progress { reclaims = false; taken = None }
progress_by_step c w progress EndUpdate = record progress { reclaims = false; taken = None }
progress_by_step c w progress BumpToken = progress_after_bump c w.token progress progress.next_step
progress_by_step c w progress (LoadCounter token worker counter) = progress_after_load c progress token worker counter

-- ---- which step may come next

-- the group is linked, or it is the one that the update took or takes now
abbrev pub FillsOwn : WriterProgress → ℕ → Status → Type 0
FillsOwn progress group Unused = (progress.taken ≡ None) ⊎ (progress.taken ≡ Some group)
FillsOwn progress group (Linked block) = ⊤
FillsOwn progress group (Retired token) = (progress.taken ≡ None) ⊎ (progress.taken ≡ Some group)

-- a first word links the group that the update took
abbrev pub LinksOwn : WriterProgress → Option ℕ → Type 0
LinksOwn progress None = ⊤
LinksOwn progress (Some group) = progress.taken ≡ Some group

-- a group that the update took is linked by now
abbrev pub HasLinkedOwn : TableState → Option ℕ → Type 0
HasLinkedOwn w None = ⊤
HasLinkedOwn w (Some group) = (block : ℕ) × (w.groups group ≡ Linked block)

-- the oldest token under which a group waits and whose check hasn't passed; a group that the running
-- update has just unlinked doesn't wait yet
pub record IsOldest (w : TableState) (token : ℕ) : Type 0 where
  pub group : ℕ
  pub retired : w.groups group ≡ Retired token
  pub unpassed : w.passed < token
  pub least : (other t : ℕ) → w.groups other ≡ Retired t → (t ≤ w.passed) ⊎ (token ≤ t)
  pub before : IsUpdating w → token < w.token

-- the worker whose counter a check of the token loads next
abbrev pub next_to_load : TableState → ℕ → ℕ
next_to_load w token = if w.scan.token == token then w.scan.next else 0

-- a check goes on; or the check of the oldest token begins, between updates or in one after an
-- unlinking
abbrev pub IsLoadDue : TableState → WriterProgress → ℕ → ℕ → NextStep → Type 0
IsLoadDue w progress token worker Nothing =
    (worker ≡ 0) × IsOldest w token × (IsUpdating w → progress.reclaims ≡ true)
IsLoadDue w progress token worker Bump = ⊥
IsLoadDue w progress token worker (Check due) = (token ≡ due) × (worker ≡ next_to_load w token)

-- the token is bumped directly after an unlinking store; else by a synchronize, which comes between
-- updates
abbrev pub IsBumped : TableState → NextStep → Type 0
IsBumped w Nothing = ¬ IsUpdating w
IsBumped w Bump = ⊤
IsBumped w (Check token) = ⊥

-- the writer's step keeps the order
abbrev pub Follows : InitialState → TableState → WriterProgress → WriterStep → Type 0
Follows c w progress (StoreFirst i x) =
    (progress.next_step ≡ Nothing) × LinksOwn progress (group_in (entry_in x))
Follows c w progress (StoreSecond j x) =
    (progress.next_step ≡ Nothing)
    × FillsOwn progress (j / 2 ^ c.second) (w.groups (j / 2 ^ c.second))
Follows c w progress (BeginUpdate change) = progress.next_step ≡ Nothing
Follows c w progress EndUpdate = (progress.next_step ≡ Nothing) × HasLinkedOwn w progress.taken
Follows c w progress BumpToken = IsBumped w progress.next_step
Follows c w progress (LoadCounter token worker counter) = IsLoadDue w progress token worker progress.next_step
