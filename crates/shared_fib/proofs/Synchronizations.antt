-- A synchronize over the memory of a running table is one by the writer's steps: a token is started, and its checks
-- are stopped until one passes.
use Rattle.std.proofs.Common.{◌≡◌, ◌+◌, ◌^◌, ◌<◌, ◌≤◌, ℕ, suc, refl, sym, ◌∙◌, subst, List, ◌∷◌, Result, Ok, Err}
use Rattle.std.specs.Prelude.{All, ◌↔◌}
use Rattle.std.proofs.lemmas.List.Elements.{All-map}
use Rattle.lpm_limits.specs.declared.busy.Busy.{Busy}
use Rattle.lpm_limits.specs.declared.config.Config.{Config}
use Rattle.lpm_rules.specs.RuleMap.{RuleList}
use Rattle.lpm_trace.specs.declared.step.WriterStep.{WriterStep}
use Rattle.lpm_trace.specs.declared.step.WriterStep.TheVariants.{BumpToken}
use Rattle.lpm_trace.specs.States.{InitialState, state_after}
use Rattle.lpm_writer.specs.declared.pool.GroupPool.{GroupPool}
use Rattle.lpm_trace.specs.Writer.{token_after, passed_after}
use Rattle.lpm_trace.proofs.Versions.{token_is, passed_is}
use Rattle.lpm_writer.specs.Steps as by_steps
use Rattle.lpm_writer.specs.Steps.{AreStopped, Synchronizes}
use Rattle.lpm_writer.specs.MemorySteps.{Checks}
use Rattle.lpm_writer.specs.Limbo.{tokens_of}
use Rattle.lpm_writer.specs.Rest.{IsResting}
use Rattle.lpm_writer.proofs.StepsAlone.{checks_alone, checks_fixed, stopped_token}
use Rattle.shared_words.specs.declared.view.View.{View}
use Rattle.shared_words.specs.Layout.{initial_state_of}
use Rattle.shared_fib.specs.LentSeats.{LentSeat, SharedDid, SharedDoes, state_of_lent}
use Rattle.shared_fib.specs.LentLaws.{shared_shows}
use Rattle.shared_fib.specs.Grace.{PassesAtLast}
use Rattle.shared_fib.proofs.SeatMemory.{FixedPart, fixed_part, does_in, stays}

-- the newest token was started last in m, and each check of it since was stopped
pub record HasWaited (m z : LentSeat) : Type 0 where
  pub stops : ℕ
  pub did : SharedDid z (initial_state_of m.view.initial) z.view.writer_steps
  pub same : fixed_part z ≡ fixed_part m
  pub stopped : AreStopped m.view.initial.workers stops m.view.writer_steps (state_of_lent m).token z.view.writer_steps

module _ (m : LentSeat) where
  abbrev c : InitialState
  c = initial_state_of m.view.initial

  pub not_yet : SharedDid m c m.view.writer_steps → HasWaited m m
  not_yet did = record { stops = 0; did = did; same = refl; stopped = refl }

  -- one more check
  module _ (y z : LentSeat) (so_far : HasWaited m y) (later : List WriterStep) (did : SharedDid z c later) where
    abbrev IsChecked : Result (Unit {0}) Busy → Type 0
    IsChecked r = Checks does_in c (y, y.view.writer_steps) (state_of_lent y).token r (z, later)

    token_same : (state_of_lent y).token ≡ (state_of_lent m).token
    token_same = (shared_shows y c y.view.writer_steps so_far.did).1
        ∙ stopped_token c so_far.stops m.view.writer_steps (state_of_lent m).token y.view.writer_steps so_far.stopped

    alone : (r : Result (Unit {0}) Busy) → IsChecked r
        → by_steps.Checks c.workers y.view.writer_steps (state_of_lent m).token r z.view.writer_steps
    alone r checks =
        subst (λ t. by_steps.Checks c.workers y.view.writer_steps t r z.view.writer_steps) token_same
        (subst (λ l. by_steps.Checks c.workers y.view.writer_steps (state_of_lent y).token r l)
        did.steps_are (checks_alone LentSeat does_in c (y, y.view.writer_steps) (z, later) (state_of_lent y).token r checks))

    pub still : (r : Result (Unit {0}) Busy) → IsChecked r → fixed_part z ≡ fixed_part m
    still r checks =
        checks_fixed LentSeat does_in c FixedPart fixed_part stays (y, y.view.writer_steps) (z, later) (state_of_lent y).token r checks
        ∙ so_far.same

    pub once_more : (busy : Busy) → IsChecked (Err busy) → HasWaited m z
    once_more busy checks = record {
      stops = suc so_far.stops;
      did = subst (λ l. SharedDid z c l) did.steps_are did;
      same = still (Err busy) checks;
      stopped = (y.view.writer_steps, busy, so_far.stopped, alone (Err busy) checks);
    }

    pub at_last : IsChecked (Ok tt) → PassesAtLast c m.view.writer_steps z.view.writer_steps
    at_last checks = (so_far.stops, y.view.writer_steps, so_far.stopped, alone (Ok tt) checks)

-- a token was started, and a check of it passed at last
passes_at_last : (c : InitialState) (x z : List WriterStep) → PassesAtLast c (BumpToken ∷ x) z → Synchronizes c.workers c.token x z
passes_at_last c x z h =
    let token : (state_after c (BumpToken ∷ x)).token ≡ token_after c.token (BumpToken ∷ x) = token_is c (BumpToken ∷ x) in
    record {
      last = h.1;
      stops = h.0;
      stopped = subst (λ t. AreStopped c.workers h.0 (BumpToken ∷ x) t h.1) token h.2;
      passes = subst (λ t. by_steps.Checks c.workers h.1 t (Ok tt) z) token h.3;
    }

pub synchronized : (m z : LentSeat) (later : List WriterStep) → SharedDoes BumpToken m z
    → PassesAtLast (initial_state_of z.view.initial) z.view.writer_steps later
    → Synchronizes m.view.initial.workers m.view.initial.token m.view.writer_steps later
synchronized m z later does passes =
    passes_at_last (initial_state_of m.view.initial) m.view.writer_steps later
    (subst (λ (v : View). PassesAtLast (initial_state_of v.initial) v.writer_steps later) does.view passes)

-- no group that waits is held by a token that hasn't passed
pub queued_passed : (first second : ℕ) (c : InitialState) (steps : List WriterStep) (config : Config)
    (rules : RuleList) (pool : GroupPool) (begun : ℕ)
    → IsResting first second c steps config rules pool begun
    → All (λ (item : ℕ × ℕ). item.1 ≤ pool.passed) pool.queue.items
    → 0 < config.workers
    → All (λ token. token ≤ passed_after c.workers steps) (tokens_of pool.queue.items)
queued_passed first second c steps config rules pool begun rests queued some =
    let passed = rests.keeps.remembers (subst (λ n. 0 < n) (sym rests.workers) some) ∙ passed_is c steps in
    All-map (λ token. token ≤ passed_after c.workers steps) (λ (item : ℕ × ℕ). item.1) pool.queue.items
    (subst (λ p. All (λ (item : ℕ × ℕ). item.1 ≤ p) pool.queue.items) passed queued)

-- a refusal for want of tokens, by their count
pub exhausted_by : (c : InitialState) (steps : List WriterStep) (P : Type 0) (groups : ℕ)
    → P ↔ (2 ^ 62 < (state_after c steps).token + groups) → P ↔ (2 ^ 62 < token_after c.token steps + groups)
exhausted_by c steps P groups h = subst (λ t. P ↔ (2 ^ 62 < t + groups)) (token_is c steps) h
