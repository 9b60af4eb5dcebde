-- What a take of a group comes to, by what its calls leave.
use Rattle.std.proofs.Common.{arith, ℕ, ◌≡◌, ◌≢◌, ◌≤◌, refl, sym, ap, subst, ◌∙◌, List, [], ◌++◌, Option, Some, None, drop, length}
use Rattle.std.specs.Prelude.{◌↔◌, slice_set, Ok, IfSome, IfNone, IsNone, IfOk, OnErr}
use Rattle.std.specs.Option.{ok_or}
use Rattle.defer_queue.specs.Limbo.{Limbo as Queue}
use Rattle.fib_model.specs.State.{Reclaims}
use Rattle.lpm_groups.specs.declared.GroupState.{GroupState}
use Rattle.lpm_groups.specs.declared.GroupState.TheVariants.{Linked}
use Rattle.lpm_groups.specs.States.{IsLeastFree, free_count}
use Rattle.lpm_limits.specs.declared.busy.Busy.{Busy}
use Rattle.lpm_trace.specs.declared.step.WriterStep.{WriterStep}
use Rattle.lpm_trace.specs.States.{InitialState}
use Rattle.lpm_writer.specs.declared.pool.GroupPool.{GroupPool}
use Rattle.lpm_writer.specs.Commands.{FreesAt, MayFree}
use Rattle.lpm_writer.specs.GroupsMatch.{GroupsMatchSteps, OnlyChecks}
use Rattle.lpm_writer.specs.TakenGroup.{LinksLeast, MayTake, MayTakeAt, TakesAt, Takes, taken_by}
use Rattle.lpm_writer.specs.MemorySteps.{by_writer}
use Rattle.lpm_writer.specs.Limbo.{AreWaiting, IsFreed, IsQueued, IsTaken, tokens_of}
use Rattle.lpm_writer.proofs.LimboItems.{freed_within, taken_from, taken_queue, taken_after, freed_queue, still_free, least_linked, least_freed, least_same, reclaims_one, reclaims_none, no_tail, without_tail, may_reclaim}
use Rattle.lpm_writer.proofs.Reclaims.{still_same, keeps_taken}

-- the least free group was linked to the block, or none was free
pub record HasTakenLeast (old : List GroupState) (block : ℕ) (found : Option ℕ) (new : List GroupState) : Type 0 where
  pub least : IfSome found (IsLeastFree old)
  pub linked : IfSome found (λ g. new ≡ slice_set old g (Linked block))
  pub none : IsNone found ↔ (free_count old ≡ 0)
  pub unchanged : IfNone found (new ≡ old)

-- where none was taken, none is free, and all is as it was
pub took_none : (old : List GroupState) (block : ℕ) (found : Option ℕ) (new : List GroupState) → HasTakenLeast old block found new → found ≡ None → (free_count old ≡ 0) × (new ≡ old)
took_none old block (Some g) new took none = absurd (cc)
took_none old block None new took none = (took.none.0 refl, took.unchanged)

-- where none was free, the oldest that waits may be freed
pub may_free : {M : Type 0} (did : M → InitialState → List WriterStep → Type 0) (m : M) (x : GroupPool) (found : Option ℕ) (states : List GroupState) → MayTakeAt did m x → found ≡ None → IfNone found (states ≡ x.groups)
    → MayFree did m states x.passed x.queue.items
may_free did m x (Some g) states r was same = absurd (cc)
may_free did m x None states r was same =
    let groups = no_tail r.0 r.1 x.groups x.queue.items x.passed None r.3.keeps in
    record { initial = r.0; steps = r.1; behind = []; held = None; led = r.2; groups = subst (λ ys. GroupsMatchSteps r.0 r.1 ys (x.queue.items ++ []) x.passed None) (sym same) groups; may = may_reclaim r.0 r.1 x r.3 }

module _ {M : Type 0} (did : M → InitialState → List WriterStep → Type 0) (does : M → WriterStep → M → Type 0) where
  -- a group that is free is taken at once
  pub takes_free : (m : M) (x : GroupPool) (g block : ℕ) → IsLeastFree x.groups g
      → TakesAt did m x m (record x { groups = slice_set x.groups g (Linked block) }) (Some g) (λ c a b. Takes (by_writer does c) a x (Ok g) b (record x { groups = slice_set x.groups g (Linked block) }))
  takes_free m x g block least c steps may_be may = (
    steps,
    may_be,
    still_same c steps x.queue.items (may_reclaim c steps x may),
    keeps_taken c steps x.groups x.queue.items x.passed g block may.keeps least.free,
    ((λ _. (least, refl, refl)), (λ none. absurd (still_free x.groups g least.free none))),
  )

  -- none was free, and one that waits was to be freed
  pub record HasReclaimed (m : M) (x : GroupPool) (z : M) (y : GroupPool) (n : ℕ) (stopped : Option Busy) : Type 0 where
    pub none : free_count x.groups ≡ 0
    pub reclaims : FreesAt did does m x 1 (record { freed = n; stopped = stopped }) z y
    pub queue : y.queue ≡ record x.queue { items = drop n x.queue.items }
    pub waiting : AreWaiting y.groups y.queue.items
    pub freed : IsFreed x.groups x.queue.items n y.groups
    pub unchanged : n ≡ 0 → y.groups ≡ x.groups

  module _ (m : M) (x : GroupPool) (z : M) (y : GroupPool) (n : ℕ) (stopped : Option Busy) (h : HasReclaimed m x z y n stopped) where
    -- what the reclaim left, by the steps
    reclaimed : (c : InitialState) (steps : List WriterStep) → did m c steps → MayTake c steps x
        → (later : List WriterStep) × did z c later × OnlyChecks c steps later × GroupsMatchSteps c later y.groups y.queue.items y.passed None
        × Reclaims (by_writer does c) (m, steps) 1 (tokens_of x.queue.items) n stopped (tokens_of y.queue.items) (z, later)
    reclaimed c steps may_be may =
        let done = h.reclaims.after c steps [] None may_be (no_tail c steps x.groups x.queue.items x.passed None may.keeps) (may_reclaim c steps x may) in
        (done.0, done.1, done.2, without_tail c done.0 y.groups y.queue.items y.passed None done.3, done.4)

    still_queued : MayTakeAt did m x → IsQueued x.groups x.queue → IsQueued y.groups y.queue
    still_queued b queued =
        let within : n ≤ length x.queue.items = freed_within x.queue.items (reclaimed b.0 b.1 b.2 b.3).4 in
        let waits = subst (λ (q : Queue). AreWaiting y.groups q.items) h.queue h.waiting in
        subst (IsQueued y.groups) (sym h.queue) (freed_queue x.groups y.groups x.queue n queued within h.freed waits)

    module _ (block : ℕ) (new : List GroupState) where
      pub takes_oldest : (found : Option ℕ) → HasTakenLeast y.groups block found new
          → TakesAt did m x z (record y { groups = new }) (taken_by (ok_or found stopped)) (λ c a b. Takes (by_writer does c) a x (ok_or found stopped) b (record y { groups = new }))
      takes_oldest (Some g) took c steps may_be may =
          let done = reclaimed c steps may_be may in
          let some : n ≢ 0 = λ e. still_free y.groups g took.least.free (omega (arith, h.freed.free, e, h.none)) in
          let one = reclaims_one (by_writer does c) (m, steps) (z, done.0) (tokens_of x.queue.items) (tokens_of y.queue.items) n stopped done.4 some in (
            done.0,
            done.1,
            done.2,
            subst (λ ys. GroupsMatchSteps c done.0 ys y.queue.items y.passed (Some g)) (sym took.linked) (keeps_taken c done.0 y.groups y.queue.items y.passed g block done.3 took.least.free),
            ((λ more. absurd (omega (arith, more, h.none))), (λ _. one)),
          )
      takes_oldest None took c steps may_be may =
          let done = reclaimed c steps may_be may in
          let still = took.none.0 refl in (
            done.0,
            done.1,
            done.2,
            subst (λ ys. GroupsMatchSteps c done.0 ys y.queue.items y.passed None) (sym took.unchanged) done.3,
            (
              h.none,
              reclaims_none (by_writer does c) (m, steps) (z, done.0) (tokens_of x.queue.items) (tokens_of y.queue.items) n stopped done.4 (omega (arith, h.freed.free, still)),
            ),
          )

      pub oldest_linked : (found : Option ℕ) → HasTakenLeast y.groups block found new → IfOk (ok_or found stopped) (λ g. IsTaken x.groups g block new)
      oldest_linked (Some g) took = taken_after x.groups y.groups new x.queue.items n g block h.freed (subst (λ ys. IsTaken y.groups g block ys) (sym took.linked) (taken_from y.groups g block took.least.free))
      oldest_linked None took = tt

      pub oldest_least : (found : Option ℕ) → HasTakenLeast y.groups block found new → LinksLeast x.groups new
      oldest_least (Some g) took = least_freed x.groups y.groups new x.queue.items n h.freed (subst (LinksLeast y.groups) (sym took.linked) (least_linked y.groups g block took.least))
      oldest_least None took = subst (LinksLeast x.groups) (sym took.unchanged) (least_freed x.groups y.groups y.groups x.queue.items n h.freed (least_same y.groups))

      pub oldest_unchanged : (found : Option ℕ) → HasTakenLeast y.groups block found new → OnErr (ok_or found stopped) ((new ≡ x.groups) × (y.queue ≡ x.queue))
      oldest_unchanged (Some g) took = tt
      oldest_unchanged None took =
          let still = took.none.0 refl in
          let zero : n ≡ 0 = omega (arith, h.freed.free, still) in
          (took.unchanged ∙ h.unchanged zero, h.queue ∙ ap (λ k. record x.queue { items = drop k x.queue.items }) zero)

      pub oldest_queued : (found : Option ℕ) → HasTakenLeast y.groups block found new → MayTakeAt did m x → IsQueued x.groups x.queue → IsQueued new y.queue
      oldest_queued (Some g) took b queued = subst (λ zs. IsQueued zs y.queue) (sym took.linked) (taken_queue y.groups y.queue g block took.least.free (still_queued b queued))
      oldest_queued None took b queued = subst (λ zs. IsQueued zs y.queue) (sym took.unchanged) (still_queued b queued)
