-- A synchronize that waits: what its token and its checks leave.
use Rattle.std.proofs.Common.{arith, ◌≡◌, ℕ, suc, ◌<◌, ◌≤◌, inl, inr, refl, sym, ap, subst, ◌∙◌, Bool, true, false, cond, eqb, eq-eqb, max, List, [], ◌∷◌, Some, None}
use Rattle.std.specs.Prelude.{◌&&◌, All, Result, Ok, Err, OnOk, OnErr}
use Rattle.std.proofs.lemmas.Bool.{cases_eq}
use Rattle.std.proofs.lemmas.Bool.Decides.{eqb_tells}
use Rattle.std.proofs.lemmas.List.Elements.{All-nil, All-cons}
use Rattle.lpm_limits.specs.declared.busy.Busy.{Busy}
use Rattle.lpm_limits.specs.declared.config.Config.{Config}
use Rattle.lpm_rules.specs.RuleMap.{RuleList}
use Rattle.lpm_trace.specs.declared.step.WriterStep.{WriterStep}
use Rattle.lpm_trace.specs.declared.step.WriterStep.TheVariants.{BumpToken, LoadCounter}
use Rattle.lpm_trace.specs.States.{InitialState, TableState, Status, state_after, lets_pass}
use Rattle.lpm_trace.specs.Progress.{WriterProgress, Check, progress_after_bump, IsLoadDue, IsBumped as MayBump}
use Rattle.lpm_trace.specs.Writer.{progress_after, IsWritten, MayStep}
use Rattle.lpm_writer.specs.declared.pool.GroupPool.{GroupPool}
use Rattle.lpm_writer.specs.MemorySteps.{Checks}
use Rattle.lpm_writer.specs.GroupsMatch.{AreRetired, HasNothingDue, MayLoadCounters, Remembers}
use Rattle.lpm_writer.specs.Rest.{IsBetween, IsResting}
use Rattle.lpm_writer.specs.Commands.{IsAwaited, IsWaiting}
use Rattle.lpm_writer.proofs.Checks.{HasPassed, quiet_on, check_passes, check_stops}
use Rattle.lpm_writer.proofs.Reclaims.{kept_quiet}
use Rattle.lpm_writer.proofs.StepsAlone.{nothing_bumped, after_check}
use Rattle.lpm_writer.proofs.Rests.{even_not, rests_quiet}

-- ---- the token is started

-- each token that was checked had been started
pub started_all : (c : InitialState) (steps : List WriterStep) → IsWritten c steps → ((state_after c steps).scan.token ≤ (state_after c steps).token) × ((state_after c steps).passed ≤ (state_after c steps).token)
started_all c [] h = (omega arith, omega arith)
started_all c (BumpToken ∷ steps) h = let k = started_all c steps h.1 in let a = k.0 in let b = k.1 in (omega (arith, a), omega (arith, b))
started_all c (LoadCounter token worker counter ∷ steps) h =
    (h.0.0.2, within (lets_pass token counter && eqb (suc worker) c.workers) (state_after c steps).passed token (state_after c steps).token (started_all c steps h.1).1 h.0.0.2)
  where
    within : (b : Bool) (p t u : ℕ) → p ≤ u → t ≤ u → cond b (max p t) p ≤ u
    within true p t u low low' = omega (arith, low, low')
    within false p t u low low' = low
started_all c (s ∷ steps) h = started_all c steps h.1

differ : (m n : ℕ) → (m ≡ n → ⊥) → eqb m n ≡ false
differ m n apart = elim (eqb_tells m n) [
  | inl e ↦ absurd (apart e.1)
  | inr e ↦ e.0
]

pub may_start : (c : InitialState) (steps : List WriterStep) → IsBetween c steps → MayStep c steps BumpToken
may_start c steps between = (tt, subst (MayBump (state_after c steps)) (sym between.idle.next_step) (even_not (state_after c steps).sequence between.even))

awaited_started : (c : InitialState) (steps : List WriterStep) → IsWritten c steps → HasNothingDue c steps → IsAwaited c (BumpToken ∷ steps)
awaited_started c steps written idle =
    let w : TableState = state_after c steps in
    let k : WriterProgress = progress_after c steps in
    let due : WriterProgress = record k { next_step = Check (suc w.token); awaited = Some (suc w.token) } in
    let on : progress_after c (BumpToken ∷ steps) ≡ cond (eqb c.workers 0) k due = ap (progress_after_bump c w.token k) idle.next_step in
    let waits : 0 < c.workers → progress_after c (BumpToken ∷ steps) ≡ due = λ some. on ∙ ap (λ b. cond b k due) (differ c.workers 0 (λ none. omega (arith, some, none))) in
    let low = (started_all c steps written).0 in
    record {
      alone = λ none.
          let same = on ∙ ap (λ b. cond b k due) (eq-eqb c.workers 0 none) in
          record { next_step = ap (λ (x : WriterProgress). x.next_step) same ∙ idle.next_step; awaited = ap (λ (x : WriterProgress). x.awaited) same ∙ idle.awaited };
      next_step = λ some. ap (λ (x : WriterProgress). x.next_step) (waits some);
      awaited = λ some. ap (λ (x : WriterProgress). x.awaited) (waits some);
      next = ap (λ b. cond b w.scan.next 0) (differ w.scan.token (suc w.token) (λ e. omega (arith, e, low)));
    }

module _ (f s : ℕ) (c : InitialState) (config : Config) (rules : RuleList) (pool : GroupPool) (begun : ℕ) where
  -- the token is started
  pub waits_started : (steps : List WriterStep) → IsWritten c steps → IsResting f s c steps config rules pool begun → IsWaiting f s c (BumpToken ∷ steps) config rules pool begun
  waits_started steps written rest =
      let low = (started_all c steps written).1 in
      record {
        older = steps;
        rested = rest;
        quiet = record { words = refl; sequence = refl; history = refl; answer_changed = refl; groups = refl };
        started = refl;
        passed = refl;
        unpassed = omega (arith, low);
        due = awaited_started c steps written rest.between.idle;
        once = (nothing_bumped steps).once rest.between.once;
      }

  module _ (steps : List WriterStep) (wait : IsWaiting f s c steps config rules pool begun) where
    -- its check may begin
    pub asks_awaited : MayLoadCounters c steps (state_after c steps).token
    asks_awaited some counter =
        ((refl, some, omega arith, inl refl), subst (λ d. IsLoadDue (state_after c steps) (progress_after c steps) (state_after c steps).token 0 d) (sym (wait.due.next_step some)) (refl, sym wait.due.next))

    pub remembers_awaited : Remembers c steps pool.passed
    remembers_awaited some = wait.rested.keeps.remembers some ∙ sym wait.passed

    -- where a check of the token has passed, so has one of each token that was queued
    pub queued_passed : (passed : ℕ) → (state_after c steps).token ≤ passed → All (λ (item : ℕ × ℕ). item.1 ≤ passed) pool.queue.items
    queued_passed passed more = below (state_after c wait.older).groups (state_after c wait.older).token pool.queue.items (let one = wait.started in omega (arith, one, more)) wait.rested.keeps.kept.retired
      where
        below : (status : ℕ → Status) (t : ℕ) (items : List (ℕ × ℕ)) → t ≤ passed → AreRetired status t items → All (λ (item : ℕ × ℕ). item.1 ≤ passed) items
        below status t [] more h = All-nil _
        below status t (item ∷ items) more h = All-cons (λ (i : ℕ × ℕ). i.1 ≤ passed) item items (let le = h.1 in omega (arith, le, more)) (below status t items more h.2)

    module _ {M : Type 0} (does : M → WriterStep → M → Type 0) (m z : M) (later : List WriterStep) where
      -- a worker has stopped its check
      pub waits_on : (busy : Busy) → Checks does c (m, steps) (state_after c steps).token (Err busy) (z, later) → IsWaiting f s c later config rules pool begun
      waits_on busy checks =
          let stop = check_stops does c (m, steps) (state_after c steps).token busy (z, later) checks in
          let t = stop.token in
          let p = stop.passed in
          let below = wait.unpassed in
          record {
            older = wait.older;
            rested = wait.rested;
            quiet = quiet_on (state_after c wait.older) (state_after c steps) (state_after c later) wait.quiet stop.quiet;
            started = t ∙ wait.started;
            passed = p ∙ wait.passed;
            unpassed = omega (arith, t, p, below);
            due = record {
              alone = λ none. stop.idle (wait.due.alone none);
              next_step = λ some. (stop.again (state_after c steps).token (wait.due.awaited some)).0 ∙ ap Check (sym t);
              awaited = λ some. (stop.again (state_after c steps).token (wait.due.awaited some)).1 ∙ ap Some (sym t);
              next = first (eqb (state_after c later).scan.token (state_after c later).token) (state_after c later).scan.next stop.next;
            };
            once = (after_check does c (m, steps) (state_after c steps).token (Err busy) (z, later) checks).once wait.once;
          }
        where
          first : (b : Bool) (n : ℕ) → n ≡ 0 → cond b n 0 ≡ 0
          first true n e = e
          first false n e = refl

      -- its check has passed
      pub rests_again : (passed : ℕ) → Checks does c (m, steps) (state_after c steps).token (Ok tt) (z, later) → Remembers c later passed → IsResting f s c later config rules (record pool { passed = passed }) begun
      rests_again passed checks known =
          let pass = check_passes does c (m, steps) (state_after c steps).token (z, later) checks in
          let quiet = quiet_on (state_after c wait.older) (state_after c steps) (state_after c later) wait.quiet pass.quiet in
          let rest = wait.rested in
          let more : (state_after c wait.older).passed ≤ (state_after c later).passed = let a = wait.passed in let b = pass.more in omega (arith, a, b) in
          let k = kept_quiet c (state_after c wait.older) (state_after c later) (state_after c wait.older).token pool.groups pool.queue.items None quiet.groups more rest.keeps.kept in
          rests_quiet f s c wait.older later config rules pool (record pool { passed = passed }) begun rest quiet (idle pass)
          ((after_check does c (m, steps) (state_after c steps).token (Ok tt) (z, later) checks).once wait.once) (record {
            kept = record {
              free = k.free;
              linked = k.linked;
              taken = k.taken;
              rising = k.rising;
              retired = still (state_after c later).groups (state_after c wait.older).token (state_after c later).token pool.queue.items (let a = wait.started in let b = pass.token in omega (arith, a, b)) k.retired;
              all = k.all;
            };
            remembers = known;
          }) rest.tied rest.queued refl
        where
          idle : HasPassed c steps (state_after c steps).token later → HasNothingDue c later
          idle pass = elim (cases_eq c.workers 0) [
            | inl none ↦ pass.idle (wait.due.alone none)
            | inr some ↦ pass.over (omega (arith, some)) wait.unpassed
          ]

          -- a token that was started since is greater too
          still : (status : ℕ → Status) (t u : ℕ) (items : List (ℕ × ℕ)) → t ≤ u → AreRetired status t items → AreRetired status u items
          still status t u [] more h = tt
          still status t u (item ∷ items) more h = (h.0, (let le = h.1 in omega (arith, le, more)), still status t u items more h.2)

      -- either
      pub checked : (r : Result (Unit {0}) Busy) (passed : ℕ) → Checks does c (m, steps) (state_after c steps).token r (z, later) → Remembers c later passed → OnErr r (passed ≡ pool.passed)
          → OnOk r (IsResting f s c later config rules (record pool { passed = passed }) begun) × OnErr r (IsWaiting f s c later config rules (record pool { passed = passed }) begun)
      checked (Ok u) passed checks known same = (rests_again passed checks known, tt)
      checked (Err busy) passed checks known same = (tt, subst (λ p. IsWaiting f s c later config rules (record pool { passed = p }) begun) (sym same) (waits_on busy checks))
