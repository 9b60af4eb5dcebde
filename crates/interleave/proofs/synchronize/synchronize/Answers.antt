use Rattle.std.proofs.Common.{arith, ◌≡◌, ◌+◌, ◌^◌, inl, inr, true, false, refl, ap, sym, subst, ◌∙◌, add-one, Ok, Err}
use Rattle.std.proofs.lemmas.Bool.{cases_lt}
use Rattle.lpm_writer.specs.declared.control.ControlState.{ControlState}
use Rattle.lpm_trace.proofs.Versions.{token_is}
use Rattle.lpm_writer.specs.MemorySteps.{Checks}
use Rattle.lpm_writer.specs.Commands.{IsWaiting}
use Rattle.lpm_writer.proofs.StepsAlone.{checks_alone, checks_fixed}
use Rattle.interleave.specs.View.{WorldView}
use Rattle.interleave.specs.World.{WorldDid, scripts_and_schedule}
use Rattle.interleave.specs.WorldLaws.{world_shows}
use Rattle.interleave.specs.Runs.{Waits, next_token}
use Rattle.lpm_writer.specs.Rest.{state_of}
use Rattle.interleave.proofs.Ends.{ScriptsAndSchedule, does_in, stays}
use Rattle.interleave.proofs.Synchronizations.{waited_none, waited_more}
use Rattle.interleave.proofs.synchronize.synchronize.Goals as goal

not_true : false ≡ true → ⊥
not_true e = cc

pub loop-check-init : goal.loop-check-init
loop-check-init g c =
    let f = g.row.FIRST in
    let s = g.row.SECOND in
    let l = c.args.control.now in
    let rests = c.requires.rests in
    record {
      control = refl;
      scripts_are = (c.in_default.ensures.starts rests.0 rests.1 rests.2 rests.3).2.0.0;
      waited = waited_none (WorldDid f s) f s (does_in f s) c.args.memory.now c.start_synchronize.new.memory l.config l.rules l.pool l.versions c.in_default.ensures.starts;
    }

pub check_synchronize-requires : goal.check_synchronize-requires
check_synchronize-requires g c =
    let rests = c.requires.rests in
    let so_far = c.loop-check.invariant.waited rests.0 rests.1 rests.2 rests.3 in
    (omega (arith), (rests.0, so_far.0, so_far.1, subst (λ l. IsWaiting g.row.FIRST g.row.SECOND rests.0 so_far.0 l.config l.rules l.pool l.versions) (sym c.loop-check.invariant.control) so_far.2))

pub returns-in-Ok-clause-replies : goal.returns-in-Ok-clause-replies
returns-in-Ok-clause-replies g c = λ initial steps did rests.
    let f = g.row.FIRST in
    let s = g.row.SECOND in
    let y = c.loop-check.memory in
    let z = c.check_synchronize.new.memory in
    let same = c.loop-check.invariant.control in
    let so_far = c.loop-check.invariant.waited initial steps did rests in
    let waits = subst (λ l. IsWaiting f s initial so_far.0 l.config l.rules l.pool l.versions) (sym same) so_far.2 in
    let now = c.in-Ok.ensures.checks initial so_far.0 so_far.1 waits in
    let is = (world_shows f s y initial so_far.0 so_far.1).1 ∙ so_far.3 in
    let token = (world_shows f s c.args.memory.now initial steps did).1 in
    let check = subst (λ t. Checks (does_in f s) initial (y, so_far.0) t (Ok tt) (z, now.0)) is now.2 in (
      now.0,
      now.1,
      now.3,
      (
        elim (cases_lt (2 ^ 62) (c.args.memory.now.token + c.args.control.now.config.groups)) [
          | inl over ↦ absurd (not_true (c.in_default.ensures.exhausted.1 over))
          | inr within ↦ omega (arith, within, token, token_is initial steps)
        ],
        record {
          last = so_far.0;
          stops = c.loop-check._check;
          stopped = so_far.4;
          passes = checks_alone WorldView (does_in f s) initial (y, so_far.0) (z, now.0) (next_token initial steps) (Ok tt) check;
        },
        ap (λ (l : ControlState f s). state_of l.rules.rules now.0 l.pool l.versions) (c.in-Ok.ensures.same ∙ ap (λ (l : ControlState f s). record l { pool = record l.pool { passed = c.check_synchronize.new.control.pool.passed } }) same),
      ),
    )

pub returns-in-Ok-clause-scripts : goal.returns-in-Ok-clause-scripts
returns-in-Ok-clause-scripts g c =
    let f = g.row.FIRST in
    let s = g.row.SECOND in
    let y = c.loop-check.memory in
    let rests = c.requires.rests in
    let so_far = c.loop-check.invariant.waited rests.0 rests.1 rests.2 rests.3 in
    let waits = subst (λ l. IsWaiting f s rests.0 so_far.0 l.config l.rules l.pool l.versions) (sym c.loop-check.invariant.control) so_far.2 in
    let now = c.in-Ok.ensures.checks rests.0 so_far.0 so_far.1 waits in
    checks_fixed WorldView (does_in f s) rests.0 ScriptsAndSchedule scripts_and_schedule (stays f s) (y, so_far.0) (c.check_synchronize.new.memory, now.0) y.token (Ok tt) now.2 ∙ c.loop-check.invariant.scripts_are

pub loop-check-preserved : goal.loop-check-preserved
loop-check-preserved g c =
    let f = g.row.FIRST in
    let s = g.row.SECOND in
    let l = c.args.control.now in
    let y = c.loop-check.memory in
    let z = c.check_synchronize.new.memory in
    let same = c.loop-check.invariant.control in
    let still = c.in-Err-check_synchronize.ensures.stopped ∙ same in
    let rests = c.requires.rests in
    let so_far = c.loop-check.invariant.waited rests.0 rests.1 rests.2 rests.3 in
    let waits = subst (λ x. IsWaiting f s rests.0 so_far.0 x.config x.rules x.pool x.versions) (sym same) so_far.2 in
    let then = c.in-Err-check_synchronize.ensures.checks rests.0 so_far.0 so_far.1 waits in
    record {
      control = still;
      scripts_are = checks_fixed WorldView (does_in f s) rests.0 ScriptsAndSchedule scripts_and_schedule (stays f s) (y, so_far.0) (z, then.0) y.token (Err c.in-Err-check_synchronize.field-0) then.2 ∙ c.loop-check.invariant.scripts_are;
      waited = rw add-one
          (waited_more (WorldDid f s) f s (does_in f s) c.args.memory.now y z l.config l.rules l.pool l.versions c.loop-check._check y.token c.in-Err-check_synchronize.field-0
          c.loop-check.invariant.waited
          (λ initial steps did. (world_shows f s y initial steps did).1)
          (λ initial steps did waiting.
          let now = c.in-Err-check_synchronize.ensures.checks initial steps did (subst (λ x. IsWaiting f s initial steps x.config x.rules x.pool x.versions) (sym same) waiting) in
          (now.0, now.1, now.2, subst (λ x. IsWaiting f s initial now.0 x.config x.rules x.pool x.versions) still now.4)));
    }

pub returns-clause-replies : goal.returns-clause-replies
returns-clause-replies g c = λ initial steps did rests.
    let so_far = c.loop-check.invariant.waited initial steps did rests in
    let all : c.loop-check._check ≡ c.args.tries = omega (arith, c.loop-check-test.false, c.loop-check.auto._check-end) in
    let token = (world_shows g.row.FIRST g.row.SECOND c.args.memory.now initial steps did).1 in (
      elim (cases_lt (2 ^ 62) (c.args.memory.now.token + c.args.control.now.config.groups)) [
        | inl over ↦ absurd (not_true (c.in_default.ensures.exhausted.1 over))
        | inr within ↦ omega (arith, within, token, token_is initial steps)
      ],
      (so_far.0, so_far.1, subst (λ n. Waits initial n steps so_far.0) all so_far.4),
    )

pub returns-in-Err-clause-replies : goal.returns-in-Err-clause-replies
returns-in-Err-clause-replies g c = λ initial steps did rests.
    let token = (world_shows g.row.FIRST g.row.SECOND c.args.memory.now initial steps did).1 in
    let over = c.in-Err.ensures.exhausted.0 refl in
    let memory = c.in-Err.ensures.unchanged in (
      steps,
      subst (λ m. WorldDid g.row.FIRST g.row.SECOND m initial steps) (sym memory) did,
      rests,
      ((λ left. absurd (omega (arith, left, over, token, token_is initial steps))), refl),
    )
