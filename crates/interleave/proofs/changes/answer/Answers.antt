use Rattle.std.proofs.Common.{◌≡◌, refl, ap, sym, subst, ◌∙◌, List, Option, Some, None, MatchOption, Ok, Err}
use Rattle.lpm_rules.specs.declared.Change.{Change}
use Rattle.fib_model.specs.State.{State}
use Rattle.lpm_writer.specs.declared.control.ControlState.{ControlState}
use Rattle.lpm_writer.specs.MemorySteps.{WithSteps}
use Rattle.lpm_trace.specs.declared.step.WriterStep.{WriterStep}
use Rattle.lpm_writer.specs.Rest.{IsResting, state_of}
use Rattle.lpm_writer.proofs.StepsAlone.{adds_alone, deletes_alone, flushes_alone, frees_alone}
use Rattle.interleave.specs.View.{WorldView}
use Rattle.interleave.specs.World.{WorldDid, scripts_and_schedule}
use Rattle.interleave.specs.declared.reply.Reply.{Reply}
use Rattle.interleave.specs.Runs.{Answers}
use Rattle.interleave.proofs.Ends.{ScriptsAndSchedule, does_in, stays}
use Rattle.interleave.proofs.changes.answer.Goals as goal
use Rattle.interleave.proofs.changes.answer.Goals.{in-Add+in-Ok, in-Add+in-Err+in_default, in-Delete+in-Ok-delete_rule, in-Delete+in-Err-delete_rule, in-Flush+in-Ok-flush_rules, in-Flush+in-Err-flush_rules, in-Reclaim}

carried : {K M L : Type 0} (P : K → M → L → Reply → Type 0) {k k' : K} {m m' : M} {l l' : L} {r r' : Reply}
    → k' ≡ k → m' ≡ m → l' ≡ l → r' ≡ r → P k m l r → P k' m' l' r'
carried {K} {M} {L} P ek em el er h =
    subst (λ (z : K × (M × (L × Reply))). P z.0 z.1.0 z.1.1.0 z.1.1.1) (λ i. (sym ek i, (sym em i, (sym el i, sym er i)))) h

-- what came of a change, told of the writer's steps alone
came : {Did Rests Does Is : List WriterStep → Type 0} → ((later : List WriterStep) × Did later × Rests later × Does later) → ((later : List WriterStep) → Does later → Is later)
    → (later : List WriterStep) × Did later × Rests later × Is later
came x alone = (x.0, x.1, x.2, alone x.0 x.3)

pub returns-clause-replies : goal.returns-clause-replies
returns-clause-replies g c = λ initial steps did rests.
    let f = g.row.FIRST in
    let s = g.row.SECOND in
    let old = c.args.control.now in
    let config = old.config in
    let kind = scripts_and_schedule c.args.memory.now in
    let before : State (WithSteps WorldView) = state_of {X = WithSteps WorldView} old.rules.rules (c.args.memory.now, steps) old.pool old.versions in
    let after : WorldView → ControlState f s → List WriterStep → State (WithSteps WorldView) = λ m l later.
    state_of {X = WithSteps WorldView} l.rules.rules (m, later) l.pool l.versions in
    let Came : Change f s → WorldView → ControlState f s → Reply → Type 0 = λ change m l r. (later : List WriterStep) × WorldDid f s m initial later
    × IsResting f s initial later l.config l.rules l.pool l.versions
    × Answers initial f s config (state_of old.rules.rules steps old.pool old.versions) change r (state_of l.rules.rules later l.pool l.versions) in
    elim c.match-change.branch [
      | in-Add+in-Ok w ↦ carried Came w.in-Add.is w.memory-is w.control-is w.reply-is
          (came (w.in-Ok.ensures.adds initial steps did rests) (λ later does. (adds_alone WorldView (does_in f s) initial ScriptsAndSchedule scripts_and_schedule (stays f s) kind f s config before
          (after w.add_rule.new.memory w.add_rule.new.control later) refl w.in-Add.prefix w.in-Add.hop (Ok w.in-Ok.put) does).0))
      | in-Add+in-Err+in_default w ↦ carried Came w.in-Add.is w.memory-is w.control-is w.reply-is
          (came (w.in-Err.ensures.adds initial steps did rests) (λ later does. (
            w.in_default.not-Memory,
            (adds_alone WorldView (does_in f s) initial ScriptsAndSchedule scripts_and_schedule (stays f s) kind f s config before
                (after w.add_rule.new.memory w.add_rule.new.control later) refl w.in-Add.prefix w.in-Add.hop (Err w.in-Err.refusal) does).0,
          )))
      | in-Delete+in-Ok-delete_rule w ↦ carried Came w.in-Delete.is w.memory-is w.control-is w.reply-is
          (came (w.in-Ok-delete_rule.ensures.deletes initial steps did rests) (λ later does. (deletes_alone WorldView (does_in f s) initial ScriptsAndSchedule scripts_and_schedule (stays f s) kind f s config before
          (after w.delete_rule.new.memory w.delete_rule.new.control later) refl w.in-Delete.prefix (Ok w.in-Ok-delete_rule.hop) does).0))
      | in-Delete+in-Err-delete_rule w ↦ carried Came w.in-Delete.is w.memory-is w.control-is w.reply-is
          (came (w.in-Err-delete_rule.ensures.deletes initial steps did rests) (λ later does. (deletes_alone WorldView (does_in f s) initial ScriptsAndSchedule scripts_and_schedule (stays f s) kind f s config before
          (after w.delete_rule.new.memory w.delete_rule.new.control later) refl w.in-Delete.prefix (Err w.in-Err-delete_rule.refusal) does).0))
      | in-Flush+in-Ok-flush_rules w ↦ carried Came w.in-Flush.is w.memory-is w.control-is w.reply-is
          (came (w.in-Ok-flush_rules.ensures.flushes initial steps did rests) (λ later does. (flushes_alone WorldView (does_in f s) initial ScriptsAndSchedule scripts_and_schedule (stays f s) kind f s config before
          (after w.flush_rules.new.memory w.flush_rules.new.control later) refl (Ok w.in-Ok-flush_rules.count) does).0))
      | in-Flush+in-Err-flush_rules w ↦ carried Came w.in-Flush.is w.memory-is w.control-is w.reply-is
          (came (w.in-Err-flush_rules.ensures.flushes initial steps did rests) (λ later does. (flushes_alone WorldView (does_in f s) initial ScriptsAndSchedule scripts_and_schedule (stays f s) kind f s config before
          (after w.flush_rules.new.memory w.flush_rules.new.control later) refl (Err w.in-Err-flush_rules.refusal) does).0))
      | in-Reclaim w ↦ carried Came w.in-Reclaim.is w.memory-is w.control-is w.reply-is
          (came (w.reclaim_groups.ensures.frees initial steps did rests) (λ later does. (frees_alone WorldView (does_in f s) initial ScriptsAndSchedule scripts_and_schedule (stays f s) kind f s config before
          (after w.reclaim_groups.new.memory w.reclaim_groups.new.control later) refl w.in-Reclaim.max w.reclaim_groups.result does).0))
    ]

pub returns-clause-scripts : goal.returns-clause-scripts
returns-clause-scripts g c =
    let f = g.row.FIRST in
    let s = g.row.SECOND in
    let old = c.args.control.now in
    let config = old.config in
    let kind = scripts_and_schedule c.args.memory.now in
    let rests = c.requires.rests in
    let before : State (WithSteps WorldView) = state_of {X = WithSteps WorldView} old.rules.rules (c.args.memory.now, rests.1) old.pool old.versions in
    let after : WorldView → ControlState f s → List WriterStep → State (WithSteps WorldView) = λ m l later.
    state_of {X = WithSteps WorldView} l.rules.rules (m, later) l.pool l.versions in
    elim c.match-change.branch [
      | in-Add+in-Ok w ↦
          let now = w.in-Ok.ensures.adds rests.0 rests.1 rests.2 rests.3 in
          ap scripts_and_schedule w.memory-is ∙ (adds_alone WorldView (does_in f s) rests.0 ScriptsAndSchedule scripts_and_schedule (stays f s) kind f s config before
          (after w.add_rule.new.memory w.add_rule.new.control now.0) refl w.in-Add.prefix w.in-Add.hop (Ok w.in-Ok.put) now.3).1
      | in-Add+in-Err+in_default w ↦
          let now = w.in-Err.ensures.adds rests.0 rests.1 rests.2 rests.3 in
          ap scripts_and_schedule w.memory-is ∙ (adds_alone WorldView (does_in f s) rests.0 ScriptsAndSchedule scripts_and_schedule (stays f s) kind f s config before
          (after w.add_rule.new.memory w.add_rule.new.control now.0) refl w.in-Add.prefix w.in-Add.hop (Err w.in-Err.refusal) now.3).1
      | in-Delete+in-Ok-delete_rule w ↦
          let now = w.in-Ok-delete_rule.ensures.deletes rests.0 rests.1 rests.2 rests.3 in
          ap scripts_and_schedule w.memory-is ∙ (deletes_alone WorldView (does_in f s) rests.0 ScriptsAndSchedule scripts_and_schedule (stays f s) kind f s config before
          (after w.delete_rule.new.memory w.delete_rule.new.control now.0) refl w.in-Delete.prefix (Ok w.in-Ok-delete_rule.hop) now.3).1
      | in-Delete+in-Err-delete_rule w ↦
          let now = w.in-Err-delete_rule.ensures.deletes rests.0 rests.1 rests.2 rests.3 in
          ap scripts_and_schedule w.memory-is ∙ (deletes_alone WorldView (does_in f s) rests.0 ScriptsAndSchedule scripts_and_schedule (stays f s) kind f s config before
          (after w.delete_rule.new.memory w.delete_rule.new.control now.0) refl w.in-Delete.prefix (Err w.in-Err-delete_rule.refusal) now.3).1
      | in-Flush+in-Ok-flush_rules w ↦
          let now = w.in-Ok-flush_rules.ensures.flushes rests.0 rests.1 rests.2 rests.3 in
          ap scripts_and_schedule w.memory-is ∙ (flushes_alone WorldView (does_in f s) rests.0 ScriptsAndSchedule scripts_and_schedule (stays f s) kind f s config before
          (after w.flush_rules.new.memory w.flush_rules.new.control now.0) refl (Ok w.in-Ok-flush_rules.count) now.3).1
      | in-Flush+in-Err-flush_rules w ↦
          let now = w.in-Err-flush_rules.ensures.flushes rests.0 rests.1 rests.2 rests.3 in
          ap scripts_and_schedule w.memory-is ∙ (flushes_alone WorldView (does_in f s) rests.0 ScriptsAndSchedule scripts_and_schedule (stays f s) kind f s config before
          (after w.flush_rules.new.memory w.flush_rules.new.control now.0) refl (Err w.in-Err-flush_rules.refusal) now.3).1
      | in-Reclaim w ↦
          let now = w.reclaim_groups.ensures.frees rests.0 rests.1 rests.2 rests.3 in
          ap scripts_and_schedule w.memory-is ∙ (frees_alone WorldView (does_in f s) rests.0 ScriptsAndSchedule scripts_and_schedule (stays f s) kind f s config before
          (after w.reclaim_groups.new.memory w.reclaim_groups.new.control now.0) refl w.in-Reclaim.max w.reclaim_groups.result now.3).1
    ]

weaker : {A B B' : Type 0} {P P' : A → Type 0} (o : Option A) → (B → B') → ((a : A) → P a → P' a) → MatchOption o B P → MatchOption o B' P'
weaker None f g h = f h
weaker (Some a) f g h = g a h

pub returns-in-Synchronize-clause-replies : goal.returns-in-Synchronize-clause-replies
returns-in-Synchronize-clause-replies g c = λ initial steps did rests.
    let f = g.row.FIRST in
    let s = g.row.SECOND in
    let old = c.args.control.now in
    let l = c.synchronize.new.control in
    weaker c.synchronize.result (λ waits. (c.in-Synchronize.is, waits.0, waits.1))
    (λ reply now. (
      now.0,
      now.1,
      now.2,
      subst (λ change. Answers initial f s old.config (state_of old.rules.rules steps old.pool old.versions) change reply (state_of l.rules.rules now.0 l.pool l.versions)) (sym c.in-Synchronize.is) now.3,
    ))
    (c.synchronize.ensures.replies initial steps did rests)
