use Rattle.std.proofs.Common.{arith, ◌≡◌, ◌≤◌, ap, sym, subst, ◌∙◌, [], length, map}
use Rattle.std.proofs.lemmas.List.{length-map}
use Rattle.lpm_writer.specs.Rest.{blank_initial_state, state_of}
use Rattle.lpm_writer.specs.Limbo.{tokens_of}
use Rattle.interleave.specs.World.{writer_items, IsPlayedOut}
use Rattle.interleave.specs.Runs.{IsPerformed}
use Rattle.interleave.proofs.Ends.{opens, nothing_yet, run_ends}
use Rattle.interleave.proofs.world.run_opened.Goals as goal

pub answer_all-requires : goal.answer_all-requires
answer_all-requires g c =
    let f = g.row.FIRST in
    let s = g.row.SECOND in
    let initial = blank_initial_state f s c.args.control.now.config in
    let did = c.in_ok-memory.ensures.did initial (opens f s c.args.control.now.config (length c.args.scripts.now) c.requires.workers) in
    let all : length c.in_ok-memory.memory.schedule ≤ length c.args.schedule.now = let same = ap length c.in_ok-memory.ensures.schedule in omega (arith, same) in
    (omega arith, (omega arith, (omega arith, ((initial, did, c.requires.rests), all))))

pub play_out-requires : goal.play_out-requires
play_out-requires g c =
    let f = g.row.FIRST in
    let s = g.row.SECOND in
    let initial = blank_initial_state f s c.args.control.now.config in
    let did = c.in_ok-memory.ensures.did initial (opens f s c.args.control.now.config (length c.args.scripts.now) c.requires.workers) in
    let performed = c.in_ok-replies.ensures.performed initial did c.requires.rests in
    (omega arith, (initial, performed.0, performed.1))

pub returns-clause-runs : goal.returns-clause-runs
returns-clause-runs g c =
    let f = g.row.FIRST in
    let s = g.row.SECOND in
    let config = c.args.control.now.config in
    let initial = blank_initial_state f s config in
    let control = c.args.control.now in
    let told = c.requires in
    let scripts = map (λ script. script.items) c.args.scripts.now in
    let schedule = c.args.schedule.now in
    let did = c.in_ok-memory.ensures.did initial (opens f s config (length c.args.scripts.now) c.requires.workers) in
    let done = c.in_ok-replies.ensures.performed initial did told.rests in
    let same = c.in_ok-replies.ensures.scripts in
    let z = c.play_out.new.self in
    let played = c.play_out.ensures.played initial done.0 done.1 in
    let scripts_are : z.scripts ≡ scripts = ap (λ x. x.scripts) c.play_out.ensures.shared ∙ ap (λ x. x.0) same ∙ c.in_ok-memory.ensures.scripts in
    let schedule_is : z.schedule ≡ schedule = ap (λ x. x.schedule) c.play_out.ensures.shared ∙ ap (λ x. x.1) same ∙ c.in_ok-memory.ensures.schedule in
    let start : state_of control.rules.rules [] control.pool control.versions ≡ _ = nothing_yet control.rules.rules (tokens_of control.pool.queue.items) control.versions told.rules (ap tokens_of told.queue) told.versions in
    let performed = done.2 in
    let performed' = subst (λ x. IsPerformed initial f s config (writer_items x) (state_of control.rules.rules [] control.pool control.versions) c.args.changes.now c.in_ok-replies.replies.items done.0) c.in_ok-memory.ensures.schedule performed in
    let performed'' = subst (λ x. IsPerformed initial f s config (writer_items schedule) x c.args.changes.now c.in_ok-replies.replies.items done.0) start performed' in
    let out = subst (λ x. IsPlayedOut initial x z.schedule done.0 z.steps z.seen) scripts_are played in
    let out' = subst (λ x. IsPlayedOut initial scripts x done.0 z.steps z.seen) schedule_is out in
    let out'' = subst (λ x. IsPlayedOut initial scripts schedule done.0 x z.seen) (sym c.into_record-steps.ensures.steps) out' in
    let out3 = subst (λ x. IsPlayedOut initial scripts schedule done.0 c.into_record-steps.result.0.items x) (sym c.into_record-steps.ensures.seen) out'' in
    run_ends f s config c.args.changes.now scripts (length-map c.args.scripts.now (λ script. script.items) ∙ c.requires.workers) schedule done.0
    (record { steps = c.into_record-steps.result.0; replies = c.in_ok-replies.replies; lookups = c.into_record-steps.result.1 }) performed'' out3
