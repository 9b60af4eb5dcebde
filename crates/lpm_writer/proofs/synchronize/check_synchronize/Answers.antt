use Rattle.std.proofs.Common.{rules, ℕ, ◌≡◌, ◌≤◌, List, inr, sym, subst, ◌∙◌}
use Rattle.std.proofs.lemmas.Result.{on_ok_weaker}
use Rattle.std.specs.Prelude.{Result, OnOk, OnErr}
use Rattle.lpm_groups.specs.declared.GroupState.{GroupState}
use Rattle.lpm_limits.specs.declared.busy.Busy.{Busy}
use Rattle.lpm_trace.specs.declared.step.WriterStep.{WriterStep}
use Rattle.lpm_trace.specs.States.{InitialState, state_after}
use Rattle.lpm_writer.specs.declared.control.ControlState.{ControlState}
use Rattle.lpm_writer.specs.declared.pool.GroupPool.{GroupPool}
use Rattle.lpm_writer.specs.Commands.{IsWaiting}
use Rattle.lpm_writer.specs.Rest.{IsResting}
use Rattle.lpm_writer.specs.MemorySteps.{Checks}
use Rattle.lpm_writer.specs.GroupsMatch.{MayLoadCounters}
use Rattle.lpm_writer.proofs.Waits.{asks_awaited, remembers_awaited, queued_passed, checked}
use Rattle.lpm_writer.proofs.synchronize.check_synchronize.Given.{Over}
use Rattle.lpm_writer.proofs.synchronize.check_synchronize.Goals as goal

-- the token is the newest, so the writer awaits its check
newest : (g : Over) (m : g.row.M.Denot) (token : ℕ) → token ≡ g.M.Memory.newest m → (initial : InitialState) (steps : List WriterStep) → g.M.Memory.did m initial steps
    → token ≡ (state_after initial steps).token
newest g m token is initial steps did = is ∙ (g.met.M.Memory.shows m initial steps did).1

awaited : (g : Over) (m : g.row.M.Denot) (l : ControlState g.row.FIRST g.row.SECOND) (token : ℕ) → token ≡ g.M.Memory.newest m → (initial : InitialState) (steps : List WriterStep)
    → g.M.Memory.did m initial steps → IsWaiting g.row.FIRST g.row.SECOND initial steps l.config l.rules l.pool l.versions → MayLoadCounters initial steps token
awaited g m l token is initial steps did wait =
    subst (MayLoadCounters initial steps) (sym (newest g m token is initial steps did)) (asks_awaited g.row.FIRST g.row.SECOND initial l.config l.rules l.pool l.versions steps wait)

pub check-requires : goal.check-requires
check-requires g c =
    let r = c.requires.waits in
    inr (r.0, r.1, r.2, λ _. awaited g c.args.memory.now c.args.control.now _ (search) r.0 r.1 r.2 r.3)

-- what the contract says of the memory and the states of the groups that the check has left
abbrev Leaves : (g : Over) → g.row.M.Denot → ControlState g.row.FIRST g.row.SECOND → Result (Unit {0}) Busy → ℕ → InitialState → List WriterStep → g.row.M.Denot → List GroupState → Type 0
Leaves g m l r passed initial steps z states =
    let pool : GroupPool = record { groups = states; queue = l.pool.queue; passed = passed } in
    (later : List WriterStep) × g.M.Memory.did z initial later × Checks g.M.Memory.does initial (m, steps) (g.M.Memory.newest m) r (z, later)
    × OnOk r (IsResting g.row.FIRST g.row.SECOND initial later l.config l.rules pool l.versions)
    × OnErr r (IsWaiting g.row.FIRST g.row.SECOND initial later l.config l.rules pool l.versions)

pub returns-clause-checks : goal.returns-clause-checks
returns-clause-checks g c = λ initial steps did wait.
    let f = g.row.FIRST in
    let s = g.row.SECOND in
    let does = g.M.Memory.does in
    let l = c.args.control.now in
    let m = c.args.memory.now in
    let z = c.check.new.self in
    let r = c.check.result in
    let value : _ ≡ g.M.Memory.newest m = search in
    let same : _ ≡ z.memory.now = search rules in
    let may = awaited g m l _ value initial steps did wait in
    let done = c.check.ensures.checks.0 initial steps did (remembers_awaited f s initial l.config l.rules l.pool l.versions steps wait) (λ _. may) in
    let then = checked f s initial l.config l.rules l.pool l.versions steps wait does m z.memory.now done.0 r z.passed.now (subst (λ t. Checks does initial (m, steps) t r (z.memory.now, done.0)) (newest g m _ value initial steps did) done.2) done.3 c.check.ensures.checks.3 in
    let leaves : Leaves g m l r z.passed.now initial steps z.memory.now l.pool.groups = (done.0, done.1, subst (λ t. Checks does initial (m, steps) t r (z.memory.now, done.0)) value done.2, then.0, then.1) in
    subst (λ y. Leaves g m l r z.passed.now initial steps y z.groups.now) (sym same)
    (subst (λ states. Leaves g m l r z.passed.now initial steps z.memory.now states) (sym c.check.ensures.checks.1) leaves)

pub returns-clause-queued : goal.returns-clause-queued
returns-clause-queued g c =
    let l = c.args.control.now in
    let r = c.requires.waits in
    let value : _ ≡ g.M.Memory.newest c.args.memory.now = search in
    let passed = c.check.new.self.passed.now in
    on_ok_weaker c.check.result (λ more. queued_passed g.row.FIRST g.row.SECOND r.0 l.config l.rules l.pool l.versions r.1 r.3 passed (subst (λ t. t ≤ passed) (newest g c.args.memory.now _ value r.0 r.1 r.2) more)) c.check.ensures.checks.2
