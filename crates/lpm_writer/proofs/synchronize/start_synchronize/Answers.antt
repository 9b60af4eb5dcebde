use Rattle.std.proofs.Common.{List, ◌∷◌, refl}
use Rattle.lpm_trace.specs.declared.step.WriterStep.{WriterStep}
use Rattle.lpm_trace.specs.declared.step.WriterStep.TheVariants.{BumpToken}
use Rattle.lpm_trace.specs.States.{InitialState}
use Rattle.lpm_writer.specs.MemorySteps.{Goes}
use Rattle.lpm_writer.specs.Commands.{Rests, IsWaiting}
use Rattle.lpm_writer.proofs.Waits.{may_start, waits_started}
use Rattle.lpm_writer.proofs.synchronize.start_synchronize.Given.{Over}
use Rattle.lpm_writer.proofs.synchronize.start_synchronize.Goals.{After-bump}
use Rattle.lpm_writer.proofs.synchronize.start_synchronize.Goals as goal

pub bump-requires-clause-may : goal.bump-requires-clause-may
bump-requires-clause-may g c =
    let r = c.requires.rests in
    (r.0, r.1, r.2, may_start r.0 r.1 r.3.between)

-- what the contract says of the token that was started
abbrev Started : (g : Over) → After-bump g → Type 0
Started g c = (initial : InitialState) (steps : List WriterStep) → g.M.Memory.did c.args.memory.now initial steps → Rests initial steps c.args.control.now
    → (later : List WriterStep) × g.M.Memory.did c.bump.new.self initial later
    × Goes g.M.Memory.does (c.args.memory.now, steps) BumpToken (c.bump.new.self, later)
    × IsWaiting g.row.FIRST g.row.SECOND initial later c.args.control.now.config c.args.control.now.rules c.args.control.now.pool c.args.control.now.versions

started : (g : Over) (c : After-bump g) → Started g c
started g c = λ initial steps did rest.
    let met = g.met.M.Memory in
    let l = c.args.control.now in
    let m = c.args.memory.now in
    let z = c.bump.new.self in (
      BumpToken ∷ steps,
      met.follows m BumpToken z initial steps c.bump.ensures.does did (may_start initial steps rest.between),
      (c.bump.ensures.does, refl),
      waits_started g.row.FIRST g.row.SECOND initial l.config l.rules l.pool l.versions steps (met.written m initial steps did) rest,
    )

-- the return's goal has the first name where the test before it returns, and the second where it has an `else`
pub returns-clause-starts : (g : Over) (c : After-bump g) → Started g c
returns-clause-starts = started

pub returns-else-token-len-gt-LAST_TOKEN-clause-starts : (g : Over) (c : After-bump g) → Started g c
returns-else-token-len-gt-LAST_TOKEN-clause-starts = started
