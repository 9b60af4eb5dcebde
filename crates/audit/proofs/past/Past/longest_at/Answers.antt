use Rattle.std.proofs.Common.{arith, ◌+◌, ◌-◌}
use Rattle.audit.proofs.Spans.{found_at, shorter_at}
use Rattle.audit.specs.Wrong.{version_of}
use Rattle.audit.proofs.Indexes.{networks, all_short}
use Rattle.audit.proofs.past.Past.longest_at.Goals as goal

pub loop-shorter-init : goal.loop-shorter-init
loop-shorter-init g c = λ q some cov.
    let short = all_short g.row.FIRST g.row.SECOND c.self.inside.history.now c.args.self.now c.self.inside.flushed.items c.self.inside.lengths.items c.self.invariant c.self.view_is c.args.version c.requires.version q some in
    omega (arith, short)

pub returns-in-Some-clause-networks : goal.returns-in-Some-clause-networks
returns-in-Some-clause-networks g c = networks g.row.FIRST g.row.SECOND c.self.inside.history.now c.args.self.now c.self.inside.flushed.items c.self.inside.lengths.items c.self.invariant c.self.view_is c.args.version c.requires.version

pub returns-clause-networks : goal.returns-clause-networks
returns-clause-networks g c = networks g.row.FIRST g.row.SECOND c.self.inside.history.now c.args.self.now c.self.inside.flushed.items c.self.inside.lengths.items c.self.invariant c.self.view_is c.args.version c.requires.version

pub returns-in-Some-clause-longest : goal.returns-in-Some-clause-longest
returns-in-Some-clause-longest g c =
    found_at (g.row.FIRST + g.row.SECOND) c.args.addr (32 - c.loop-shorter.shorter) (version_of c.args.self.now c.args.version) c.in-Some.hop c.in-Some.ensures
    (λ q some cov. let z = c.loop-shorter.invariant q some cov in omega (arith, z))

pub loop-shorter-preserved : goal.loop-shorter-preserved
loop-shorter-preserved g c =
    let nets = networks g.row.FIRST g.row.SECOND c.self.inside.history.now c.args.self.now c.self.inside.flushed.items c.self.inside.lengths.items c.self.invariant c.self.view_is c.args.version c.requires.version in
    shorter_at (g.row.FIRST + g.row.SECOND) c.args.addr (32 - c.loop-shorter.shorter) c.loop-shorter.shorter (version_of c.args.self.now c.args.version) nets (omega arith)
    c.in_default.ensures c.loop-shorter.invariant
