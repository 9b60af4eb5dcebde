use Rattle.std.proofs.Common.{arith}
use Rattle.audit.proofs.Indexes.{no_hop, old_hop, new_hop}
use Rattle.audit.proofs.past.Past.hop_at.Goals as goal

pub returns-in_default : goal.returns-in_default
returns-in_default g c =
    no_hop g.row.FIRST g.row.SECOND c.self.inside.history.now c.args.self.now c.self.inside.flushed.items c.self.inside.lengths.items c.self.invariant c.self.view_is
    c.args.prefix.now c.len.result c.bits-bits.result c.args.version c.len.ensures.value c.bits-bits.ensures.value (omega arith) c.requires c.deref.result.now c.index-events.result.now c.index-events.ensures c.deref.ensures.value
    c.in_default.ensures

pub returns-then-last-index : goal.returns-then-last-index
returns-then-last-index g c =
    old_hop g.row.FIRST g.row.SECOND c.self.inside.history.now c.args.self.now c.self.inside.flushed.items c.self.inside.lengths.items c.self.invariant c.self.view_is
    c.args.prefix.now c.len.result c.bits-bits.result c.args.version c.len.ensures.value c.bits-bits.ensures.value (omega arith) c.requires c.deref.result.now c.index-events.result.now c.index-events.ensures c.deref.ensures.value
    c.in-Some.last c.index.result.now c.index.ensures c.in-Some.ensures c.if-last-index.true

pub returns : goal.returns
returns g c =
    new_hop g.row.FIRST g.row.SECOND c.self.inside.history.now c.args.self.now c.self.inside.flushed.items c.self.inside.lengths.items c.self.invariant c.self.view_is
    c.args.prefix.now c.len.result c.bits-bits.result c.args.version c.len.ensures.value c.bits-bits.ensures.value (omega arith) c.requires c.deref.result.now c.index-events.result.now c.index-events.ensures c.deref.ensures.value
    c.in-Some.last c.index.result.now c.index.ensures c.in-Some.ensures (omega arith)
