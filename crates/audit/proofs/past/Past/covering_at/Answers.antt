use Rattle.std.proofs.Common.{arith, eqb-true, lit<, refl, sym, ◌∙◌, ◌+◌}
use Rattle.std.proofs.lemmas.Bool.{eqb-false}
use Rattle.lpm_bits.specs.Network.{prefix_of, network_bits}
use Rattle.audit.specs.Wrong.{version_of}
use Rattle.audit.proofs.Spans.{too_long}
use Rattle.audit.proofs.Indexes.{networks, no_rule, shape}
use Rattle.audit.proofs.past.Past.covering_at.Goals as goal

pub returns-then-is_empty : goal.returns-then-is_empty
returns-then-is_empty g c =
    let v = c.index.result.now in
    let none = eqb-true v.len 0 (sym c.is_empty.ensures ∙ c.if-is_empty.true) in
    no_rule g.row.FIRST g.row.SECOND c.self.inside.history.now c.args.self.now c.self.inside.flushed.items c.self.inside.lengths.items c.self.invariant c.self.view_is c.args.len c.args.version c.requires.len c.requires.version v c.index.ensures (sym v.ok.0 ∙ none)
    (network_bits (g.row.FIRST + g.row.SECOND) c.args.len c.args.addr)

pub new-requires : goal.new-requires
new-requires g c =
    let v = c.index.result.now in
    let some = eqb-false v.len 0 (sym c.is_empty.ensures ∙ c.if-is_empty.false) in
    let long = v.ok.0 in
    (lit< tt, (shape g.row.FIRST g.row.SECOND c.self.inside.history.now c.args.self.now c.self.inside.flushed.items c.self.inside.lengths.items c.self.invariant c.self.view_is c.args.len c.requires.len v c.index.ensures (omega (arith, some, long)), c.requires.addr))

pub returns-in_default : goal.returns-in_default
returns-in_default g c =
    let width = g.row.FIRST + g.row.SECOND in
    let long = c.in_default.ensures.err.0 refl in
    let nets = networks g.row.FIRST g.row.SECOND c.self.inside.history.now c.args.self.now c.self.inside.flushed.items c.self.inside.lengths.items c.self.invariant c.self.view_is c.args.version c.requires.version in
    too_long width (version_of c.args.self.now c.args.version) (prefix_of width c.args.len c.args.addr) nets long
