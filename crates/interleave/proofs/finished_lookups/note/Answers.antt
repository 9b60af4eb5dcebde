use Rattle.std.proofs.Common.{arith, refl, ap, ◌∙◌}
use Rattle.std.proofs.lemmas.Grind.{common_steps}
use Rattle.lpm_cells.specs.Words.{hop_in, entry_in}
use Rattle.interleave.proofs.Lookups.{noted_answer, noted_none}
use Rattle.interleave.proofs.finished_lookups.note.Goals as goal
use Rattle.interleave.proofs.finished_lookups.note.Goals.{in-Answered, in_default}

pub loop-probe-preserved : goal.loop-probe-preserved
loop-probe-preserved c = elim c.match-probe.branch [
  | in-Answered w ↦ record {
    noted =
        let pushed = rw w.unwrap.ensures at w.push.ensures.items in
        let hop = w.hop.ensures ∙ ap hop_in (w.of_word.ensures ∙ ap entry_in w.from.ensures) in
        rw w.seen-is (noted_answer c.args.number c.args.lo c.args.hi c.args.probes.now c.loop-probe.probe-index _ _ c.args.seen.now.items c.loop-probe.seen.items w.push.new.self.items w.in-Answered.addr w.in-Answered.word w.hop.result w.in-Answered.first w.in-Answered.last c.loop-probe-test.true refl w.in-Answered.is hop c.loop-probe.invariant.noted pushed);
    room = grind (arith, common_steps);
    capacity = grind (arith, common_steps);
  }
  | in_default w ↦ record {
    noted = rw w.seen-is (noted_none c.args.number c.args.lo c.args.hi c.args.probes.now c.loop-probe.probe-index _ _ c.args.seen.now.items c.loop-probe.seen.items c.loop-probe-test.true refl w.in_default.not-Answered c.loop-probe.invariant.noted);
    room = grind (arith, common_steps);
    capacity = grind (arith, common_steps);
  }
]
