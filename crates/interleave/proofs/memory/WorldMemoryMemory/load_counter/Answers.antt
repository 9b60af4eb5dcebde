use Rattle.std.proofs.Common.{◌≡◌, get_or, sym, subst, ap, ◌∙◌, arith}
use Rattle.lpm_trace.specs.declared.step.WriterStep.TheVariants.{LoadCounter}
use Rattle.interleave.specs.Machine.{Shows}
use Rattle.interleave.specs.View.{WorldView}
use Rattle.interleave.proofs.Turns.{step_does}
use Rattle.interleave.proofs.memory.WorldMemoryMemory.load_counter.Goals as goal

pub reach-requires : goal.reach-requires
reach-requires g c = let may = c.requires.may 0 in (omega arith, (may.0, may.1, may.2))

pub returns : goal.returns
returns g c =
    let y = c.reach.new.self in
    let same : get_or y.machines c.args.worker c.index.result.now ≡ c.index.result.now =
    ap (λ (x : WorldView). get_or x.machines c.args.worker c.index.result.now) (sym c.self.view_is) ∙ sym c.index.ensures in
    record {
      does = step_does (LoadCounter c.args._checked c.args.worker c.counter-counter.result) c.reach.result
          c.reach.ensures.shared c.reach.ensures.reaches c.reach.ensures.found
          (c.index.result.now, λ r shows. c.counter-counter.ensures r (subst (λ m. Shows m r) same shows))
          c.note.ensures.left c.note.ensures.ended;
    }
