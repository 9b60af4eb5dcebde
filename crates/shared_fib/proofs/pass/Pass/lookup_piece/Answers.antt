use Rattle.std.proofs.Common.{arith, ap, ◌∙◌, [], ◌∷◌, ◌++◌, take}
use Rattle.std.specs.Prelude.{slice_index}
use Rattle.std.proofs.lemmas.List.{take_more, take_more_set}
use Rattle.shared_fib.proofs.Lookups.{one_alone}
use Rattle.shared_fib.proofs.pass.Pass.lookup_piece.Goals as goal

pub returns-then-end-at-lt4-clause-answers : goal.returns-then-end-at-lt4-clause-answers
returns-then-end-at-lt4-clause-answers c =
    let addr = slice_index c.args.addrs.now c.args.at in
    let r = c.lookup-answer.result in (
      addr ∷ [],
      r.hop ∷ [],
      one_alone addr r.hop r.lo r.hi c.args.self.now c.lookup-answer.new.self c.lookup-answer.ensures.answer,
      take_more c.args.addrs.now c.args.at 0 (omega arith),
      take_more_set c.args.hops.now c.args.at c.number_or.result (omega arith)
          ∙ ap (λ n. take c.args.at c.args.hops.now ++ n ∷ []) c.number_or.ensures,
    )
