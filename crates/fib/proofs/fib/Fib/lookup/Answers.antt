use Rattle.std.proofs.Common.{sym, subst, ◌+◌, ◌∙◌, ap}
use Rattle.lpm_cells.specs.Words.{entry_at, hop_in}
use Rattle.lpm_rules.specs.Longest.{IsLongestHop}
use Rattle.lpm_update.proofs.Promises.{best_hop}
use Rattle.fib.specs.Fib.{FibState}
use Rattle.fib.proofs.fib.Fib.lookup.Goals as goal

pub returns : goal.returns
returns g c =
    let width = g.row.FIRST + g.row.SECOND in
    let x = c.self.inside in
    let k = c.self.invariant.2 in
    let a = c.args.addr in
    subst (λ (f : FibState). IsLongestHop width f.table.rules a c.read.result) c.self.view_is
    (subst (IsLongestHop width x.control.rules.rules a) (sym (c.read.ensures ∙ ap (λ W. hop_in (entry_at g.row.SECOND W a)) k.did.words))
    (best_hop width x.control.rules.rules a _ (k.rests.represents.best a c.requires)))
