use Rattle.std.proofs.Common.{◌+◌, ◌∷◌, []}
use Rattle.std.specs.Prelude.{slice_index}
use Rattle.fib.specs.Fib.{IsHopOrDefault}
use Rattle.fib.proofs.Fours.{four}
use Rattle.fib.proofs.fib.Fib.lookup4.Goals as goal

pub returns : goal.returns
returns g c =
    four (λ i. IsHopOrDefault (g.row.FIRST + g.row.SECOND) c.args.self.now.table.rules c.args.default (slice_index c.args.addrs i) (slice_index (c.hop_or.result ∷ c.hop_or-2.result ∷ c.hop_or-3.result ∷ c.hop_or-4.result ∷ []) i))
    c.hop_or.ensures c.hop_or-2.ensures c.hop_or-3.ensures c.hop_or-4.ensures
