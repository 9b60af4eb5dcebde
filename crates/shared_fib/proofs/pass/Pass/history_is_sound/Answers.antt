use Rattle.std.proofs.Common.{subst}
use Rattle.shared_fib.specs.Passes.{IsHistory}
use Rattle.shared_fib.proofs.pass.Pass.history_is_sound.Goals as goal

pub returns : goal.returns
returns c =
    let known = c.view_is_sound.ensures in
    subst IsHistory c.self.view_is (record {
      online = c.self.invariant;
      written = known.written;
      rising = known.rising;
      within = known.within;
      placed = known.placed;
      legal = known.legal;
    })
