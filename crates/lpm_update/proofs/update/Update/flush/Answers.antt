use Rattle.std.proofs.Common.{arith, sym, subst, ◌+◌}
use Rattle.lpm_rules.proofs.Views.{networks_empty}
use Rattle.lpm_cells.specs.Words.{entry_at}
use Rattle.lpm_update.specs.Rewrite.{Stands}
use Rattle.lpm_update.specs.BlockGroups.{group_at}
use Rattle.lpm_update.specs.Kinds.{rewrite_to_miss}
use Rattle.lpm_update.proofs.Groups.{flushed_not}
use Rattle.lpm_update.proofs.Begins.{stands_still, flush_best, flush_deep}
use Rattle.lpm_update.proofs.update.Update.flush.Goals as goal

pub returns-clause-begun : goal.returns-clause-begun
returns-clause-begun g c = λ R W represents.
    let f = g.row.FIRST in
    let s = g.row.SECOND in (
      record { under_way = omega arith; stands = subst (λ x. Stands s 0 x rewrite_to_miss W (entry_at s W)) (omega arith) (stands_still s 0 rewrite_to_miss W); groups = λ i low. sym (flushed_not i 0 (group_at W.firsts i) (omega arith)) },
      record { networks = λ _. networks_empty (f + s); best = λ E best. flush_best (f + s) E; groups = λ L known. flush_deep f s },
    )
