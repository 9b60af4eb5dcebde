use Rattle.std.proofs.Common.{◌≡◌, ℕ, List, refl, ap, ◌∙◌}
use Rattle.qsbr.specs.Counters.{IsChecked}
use Rattle.core_tests.specs.declared.tests.limbo.TablePart.{TablePart}
use Rattle.defer_queue.proofs.Longest.{Reclaims-longest}
use Rattle.core_tests.proofs.tests.limbo.reclaim_by.Goals as goal

-- the domain stays as it is, so a check of a token answers what it did
pub returns-clause-longest : goal.returns-clause-longest
returns-clause-longest c =
    let counters : List ℕ = c.args.domain.now.counters in
    Reclaims-longest _ _ (λ (s : TablePart). s.domain.now.counters ≡ counters) (λ token r. IsChecked token counters r)
    (λ s token r z i h. (ap (λ d. d.counters) h.1 ∙ i, rw i at h.0))
    (λ s group z i h. ap (λ d. d.counters) h.0 ∙ i)
    _ _ _ _ _ _ _ refl c.reclaim.ensures.reclaims
