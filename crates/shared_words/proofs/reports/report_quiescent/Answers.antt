use Rattle.shared_words.proofs.Deeds.{two_steps, two_on}
use Rattle.shared_words.proofs.reports.report_quiescent.Goals as goal

pub returns-clause-steps : goal.returns-clause-steps
returns-clause-steps g c =
    (c.load_quiescent-token.result, two_steps _ _ _ _ _ c.load_quiescent-token.ensures.step c.store_quiescent.ensures.step)

pub returns-clause-rest : goal.returns-clause-rest
returns-clause-rest g c = two_on _ _ _ _ _ c.load_quiescent-token.ensures.step c.store_quiescent.ensures.step
