use Rattle.lpm_trace.specs.declared.step.WorkerStep.TheVariants.{LoadQuiescent, StoreQuiescent}
use Rattle.shared_fib.proofs.Makes.{makes_two}
use Rattle.shared_fib.proofs.pass.Pass.quiescent.Goals as goal

pub returns-clause-steps : goal.returns-clause-steps
returns-clause-steps g c =
    makes_two c.self.inside.is_online _ (λ token. LoadQuiescent token) (λ token. StoreQuiescent token) c.self.inside.seat c.report_quiescent.new.seat
    c.args.self.now c.self.view_is c.report_quiescent.ensures.own c.report_quiescent.ensures.worker c.report_quiescent.ensures.steps
