use Rattle.lpm_trace.specs.declared.step.WorkerStep.TheVariants.{LoadOnline, StoreOnline}
use Rattle.shared_fib.proofs.Makes.{makes_two}
use Rattle.shared_fib.proofs.pass.Pass.online.Goals as goal

pub returns-clause-steps : goal.returns-clause-steps
returns-clause-steps g c =
    makes_two c.self.inside.is_online _ (λ token. LoadOnline token) (λ token. StoreOnline token) c.self.inside.seat c.report_online.new.seat
    c.args.self.now c.self.view_is c.report_online.ensures.own c.report_online.ensures.worker c.report_online.ensures.steps
