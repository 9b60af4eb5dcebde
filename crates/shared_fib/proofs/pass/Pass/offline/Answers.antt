use Rattle.shared_fib.proofs.Makes.{makes_one}
use Rattle.shared_fib.proofs.pass.Pass.offline.Goals as goal

pub returns-clause-steps : goal.returns-clause-steps
returns-clause-steps g c =
    makes_one c.self.inside.is_online _ _ c.self.inside.seat c.report_offline.new.seat c.args.self.now c.self.view_is
    c.report_offline.ensures.own c.report_offline.ensures.worker c.report_offline.ensures.steps
