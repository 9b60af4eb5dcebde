use Rattle.core_tests.proofs.Retirement.{AreRetired-set}
use Rattle.core_tests.proofs.tests.limbo.TablePartGrace.free.Goals as goal

pub returns-clause-ready : goal.returns-clause-ready
returns-clause-ready c = λ token rest h. AreRetired-set c.args.self.now.tokens.now.items rest c.args.group 0 h.1 h.2
