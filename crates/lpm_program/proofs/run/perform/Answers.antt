use Rattle.lpm_program.proofs.run.perform.Goals as goal

pub returns-in-Lookup-clause-done : goal.returns-in-Lookup-clause-done
returns-in-Lookup-clause-done g c = rw c.in-Lookup.is c.lookup.ensures.done

pub returns-in-Lookup-clause-begun : goal.returns-in-Lookup-clause-begun
returns-in-Lookup-clause-begun g c = rw c.in-Lookup.is c.lookup.ensures.beginning

pub returns-in-Lookup-clause-failure : goal.returns-in-Lookup-clause-failure
returns-in-Lookup-clause-failure g c = rw c.in-Lookup.is c.lookup.ensures.failure

pub returns-in-Explain-clause-done : goal.returns-in-Explain-clause-done
returns-in-Explain-clause-done g c = rw (c.in-Explain.is, ← c.deref.ensures.value) c.explain.ensures.done

pub returns-in-Explain-clause-begun : goal.returns-in-Explain-clause-begun
returns-in-Explain-clause-begun g c = rw (c.in-Explain.is, ← c.deref.ensures.value) c.explain.ensures.beginning

pub returns-in-Explain-clause-failure : goal.returns-in-Explain-clause-failure
returns-in-Explain-clause-failure g c = rw c.in-Explain.is c.explain.ensures.failure

pub returns-in-Apply-clause-done : goal.returns-in-Apply-clause-done
returns-in-Apply-clause-done g c = rw c.in-Apply.is c.apply.ensures.done

pub returns-in-Apply-clause-begun : goal.returns-in-Apply-clause-begun
returns-in-Apply-clause-begun g c = rw c.in-Apply.is c.apply.ensures.beginning

pub returns-in-Apply-clause-failure : goal.returns-in-Apply-clause-failure
returns-in-Apply-clause-failure g c = rw c.in-Apply.is c.apply.ensures.failure

pub returns-in-Report-clause-done : goal.returns-in-Report-clause-done
returns-in-Report-clause-done g c = rw c.in-Report.is c.report.ensures.done

pub returns-in-Report-clause-begun : goal.returns-in-Report-clause-begun
returns-in-Report-clause-begun g c = rw c.in-Report.is c.report.ensures.beginning

pub returns-in-Storm-clause-done : goal.returns-in-Storm-clause-done
returns-in-Storm-clause-done g c = rw c.in-Storm.is c.storm.ensures.done

pub returns-in-Storm-clause-begun : goal.returns-in-Storm-clause-begun
returns-in-Storm-clause-begun g c = rw c.in-Storm.is c.storm.ensures.beginning

pub returns-in-Storm-clause-failure : goal.returns-in-Storm-clause-failure
returns-in-Storm-clause-failure g c = rw c.in-Storm.is c.storm.ensures.failure
