use Rattle.lpm_writer.specs.Rest.{blank_initial_state}
use Rattle.fib.proofs.Sound.{sound_new}
use Rattle.fib.proofs.fib.Fib.open.Goals as goal

pub invariant_of-result : goal.invariant_of-result
invariant_of-result g c =
    let f = g.row.FIRST in
    let s = g.row.SECOND in
    let new = c.in_ok-control.ensures in
    sound_new f s (blank_initial_state f s c.args.config) c.in_ok-control.control c.in_ok-control.memory new.did new.rests
