use Rattle.std.proofs.Common.{ap, ◌∙◌, rules, lit<}
use Rattle.lpm_writer.specs.Rest.{blank_initial_state}
use Rattle.fib.proofs.Sound.{sound_new}
use Rattle.shared_words.specs.Layout.{initial_state_of}
use Rattle.shared_fib.proofs.Openings.{opens_blank}
use Rattle.shared_fib.proofs.initial.open.Goals as goal

pub returns-in_err-control-clause-bad_config : goal.returns-in_err-control-clause-bad_config
returns-in_err-control-clause-bad_config c = search rules

pub returns-in_err-begin-clause-bad_config : goal.returns-in_err-begin-clause-bad_config
returns-in_err-begin-clause-bad_config c = search rules

pub returns-clause-opened : goal.returns-clause-opened
returns-clause-opened c = search rules

pub returns-clause-token : goal.returns-clause-token
returns-clause-token c = search rules

pub returns-clause-limits : goal.returns-clause-limits
returns-clause-limits c = search rules

pub begin-requires : goal.begin-requires
begin-requires g c =
    let f = g.row.FIRST in
    let s = g.row.SECOND in
    let new = c.in_ok-control.ensures in
    (lit< tt, (lit< tt, (lit< tt, (lit< tt, (sound_new f s (blank_initial_state f s c.args.config) c.in_ok-control.control c.in_ok-control.memory new.did new.rests, new.queue)))))

pub returns-clause-initial : goal.returns-clause-initial
returns-clause-initial g c =
    let f = g.row.FIRST in
    let s = g.row.SECOND in
    let new = c.in_ok-control.ensures in
    ap initial_state_of c.in_ok-begin.ensures.initial
    ∙ opens_blank f s c.args.config c.in_ok-control.control c.in_ok-control.memory new.did new.rests new.config new.rules
