use Rattle.std.proofs.Common.{◌∙◌, [], subst, sym, refl, ap}
use Rattle.std.specs.Prelude.{IsOk}
use Rattle.std.specs.FinMap.{empty}
use Rattle.lpm_rules.specs.RuleMap.{network_cmp}
use Rattle.lpm_writer.specs.Rest.{blank_initial_state, IsResting}
use Rattle.lpm_writer.proofs.Initial.{opened_rests, new_books}
use Rattle.lpm_writer.proofs.control.ControlState.new.Goals as goal

pub returns-clause-rests : goal.returns-clause-rests
returns-clause-rests g c =
    let f = g.row.FIRST in
    let s = g.row.SECOND in
    let config = c.args.config in
    let pool = ap (λ q. record (new_books config) { queue = q }) c.in_ok-queue.ensures in
    let same = ap (λ x. record { groups = x; queue = c.in_ok-queue.queue; passed = 0 }) c.in_ok-groups.ensures in
    subst (λ r. IsResting f s (blank_initial_state f s config) [] config r (record { groups = c.in_ok-groups.groups; queue = c.in_ok-queue.queue; passed = 0 }) 0) (sym c.new-3.ensures)
    (subst (λ b. IsResting f s (blank_initial_state f s config) [] config (record { rules = empty {R = network_cmp}; max = config.rules }) b 0) (sym (same ∙ pool))
    (opened_rests f s config c.requires.shape (c.check.ensures.0 (subst IsOk (sym c.in_ok-check.was) refl))))
