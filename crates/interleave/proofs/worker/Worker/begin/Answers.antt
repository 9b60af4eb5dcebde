use Rattle.std.proofs.Common.{refl, sym, subst, [], ◌∷◌}
use Rattle.interleave.specs.declared.worker.Phase.TheVariants as phase
use Rattle.interleave.proofs.Steps.{IsBegun, online_begun, offline_begun, quiescent_begun, meet_begun, lookup_begun, lookup4_begun}
use Rattle.interleave.proofs.worker.Worker.begin.Goals as goal

pub returns-in-Online-clause-step : goal.returns-in-Online-clause-step
returns-in-Online-clause-step g c initial w now r left of =
    let m = c.args.self.now in
    subst (IsBegun initial w c.args.number now r left m (record m { phase = phase.ComingOnline c.args.shared.now.token }) c.shown.result) (sym c.in-Online.is) (online_begun initial w c.args.number now r left m c.args.shared.now.token c.shown.result of.token_is c.shown.ensures)

pub returns-in-Offline-clause-step : goal.returns-in-Offline-clause-step
returns-in-Offline-clause-step g c initial w now r left of =
    let m = c.args.self.now in
    subst (IsBegun initial w c.args.number now r left m (record m { counter = 0; phase = phase.Offline }) c.shown-in-Offline.result) (sym c.in-Offline.is) (offline_begun initial w c.args.number now r left m c.shown-in-Offline.result c.shown-in-Offline.ensures)

pub returns-in-Quiescent-clause-step : goal.returns-in-Quiescent-clause-step
returns-in-Quiescent-clause-step g c initial w now r left of =
    let m = c.args.self.now in
    subst (IsBegun initial w c.args.number now r left m (record m { phase = phase.ReportingQuiescent c.args.shared.now.token }) c.shown-in-Quiescent.result) (sym c.in-Quiescent.is) (quiescent_begun initial w c.args.number now r left m c.args.shared.now.token c.shown-in-Quiescent.result of.token_is c.shown-in-Quiescent.ensures)

pub returns-in-Lookup-clause-step : goal.returns-in-Lookup-clause-step
returns-in-Lookup-clause-step g c initial w now r left of =
    let m = c.args.self.now in
    subst (IsBegun initial w c.args.number now r left m c.look_up.new.self c.shown-in-Lookup.result) (sym c.in-Lookup.is) (lookup_begun initial w c.args.number now r left m c.look_up.new.self (c.in-Lookup.addr ∷ []) c.args.shared.now.sequence c.shown-in-Lookup.result of.sequence_is c.shown-in-Lookup.ensures c.look_up.ensures.counter c.look_up.ensures.phase c.look_up.ensures.lo c.look_up.ensures.probes c.in-Lookup.addr refl)

pub returns-in-Lookup4-clause-step : goal.returns-in-Lookup4-clause-step
returns-in-Lookup4-clause-step g c initial w now r left of =
    let m = c.args.self.now in
    subst (IsBegun initial w c.args.number now r left m c.look_up-in-Lookup4.new.self c.shown-in-Lookup4.result) (sym c.in-Lookup4.is) (lookup4_begun initial w c.args.number now r left m c.look_up-in-Lookup4.new.self c.in-Lookup4.addrs c.args.shared.now.sequence c.shown-in-Lookup4.result of.sequence_is c.shown-in-Lookup4.ensures c.look_up-in-Lookup4.ensures.counter c.look_up-in-Lookup4.ensures.phase c.look_up-in-Lookup4.ensures.lo c.look_up-in-Lookup4.ensures.probes)

pub returns-in-Meet-clause-step : goal.returns-in-Meet-clause-step
returns-in-Meet-clause-step g c initial w now r left of =
    let m = c.args.self.now in
    subst (IsBegun initial w c.args.number now r left m m c.shown-in-Meet.result) (sym c.in-Meet.is) (meet_begun initial w c.args.number now r left m c.args.shared.now.sequence c.shown-in-Meet.result of.sequence_is c.shown-in-Meet.ensures)
