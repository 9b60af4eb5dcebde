use Rattle.std.proofs.Common.{arith, ◌≤◌, vec_len, vec_capacity, ap, ◌∙◌}
use Rattle.interleave.specs.declared.worker.Worker.{Worker as Machine}
use Rattle.interleave.specs.Machine.{phase_of}
use Rattle.interleave.proofs.Steps.{begins_next, goes_next, stores}
use Rattle.interleave.proofs.worker.Worker.step.Goals as goal

pub returns-in-Some-clause-step : goal.returns-in-Some-clause-step
returns-in-Some-clause-step g c initial w r own of at =
    let shared = c.args.shared.now in
    let found = c.in-Some.ensures.lookup in
    begins_next g.row.FIRST g.row.SECOND shared.cells shared.sequence shared.token initial w c.args.number c.args.now c.args.script.now r own c.args.self.now c.seconds-words.ensures.words of at
    c.begin.new.self c.begin.result c.begin.ensures.room c.begin.ensures.few c.args.seen.now.items c.in-Some.deed.now found.3.0 found.1 c.in-Offline.is c.begin.ensures.begun
    (λ left shows between sound. c.begin.ensures.step initial w c.args.now r left of shows between sound)

pub returns-in-LookingUp-clause-step : goal.returns-in-LookingUp-clause-step
returns-in-LookingUp-clause-step g c initial w r own of at =
    let shared = c.args.shared.now in
    let room : 4 ≤ vec_capacity c.read_on.new.self.probes = let h = at.room in let e = c.read_on.ensures.room in omega (arith, h, e) in
    let few : vec_len c.read_on.new.self.probes ≤ 4 = let h = at.few in let e = c.read_on.ensures.few in omega (arith, h, e) in
    goes_next g.row.FIRST g.row.SECOND shared.cells shared.sequence shared.token initial w c.args.number c.args.now c.args.script.now r own c.args.self.now c.seconds-words.ensures.words of at
    c.read_on.new.self c.read_on.result room few c.args.seen.now.items c.read_on.new.seen.items c.read_on.ensures.begun (c.read_on.ensures.step initial w r of at.shows (at.shows.phase ∙ ap phase_of c.in-LookingUp.is))

pub returns-in-ComingOnline-clause-step : goal.returns-in-ComingOnline-clause-step
returns-in-ComingOnline-clause-step g c initial w r own of at =
    let shared = c.args.shared.now in
    let m = c.args.self.now in
    let new = c.store.new.self in
    let room : 4 ≤ vec_capacity new.probes = rw c.store.ensures.stored at.room in
    let few : vec_len new.probes ≤ 4 = rw c.store.ensures.stored at.few in
    let went = stores g.row.FIRST g.row.SECOND shared.cells shared.sequence shared.token initial w c.args.number c.args.now c.args.script.now r own m c.seconds-words.ensures.words of at
    new c.in-ComingOnline.token c.store.result c.args.seen.now.items c.in-ComingOnline.is c.store.ensures.stored c.store.ensures.shown in
    goes_next g.row.FIRST g.row.SECOND shared.cells shared.sequence shared.token initial w c.args.number c.args.now c.args.script.now r own m c.seconds-words.ensures.words of at
    new c.store.result room few c.args.seen.now.items c.args.seen.now.items (ap (λ (n : Machine). n.begun) c.store.ensures.stored) went
