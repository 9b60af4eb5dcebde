use Rattle.std.proofs.Common.{arith, ◌≡◌, ◌+◌, ◌*◌, ◌%◌, ◌^◌, ◌<◌, slice_index, refl, ap, ◌∙◌}
use Rattle.std.proofs.lemmas.Nat.{shl_whole}
use Rattle.lpm_trace.specs.declared.shown_step.Kind.TheVariants as kind
use Rattle.interleave.specs.Record.{step_of_worker}
use Rattle.interleave.proofs.Lookups.{second_made}
use Rattle.interleave.proofs.worker.Worker.read_second.Goals as goal

pub returns-clause-step : goal.returns-clause-step
returns-clause-step g c initial w r of shows doing =
    let found = c.args.found.now in
    let seconds = c.args.shared.now.cells.seconds in
    let fits : found.group < 2 ^ 32 = omega arith in
    let whole = shl_whole found.group 32 g.row.SECOND 64 fits (omega arith) in
    let index = found.group * 2 ^ g.row.SECOND + found.addr % 2 ^ g.row.SECOND in
    let place : found.group * 2 ^ g.row.SECOND % 2 ^ 64 + c.second_index.result ≡ index = ap (λ n. n + c.second_index.result) whole ∙ ap (λ n. found.group * 2 ^ g.row.SECOND + n) c.second_index.ensures.value in
    let word : c.second-word.result ≡ slice_index seconds index = c.second-word.ensures.value ∙ ap (slice_index seconds) place in
    let told = c.shown.ensures ∙ ap (λ i. step_of_worker c.args.number kind.LoadSecond i c.second-word.result) place in
    rw (← word)
    (second_made initial w c.args.number c.args.now r c.args.self.now _ g.row.FIRST g.row.SECOND c.args.shared.now.cells c.args.shared.now.sequence c.args.shared.now.token c.shown.result of shows doing
    found c.second-word.result c.requires.begun c.requires.next (record { counter = refl; phase = refl; lo = refl; probes = refl }) word told)
