use Rattle.std.proofs.Common.{◌≡◌, ◌/◌, ◌^◌, slice_index, refl, ap, ◌∙◌, subst}
use Rattle.lpm_cells.specs.Words.{entry_in}
use Rattle.lpm_trace.specs.Trace.{read_first}
use Rattle.lpm_trace.specs.declared.shown_step.Kind.TheVariants as kind
use Rattle.interleave.specs.Machine.{probe_of}
use Rattle.interleave.specs.Record.{step_of_worker}
use Rattle.interleave.proofs.Lookups.{first_made}
use Rattle.interleave.proofs.worker.Worker.read_first.Goals as goal

pub returns-clause-step : goal.returns-clause-step
returns-clause-step g c initial w r of shows doing =
    let firsts = c.args.shared.now.cells.firsts in
    let place = c.first_index-index.ensures.value in
    let word = c.first-word.ensures.value ∙ ap (slice_index firsts) place in
    let read = subst (λ x. probe_of c.of_first.result ≡ read_first c.args.now c.args.addr (entry_in x)) word c.of_first.ensures in
    let told = c.shown.ensures ∙ ap (λ i. step_of_worker c.args.number kind.LoadFirst i c.first-word.result) place ∙ ap (λ x. step_of_worker c.args.number kind.LoadFirst (c.args.addr / 2 ^ g.row.SECOND) x) word in
    first_made initial w c.args.number c.args.now r c.args.self.now _ g.row.FIRST g.row.SECOND c.args.shared.now.cells c.args.shared.now.sequence c.args.shared.now.token c.shown.result of shows doing
    c.args.place c.args.addr (slice_index firsts (c.args.addr / 2 ^ g.row.SECOND)) c.of_first.result c.requires.next read (record { counter = refl; phase = refl; lo = refl; probes = refl }) refl told
