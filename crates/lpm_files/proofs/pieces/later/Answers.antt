use Rattle.std.proofs.Common.{◌+◌, ap, subst, refl, arith}
use Rattle.bstr.proofs.lemmas.LengthLemmas.{length-lines}
use Rattle.route_text.specs.declared.fault.ReadError.{ReadError}
use Rattle.route_text.specs.Files.{lines, IsFirstFault, IsReadError}
use Rattle.lpm_files.proofs.CutLines.{back_fault, fault_within}
use Rattle.lpm_files.proofs.pieces.later.Goals as goal

pub overflow_add-result : goal.overflow_add-result
overflow_add-result g c =
    let form = g.F.PiecewiseFile in
    let fault = subst (λ (e : ReadError). IsReadError (IsFirstFault form.Spells form.HasFault 1 (lines c.args.back.now)) e) c.in-Fault.is c.requires.error in
    let within = fault_within form.Spells form.HasFault (lines c.args.back.now) c.in-Fault.fault fault in
    omega (arith, length-lines c.args.front.now, length-lines c.args.back.now)

pub returns-in-Fault : goal.returns-in-Fault
returns-in-Fault g c =
    let form = g.F.PiecewiseFile in
    let fault = subst (λ (e : ReadError). IsReadError (IsFirstFault form.Spells form.HasFault 1 (lines c.args.back.now)) e) c.in-Fault.is c.requires.error in
    back_fault form.Spells form.later g.met.F.PiecewiseFile.spells_later (lines c.args.bytes.now) (lines c.args.front.now) (lines c.args.back.now) c.requires.cut form.HasFault c.requires.front.0 c.in-Fault.fault _ c.requires.front.1 fault (ap (λ n. c.in-Fault.fault.line + n) c.count_lines.ensures) refl
