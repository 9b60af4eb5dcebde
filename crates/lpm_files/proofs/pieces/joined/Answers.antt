use Rattle.std.proofs.Common.{◌++◌, length, map, sym, ap, subst, ◌∙◌, arith}
use Rattle.bstr.proofs.lemmas.LengthLemmas.{length-lines}
use Rattle.route_text.specs.Files.{lines, AreItems}
use Rattle.lpm_files.proofs.CutLines.{both_lists}
use Rattle.lpm_files.proofs.pieces.joined.Goals as goal

pub append-requires : goal.append-requires
append-requires g c =
    let back = lines c.args.back.now in
    let b = rw c.in-Ok.is at c.requires.back_list in
    let more = subst (λ t. AreItems g.F.PiecewiseFile.Spells 1 back t) (sym c.deref.ensures.value) b in
    (back, more, omega (arith, length-lines c.args.back.now))

pub returns-in_ok-all-in-Ok-clause-items : goal.returns-in_ok-all-in-Ok-clause-items
returns-in_ok-all-in-Ok-clause-items g c =
    let form = g.F.PiecewiseFile in
    let front = lines c.args.front.now in
    let a = rw c.in_ok-list.was at c.requires.front_list in
    let b = rw c.in-Ok.is at c.requires.back_list in
    let more = c.in_ok-all-in-Ok.ensures ∙ ap (λ t. c.in_ok-list.list.items ++ map (form.later (length front)) t) c.deref.ensures.value in
    let both = both_lists form.Spells form.later g.met.F.PiecewiseFile.spells_later (lines c.args.bytes.now) front (lines c.args.back.now) c.requires.cut c.in_ok-list.list.items c.in-Ok.more.items a b in
    subst (λ t. AreItems form.Spells 1 (lines c.args.bytes.now) t) (sym more) both
