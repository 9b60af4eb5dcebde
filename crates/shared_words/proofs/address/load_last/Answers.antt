use Rattle.std.proofs.Common.{◌+◌, ◌*◌, ◌%◌, ◌^◌, ◌<◌, sym, ap, subst, ◌∙◌, arith}
use Rattle.std.proofs.lemmas.Nat.{shl_whole}
use Rattle.lpm_cells.specs.Words.{IsEntry}
use Rattle.shared_words.proofs.Together.{no_second, begun_with, second_with, second_loaded}
use Rattle.shared_words.proofs.address.load_last.Goals as goal

pub load_second-requires-clause-begun : goal.load_second-requires-clause-begun
load_second-requires-clause-begun g c =
    begun_with c.args.addr c.args.word c.args.seat.now.view c.in-Some.group c.in-Some.ensures c.requires.next.next

pub load_second-requires-clause-next : goal.load_second-requires-clause-next
load_second-requires-clause-next g c =
    let v = c.args.seat.now.view in
    let addr = c.args.addr in
    let group = c.in-Some.group in
    let second = g.row.SECOND in
    let small : group < 2 ^ 24 = subst (IsEntry (g.row.FIRST + second)) c.in-Some.ensures c.requires.next.fit.0.0 in
    let whole = shl_whole group 32 second 64 (omega (arith, small)) (omega arith) in
    let there = ap (λ n. n + c.second_index.result) whole
    ∙ (ap (λ n. group * 2 ^ second + n) c.second_index.ensures.value
    ∙ ap (λ n. group * 2 ^ n + addr % 2 ^ n) (sym c.requires.second)) in
    second_with addr c.args.word v group c.in-Some.ensures v.initial.second _ there c.requires.next.next

pub returns-in-None-clause-loads : goal.returns-in-None-clause-loads
returns-in-None-clause-loads g c = no_second c.args.addr c.args.word c.args.seat.now.view c.in-None.ensures

pub returns-in-Some-clause-loads : goal.returns-in-Some-clause-loads
returns-in-Some-clause-loads g c =
    second_loaded c.args.addr c.args.word c.args.seat.now.view c.in-Some.group c.in-Some.ensures _ _
    c.load_second.ensures.step
