use Rattle.std.proofs.Common.{◌≡◌, ◌≢◌, ◌+◌, ◌-◌, ◌<◌, length, get_or, sym, ap, ◌∙◌, arith}
use Rattle.std.proofs.lemmas.Bool.Decides.{nat_tests}
use Rattle.bstr.proofs.lemmas.LengthLemmas.{length-lines}
use Rattle.lpm_files.proofs.CutLines.{no_bytes, ended, not_ended}
use Rattle.lpm_files.proofs.lines.count_lines.Goals as goal

pub returns-then-is_empty : goal.returns-then-is_empty
returns-then-is_empty c =
    let bytes = c.args.bytes.now in
    let none : length bytes ≡ 0 = grind (arith, nat_tests, c.if-is_empty.ensures) in
    c.feeds-ended.ensures ∙ sym (no_bytes bytes none)

pub returns-then-bytes-eq10 : goal.returns-then-bytes-eq10
returns-then-bytes-eq10 c =
    let bytes = c.args.bytes.now in
    let some : 0 < length bytes = grind (arith, nat_tests, c.if-is_empty.ensures) in
    let feed : get_or bytes (length bytes - 1) 0 ≡ 10 = grind (arith, nat_tests) in
    c.feeds-ended.ensures ∙ sym (ended bytes some feed)

pub overflow_add-result : goal.overflow_add-result
overflow_add-result c =
    let bytes = c.args.bytes.now in
    let some : 0 < length bytes = grind (arith, nat_tests, c.if-is_empty.ensures) in
    let other : get_or bytes (length bytes - 1) 0 ≢ 10 = grind (arith, nat_tests) in
    omega (arith, c.feeds-ended.ensures, not_ended bytes some other, length-lines bytes)

pub returns : goal.returns
returns c =
    let bytes = c.args.bytes.now in
    let some : 0 < length bytes = grind (arith, nat_tests, c.if-is_empty.ensures) in
    let other : get_or bytes (length bytes - 1) 0 ≢ 10 = grind (arith, nat_tests) in
    ap (λ n. n + 1) c.feeds-ended.ensures ∙ sym (not_ended bytes some other)
