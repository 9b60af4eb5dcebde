use Rattle.std.proofs.Common.{arith}
use Rattle.std.proofs.lemmas.Fmt.{length-decimal-le}
use Rattle.route_text.proofs.answers.put_hop.Goals as goal

pub write_digits-requires : goal.write_digits-requires
write_digits-requires c =
    let short = length-decimal-le 8 c.from.result (omega arith) (omega arith) (omega arith) in
    (omega arith, omega arith)

pub returns-clause-start : goal.returns-clause-start
returns-clause-start c =
    let short = length-decimal-le 8 c.from.result (omega arith) (omega arith) (omega arith) in
    (omega arith, omega arith)
