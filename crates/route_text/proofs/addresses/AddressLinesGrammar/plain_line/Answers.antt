use Rattle.std.proofs.Common.{drop}
use Rattle.route_text.proofs.WrittenLines.{plain_address_line}
use Rattle.route_text.proofs.addresses.AddressLinesGrammar.plain_line.Goals as goal

pub returns-clause-line : goal.returns-clause-line
returns-clause-line c =
    let text = c.args.bytes.now in
    plain_address_line c.args._line c.in_ok-addr.addr (drop c.args.at text) (drop c.in_ok-addr.next text) c.in_ok-addr.ensures.address
