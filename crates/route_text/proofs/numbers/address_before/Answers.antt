use Rattle.std.proofs.Common.{drop}
use Rattle.route_text.proofs.Octets.{octets_before}
use Rattle.route_text.proofs.numbers.address_before.Goals as goal

pub returns-clause-address : goal.returns-clause-address
returns-clause-address c =
    let text = c.args.bytes.now in
    octets_before c.args.end (drop c.args.at text) (drop c.in_ok-a.at text) (drop c.in_ok-b.at text) (drop c.in_ok-c.at text) (drop c.in_ok-d.at text) _ _ _ _
    c.in_ok-a.ensures.number c.in_ok-b.ensures.number c.in_ok-c.ensures.number c.in_ok-d.ensures.number
