use Rattle.std.proofs.Common.{drop, arith, sym, subst}
use Rattle.route_text.specs.declared.lines.End.TheVariants as ends
use Rattle.route_text.specs.Starts.{StartsNumberBefore}
use Rattle.route_text.proofs.WrittenLines.{plain_route_line}
use Rattle.route_text.proofs.Octets.{wider}
use Rattle.route_text.proofs.routes.RouteLinesGrammar.plain_line.Goals as goal

pub returns-in-Some-clause-line : goal.returns-in-Some-clause-line
returns-in-Some-clause-line c =
    let text = c.args.bytes.now in
    let number = wider ends.Line 999 16777215 c.in-Some.number (drop c.in_ok-len.at text) (drop c.in-Some.next text) (omega arith) c.in-Some.ensures.number in
    let hop = subst (λ n. StartsNumberBefore ends.Line 16777215 (drop c.in_ok-len.at text) n (drop c.in-Some.next text)) (sym c.in-Ok-new.ensures.ok) number in
    plain_route_line c.args.line c.in_ok-addr.addr c.in_ok-len.len c.in-Ok-new.hop c.in-Ok.prefix (drop c.args.at text) (drop c.in_ok-addr.at text) (drop c.in_ok-len.at text) (drop c.in-Some.next text)
    c.in_ok-addr.ensures.address c.in_ok-len.ensures.number hop c.in-Ok.ensures.ok

pub returns-clause-line : goal.returns-clause-line
returns-clause-line c =
    let text = c.args.bytes.now in
    plain_route_line c.args.line c.in_ok-addr.addr c.in_ok-len.len c.in_ok-hop.hop c.in-Ok.prefix (drop c.args.at text) (drop c.in_ok-addr.at text) (drop c.in_ok-len.at text) (drop c.in_ok-hop.next text)
    c.in_ok-addr.ensures.address c.in_ok-len.ensures.number c.in_ok-hop.ensures.hop c.in-Ok.ensures.ok
