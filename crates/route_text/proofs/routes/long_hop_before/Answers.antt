use Rattle.std.proofs.Common.{drop, subst, sym, refl}
use Rattle.std.proofs.lemmas.List.{take_rest}
use Rattle.route_text.specs.declared.lines.End.TheVariants as ends
use Rattle.route_text.specs.Starts.{StartsNumber, StartsEnd}
use Rattle.route_text.proofs.Octets.{after_number}
use Rattle.route_text.proofs.routes.long_hop_before.Goals as goal

pub returns-clause-hop : goal.returns-clause-hop
returns-clause-hop c =
    let text = c.args.bytes.now in
    let rest = c.in_ok-number.rest.now in
    let found = subst (λ t. StartsNumber 16777215 t c.in_ok-number.number rest) (take_rest text c.args.at) c.in_ok-number.ensures.found in
    let hop = subst (λ n. StartsNumber 16777215 (drop c.args.at text) n rest) (sym c.in-Ok.ensures.ok) found in
    record {
      after = rest;
      small = hop.small;
      split = hop.split;
      ends = subst (StartsEnd ends.Line rest) (sym (after_number 16777215 c.in_ok-number.number c.args.at c.in_ok-next.next _ text rest found refl)) c.in_ok-next.ensures.end;
    }
