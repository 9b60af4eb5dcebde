use Rattle.std.proofs.Common.{◌+◌, length, ap, arith}
use Rattle.bstr.proofs.lemmas.LengthLemmas.{length-lines}
use Rattle.route_text.specs.declared.routes.Route.{Route}
use Rattle.lpm_files.proofs.LineNumbers.{items_within}
use Rattle.lpm_files.proofs.routes.RouteFilePiecewiseFile.append.Goals as goal

pub overflow_add-route : goal.overflow_add-route
overflow_add-route c =
    let back = c.requires.0 in
    let route = c.route-item.result in
    let within = items_within 1 (1 + length back) back c.args.more.now (omega arith) c.requires.1 c.loop-route.route-index route (omega arith) in
    omega (arith, within, ap (λ (r : Route). r.line) c.route-item.is, c.count_lines-lines.ensures, length-lines c.args.front.now, c.requires.2)
