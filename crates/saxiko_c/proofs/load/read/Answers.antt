use Rattle.std.proofs.Common.{arith, ◌∙◌, ◌≡◌, ◌<◌, ◌++◌, [], ◌∷◌, true, ap, sym, length, map, take, is_ok, not, if◌then◌else◌}
use Rattle.std.proofs.lemmas.List.{map_more}
use Rattle.std.proofs.lemmas.List.Elements.{All-more}
use Rattle.saxiko_c.specs.Loads.{IsBadRoute, rule_of}
use Rattle.saxiko_c.specs.declared.records.SaxikoRoute.{SaxikoRoute}
use Rattle.saxiko_c.proofs.load.read.Goals as goal

pub loop-index-preserved : goal.loop-index-preserved
loop-index-preserved c =
    let routes = c.args.routes.now in
    let index = c.loop-index.index in
    let before = c.loop-index.rules.items in
    let rule = c.in-Some.rule in
    let blank : SaxikoRoute = record { addr = 0; hop = 0; depth = 0 } in
    let low : index < length routes = omega (arith, c.loop-index-test.true) in
    let known = c.in-Some.ensures in
    let ok : is_ok c.push.result ≡ true = c.is_err.ensures.negation ∙ ap not c.if-is_err.false in
    let pushed : c.push.new.self.items ≡ before ++ rule ∷ [] =
    c.push.ensures.items ∙ ap (λ b. if b then before ++ rule ∷ [] else before) ok in
    record {
      read = pushed ∙ ap (λ xs. xs ++ rule ∷ []) c.loop-index.invariant.read
          ∙ ap (λ r. map rule_of (take index routes) ++ r ∷ []) known.0 ∙ sym (map_more rule_of routes index blank low);
      good = All-more (λ route. ¬ IsBadRoute route) routes index blank low c.loop-index.invariant.good known.1;
      bad = c.loop-index.invariant.bad;
    }
