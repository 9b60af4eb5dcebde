use Rattle.std.proofs.Common.{rules}
use Rattle.std.proofs.lemmas.List.{length-map}
use Rattle.std.proofs.lemmas.Iterator.{YieldsList-from_map, YieldsList-from_slice}
use Rattle.std.proofs.lemmas.Iterator.Adapters.{items_from_extend}
use Rattle.shared_words.specs.Layout.{pair_at}
use Rattle.shared_fib.proofs.packed_words.put_joined.Goals as goal

pub returns-clause-len : goal.returns-clause-len
returns-clause-len c =
    let added = items_from_extend c.extend.result c.extend.ensures.ran
    (YieldsList-from_map _ (λ two. pair_at two 0) (YieldsList-from_slice c.args.twos.now cc)
    c.map.ensures.closure (λ x r q k. search rules)) in
    search (rules, length-map)

pub returns-clause-items : goal.returns-clause-items
returns-clause-items c =
    let added = items_from_extend c.extend.result c.extend.ensures.ran
    (YieldsList-from_map _ (λ two. pair_at two 0) (YieldsList-from_slice c.args.twos.now cc)
    c.map.ensures.closure (λ x r q k. search rules)) in
    search rules
