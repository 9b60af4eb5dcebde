use Rattle.std.proofs.Common.{drop, ap, ◌∙◌}
use Rattle.std.proofs.lemmas.List.{take_rest}
use Rattle.shared_words.specs.Layout.{packed_words}
use Rattle.shared_fib.proofs.PackedWords.{packed_behind}
use Rattle.shared_fib.proofs.pairs.Pairs.shared.Goals as goal

pub returns : goal.returns
returns c =
    take_rest c.deref.result.now 2 ∙ ap (drop 2) c.deref.ensures.value
    ∙ packed_behind c.self.inside.count c.self.inside.words.items c.self.invariant ∙ ap packed_words c.self.view_is
