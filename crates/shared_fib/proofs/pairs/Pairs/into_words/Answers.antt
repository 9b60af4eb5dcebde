use Rattle.std.proofs.Common.{ℕ, List, ◌∷◌, ap, ◌∙◌}
use Rattle.shared_words.specs.Layout.{packed_words}
use Rattle.shared_fib.proofs.PackedWords.{packed_whole}
use Rattle.shared_fib.proofs.pairs.Pairs.into_words.Goals as goal

pub returns : goal.returns
returns c =
    packed_whole c.self.inside.count c.self.inside.words.items c.self.invariant c.args.token
    ∙ ap (λ (l : List ℕ). 0 ∷ c.args.token ∷ packed_words l) c.self.view_is
