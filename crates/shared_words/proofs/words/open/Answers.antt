use Rattle.std.proofs.Common.{◌≡◌, length, ap, ◌∙◌, arith}
use Rattle.shared_words.specs.Layout.{InitialData, word_count}
use Rattle.shared_words.proofs.WordPlaces.{initial_count}
use Rattle.shared_words.proofs.WriterRule.{opens}
use Rattle.shared_words.proofs.words.open.Goals as goal

pub of_words-requires : goal.of_words-requires
of_words-requires g c =
    let o : InitialData = g.T.InitialContent.initial c.args.initial.now in
    opens o c.args.words.now c.requires.words c.requires.settled c.requires.widths

pub returns-clause-own : goal.returns-clause-own
returns-clause-own g c =
    let o : InitialData = g.T.InitialContent.initial c.args.initial.now in
    let many : length c.args.words.now ≡ word_count o = ap length c.requires.words ∙ initial_count o in
    grind (arith, many)
