use Rattle.shared_fib.proofs.PackedWords.{count_is}
use Rattle.shared_fib.proofs.word_list.PairsWordList.count.Goals as goal

pub returns : goal.returns
returns c = count_is c.self.inside.count c.self.inside.words.items c.args.self.now c.self.view_is
