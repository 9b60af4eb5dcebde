use Rattle.std.proofs.Common.{rules, ◌≡◌, ◌++◌, ◌∷◌, ◌%◌, [], length, slice_index, ◌∙◌}
use Rattle.shared_fib.proofs.PackedWords.{put_even, put_odd}
use Rattle.shared_fib.proofs.packed_words.pack.Goals as goal

pub returns-in_ok-push-clause-items : goal.returns-in_ok-push-clause-items
returns-in_ok-push-clause-items c =
    let odd : length c.args.narrow.now % 2 ≡ 1 = search rules in
    let first : c.in-Some.last.now ≡ slice_index c.as_chunks.result.1.now 0 = search rules in
    let put : c.push.new.self.items ≡ c.put_joined.new.words.items ++ c.in-Some.last.now ∷ [] = search rules in
    put ∙ put_odd c.args.narrow.now c.args.words.now.items c.put_joined.new.words.items c.as_chunks.result.1.now
    c.in-Some.last.now odd (search rules) c.as_chunks.ensures.back first

pub returns-in_default-clause-items : goal.returns-in_default-clause-items
returns-in_default-clause-items c =
    let even : length c.args.narrow.now % 2 ≡ 0 = search rules in
    put_even c.args.narrow.now c.args.words.now.items c.put_joined.new.words.items even (search rules)
