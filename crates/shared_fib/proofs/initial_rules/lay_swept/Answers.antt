use Rattle.std.proofs.Common.{◌≡◌, ◌+◌, ◌++◌, length, ◌∙◌, arith, rules}
use Rattle.shared_words.specs.Layout.{pairs}
use Rattle.shared_fib.proofs.SweepWords.{laid_out}
use Rattle.shared_fib.proofs.initial_rules.lay_swept.Goals as goal

pub returns : goal.returns
returns c =
    let F = c.args.firsts in
    let S = c.args.seconds.now in
    let W = c.extend_from_slice.new.self.items in
    let count = 2 + c.pairs.result + c.pairs-2.result + c.args.workers in
    let put = c.in_ok-extend_from_slice.ensures.items ∙ (λ i. c.into_words-words.ensures i ++ c.shared.ensures i) in
    let all : count ≡ 2 + pairs (length F) + pairs c.args.second_count + c.args.workers = search (rules, arith) in
    laid_out F S W c.resize.new.self.items count _ c.args.token c.args.second_count c.args.workers put
    c.in_ok-resize.ensures.items (search (rules, arith)) all c.requires.seconds
