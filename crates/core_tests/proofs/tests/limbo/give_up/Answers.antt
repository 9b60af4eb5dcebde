use Rattle.std.proofs.Common.{arith, rules, ◌≡◌, ◌<◌, ◌++◌, [], ◌∷◌, length, get_or, List, ℕ}
use Rattle.core_tests.proofs.Retirement.{AreRetired-push}
use Rattle.core_tests.proofs.tests.limbo.give_up.Goals as goal

pub returns-clause-retired : goal.returns-clause-retired
returns-clause-retired c =
    let items : List (ℕ × ℕ) = c.args.queue.now.items in
    let later : c.retire.new.self.items ≡ items ++ (c.args.group, c.start-token.result) ∷ [] = search rules in
    let within : c.args.group < length c.args.tokens.now.items = search rules in
    let none : get_or c.args.tokens.now.items c.args.group 0 ≡ 0 = search rules in
    let above : 0 < c.start-token.result = omega (arith, c.start-token.ensures.value) in
    rw later (AreRetired-push c.args.tokens.now.items items c.args.group c.start-token.result within none above c.requires.retired)
