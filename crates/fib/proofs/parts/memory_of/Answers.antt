use Rattle.std.proofs.Common.{◌≡◌, ℕ, ◌-◌, ◌*◌, ◌^◌, List, ◌++◌, length, subst, sym, lit<, rules}
use Rattle.std.specs.Prelude.{replicate}
use Rattle.lpm_cells.specs.Words.{IsWords}
use Rattle.lpm_sweep.proofs.NewGroup.{room_grown}
use Rattle.fib.proofs.parts.memory_of.Goals as goal

pub of_words-cells-requires : goal.of_words-cells-requires
of_words-cells-requires g c =
    let f = g.row.FIRST in
    let s = g.row.SECOND in
    let F = c.args.first_words.items in
    let S = c.args.second_words.items in
    let more = c.args.config.groups * 2 ^ s - length S in
    let wide = room_grown f s more c.requires.represents.0 F S c.requires.represents.1 in
    let grown : c.in_ok-second_words.second_words.items ≡ S ++ replicate more 0 = search rules in
    (lit< tt, (c.requires.shape, subst (λ (T : List ℕ). IsWords f s (record { firsts = F; seconds = T })) (sym grown) wide.table.words))
