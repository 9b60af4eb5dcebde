use Rattle.std.proofs.Common.{arith, ◌*◌, ◌^◌, replicate, ap, ◌∙◌}
use Rattle.std.proofs.lemmas.Nat.{one_shl, shl_whole}
use Rattle.lpm_cells.proofs.ReadBack.{blank}
use Rattle.lpm_cells.proofs.plain.PlainCells.new.Goals as goal

pub invariant_of-result : goal.invariant_of-result
invariant_of-result g c = (
  c.requires.shape,
  blank g.row.FIRST g.row.SECOND (c.args.groups * 2 ^ g.row.SECOND) c.in_ok-first_words.first_words.items c.in_ok-second_words.second_words.items
      ((c.in_ok-first_words.ensures.items_if_clones_equal (λ y e. e)) ∙ ap (λ n. replicate n c.to_word-miss.result) (one_shl g.row.FIRST 64 (omega arith)) ∙ ap (replicate (2 ^ g.row.FIRST)) c.to_word-miss.ensures.value)
      ((c.in_ok-second_words.ensures.items_if_clones_equal (λ y e. e)) ∙ ap (λ n. replicate n c.to_word-miss.result) (shl_whole c.args.groups 17 g.row.SECOND 64 (omega arith) (omega arith)) ∙ ap (replicate (c.args.groups * 2 ^ g.row.SECOND)) c.to_word-miss.ensures.value),
)
