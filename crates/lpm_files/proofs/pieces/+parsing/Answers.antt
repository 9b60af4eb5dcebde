use Rattle.std.proofs.Common.{◌++◌, List, ℕ, sym, ap, ap₂, ◌∙◌}
use Rattle.route_text.specs.Files.{lines}
use Rattle.lpm_files.proofs.CutLines.{cut_lines}
use Rattle.lpm_files.proofs.pieces.+parsing.Goals as goal

pub joined-requires-clause-cut : goal.joined-requires-clause-cut
joined-requires-clause-cut g t c κs within =
    let cut = cut_lines c.args.bytes.now c.line_end-end.result c.line_end-end.ensures.within c.line_end-end.ensures.ends in
    cut ∙ ap₂ (λ (a b : List (List ℕ)). a ++ b) (ap lines (sym c.split_at.ensures.front)) (ap lines (sym c.split_at.ensures.back))
