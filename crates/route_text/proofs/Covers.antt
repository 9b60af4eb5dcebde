-- The lines of the rules behind the one that answers.
use Rattle.std.proofs.Common.{◌≡◌, refl, List, [], ◌∷◌, ◌++◌}
use Rattle.lpm_rules.specs.declared.Rule.{Rule}
use Rattle.route_text.specs.Explanation.{cover_line, cover_lines}

pub next_cover : (r : Rule 24 8) (rs : List (Rule 24 8)) → cover_lines (r ∷ rs) ≡ cover_line r ++ cover_lines rs
unfolding cover_lines
next_cover r rs = refl

pub no_covers : cover_lines [] ≡ []
unfolding cover_lines
no_covers = refl
