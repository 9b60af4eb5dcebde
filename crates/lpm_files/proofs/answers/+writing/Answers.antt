use Rattle.std.proofs.Common.{◌++◌, List, ℕ, Option, sym, ap₂, ◌∙◌}
use Rattle.route_text.specs.Texts.{answer_lines}
use Rattle.route_text.proofs.AnswerLines.{parted}
use Rattle.lpm_files.proofs.answers.+writing.Goals as goal

pub returns : goal.returns
returns g t c =
    let addrs = c.args.addrs.now in
    let hops = c.args.hops.now in
    let middle = c.share-middle.result in
    let first = rw c.in_ok-text.was at c.join-first.ensures.first in
    let second = rw c.in_ok-rest.was at c.join-first.ensures.second in
    let lines = λ (a : List ℕ) (h : List (Option ℕ)). answer_lines a h in
    let front = first ∙ ap₂ lines c.split_at.ensures.front c.split_at-2.ensures.front in
    let back = c.deref.ensures.value ∙ (second ∙ ap₂ lines c.split_at.ensures.back c.split_at-2.ensures.back) in
    c.in_ok-extend_from_slice.ensures.items
    ∙ (ap₂ (λ (a b : List ℕ). a ++ b) front back ∙ sym (parted middle addrs hops c.requires))
