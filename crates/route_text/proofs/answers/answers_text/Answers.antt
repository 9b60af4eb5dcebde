use Rattle.std.proofs.Common.{◌-◌, ◌++◌, List, ℕ, drop, sym, ap, ◌∙◌, arith}
use Rattle.std.proofs.lemmas.List.{append-nil, length-drop, take_all}
use Rattle.route_text.proofs.AnswerLines.{grown, done}
use Rattle.route_text.proofs.answers.answers_text.Goals as goal

pub loop-done-preserved : goal.loop-done-preserved
loop-done-preserved c =
    let text = c.loop-done.text.items in
    let start = c.write_lines-start.result in
    let block = c.write_lines-start.new.block in
    let whole = take_all (1664 - start) (drop start block) (omega (arith, length-drop start block)) in
    let more = c.in_ok-extend_from_slice.ensures.items ∙ ap (λ (t : List ℕ). text ++ t) (whole ∙ c.write_lines-start.ensures.written) in
    record {
      within = omega arith;
      text = grown c.args.addrs.now c.args.hops.now c.loop-done.done c.min.result _ text c.extend_from_slice.new.self.items _ c.requires (omega arith) c.loop-done.invariant.text more;
    }

pub returns : goal.returns
returns c =
    let text = c.loop-done.text.items in
    sym (append-nil text) ∙ (ap (λ (t : List ℕ). text ++ t) (sym (done c.args.addrs.now c.args.hops.now c.loop-done.done (omega arith))) ∙ c.loop-done.invariant.text)
