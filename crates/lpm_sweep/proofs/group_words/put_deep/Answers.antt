use Rattle.std.proofs.Common.{arith, ◌≡◌, ◌+◌, ◌-◌, ◌*◌, ◌%◌, ◌^◌, ap, ◌∙◌, length}
use Rattle.std.proofs.lemmas.Nat.{one_shl}
use Rattle.lpm_sweep.specs.declared.frames.Frame.{Frame}
use Rattle.lpm_sweep.specs.SweepWords.{word_by_frames}
use Rattle.lpm_sweep.proofs.Sweeps.{deepened}
use Rattle.lpm_sweep.proofs.group_words.put_deep.Goals as goal

pub returns-clause-fills : goal.returns-clause-fills
returns-clause-fills g c = λ R0 R before filling.
    let items = g.W.WordList.items in
    let f = g.row.FIRST in
    let s = g.row.SECOND in
    let p = c.args.rule.now.prefix in
    let shape = c.requires.shape in
    let frame : Frame = record {
      end = c.args.base + c.second_index.result + 1 * 2 ^ (f + s - c.len-len.result) % 18446744073709551616;
      word = c.word_of_rule-word.result;
    } in
    let at : c.second_index.result ≡ p.bits % 2 ^ s = c.second_index.ensures.value ∙ ap (λ x. x % 2 ^ s) c.bits-bits.ensures.value in
    let long : length (items c.advance.new.words) ≡ c.args.base + p.bits % 2 ^ s = c.in_ok-advance.ensures.len ∙ ap (λ x. c.args.base + x) at in
    let whole : 1 * 2 ^ (f + s - c.len-len.result) % 18446744073709551616 ≡ 2 ^ (f + s - p.len) = one_shl (f + s - c.len-len.result) 64 (omega (arith, shape.2)) ∙ ap (λ x. 2 ^ (f + s - x)) c.len-len.ensures.value in
    deepened f s c.args.base R0 R p c.args.rule.now.hop (items c.args.words.now) (items c.advance.new.words) (word_by_frames c.args.frames.now) (word_by_frames c.advance.new.self) (word_by_frames c.push.new.self) frame
    c.bits-bits.ensures.network c.requires.deep c.word_of_rule-word.ensures.hop long c.in_ok-advance.ensures.fills
    (λ k l. c.in_ok-advance.ensures.frames k (omega (arith, l, c.in_ok-advance.ensures.len)))
    (λ k. c.in_ok-push.ensures k)
    (omega (arith, long, whole, at))
    c.word_of_rule-word.ensures.value
    before filling
