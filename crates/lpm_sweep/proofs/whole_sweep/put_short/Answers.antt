use Rattle.std.proofs.Common.{arith, ◌≡◌, ◌+◌, ◌-◌, ◌*◌, ◌/◌, ◌%◌, ◌^◌, ap, ◌∙◌, length}
use Rattle.std.proofs.lemmas.Nat.{one_shl}
use Rattle.lpm_sweep.specs.declared.frames.Frame.{Frame}
use Rattle.lpm_sweep.specs.SweepWords.{word_by_frames}
use Rattle.lpm_sweep.proofs.Sweeps.{swept_on, numbered_on, swept_short}
use Rattle.lpm_sweep.proofs.whole_sweep.put_short.Goals as goal

pub returns-clause-swept : goal.returns-clause-swept
returns-clause-swept g c = λ n R S before swept.
    let items = g.W.WordList.items in
    let f = g.row.FIRST in
    let s = g.row.SECOND in
    let p = c.args.rule.now.prefix in
    let shape = c.requires.shape in
    let frame : Frame = record {
      end = c.first_index-block.result + 1 * 2 ^ (f - c.len-len.result) % 18446744073709551616;
      word = c.word_of_rule-word.result;
    } in
    let network = c.bits-bits.ensures.network in
    let at : c.first_index-block.result ≡ p.bits / 2 ^ s = c.first_index-block.ensures.value ∙ ap (λ x. x / 2 ^ s) c.bits-bits.ensures.value in
    let long : length (items c.advance.new.words) ≡ p.bits / 2 ^ s = c.in_ok-advance.ensures.len ∙ at in
    let whole : 1 * 2 ^ (f - c.len-len.result) % 18446744073709551616 ≡ 2 ^ (f - p.len) = one_shl (f - c.len-len.result) 64 (omega (arith, shape.2)) ∙ ap (λ x. 2 ^ (f - x)) c.len-len.ensures.value in
    swept_short f s n R p c.args.rule.now.hop (items c.advance.new.words) S (word_by_frames c.advance.new.self) (word_by_frames c.push.new.self) frame
    network c.requires.short c.word_of_rule-word.ensures.hop long
    (λ k. c.in_ok-push.ensures k)
    (omega (arith, long, at, whole))
    c.word_of_rule-word.ensures.value
    before
    (swept_on f s n R (items c.args.words.now) (items c.advance.new.words) S (word_by_frames c.args.frames.now) (word_by_frames c.advance.new.self) c.first_index-block.result
    (omega (arith, c.first_index-block.ensures.bound)) c.in_ok-advance.ensures.len c.in_ok-advance.ensures.fills c.in_ok-advance.ensures.frames swept)

pub returns-clause-numbered : goal.returns-clause-numbered
returns-clause-numbered g c = λ n R S blocks swept numbered.
    let items = g.W.WordList.items in
    numbered_on g.row.FIRST g.row.SECOND n R (items c.args.words.now) (items c.advance.new.words) S (word_by_frames c.args.frames.now) (word_by_frames c.advance.new.self) c.first_index-block.result
    (omega (arith, c.first_index-block.ensures.bound)) c.in_ok-advance.ensures.len c.in_ok-advance.ensures.fills c.in_ok-advance.ensures.frames swept blocks numbered
