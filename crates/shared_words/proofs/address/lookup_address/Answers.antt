use Rattle.std.proofs.Common.{◌≡◌, ◌+◌, ◌/◌, ◌%◌, length, refl, sym, ap, arith}
use Rattle.shared_words.specs.declared.view.View.{View}
use Rattle.shared_words.specs.Layout.{InitialData}
use Rattle.shared_words.proofs.Deeds.{firsts_are}
use Rattle.shared_words.proofs.Together.{reads_alone, looks_for, answers, looked}
use Rattle.shared_words.proofs.address.lookup_address.Goals as goal

pub load_first-word-requires-clause-index : goal.load_first-word-requires-clause-index
load_first-word-requires-clause-index g c =
    let own = c.requires.own in
    let begun = c.begin_lookup-low.ensures.step in
    let count = firsts_are _ _ _ _ begun c.view_is_sound.ensures c.requires.first in
    let same = ap (λ (x : View). length x.initial.firsts) begun.view in
    let initial = ap (λ (o : InitialData). length o.firsts) own.initial_is in
    omega (arith, c.first_index.ensures.bound, count, same, initial, own.firsts)

pub load_last-word-requires-clause-next : goal.load_last-word-requires-clause-next
load_last-word-requires-clause-next g c =
    let first = reads_alone c.from.ensures c.begin_lookup-low.ensures.step
    c.load_first-word.ensures.word c.load_first-word.ensures.step in
    looks_for first c.requires.first c.requires.second

pub returns-clause-answer : goal.returns-clause-answer
returns-clause-answer g c =
    let high = c.end_lookup-high.result in
    let half : high / 2 + high % 2 ≡ (high + 1) / 2 = omega arith in
    let first = reads_alone c.from.ensures c.begin_lookup-low.ensures.step
    c.load_first-word.ensures.word c.load_first-word.ensures.step in
    looked (answers first c.load_last-word.ensures.loads) c.end_lookup-high.ensures.step c.view_is_sound.ensures
    c.view_is_sound-2.ensures refl (sym c.hop_of_last_word.ensures) refl half
