use Rattle.std.proofs.Common.{◌≡◌, ◌+◌, ◌/◌, ◌%◌, refl, sym, arith, rules}
use Rattle.shared_words.proofs.Deeds.{firsts_are}
use Rattle.shared_words.proofs.Together.{same_four, reads, looks_for, looking, answers, all_answered, looked_together}
use Rattle.shared_words.proofs.four_addresses.lookup_four_addresses.Goals as goal

pub load_firsts-w-requires-clause-firsts : goal.load_firsts-w-requires-clause-firsts
load_firsts-w-requires-clause-firsts g c =
    firsts_are _ _ _ _ c.begin_lookup-low.ensures.step c.view_is_sound.ensures c.requires.first

pub load_last-w-requires-clause-next : goal.load_last-w-requires-clause-next
load_last-w-requires-clause-next g c =
    let firsts = reads (same_four c.from.ensures c.from-2.ensures c.from-3.ensures c.from-4.ensures)
    c.begin_lookup-low.ensures.step c.load_firsts-w.ensures.words c.load_firsts-w.ensures.loads in
    looks_for firsts c.requires.first c.requires.second

pub load_last-x-requires-clause-next : goal.load_last-x-requires-clause-next
load_last-x-requires-clause-next g c =
    let firsts = reads (same_four c.from.ensures c.from-2.ensures c.from-3.ensures c.from-4.ensures)
    c.begin_lookup-low.ensures.step c.load_firsts-w.ensures.words c.load_firsts-w.ensures.loads in
    let w = answers firsts c.load_last-w.ensures.loads in
    looks_for w c.requires.first c.requires.second

pub load_last-y-requires-clause-next : goal.load_last-y-requires-clause-next
load_last-y-requires-clause-next g c =
    let firsts = reads (same_four c.from.ensures c.from-2.ensures c.from-3.ensures c.from-4.ensures)
    c.begin_lookup-low.ensures.step c.load_firsts-w.ensures.words c.load_firsts-w.ensures.loads in
    let w = answers firsts c.load_last-w.ensures.loads in
    let x = answers w c.load_last-x.ensures.loads in
    looks_for x c.requires.first c.requires.second

pub load_last-z-requires-clause-next : goal.load_last-z-requires-clause-next
load_last-z-requires-clause-next g c =
    let firsts = reads (same_four c.from.ensures c.from-2.ensures c.from-3.ensures c.from-4.ensures)
    c.begin_lookup-low.ensures.step c.load_firsts-w.ensures.words c.load_firsts-w.ensures.loads in
    let w = answers firsts c.load_last-w.ensures.loads in
    let x = answers w c.load_last-x.ensures.loads in
    let y = answers x c.load_last-y.ensures.loads in
    looks_for y c.requires.first c.requires.second

pub end_lookup-high-requires : goal.end_lookup-high-requires
end_lookup-high-requires g c =
    let firsts = reads (same_four c.from.ensures c.from-2.ensures c.from-3.ensures c.from-4.ensures)
    c.begin_lookup-low.ensures.step c.load_firsts-w.ensures.words c.load_firsts-w.ensures.loads in
    let w = answers firsts c.load_last-w.ensures.loads in
    let x = answers w c.load_last-x.ensures.loads in
    let y = answers x c.load_last-y.ensures.loads in
    let z = answers y c.load_last-z.ensures.loads in
    record { own = search rules; looking = looking z; answered = all_answered z }

pub returns-clause-answers : goal.returns-clause-answers
returns-clause-answers g c =
    let high = c.end_lookup-high.result in
    let half : high / 2 + high % 2 ≡ (high + 1) / 2 = omega arith in
    let firsts = reads (same_four c.from.ensures c.from-2.ensures c.from-3.ensures c.from-4.ensures)
    c.begin_lookup-low.ensures.step c.load_firsts-w.ensures.words c.load_firsts-w.ensures.loads in
    let w = answers firsts c.load_last-w.ensures.loads in
    let x = answers w c.load_last-x.ensures.loads in
    let y = answers x c.load_last-y.ensures.loads in
    let z = answers y c.load_last-z.ensures.loads in
    looked_together z c.end_lookup-high.ensures.step c.view_is_sound.ensures c.view_is_sound-2.ensures refl
    (sym (same_four c.hop_of_last_word.ensures c.hop_of_last_word-2.ensures c.hop_of_last_word-3.ensures
    c.hop_of_last_word-4.ensures)) refl half
