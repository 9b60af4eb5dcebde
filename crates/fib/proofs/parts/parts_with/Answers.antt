use Rattle.std.proofs.Common.{◌^◌, length, lit<, arith, rules}
use Rattle.fib.proofs.InitialVersions.{fewer_words, sound_swept}
use Rattle.fib.proofs.parts.parts_with.Goals as goal

pub memory_of-requires : goal.memory_of-requires
memory_of-requires g c =
    let t = c.args.swept in
    let few = c.requires.few in
    let room = c.requires.room in
    let fits = fewer_words (length t.blocks.items) c.args.config.groups (2 ^ g.row.SECOND) few in
    (lit< tt, (c.requires.shape, (c.requires.limits, (omega (arith, room, fits), (c.args.rules.rules, c.requires.represents)))))

pub returns-clause-sound : goal.returns-clause-sound
returns-clause-sound g c =
    let f = g.row.FIRST in
    let s = g.row.SECOND in
    let t = c.args.swept in
    let memory = c.in_ok-memory.ensures in
    sound_swept f s c.args.config c.args.rules.rules c.args.versions t.blocks.items t.first_words.items t.second_words.items
    c.requires.shape c.requires.limits c.requires.represents c.requires.numbered c.requires.room c.requires.few c.requires.count
    c.in_ok-control.control c.in_ok-memory.memory (search rules) memory.firsts memory.seconds memory.domain
