use Rattle.std.proofs.Common.{◌+◌, ◌^◌, ◌<◌}
use Rattle.shared_words.proofs.Deeds.{all_four}
use Rattle.shared_words.proofs.Together.{firsts_loaded}
use Rattle.shared_words.proofs.four_addresses.load_firsts.Goals as goal

pub returns-clause-loads : goal.returns-clause-loads
returns-clause-loads g c =
    firsts_loaded c.args.a c.args.b c.args.c c.args.d _ _ _ _ _ _ _ _ _ c.load_first-w.ensures.step c.load_first-x.ensures.step
    c.load_first-y.ensures.step c.load_first-z.ensures.step c.requires.unread

pub first_index-requires-clause-addr : goal.first_index-requires-clause-addr
first_index-requires-clause-addr g c =
    (all_four (λ addr. addr < 2 ^ (g.row.FIRST + g.row.SECOND)) c.args.a c.args.b c.args.c c.args.d c.requires.addrs).0

pub first_index-requires-2-clause-addr : goal.first_index-requires-2-clause-addr
first_index-requires-2-clause-addr g c =
    (all_four (λ addr. addr < 2 ^ (g.row.FIRST + g.row.SECOND)) c.args.a c.args.b c.args.c c.args.d c.requires.addrs).1

pub first_index-requires-3-clause-addr : goal.first_index-requires-3-clause-addr
first_index-requires-3-clause-addr g c =
    (all_four (λ addr. addr < 2 ^ (g.row.FIRST + g.row.SECOND)) c.args.a c.args.b c.args.c c.args.d c.requires.addrs).2

pub first_index-requires-4-clause-addr : goal.first_index-requires-4-clause-addr
first_index-requires-4-clause-addr g c =
    (all_four (λ addr. addr < 2 ^ (g.row.FIRST + g.row.SECOND)) c.args.a c.args.b c.args.c c.args.d c.requires.addrs).3
