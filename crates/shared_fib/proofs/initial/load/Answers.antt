use Rattle.std.proofs.Common.{◌≡◌, ◌^◌, ◌<◌, ◌≤◌, refl, rules, arith}
use Rattle.shared_fib.specs.declared.initial_table.InitialTable.{InitialTable}
use Rattle.shared_fib.proofs.Openings.{loaded_packed, opens_loaded, loaded_is}
use Rattle.shared_fib.proofs.initial.load.Goals as goal

pub returns : goal.returns
returns g c =
    let f = g.row.FIRST in
    let s = g.row.SECOND in
    let made = c.in_ok-words.ensures in
    let control = c.args.control in
    let memory = c.args.memory in
    let low : 0 < memory.domain.token = search (rules, arith) in
    let high : memory.domain.token ≤ 2 ^ 62 = search (rules, arith) in
    let same : c.token.result ≡ memory.domain.token = search rules in
    let l : InitialTable f s = record {
      words = c.in_ok-words.words;
      layout = c.in_ok-words.layout;
      rules = control.rules;
      groups = control.pool.groups;
    } in
    let packed = loaded_packed f s control memory l c.token.result same made.words made.firsts made.seconds made.workers in
    record {
      config = refl;
      rules = refl;
      initial = opens_loaded f s control memory c.requires.sound c.requires.none l refl refl low packed;
      loaded = loaded_is f s control memory c.requires.sound c.requires.none control.config control.pool.queue l
          refl refl refl refl low high packed;
    }
