use Rattle.std.proofs.Common.{refl}
use Rattle.saxiko_c.proofs.running_table.put_back.Goals as goal

pub returns : goal.returns
returns c =
    let known = c.unregister_reader.ensures in
    (refl, known.back, known.own, known.same, known.stage)
