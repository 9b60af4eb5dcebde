use Rattle.std.proofs.Common.{inr, refl}
use Rattle.std.proofs.Math.Nat.{lt_of_not-le}
use Rattle.saxiko_c.proofs.Pieces.{as_before}
use Rattle.saxiko_c.proofs.running_table.boxed_reader.Goals as goal

pub returns-in-Err-new : goal.returns-in-Err-new
returns-in-Err-new c =
    let known = c.in-Ok.ensures in
    let back = c.unregister_reader.ensures.back in (
      as_before c.args.owner.now c.register_reader.new.self c.unregister_reader.new.self c.args.number c.in-Ok.reader
          c.in-Err-new.failed.value back.0 c.in-Err-new.ensures.value_returned known.reader.worker known.reader.offline
          known.registered.0 known.registered.1 known.same known.stage back.1 back.3 c.unregister_reader.ensures.same
          c.unregister_reader.ensures.stage,
      inr (inr (refl, lt_of_not-le (λ few. cc (known.no_such_worker.1 few)), λ handed. cc (handed, known.registered.0))),
    )
