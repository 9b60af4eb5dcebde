use Rattle.std.proofs.Common.{◌+◌, drop, arith}
use Rattle.route_text.proofs.Octets.{one_at, two_at, three_at}
use Rattle.route_text.proofs.numbers.number_before.Goals as goal

pub returns-then-second-gt9-clause-number : goal.returns-then-second-gt9-clause-number
returns-then-second-gt9-clause-number c =
    let text = c.args.bytes.now in
    record {
      after = drop (c.args.at + 1) text;
      small = omega arith;
      split = one_at text c.args.at _ (omega arith) (omega arith) (omega arith);
      ends = c.in_ok-next.ensures.end;
    }

pub returns-then-third-gt9-clause-number : goal.returns-then-third-gt9-clause-number
returns-then-third-gt9-clause-number c =
    let text = c.args.bytes.now in
    record {
      after = drop (c.args.at + 2) text;
      small = omega arith;
      split = two_at text c.args.at _ _ (omega arith)
          (omega arith) (omega arith) (omega arith) (omega arith) (omega arith);
      ends = c.in_ok-next-2.ensures.end;
    }

pub returns-clause-number : goal.returns-clause-number
returns-clause-number c =
    let text = c.args.bytes.now in
    record {
      after = drop (c.args.at + 3) text;
      small = omega arith;
      split = three_at text c.args.at _ _ _ (omega arith)
          (omega arith) (omega arith) (omega arith) (omega arith) (omega arith) (omega arith) (omega arith);
      ends = c.in_ok-next-3.ensures.end;
    }
