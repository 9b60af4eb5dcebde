use Rattle.std.proofs.Common.{arith, ◌+◌, ◌^◌, length, sym, subst}
use Rattle.std.proofs.lemmas.List.{append-nil}
use Rattle.lpm_trace.specs.Trace.{AreBegun}
use Rattle.interleave.specs.Machine.{IsNextUnread, IsNextGrouped, probes_of}
use Rattle.interleave.proofs.Lookups.{unread_in_range, grouped_in_range}
use Rattle.interleave.proofs.worker.Worker.read_on.Goals as goal

pub read_first-requires : goal.read_first-requires
read_first-requires g c =
    let m = c.args.self.now in
    let next = subst (λ ps. IsNextUnread ps c.in-Some.place c.in-Some.addr) c.deref.ensures.value c.in-Some.ensures in
    let addr = unread_in_range (2 ^ (g.row.FIRST + g.row.SECOND)) g.row.SECOND (length c.args.shared.now.cells.seconds) m.probes.items c.in-Some.place c.in-Some.addr next c.requires.in_range in
    (omega arith, (c.requires.shape, (c.requires.words, (next, addr))))

pub returns-in-Some-clause-step : goal.returns-in-Some-clause-step
returns-in-Some-clause-step g c initial w r of shows doing = record {
  made = _;
  goes = tt;
  makes = c.read_first.ensures.step initial w r of shows doing;
  noted = sym (append-nil _);
}

pub read_second-requires : goal.read_second-requires
read_second-requires g c =
    let m = c.args.self.now in
    let begun = subst (λ ps. AreBegun (probes_of ps)) c.deref.ensures.value c.in_default.ensures in
    let next = subst (λ ps. IsNextGrouped ps c.in-Some-next_in_group.found) c.deref-2.ensures.value c.in-Some-next_in_group.ensures in
    let room = grouped_in_range (2 ^ (g.row.FIRST + g.row.SECOND)) g.row.SECOND (length c.args.shared.now.cells.seconds) m.probes.items c.in-Some-next_in_group.found next c.requires.in_range in
    (omega arith, (c.requires.shape, (c.requires.words, (begun, (next, room)))))

pub returns-in-Some-next_in_group-clause-step : goal.returns-in-Some-next_in_group-clause-step
returns-in-Some-next_in_group-clause-step g c initial w r of shows doing = record {
  made = _;
  goes = tt;
  makes = c.read_second.ensures.step initial w r of shows doing;
  noted = sym (append-nil _);
}
