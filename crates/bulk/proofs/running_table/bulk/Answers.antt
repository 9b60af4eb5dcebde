use Rattle.std.proofs.Common.{◌≡◌, ℕ, ◌+◌, ◌<◌, ◌≤◌, List, Option, length, vec_len, vec_capacity, ap, subst, sym, ◌∙◌, arith, rules}
use Rattle.std.specs.List.{flat_map}
use Rattle.std.proofs.lemmas.List.{take_all}
use Rattle.std.proofs.lemmas.List.Folds.{length-flat_map-take}
use Rattle.lpm_bits.specs.declared.Hop.{Hop}
use Rattle.lpm_rules.specs.Longest.{AreLongestHops}
use Rattle.lpm_rules.proofs.Longest.{length-AreLongestHops}
use Rattle.shared_fib.specs.RunningTable.{Identity}
use Rattle.bulk.specs.declared.desk.Desk.{Desk}
use Rattle.bulk.proofs.Meetings.{longest, same_desks, same_numbers, desks_twice, desks_stay, kept_desks, numbers_kept}
use Rattle.bulk.proofs.running_table.bulk.Goals as goal

pub returns-in_err-make_room-clause-numbers : goal.returns-in_err-make_room-clause-numbers
returns-in_err-make_room-clause-numbers g c = numbers_kept _ _ c.make_room.ensures.len c.make_room.ensures.passes

pub returns-in_err-joined-clause-numbers : goal.returns-in_err-joined-clause-numbers
returns-in_err-joined-clause-numbers g c = numbers_kept _ _ c.make_room.ensures.len c.make_room.ensures.passes

pub returns-in_err-make_room-clause-passes : goal.returns-in_err-make_room-clause-passes
returns-in_err-make_room-clause-passes g c = kept_desks c.args.table.now _ _ c.requires.desks c.make_room.ensures.passes

pub returns-in_err-joined-clause-passes : goal.returns-in_err-joined-clause-passes
returns-in_err-joined-clause-passes g c = kept_desks c.args.table.now _ _ c.requires.desks c.make_room.ensures.passes

pub loop-desk-init : goal.loop-desk-init
loop-desk-init g c =
    let id : Identity = c.args.table.now in
    let desks = desks_stay id c.args.desks.now c.make_room.new.desks c.make_room.ensures.len c.requires.desks c.make_room.ensures.passes in
    let some : 0 < length c.make_room.new.desks = search (rules, arith) in
    let width : id.initial.first + id.initial.second ≡ g.row.FIRST + g.row.SECOND =
    omega (arith, c.has_widths.ensures.0, c.has_widths.ensures.1) in
    record {
      answers = subst (λ (n : ℕ). AreLongestHops n c.args.writer.now.table.rules c.args.addrs.now
          (flat_map (λ (d : Desk). d.hops.items) c.meet_all-2.new.desks)) width
          (longest c.args.writer.now c.meet_all.new.writer c.meet_all.ensures.same c.args.addrs.now
          c.make_room.new.desks c.meet_all.new.desks c.answer_all.new.desks c.meet_all-2.new.desks
          c.meet_all.ensures.len c.answer_all.ensures.len c.meet_all-2.ensures.len
          c.meet_all.ensures.met c.answer_all.ensures.answers c.meet_all-2.ensures.met
          id c.requires.own desks some);
      items = c.in_ok-joined.ensures.items;
      capacity = c.in_ok-joined.ensures.capacity;
    }

pub unreachable-requires : goal.unreachable-requires
unreachable-requires g c =
    let hops_of : Desk → List (Option Hop) = λ d. d.hops.items in
    let most = length-flat_map-take hops_of c.meet_all-2.new.desks c.loop-desk.desk-index c.desk-item.result (omega arith) in
    let so_far = ap length c.loop-desk.invariant.items in
    let all = length-AreLongestHops _ _ _ _ c.loop-desk.invariant.answers in
    let here = ap length c.deref.ensures.value ∙ ap (λ d. length (hops_of d)) c.desk-item.is in
    let room : vec_len c.loop-desk.joined + length c.deref.result.now ≤ vec_capacity c.loop-desk.joined = omega arith in
    search rules

pub returns-clause-answers : goal.returns-clause-answers
returns-clause-answers g c =
    let hops_of : Desk → List (Option ℕ) = λ d. d.hops.items in
    let all = take_all c.loop-desk.desk-index c.meet_all-2.new.desks (omega arith) in
    subst (λ (hops : List (Option ℕ)). AreLongestHops (g.row.FIRST + g.row.SECOND) c.args.writer.now.table.rules c.args.addrs.now hops)
    (sym (c.loop-desk.invariant.items ∙ ap (flat_map hops_of) all)) c.loop-desk.invariant.answers

pub returns-clause-numbers : goal.returns-clause-numbers
returns-clause-numbers g c =
    same_numbers c.args.writer.now c.meet_all.new.writer c.meet_all.ensures.same c.args.addrs.now
    c.make_room.new.desks c.meet_all.new.desks c.answer_all.new.desks c.meet_all-2.new.desks
    c.meet_all.ensures.len c.answer_all.ensures.len c.meet_all-2.ensures.len
    c.meet_all.ensures.met c.answer_all.ensures.answers c.meet_all-2.ensures.met
    ∙ numbers_kept _ _ c.make_room.ensures.len c.make_room.ensures.passes

pub returns-clause-passes : goal.returns-clause-passes
returns-clause-passes g c =
    desks_twice _ _ _ c.make_room.ensures.len
    (kept_desks c.args.table.now _ _ c.requires.desks c.make_room.ensures.passes)
    (same_desks c.args.writer.now c.meet_all.new.writer c.meet_all.ensures.same c.args.addrs.now
    c.make_room.new.desks c.meet_all.new.desks c.answer_all.new.desks c.meet_all-2.new.desks
    c.meet_all.ensures.len c.answer_all.ensures.len c.meet_all-2.ensures.len
    c.meet_all.ensures.met c.answer_all.ensures.answers c.meet_all-2.ensures.met)
