use Rattle.std.proofs.Common.{◌≡◌, ℕ, ◌+◌, ◌<◌, length, get_or, refl, sym, ap, subst, ◌∙◌, vec_len, arith}
use Rattle.bulk.specs.declared.desk.Desk.{Desk}
use Rattle.bulk.specs.Pieces.{piece_of}
use Rattle.bulk.proofs.Meetings.{none_yet, one_more, place_more, up_to_all}
use Rattle.bulk.proofs.running_table.make_room.Goals as goal

abbrev KeepsPass : Desk → Desk → Type 0
KeepsPass old new = new.pass ≡ old.pass

pub loop-number-init : goal.loop-number-init
loop-number-init c = record {
  passes = none_yet KeepsPass c.args.desks.now;
  room = λ k d lt. absurd (omega (arith, lt));
}

pub loop-number-preserved : goal.loop-number-preserved
loop-number-preserved c =
    let known = c.loop-number.invariant in
    let i = c.loop-number.number in
    let desks = c.loop-number.desks in
    let within : i < length desks = omega arith in
    let counts : ℕ → ℕ = λ k. length (piece_of c.args.addrs.now (length c.args.desks.now) k) in
    let old : Desk = get_or desks i c.index-desks-number.result in
    let new : Desk = record { pass = old.pass; hops = c.resize.new.self } in
    record {
      passes = one_more KeepsPass i c.args.desks.now desks c.index-desks-number.result new within known.passes refl;
      room = place_more (λ (k : ℕ) (desk : Desk). vec_len desk.hops ≡ counts k) i desks new within known.room
          (c.in_ok-resize.ensures.len ∙ ap length c.piece_at-count.ensures);
    }

pub returns-in_err-resize-clause-passes : goal.returns-in_err-resize-clause-passes
returns-in_err-resize-clause-passes c =
    let i = c.loop-number.number in
    let desks = c.loop-number.desks in
    let within : i < length desks = omega arith in
    let old : Desk = get_or desks i c.index-desks-number.result in
    up_to_all KeepsPass (λ x. refl) (i + 1) c.args.desks.now _
    (one_more KeepsPass i c.args.desks.now desks c.index-desks-number.result
    (record { pass = old.pass; hops = c.resize.new.self }) within c.loop-number.invariant.passes refl)

pub returns-clause-passes : goal.returns-clause-passes
returns-clause-passes c = up_to_all KeepsPass (λ x. refl) c.loop-number.number
    c.args.desks.now c.loop-number.desks c.loop-number.invariant.passes

pub returns-clause-room : goal.returns-clause-room
returns-clause-room c = λ k d lt.
    subst
    (λ (n : ℕ). vec_len (get_or c.loop-number.desks k d).hops ≡ length (piece_of c.args.addrs.now n k))
    (sym c.loop-number.auto.desks)
    (c.loop-number.invariant.room k d (omega (arith, lt)))
