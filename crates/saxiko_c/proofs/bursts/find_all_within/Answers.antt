use Rattle.std.proofs.Common.{◌≡◌, ◌≤◌, ◌+◌, ℕ, [], ap, length, refl, arith, rules, ◌∙◌}
use Rattle.std.specs.Prelude.{min, max}
use Rattle.shared_fib.specs.Bursts.{least}
use Rattle.shared_fib.proofs.Lookups.{burst_after}
use Rattle.saxiko_c.specs.declared.records.SaxikoSpan.{SaxikoSpan as Span}
use Rattle.saxiko_c.proofs.Pieces.{all_found}
use Rattle.saxiko_c.proofs.bursts.find_all_within.Goals as goal

pub loop-at-init : goal.loop-at-init
loop-at-init c = record {
  bound = omega arith;
  sizes = refl;
  online = c.requires.online;
  none = λ _. (refl, refl);
  found = ([], record { pieces = []; addrs_are = refl; hops_are = refl; lo_is = refl; hi_is = refl; steps = refl }, refl);
}

pub loop-at-preserved : goal.loop-at-preserved
loop-at-preserved c =
    let l = c.loop-at in
    let one = c.find_one-one in
    let lo : c.min-lo.result ≡ min l.lo one.result.lo = search rules in
    let hi : c.max-hi.result ≡ max l.hi one.result.hi = search rules in
    record {
      bound = rw one.ensures.len (omega arith);
      sizes = one.ensures.len ∙ l.invariant.sizes;
      online = one.ensures.online;
      none = λ e. absurd (omega (arith, e));
      found = burst_after c.args.default c.args.addrs.now l.hops one.new.hops l.at (l.at + 1)
          l.lo l.hi one.result.lo one.result.hi c.min-lo.result c.max-hi.result
          c.args.reader.now l.reader one.new.reader l.invariant.found one.ensures.found lo hi;
    }

pub returns-clause-found : goal.returns-clause-found
returns-clause-found c =
    let l = c.loop-at in
    let few : length l.hops ≤ l.at = omega (arith, c.loop-at-test.false) in
    let few_addrs : length c.args.addrs.now ≤ l.at = omega (arith, few, l.invariant.sizes, c.requires.sizes) in
    all_found c.args.default c.args.addrs.now l.hops l.at l.lo l.hi _ _ few_addrs few l.invariant.found

pub returns-clause-none : goal.returns-clause-none
returns-clause-none c = λ none.
    let l = c.loop-at in
    let sizes = l.invariant.sizes in
    let same = c.requires.sizes in
    let at : l.at ≡ 0 = omega (arith, l.invariant.bound, sizes, same, ap length none) in
    let blank = l.invariant.none at in
    let span : ℕ → ℕ → Span = λ x y. record { lo = x; hi = y } in
    ap (λ x. span x l.hi) blank.0 ∙ ap (λ y. span (least []) y) blank.1
