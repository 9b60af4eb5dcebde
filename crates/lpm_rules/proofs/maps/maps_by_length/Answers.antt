use Rattle.std.proofs.Common.{arith, ℕ, ◌∙◌, subst, get_or, List}
use Rattle.std.specs.Ordering.{nat_cmp}
use Rattle.std.specs.BTreeMap.{IsFromIterResult}
use Rattle.std.proofs.Math.ListN.{length-set}
use Rattle.lpm_rules.proofs.LengthMaps.{collected_on}
use Rattle.lpm_rules.proofs.maps.maps_by_length.Goals as goal

pub loop-len-preserved : goal.loop-len-preserved
loop-len-preserved c =
    let inv = c.loop-len.invariant in
    let long = inv.long in
    let test = c.loop-len-test.true in
    let made : IsFromIterResult nat_cmp (get_or c.args.lists.now c.loop-len.len c.index-lists-len.result).items c.in_ok-maps.field-0 =
    subst (λ (l : List (ℕ × ℕ)). IsFromIterResult nat_cmp l c.in_ok-maps.field-0) c.as_slice.ensures.value c.in_ok-maps.ensures in
    record {
      long = length-set c.loop-len.maps c.loop-len.len _ ∙ long;
      made = collected_on c.args.lists.now c.loop-len.maps c.loop-len.len c.in_ok-maps.field-0 c.index-lists-len.result (omega (arith, test, long)) (let all = c.type_inv.lists in omega (arith, test, all)) made inv.made;
    }

pub returns : goal.returns
returns c = record {
  long = c.loop-len.invariant.long;
  each = λ len l m low. c.loop-len.invariant.made len l m (let off = c.loop-len-test.false in omega (arith, low, off));
}
