use Rattle.std.proofs.Common.{◌≡◌, ℕ, ◌<◌, length, get_or}
use Rattle.std.specs.Ordering.{nat_cmp}
use Rattle.std.specs.BTreeMap.{IsFromIterResult}
use Rattle.lpm_rules.proofs.maps.maps_by_length.Given as goal

abbrev pub invariant-loop-len : goal.invariant-loop-len
invariant-loop-len l = record {
  long : length l.maps ≡ 33;
  made : (k : ℕ) (a : _) (m : _) → k < l.len → IsFromIterResult nat_cmp (get_or l.lists k a).items (get_or l.maps k m);
}
