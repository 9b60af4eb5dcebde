use Rattle.std.proofs.Common.{◌≡◌, ℕ, ◌<◌, length, get_or, []}
use Rattle.std.specs.BTreeMap.{BTreeMap}
use Rattle.lpm_rules.proofs.Rules.clear.Given as goal

-- the maps before this one are empty
abbrev pub invariant-loop-length : goal.invariant-loop-length
invariant-loop-length g l =
    (length l.length-items ≡ 33) × ((i : ℕ) (d : BTreeMap ℕ ℕ) → i < l.length-index → (get_or l.length-items i d).entries ≡ [])
