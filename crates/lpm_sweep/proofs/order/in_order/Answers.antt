use Rattle.std.proofs.Common.{arith, ◌≡◌, ◌<◌, ◌≤◌, ◌%◌, ◌^◌, ℕ, sym, subst, length, List}
use Rattle.std.specs.Prelude.{slice_index}
use Rattle.std.specs.List.Sorted.{IsPermutation, IsNonDecreasing}
use Rattle.std.proofs.lemmas.List.Sorted.{IsNonDecreasingBy-from_sort}
use Rattle.lpm_rules.specs.declared.Rule.{Rule}
use Rattle.lpm_sweep.specs.Keys.{AreKeys}
use Rattle.lpm_sweep.proofs.KeyOrder.{AreTaken, taken_more, names_of, count_keys, sorted_order, sorted_same, reordered}
use Rattle.lpm_sweep.proofs.order.in_order.Goals as goal

-- a sorted key names a rule
named : {f s : ℕ} (xs : List (Rule f s)) (keys ks sorted : List ℕ) (k : ℕ) → length xs ≤ 2 ^ 26 → AreKeys xs keys → IsPermutation keys sorted → ks ≡ sorted → k < length ks
    → slice_index ks k % 2 ^ 26 < length xs
named xs keys ks sorted k few are moved same h =
    let of_sort : IsPermutation keys ks = subst (IsPermutation keys) (sym same) moved in
    (names_of xs keys ks few are of_sort k (omega (arith, h, count_keys xs keys ks few are of_sort))).0

pub bounds-rules-key : goal.bounds-rules-key
bounds-rules-key g c =
    named c.args.rules.now c.in_ok-keys.keys.items c.deref-key-items.result.now c.sort_unstable.new.self.items c.loop-key.key-index
    c.requires.few c.in_ok-keys.ensures c.sort_unstable.ensures.permutation c.deref-key-items.ensures.value c.loop-key-test.true

pub loop-key-preserved : goal.loop-key-preserved
loop-key-preserved g c =
    taken_more c.args.rules.now c.deref-key-items.result.now c.loop-key.sorted.items c.push.new.self.items c.loop-key.key-index
    c.index-rules-key.result c.loop-key.invariant
    (named c.args.rules.now c.in_ok-keys.keys.items c.deref-key-items.result.now c.sort_unstable.new.self.items c.loop-key.key-index
    c.requires.few c.in_ok-keys.ensures c.sort_unstable.ensures.permutation c.deref-key-items.ensures.value c.loop-key-test.true)
    c.index-rules-key.is c.in_ok-push.ensures.items

pub returns-clause-ordered : goal.returns-clause-ordered
returns-clause-ordered g c =
    let xs = c.args.rules.now in
    let keys = c.in_ok-keys.keys.items in
    let ks = c.deref-key-items.result.now in
    let of_sort = sym c.deref-key-items.ensures.value in
    let moved : IsPermutation keys ks = subst (IsPermutation keys) of_sort c.sort_unstable.ensures.permutation in
    let rising : IsNonDecreasing ks = subst IsNonDecreasing of_sort (IsNonDecreasingBy-from_sort (λ (x : ℕ). x) c.sort_unstable.new.self.items c.sort_unstable.ensures.sorted) in
    let taken = subst (AreTaken xs ks c.loop-key.sorted.items) (omega arith) c.loop-key.invariant in
    sorted_order xs keys ks c.loop-key.sorted.items c.requires.few c.in_ok-keys.ensures moved rising taken

pub returns-clause-reordered : goal.returns-clause-reordered
returns-clause-reordered g c =
    let xs = c.args.rules.now in
    let keys = c.in_ok-keys.keys.items in
    let ks = c.deref-key-items.result.now in
    let of_sort = sym c.deref-key-items.ensures.value in
    let moved : IsPermutation keys ks = subst (IsPermutation keys) of_sort c.sort_unstable.ensures.permutation in
    let rising : IsNonDecreasing ks = subst IsNonDecreasing of_sort (IsNonDecreasingBy-from_sort (λ (x : ℕ). x) c.sort_unstable.new.self.items c.sort_unstable.ensures.sorted) in
    let taken = subst (AreTaken xs ks c.loop-key.sorted.items) (omega arith) c.loop-key.invariant in
    reordered xs keys ks c.loop-key.sorted.items c.requires.few c.in_ok-keys.ensures moved rising taken

pub returns-clause-same : goal.returns-clause-same
returns-clause-same g c =
    let xs = c.args.rules.now in
    let keys = c.in_ok-keys.keys.items in
    let ks = c.deref-key-items.result.now in
    let of_sort = sym c.deref-key-items.ensures.value in
    let moved : IsPermutation keys ks = subst (IsPermutation keys) of_sort c.sort_unstable.ensures.permutation in
    let rising : IsNonDecreasing ks = subst IsNonDecreasing of_sort (IsNonDecreasingBy-from_sort (λ (x : ℕ). x) c.sort_unstable.new.self.items c.sort_unstable.ensures.sorted) in
    let taken = subst (AreTaken xs ks c.loop-key.sorted.items) (omega arith) c.loop-key.invariant in
    sorted_same xs keys ks c.loop-key.sorted.items c.requires.few c.in_ok-keys.ensures moved rising taken
