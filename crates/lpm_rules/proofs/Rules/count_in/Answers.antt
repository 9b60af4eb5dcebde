use Rattle.std.proofs.Common.{arith, rules, ◌≡◌, ℕ, ◌+◌, ◌-◌, ◌*◌, ◌%◌, ◌^◌, length, ap, ◌∙◌, nat_eq}
use Rattle.std.specs.Prelude.{◌&&◌}
use Rattle.std.specs.FinMap as map
use Rattle.std.specs.Ordering.{nat_cmp}
use Rattle.std.specs.declared.ops.Bound.TheVariants.{Included}
use Rattle.std.specs.BTreeMap.Range.{range_contains, entries_between}
use Rattle.std.proofs.lemmas.Nat.{pow_pos, one_shl, shl_whole}
use Rattle.lpm_rules.proofs.Counts.{block_end, range_of_block, count_of_length, count_same}
use Rattle.lpm_rules.proofs.Rules.count_in.Goals as goal

pub overflow_cast-first-2 : goal.overflow_cast-first-2
overflow_cast-first-2 g c =
    let fits = block_end g.row.FIRST g.row.SECOND c.args.block (omega arith) c.requires.block in
    let some = pow_pos g.row.SECOND in
    omega (arith, fits, some)

pub overflow_add-last : goal.overflow_add-last
overflow_add-last g c =
    let fits = block_end g.row.FIRST g.row.SECOND c.args.block (omega arith) c.requires.block in
    let some = pow_pos g.row.SECOND in
    let one = one_shl g.row.SECOND 32 (omega arith) in
    omega (arith, fits, some, one)

pub returns : goal.returns
returns g c =
    let second = g.row.SECOND in
    let block = c.args.block in
    let len = c.args.len in
    let R = c.args.self.now.rules in
    let m = c.of_length-length.result.now in
    let first : ℕ = block * 2 ^ second % 18446744073709551616 in
    let size : ℕ = 1 * 2 ^ second % 4294967296 in
    let start : first ≡ block * 2 ^ second = shl_whole block g.row.FIRST second 64 c.requires.block (omega arith) in
    let whole : size ≡ 2 ^ second = one_shl second 32 (omega arith) in
    let found : c.count.result ≡ length (entries_between nat_cmp (Included first) (Included (first + (size - 1))) m.entries) = search rules in
    found
    ∙ count_of_length R m len (λ b. range_contains nat_cmp (Included first) (Included (first + (size - 1))) b) c.range.ensures.ordered c.of_length-length.ensures
    ∙ count_same (λ p. nat_eq p.len len && range_contains nat_cmp (Included first) (Included (first + (size - 1))) p.bits) _ (map.keys R) (λ p _.
    ap (λ f. nat_eq p.len len && range_contains nat_cmp (Included f) (Included (f + (size - 1))) p.bits) start
    ∙ ap (λ n. nat_eq p.len len && range_contains nat_cmp (Included (block * 2 ^ second)) (Included (block * 2 ^ second + (n - 1))) p.bits) whole
    ∙ ap (λ t. nat_eq p.len len && t) (range_of_block (2 ^ second) block p.bits (pow_pos second)))
