-- Meaning: the blocks that need a group: those in which a rule longer than FIRST bits lies. Such
-- a rule and such a block are called deep (Gupta, Lin and McKeown, INFOCOM 1998, section 3: a
-- group of second words stands behind each first word whose block has a prefix longer than 24
-- bits).
use Rattle.std.specs.Prelude.{ℕ, ◌≡◌, ◌/◌, ◌^◌, ◌<◌, ◌≤◌, ◌↔◌, Option, Some, None, ◌&&◌, IsSome, IsTrue, nat_lt, nat_eq, map, filter, count_by}
use Rattle.std.specs.FinMap as rules
use Rattle.std.specs.FinSet as set
use Rattle.std.specs.Ordering.{nat_cmp}
use Rattle.lpm_bits.specs.Network.{Network}
use Rattle.lpm_rules.specs.RuleMap.{RuleMap}

-- the block in which a deep prefix lies
abbrev pub block_of : ℕ → Network → ℕ
block_of second p = p.bits / 2 ^ second

-- a deep rule lies in the block
abbrev pub IsDeepBlock : ℕ → ℕ → RuleMap → ℕ → Type 0
IsDeepBlock first second R block =
    (p : Network) × IsSome (rules.get R p) × (first < p.len) × (block_of second p ≡ block)

-- a rule of this length lies in the block
abbrev pub IsBlockOf : ℕ → RuleMap → ℕ → ℕ → Type 0
IsBlockOf second R len block =
    (p : Network) × IsSome (rules.get R p) × (p.len ≡ len) × (block_of second p ≡ block)

-- the last number before `end` of which P holds; none where P holds of none of them
abbrev pub IsLastBefore : (ℕ → Type 0) → ℕ → Option ℕ → Type 0
IsLastBefore P end None = (k : ℕ) → P k → k < end → ⊥
IsLastBefore P end (Some last) = P last × (last < end) × ((k : ℕ) → P k → k < end → k ≤ last)

-- the number of deep rules in the block
abbrev pub deep_count : ℕ → ℕ → RuleMap → ℕ → ℕ
deep_count first second R block =
    count_by (λ p. nat_lt first p.len && nat_eq (block_of second p) block) (rules.keys R)

-- the blocks of the deep rules
abbrev pub deep_blocks : ℕ → ℕ → RuleMap → set.FinSet nat_cmp
deep_blocks first second R =
    set.from_list (map (block_of second) (filter (λ p. nat_lt first p.len) (rules.keys R)))

-- the set of deep blocks has exactly them
abbrev pub HasDeepBlocks : Type 0
HasDeepBlocks = (first second : ℕ) (R : RuleMap) (block : ℕ)
    → IsTrue (set.contains (deep_blocks first second R) block) ↔ IsDeepBlock first second R block

-- a rule that is put in brings its block where the rule is deep, and else none
abbrev pub PutBringsBlock : Type 0
PutBringsBlock = (first second : ℕ) (R : RuleMap) (p : Network) (h : ℕ)
    → let old = deep_blocks first second R in
    let new = deep_blocks first second (rules.insert R p h) in
    (first < p.len → new ≡ set.insert old (block_of second p)) × (p.len ≤ first → new ≡ old)

-- a rule that is removed takes its block along where no other deep rule lies in it, and else none
abbrev pub RemoveDropsBlock : Type 0
RemoveDropsBlock = (first second : ℕ) (R : RuleMap) (p : Network)
    → let old = deep_blocks first second R in
    let new = deep_blocks first second (rules.remove R p) in
    let stays = IsDeepBlock first second (rules.remove R p) (block_of second p) in
    (¬ stays → new ≡ set.remove old (block_of second p))
    × (stays → new ≡ old)
    × (p.len ≤ first → new ≡ old)

-- no rules, no deep blocks
abbrev pub EmptyHasNoBlock : Type 0
EmptyHasNoBlock = (first second : ℕ) → deep_blocks first second rules.empty ≡ set.empty
