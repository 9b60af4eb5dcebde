-- A table with fewer groups, but enough for its routes, is the table with all groups.
use Rattle.std.proofs.Common.{◌≡◌, ◌∙◌, ap, sym, subst, refl, ℕ, ◌+◌, ◌<◌, ◌≤◌, ◌^◌, inl, inr, Bool, true, false, cond, List, [], ◌∷◌, ◌++◌, Ok, Err, length, map, arith, ◌≢◌, zero, suc, ◌/◌, get_or, take}
use Rattle.std.proofs.lemmas.Bool.{cases_lt, lt-ltb, leb-true, le-leb}
use Rattle.std.proofs.lemmas.List.Sums.{sum_by-append}
use Rattle.std.specs.FinMap.{insert, empty, get-empty}
use Rattle.std.specs.Ordering.{nat_cmp}
use Rattle.lpm_bits.specs.Network.{Network, IsNetwork}
use Rattle.lpm_limits.specs.declared.config.Config.{Config}
use Rattle.lpm_limits.specs.declared.refusal.Refusal.{Refusal}
use Rattle.lpm_limits.specs.declared.refusal.Refusal.TheVariants.{TooManyRules, Exhausted, NoGroups, Memory}
use Rattle.lpm_rules.specs.RuleMap.{RuleMap, network_cmp, AllUpTo, AreInOrder, place, prefix_at, rules_of, with_rules}
use Rattle.lpm_rules.specs.Deep.{block_of, IsDeepBlock}
use Rattle.lpm_rules.specs.declared.Put.{Put}
use Rattle.lpm_rules.specs.declared.Put.TheVariants.{Added, Replaced, Unchanged}
use Rattle.lpm_rules.proofs.Deep.{deep_blocks_empty, deep_inserted}
use Rattle.qsbr.specs.Counters.{Registry}
use Rattle.fib_model.specs.State.{State, HasTokens}
use Rattle.fib_model.specs.Outcomes.{Adds, LacksGroup, groups_in_use}
use Rattle.fib_model.specs.Counters.{counter_transitions, initial_by_counters}
use Rattle.route_text.specs.declared.routes.Route.{Route}
use Rattle.lpm_files.specs.declared.failure.Failure.{Failure}
use Rattle.lpm_commands.specs.Load.{Loads, rule_of, rules_of_routes, IsLoaded, IsFirstRefused, EndsLoading}
use Rattle.lpm_commands.specs.FilledTable.{is_long, long_routes, IsEnough, BringsGroup}
use Rattle.lpm_commands.proofs.FilledTable.{grouped, put_groups}
use Rattle.lpm_commands.proofs.Texts.{added_limbo, added_readers}
use mir.Val.{bool_byte}
use lib.Dec.{leb}
use Rattle.std.specs.Prelude.{IsTrue, ◌↔◌}
use Rattle.lpm_rules.specs.declared.Rule.{Rule}
use Rattle.lpm_rules.proofs.Views.{not_some, prefix_read, rules_more, up_to_insert, up_to_more}
use Rattle.lpm_sweep.proofs.Sweeps.{deep_stays}
use Rattle.std.specs.FinSet as set
use Rattle.lpm_files.specs.declared.failure.Failure.TheVariants as failures

-- ---- how many groups routes need

-- a long route counts for one
counts_one : (r : Route) → 24 < r.prefix.len → ◌≡◌ {A = ℕ} (cond (is_long r) 1 0) 1
counts_one r long = ap {B = ℕ} (λ (b : Bool). cond b 1 0) (lt-ltb 24 r.prefix.len long)

-- a route needs a group more only where it is long
one_more : (R : RuleMap) (r : Route) → groups_in_use 24 8 (insert R r.prefix r.hop) ≤ groups_in_use 24 8 R + cond (is_long r) 1 0
one_more R r = elim (grouped R r.prefix r.hop) [
  | inl more ↦ let size = more.1 in let one = counts_one r more.0.0 in omega (arith, size, one)
  | inr same ↦ let size = same.1 in omega (arith, size)
]

-- of a route and those after it
long_first : (r : Route) (routes : List Route) → long_routes (r ∷ routes) ≡ cond (is_long r) 1 0 + long_routes routes
long_first r routes =
    let all : long_routes (r ∷ routes) ≡ 0 + cond (is_long r) 1 0 + long_routes routes = sum_by-append (λ (x : Route). cond (is_long x) 1 0) (r ∷ []) routes in
    omega (arith, all)

all_more : (R : RuleMap) (routes : List Route) → groups_in_use 24 8 (with_rules R (map rule_of routes)) ≤ groups_in_use 24 8 R + long_routes routes
all_more R [] = omega arith
all_more R (r ∷ routes) =
    let rest = all_more (insert R r.prefix r.hop) routes in
    let one = one_more R r in
    let first = long_first r routes in
    omega (arith, rest, one, first)

-- routes need no more groups than there are long ones
need_at_most : (routes : List Route) → groups_in_use 24 8 (rules_of_routes routes) ≤ long_routes routes
need_at_most routes =
    let none = ap set.len (deep_blocks_empty 24 8) ∙ set.len-empty nat_cmp in
    let all = all_more empty routes in
    omega (arith, none, all)

-- before a long route there are fewer long ones than in all
fewer_before : (routes before after : List Route) (r : Route) → routes ≡ before ++ r ∷ after → 24 < r.prefix.len → long_routes before < long_routes routes
fewer_before routes before after r split long =
    let all : long_routes routes ≡ long_routes before + long_routes (r ∷ after) = ap long_routes split ∙ sum_by-append (λ (x : Route). cond (is_long x) 1 0) before (r ∷ after) in
    let one = counts_one r long in
    let first = long_first r after in
    omega (arith, all, one, first)

-- ---- the table with all groups

module _ (c : Config) (n : ℕ) (fewer : n ≤ c.groups) (lasts : c.first_token + c.groups ≤ 2 ^ 62) where
  abbrev d : Config
  d = record c { groups = n }

  tokens : (s : State Registry) → s.readers.token ≡ c.first_token → HasTokens counter_transitions d s → HasTokens counter_transitions c s
  tokens s first has = (omega (arith, first, lasts), has.1)

  lacks_fewer : (s : State Registry) (p : Network) → LacksGroup 24 8 c s p → LacksGroup 24 8 d s p
  lacks_fewer s p lacks = record {
    absent = lacks.absent;
    long = lacks.long;
    shallow = lacks.shallow;
    none_free = let none = lacks.none_free in omega (arith, fewer, none);
  }

  added : (s z : State Registry) (p : Network) (h : ℕ) (put : Put) → s.readers.token ≡ c.first_token → s.limbo ≡ [] → Adds counter_transitions 24 8 d s p h (Ok put) z → Adds counter_transitions 24 8 c s p h (Ok put) z
  added s z p h Unchanged first none adds = adds
  added s z p h Replaced first none adds = (adds.0, tokens s first adds.1, adds.2, adds.3, adds.4)
  added s z p h Added first none adds =
      let has_group : ¬ LacksGroup 24 8 d s p = λ lacks. let front = sym none ∙ (adds.1.1.0 lacks).1 in absurd cc in (
        (adds.0.0, tokens s first adds.0.1, adds.0.2),
        (
          adds.1.0,
          (
            (λ lacks. absurd (has_group (lacks_fewer s p lacks))),
            (λ _. adds.1.1.1 has_group),
          ),
          adds.1.2,
        ),
        adds.2,
      )

  loads : (s z : State Registry) (routes : List Route) → s.readers.token ≡ c.first_token → s.limbo ≡ [] → Loads d s routes z → Loads c s routes z
  loads s z [] first none loaded = loaded
  loads s z (r ∷ routes) first none loaded = (
    loaded.0,
    loaded.1,
    added s loaded.1 r.prefix r.hop loaded.0 first none loaded.2,
    loads loaded.1 z routes
        (ap (λ (x : Registry). x.token) (added_readers d s loaded.1 r.prefix r.hop loaded.0 none loaded.2) ∙ first)
        (added_limbo d s loaded.1 r.prefix r.hop loaded.0 none loaded.2)
        loaded.3,
  )

  is_loaded : (routes : List Route) (table : State Registry) → IsLoaded d routes table → IsLoaded c routes table
  is_loaded routes table loaded = record {
    loads = loads (initial_by_counters c) table routes refl refl loaded.loads;
    rules = loaded.rules;
    readers = loaded.readers;
    limbo = loaded.limbo;
  }

  refuses : (s : State Registry) (p : Network) (h : ℕ) (refusal : Refusal) → s.readers.token ≡ c.first_token → s.limbo ≡ [] → (24 < p.len → groups_in_use 24 8 s.rules < n) → Adds counter_transitions 24 8 d s p h (Err refusal) s → Adds counter_transitions 24 8 c s p h (Err refusal) s
  refuses s p h TooManyRules first none some adds = (adds.0, tokens s first adds.1, adds.2, adds.3)
  refuses s p h Exhausted first none some adds = (
    adds.0,
    elim adds.1 [
      | inl many ↦ inl (omega (arith, fewer, many))
      | inr versions ↦ inr versions
    ],
    adds.2,
  )
  refuses s p h Memory first none some adds = ((adds.0.0, tokens s first adds.0.1, adds.0.2), adds.1)
  refuses s p h (NoGroups oldest) first none some adds =
      let full = adds.1.none_free in
      let room = some adds.1.long in
      let empty_limbo = ap length none in
      absurd (omega (arith, full, room, empty_limbo))
  refuses s p h refusal first none some adds = absurd adds

  is_refused : (routes : List Route) (line : ℕ) (refusal : Refusal) → long_routes routes ≤ n → IsFirstRefused d routes line refusal → IsFirstRefused c routes line refusal
  is_refused routes line refusal enough refused = record {
    before = refused.before;
    route = refused.route;
    after = refused.after;
    table = refused.table;
    split = refused.split;
    number = refused.number;
    loaded = is_loaded refused.before refused.table refused.loaded;
    reason = refused.reason;
    refused = refuses refused.table refused.route.prefix refused.route.hop refusal
        (ap (λ (x : Registry). x.token) refused.loaded.readers)
        refused.loaded.limbo
        (λ long.
        let need = need_at_most refused.before in
        let rules = ap (groups_in_use 24 8) refused.loaded.rules in
        let before = fewer_before routes refused.before refused.after refused.route refused.split long in
        omega (arith, need, rules, before, enough))
        refused.refused;
  }

  ends : (file : List ℕ) (routes : List Route) (failure : Failure) → long_routes routes ≤ n → EndsLoading d file routes failure → EndsLoading c file routes failure
  ends file routes (failures.RefusedRoute path line refusal) enough ending = (ending.0, is_refused routes line refusal enough ending.1)
  ends file routes failures.Memory enough ending = tt
  ends file routes failure enough ending = ending

-- ---- as many groups as are given, or enough of them

-- all groups that are given
all_given : (c : Config) (n : ℕ) → n ≡ c.groups → record c { groups = n } ≡ c
all_given c n all i = record c { groups = all i }

pub loaded_as_given : (c : Config) (routes list : List Route) (n : ℕ) (table : State Registry) → list ≡ routes → IsEnough c list n → IsLoaded (record c { groups = n }) routes table → IsLoaded c routes table
loaded_as_given c routes list n table same enough loaded = elim (subst (λ (l : List Route). IsEnough c l n) same enough) [
  | inl all ↦ subst (λ (d : Config). IsLoaded d routes table) (all_given c n all) loaded
  | inr some ↦ is_loaded c n some.0 some.2 routes table loaded
]

pub ends_as_given : (c : Config) (file : List ℕ) (routes list : List Route) (n : ℕ) (failure : Failure) → list ≡ routes → IsEnough c list n → EndsLoading (record c { groups = n }) file routes failure → EndsLoading c file routes failure
ends_as_given c file routes list n failure same enough ending = elim (subst (λ (l : List Route). IsEnough c l n) same enough) [
  | inl all ↦ subst (λ (d : Config). EndsLoading d file routes failure) (all_given c n all) ending
  | inr some ↦ ends c n some.0 some.2 file routes failure some.1 ending
]

-- How many groups rules need that are in the order of their prefixes.

some_rule : (rs : List (Rule 24 8)) (m : ℕ) → m < length rs → (r : Rule 24 8) × (r ≡ get_or rs m r)
some_rule [] m h = absurd (omega (arith, h))
some_rule (x ∷ rs) zero h = (x, refl)
some_rule (x ∷ rs) (suc m) h = let z = some_rule rs m (omega (arith, h)) in (z.0, z.1)

-- no prefix of the first i rules stands behind that of a rule after them, or of the last of them
up_to : (rs : List (Rule 24 8)) → AreInOrder rs → (i k : ℕ) → i ≤ k + 1 → k < length rs → AllUpTo (rules_of (take i rs)) (place (prefix_at rs k))
up_to rs sorted zero k l h = λ q some. absurd (not_some (get-empty network_cmp q) some)
up_to rs sorted (suc j) k l h =
    let within : j < length rs = omega (arith, l, h) in
    let rule = some_rule rs j within in
    let r : Rule 24 8 = rule.0 in
    let R = rules_of (take j rs) in
    let next : suc j ≡ j + 1 = omega arith in
    let more : rules_of (take (suc j) rs) ≡ insert R r.prefix r.hop = ap (λ (n : ℕ). rules_of (take n rs)) next ∙ rules_more rs j r within rule.1 in
    let read : prefix_at rs j ≡ r.prefix = prefix_read rs j r within rule.1 in
    let before : AllUpTo R (place r.prefix) = subst (λ (q : Network). AllUpTo R (place q)) read (up_to rs sorted j j (omega arith) within) in
    let behind : place r.prefix ≤ place (prefix_at rs k) = subst (λ (q : Network). place q ≤ place (prefix_at rs k)) read (sorted j k (omega (arith, l)) h) in
    subst (λ (Q : RuleMap). AllUpTo Q (place (prefix_at rs k))) (sym more)
    (up_to_more (insert R r.prefix r.hop) (place r.prefix) (place (prefix_at rs k)) behind (up_to_insert R r.prefix r.hop before))

-- the quotients of rising numbers rise
rising_blocks : (a b : ℕ) → a ≤ b → a / 2 ^ 8 ≤ b / 2 ^ 8
rising_blocks a b up = omega (arith, up)

-- where the block of a rule has one longer than 24 bits before it, the one just before is such
pub deep_before : (rs : List (Rule 24 8)) → AreInOrder rs → (b : ℕ) (r : Rule 24 8) (p : Network) → b < length rs → r ≡ get_or rs b r → IsNetwork 32 r.prefix → p.len ≤ 32 → place r.prefix ≤ place p
    → IsDeepBlock 24 8 (rules_of (take (b + 1) rs)) (block_of 8 p) → (24 < r.prefix.len) × (block_of 8 r.prefix ≡ block_of 8 p)
deep_before rs sorted b r p within read is short up deep =
    let q = deep.0 in
    let low : place q ≤ place r.prefix = subst (λ (x : Network). place q ≤ place x) (prefix_read rs b r within read) (up_to rs sorted (b + 1) b (omega arith) within q deep.1) in
    let len = is.0 in
    let one : q.bits ≤ r.prefix.bits = omega (arith, low, len) in
    let two : r.prefix.bits ≤ p.bits = omega (arith, up, short) in
    let here : q.bits / 2 ^ 8 ≡ p.bits / 2 ^ 8 = deep.3 in
    let from = rising_blocks q.bits r.prefix.bits one in
    let to = rising_blocks r.prefix.bits p.bits two in
    let same : r.prefix.bits / 2 ^ 8 ≡ p.bits / 2 ^ 8 = omega (arith, here, from, to) in
    (deep_stays 24 8 q r.prefix is deep.2 low (here ∙ sym same), same)

-- a rule longer than 24 bits makes its block one that has such
pub deep_here : (rs : List (Rule 24 8)) (b : ℕ) (r : Rule 24 8) → b < length rs → r ≡ get_or rs b r → 24 < r.prefix.len → IsDeepBlock 24 8 (rules_of (take (b + 1) rs)) (block_of 8 r.prefix)
deep_here rs b r within read long =
    subst (λ (R : RuleMap). IsDeepBlock 24 8 R (block_of 8 r.prefix)) (sym (rules_more rs b r within read))
    (deep_inserted 24 8 (rules_of (take b rs)) r.prefix r.hop long)

-- a long one that is the first of all does
pub first_brings : (rs : List (Rule 24 8)) (r : Rule 24 8) → 0 < length rs → r ≡ get_or rs 0 r → 24 < r.prefix.len → BringsGroup (rules_of (take 0 rs)) (prefix_at rs 0)
first_brings rs r within read long = (
  subst (λ (p : Network). 24 < p.len) (sym (prefix_read rs 0 r within read)) long,
  (λ deep. absurd (not_some (get-empty network_cmp deep.0) deep.1)),
)

-- a long one behind another does where that is short, or of another block
module _ (rs : List (Rule 24 8)) (sorted : AreInOrder rs) (b : ℕ) (s r : Rule 24 8) (within : b + 1 < length rs) (first : s ≡ get_or rs b s) (second : r ≡ get_or rs (b + 1) r) where
  at_last : prefix_at rs (b + 1) ≡ r.prefix
  at_last = prefix_read rs (b + 1) r within second

  pub later_brings : 24 < r.prefix.len → r.prefix.len ≤ 32 → IsNetwork 32 s.prefix → (24 < s.prefix.len → block_of 8 s.prefix ≡ block_of 8 r.prefix → ⊥) → BringsGroup (rules_of (take (b + 1) rs)) (prefix_at rs (b + 1))
  later_brings long most is apart = subst (BringsGroup (rules_of (take (b + 1) rs))) (sym at_last) (
    long,
    (λ deep.
        let here : b < length rs = omega (arith, within) in
        let up : place s.prefix ≤ place r.prefix = subst (λ (p : Network). place p ≤ place r.prefix) (prefix_read rs b s here first) (subst (λ (p : Network). place (prefix_at rs b) ≤ place p) at_last (sorted b (b + 1) (omega arith) within)) in
        let known = deep_before rs sorted b s r.prefix here first is most up deep in
        apart known.0 known.1),
  )

  pub same_brings : 24 < s.prefix.len → block_of 8 s.prefix ≡ block_of 8 r.prefix → BringsGroup (rules_of (take (b + 1) rs)) (prefix_at rs (b + 1)) → ⊥
  same_brings long same brings =
      let here : b < length rs = omega (arith, within) in
      let shallow = subst (λ (p : Network). ¬ IsDeepBlock 24 8 (rules_of (take (b + 1) rs)) (block_of 8 p)) at_last brings.1 in
      shallow (subst (IsDeepBlock 24 8 (rules_of (take (b + 1) rs))) same (deep_here rs b s here first long))

-- the same, where the number of the rule is told otherwise
pub other_block : (rs : List (Rule 24 8)) → AreInOrder rs → (i b m n : ℕ) (s r : Rule 24 8) → b + 1 ≡ i → i < length rs → s ≡ get_or rs b s → r ≡ get_or rs i r → 24 < r.prefix.len → r.prefix.len ≤ 32 → IsNetwork 32 s.prefix
    → m ≡ s.prefix.bits → n ≡ r.prefix.bits → m / 2 ^ 8 ≢ n / 2 ^ 8 → BringsGroup (rules_of (take i rs)) (prefix_at rs i)
other_block rs sorted i b m n s r at within first second long most is from to apart =
    subst (λ (k : ℕ). BringsGroup (rules_of (take k rs)) (prefix_at rs k)) at
    (later_brings rs sorted b s r (omega (arith, at, within)) first (subst (λ (k : ℕ). r ≡ get_or rs k r) (sym at) second) long most is
    (λ _ same. apart (ap (λ x. x / 2 ^ 8) from ∙ (same ∙ sym (ap (λ x. x / 2 ^ 8) to)))))

pub same_block : (rs : List (Rule 24 8)) → AreInOrder rs → (i b l m n : ℕ) (s r : Rule 24 8) → b + 1 ≡ i → i < length rs → s ≡ get_or rs b s → r ≡ get_or rs i r → 24 < r.prefix.len → r.prefix.len ≤ 32 → IsNetwork 32 s.prefix
    → l ≡ s.prefix.len → m ≡ s.prefix.bits → n ≡ r.prefix.bits → m / 2 ^ 8 ≡ n / 2 ^ 8 → IsTrue (leb l 24) ↔ BringsGroup (rules_of (take i rs)) (prefix_at rs i)
same_block rs sorted i b l m n s r at within first second long most is size from to alike =
    let read = subst (λ (k : ℕ). r ≡ get_or rs k r) (sym at) second in
    let below : b + 1 < length rs = omega (arith, at, within) in
    let same : block_of 8 s.prefix ≡ block_of 8 r.prefix = sym (ap (λ x. x / 2 ^ 8) from) ∙ (alike ∙ ap (λ x. x / 2 ^ 8) to) in (
      (λ short.
          let few = leb-true l 24 short in
          subst (λ (k : ℕ). BringsGroup (rules_of (take k rs)) (prefix_at rs k)) at
          (later_brings rs sorted b s r below first read long most is (λ deep _. absurd (omega (arith, few, size, deep))))),
      (λ brings. elim (cases_lt 24 l) [
        | inl deep ↦ absurd (same_brings rs sorted b s r below first read (omega (arith, deep, size)) same (subst (λ (k : ℕ). BringsGroup (rules_of (take k rs)) (prefix_at rs k)) (sym at) brings))
        | inr short ↦ le-leb l 24 short
      ]),
    )

pub as_cond : (b : Bool) → ◌≡◌ {A = ℕ} (bool_byte b) (cond b 1 0)
as_cond true = refl
as_cond false = refl

pub byte_at_most : (b : Bool) → bool_byte b ≤ 1
byte_at_most true = omega arith
byte_at_most false = omega arith

-- one rule more
pub one_rule_more : (rs : List (Rule 24 8)) (i n m : ℕ) (b : Bool) → i < length rs → n ≡ groups_in_use 24 8 (rules_of (take i rs)) → m ≡ bool_byte b → IsTrue b ↔ BringsGroup (rules_of (take i rs)) (prefix_at rs i)
    → n + m ≡ groups_in_use 24 8 (rules_of (take (i + 1) rs))
one_rule_more rs i n m b within so_far byte brings =
    let rule = some_rule rs i within in
    let r : Rule 24 8 = rule.0 in
    let R = rules_of (take i rs) in
    let more = ap (groups_in_use 24 8) (rules_more rs i r within rule.1) in
    let brings_here = subst (λ (p : Network). IsTrue b ↔ BringsGroup R p) (prefix_read rs i r within rule.1) brings in
    let one = put_groups R r.prefix r.hop b brings_here in
    let as_byte = byte ∙ as_cond b in
    omega (arith, more, one, as_byte, so_far)
