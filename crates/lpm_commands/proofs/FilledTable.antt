-- A table into which rules were put in any order, told by its end: the routes make a table in the
-- order of the file too.
use Rattle.std.proofs.Common.{◌≡◌, ◌≢◌, ◌∙◌, ap, sym, subst, refl, ℕ, ◌+◌, ◌<◌, ◌≤◌, ◌^◌, ◌⊎◌, inl, inr, Bool, true, false, cond, Option, Some, None, List, [], ◌∷◌, ◌++◌, Ok, Err, length, get_or, take, drop, map, arith}
use Rattle.std.proofs.lemmas.List.{append_assoc, length-take-le, take-append-drop}
use Rattle.std.specs.Prelude.{IfSome, IsSome, IsSomeAnd, IsTrue, is_some, nat_eq, ◌↔◌}
use Rattle.std.specs.FinMap.{get, insert, empty, len, get-empty}
use Rattle.std.specs.FinMap as rules
use Rattle.std.specs.FinSet as set
use Rattle.std.specs.Ordering.{nat_cmp}
use Rattle.std.specs.Cmp.{nat_cmp_total}
use Rattle.std.proofs.lemmas.Bool.{cases_lt, cases_eq, cases_Bool, ne_eqb, eq-eqb, false≢true}
use Rattle.lpm_bits.specs.Network.{Network}
use Rattle.lpm_limits.specs.declared.busy.Busy.{Busy}
use Rattle.lpm_limits.specs.declared.config.Config.{Config}
use Rattle.lpm_limits.specs.declared.refusal.Refusal.{Refusal}
use Rattle.lpm_limits.specs.declared.refusal.Refusal.TheVariants.{TooManyRules, Exhausted, NoGroups, Memory}
use Rattle.lpm_rules.specs.RuleMap.{RuleMap, RuleList, LacksRoomFor, network_cmp, with_rules}
use Rattle.lpm_rules.specs.Deep.{IsDeepBlock, block_of, deep_blocks}
use Rattle.lpm_rules.specs.declared.Put.{Put}
use Rattle.lpm_rules.specs.declared.Put.TheVariants.{Added, Replaced, Unchanged}
use Rattle.lpm_rules.proofs.Views.{insert_same, size_added, networks_total}
use Rattle.lpm_rules.proofs.Deep.{has_deep_blocks, put_brings_block, deep_blocks_empty}
use Rattle.qsbr.specs.Counters.{Registry}
use Rattle.fib_model.specs.State.{State, HasTokens}
use Rattle.fib_model.specs.Outcomes.{Adds, LacksGroup, HoldsFront, groups_in_use, AreSufficient}
use Rattle.fib_model.specs.Counters.{counter_transitions, initial_by_counters}
use Rattle.fib.specs.Fib.{FibState, initial_fib_with}
use Rattle.route_text.specs.declared.routes.Route.{Route}
use Rattle.lpm_files.specs.declared.failure.Failure.{Failure}
use Rattle.lpm_files.specs.declared.failure.Failure.TheVariants as failures
use Rattle.lpm_commands.specs.Load.{Loads, IsLoaded, IsFirstRefused, EndsLoading, rule_of, rules_of_routes}
use Rattle.lpm_commands.specs.FilledTable.{IsFilled, BringsGroup, Refuses}
use Rattle.lpm_commands.proofs.Texts.{added_rules, added_limbo, added_readers, with_routes-more, take_read, first_refused}

-- ---- rules, and how many changes made them

-- rules, and the number of changes so far
abbrev pub Made : Type 0
Made = RuleMap × ℕ

-- 1 where a prefix that has this gets another hop, else 0
abbrev pub changed : Option ℕ → ℕ → ℕ
changed None h = 1
changed (Some old) h = cond (nat_eq old h) 0 1

-- after a route, and after routes
abbrev pub with_route : Made → Route → Made
with_route m r = (insert m.0 r.prefix r.hop, m.1 + changed (get m.0 r.prefix) r.hop)

abbrev pub made_by : Made → List Route → Made
made_by m [] = m
made_by m (r ∷ routes) = made_by (with_route m r) routes

-- the rules are those of these routes
made_rules : (m : Made) (routes : List Route) → (made_by m routes).0 ≡ with_rules m.0 (map rule_of routes)
made_rules m [] = refl
made_rules m (r ∷ routes) = made_rules (with_route m r) routes

made-append : (m : Made) (xs : List Route) (r : Route) → made_by m (xs ++ r ∷ []) ≡ with_route (made_by m xs) r
made-append m [] r = refl
made-append m (x ∷ xs) r = made-append (with_route m x) xs r

-- how many of the routes change a rule
abbrev pub changes_of : List Route → ℕ
changes_of routes = (made_by (empty, 0) routes).1

-- ---- rules that a table of these limits can have

abbrev in_use : RuleMap → ℕ
in_use R = groups_in_use 24 8 R

-- the second has at least as many rules, groups and changes as the first
record Grows (m n : Made) : Type 0 where
  rules : len m.0 ≤ len n.0
  groups : in_use m.0 ≤ in_use n.0
  changes : m.1 ≤ n.1

-- one more, or none
least : (here : Bool) (n : ℕ) → n ≤ cond here n (n + 1)
least true n = omega arith
least false n = omega arith

rules_grow : (R : RuleMap) (p : Network) (h : ℕ) → len R ≤ len (insert R p h)
rules_grow R p h =
    let size = rules.len-insert networks_total R p h in
    let more = least (is_some (get R p)) (len R) in
    omega (arith, size, more)

-- a rule brings a group where it is the first long one of its block, and no other rule does
pub grouped : (R : RuleMap) (p : Network) (h : ℕ) → (BringsGroup R p × (in_use (insert R p h) ≡ in_use R + 1)) ⊎ (¬ BringsGroup R p × (in_use (insert R p h) ≡ in_use R))
grouped R p h =
    let brings = put_brings_block 24 8 R p h in
    let old = deep_blocks 24 8 R in
    let blocks = has_deep_blocks 24 8 R (block_of 8 p) in
    elim (cases_lt 24 p.len) [
      | inr short ↦ inr ((λ is. let long = is.0 in omega (arith, long, short)), ap set.len (brings.1 short))
      | inl long ↦
          let size = ap set.len (brings.0 long) ∙ set.len-insert nat_cmp_total old (block_of 8 p) in
          elim (cases_Bool (set.contains old (block_of 8 p))) [
            | inl here ↦ inr ((λ is. is.1 (blocks.0 here)), size ∙ ap (λ (t : Bool). cond t (set.len old) (set.len old + 1)) here)
            | inr away ↦ inl ((long, (λ deep. false≢true (sym away ∙ blocks.1 deep))), size ∙ ap (λ (t : Bool). cond t (set.len old) (set.len old + 1)) away)
          ]
    ]

groups_grow : (R : RuleMap) (p : Network) (h : ℕ) → in_use R ≤ in_use (insert R p h)
groups_grow R p h = elim (grouped R p h) [
  | inl one ↦ let size = one.1 in omega (arith, size)
  | inr same ↦ let size = same.1 in omega (arith, size)
]

grows : (m : Made) (routes : List Route) → Grows m (made_by m routes)
grows m [] = record { rules = omega arith; groups = omega arith; changes = omega arith }
grows m (r ∷ routes) =
    let rest = grows (with_route m r) routes in
    let rules = rules_grow m.0 r.prefix r.hop in
    let groups = groups_grow m.0 r.prefix r.hop in
    let later = rest.rules in
    let deeper = rest.groups in
    let changes = rest.changes in
    record {
      rules = omega (arith, rules, later);
      groups = omega (arith, groups, deeper);
      changes = omega (arith, changes);
    }

-- a rule that is there brings no group
known_group : (R : RuleMap) (p : Network) (h : ℕ) → IsSome (get R p) → in_use (insert R p h) ≡ in_use R
known_group R p h some = elim (grouped R p h) [
  | inl one ↦ absurd (one.0.1 (p, some, one.0.0, refl))
  | inr same ↦ same.1
]

-- a long rule of a block without a group brings one
new_group : (R : RuleMap) (p : Network) (h : ℕ) → 24 < p.len → ¬ IsDeepBlock 24 8 R (block_of 8 p) → in_use (insert R p h) ≡ in_use R + 1
new_group R p h long shallow = elim (grouped R p h) [
  | inl one ↦ one.1
  | inr same ↦ absurd (same.0 (long, shallow))
]

-- ---- what accepted routes lead to

abbrev made_of : State Registry → Made
made_of s = (s.rules, s.updates_begun)

-- routes lead from s to z, told without the tables between
record Reaches (c : Config) (s : State Registry) (routes : List Route) (z : State Registry) : Type 0 where
  made : made_of z ≡ made_by (made_of s) routes
  readers : z.readers ≡ s.readers
  limbo : z.limbo ≡ s.limbo
  fits : AreSufficient 24 8 c z.rules
  tokens : s.updates_begun < z.updates_begun → (s.readers.token + c.groups ≤ 2 ^ 62) × (z.updates_begun ≤ 2 ^ 61)

-- the same hop changes nothing, another one does
changed_same : (o : Option ℕ) (h : ℕ) → o ≡ Some h → changed o h ≡ 0
changed_same o h same = ap (λ (x : Option ℕ). changed x h) same ∙ ap {B = ℕ} (λ (t : Bool). cond t 0 1) (eq-eqb h h refl)

-- a route is there, or changes a rule
changed_cases : (o : Option ℕ) (h : ℕ) → (o ≡ Some h) ⊎ ((o ≡ Some h → ⊥) × (changed o h ≡ 1))
changed_cases None h = inr ((λ e. absurd cc), refl)
changed_cases (Some old) h = elim (cases_eq old h) [
  | inl same ↦ inl (ap Some same)
  | inr other ↦ inr ((λ e. let inner : old ≡ h = cc in other inner), ap {B = ℕ} (λ (t : Bool). cond t 0 1) (ne_eqb old h other))
]

-- a prefix that has some hop has one
some_of : (o : Option ℕ) (P : ℕ → Type 0) → IsSomeAnd o P → IsSome o
some_of None P is = absurd is
some_of (Some x) P is = refl

-- a rule that is there makes the list no longer
size_known : (R : RuleMap) (p : Network) (h : ℕ) → IsSome (get R p) → len (insert R p h) ≡ len R
size_known R p h some = rules.len-insert networks_total R p h ∙ ap (λ (t : Bool). cond t (len R) (len R + 1)) some

module _ (c : Config) where
  -- rules that fit do so still where one gets another hop
  fits_known : (R : RuleMap) (p : Network) (h : ℕ) → IsSome (get R p) → AreSufficient 24 8 c R → AreSufficient 24 8 c (insert R p h)
  fits_known R p h some fits =
      let size = size_known R p h some in
      let groups = known_group R p h some in
      let most = fits.0 in
      let full = fits.1 in
      (omega (arith, size, most), omega (arith, groups, full))

  -- and where one is new, and there was a group for it if it needs one
  groups_new : (s : State Registry) (p : Network) (h : ℕ) → s.limbo ≡ [] → get s.rules p ≡ None → ¬ LacksGroup 24 8 c s p → in_use s.rules ≤ c.groups → in_use (insert s.rules p h) ≤ c.groups
  groups_new s p h none absent has full = elim (grouped s.rules p h) [
    | inr same ↦ let size = same.1 in omega (arith, size, full)
    | inl one ↦
        let size = one.1 in
        let zero_limbo = ap length none in
        elim (cases_lt (in_use s.rules) c.groups) [
          | inl free ↦ omega (arith, size, free)
          | inr taken ↦ absurd (has (record {
            absent = absent;
            long = one.0.0;
            shallow = one.0.1;
            none_free = omega (arith, taken, zero_limbo);
          }))
        ]
  ]

  fits_new : (s : State Registry) (p : Network) (h : ℕ) → s.limbo ≡ [] → get s.rules p ≡ None → len s.rules < c.rules → ¬ LacksGroup 24 8 c s p → AreSufficient 24 8 c s.rules → AreSufficient 24 8 c (insert s.rules p h)
  fits_new s p h none absent room has fits =
      let size = size_added s.rules p h absent in
      (omega (arith, size, room), groups_new s p h none absent has fits.1)

  -- ---- and back

  -- the table with this rule put in, as one more version
  abbrev changed_to : State Registry → Route → State Registry
  changed_to s r = record s { rules = insert s.rules r.prefix r.hop; updates_begun = s.updates_begun + 1 }

  -- what the routes after a change reach
  reaches_rest : (s z : State Registry) (r : Route) (routes : List Route) → changed (get s.rules r.prefix) r.hop ≡ 1 → Reaches c s (r ∷ routes) z → Reaches c (changed_to s r) routes z
  reaches_rest s z r routes one whole =
      let begun : s.updates_begun + changed (get s.rules r.prefix) r.hop ≡ s.updates_begun + 1 = omega (arith, one) in
      record {
        made = whole.made ∙ ap (λ (n : ℕ). made_by (insert s.rules r.prefix r.hop, n) routes) begun;
        readers = whole.readers;
        limbo = whole.limbo;
        fits = whole.fits;
        tokens = λ more. whole.tokens (omega (arith, more));
      }

  -- on the way nothing becomes less
  grown : (s z : State Registry) (routes : List Route) → Reaches c s routes z → Grows (made_of s) (made_of z)
  grown s z routes way = subst (Grows (made_of s)) (sym way.made) (grows (made_of s) routes)

  -- so there are tokens for a change on the way, and a group where its rule needs one
  has_tokens : (s z : State Registry) (r : Route) (routes : List Route) → Reaches c s (r ∷ routes) z → Reaches c (changed_to s r) routes z → HasTokens counter_transitions c s
  has_tokens s z r routes whole rest =
      let later = (grown (changed_to s r) z routes rest).changes in
      let lasts = whole.tokens (omega (arith, later)) in
      let versions = lasts.1 in
      (lasts.0, omega (arith, later, versions))

  has_group : (s z : State Registry) (r : Route) (routes : List Route) → s.limbo ≡ [] → Reaches c (changed_to s r) routes z → ¬ LacksGroup 24 8 c s r.prefix
  has_group s z r routes none rest lacks =
      let later = (grown (changed_to s r) z routes rest).groups in
      let most = rest.fits.1 in
      let one = new_group s.rules r.prefix r.hop lacks.long lacks.shallow in
      let full = lacks.none_free in
      let zero_limbo = ap length none in
      absurd (omega (arith, later, most, one, full, zero_limbo))

  -- the route is accepted where it changes a rule
  adds_changed : (s z : State Registry) (r : Route) (routes : List Route) (o : Option ℕ) → get s.rules r.prefix ≡ o → (o ≡ Some r.hop → ⊥) → s.limbo ≡ [] → Reaches c s (r ∷ routes) z → Reaches c (changed_to s r) routes z → (put : Put) × Adds counter_transitions 24 8 c s r.prefix r.hop (Ok put) (changed_to s r)
  adds_changed s z r routes None absent other none whole rest =
      let later = (grown (changed_to s r) z routes rest).rules in
      let most = rest.fits.0 in
      let size = size_added s.rules r.prefix r.hop absent in (
        Added,
        (
          (absent, has_tokens s z r routes whole rest, omega (arith, later, most, size)),
          (
            s.readers,
            ((λ lacks. absurd (has_group s z r routes none rest lacks)), (λ _. (refl, refl))),
            (s.readers, refl, refl),
          ),
          (refl, refl),
        ),
      )
  adds_changed s z r routes (Some old) is other none whole rest = (
    Replaced,
    (
      subst (λ (o : Option ℕ). IsSomeAnd o (λ was. was ≢ r.hop)) (sym is) (λ e. other (ap Some e)),
      has_tokens s z r routes whole rest,
      (s.readers, refl, refl),
      (refl, refl),
      refl,
    ),
  )

  -- no routes leave the table as it is
  no_routes : (s z : State Registry) → Reaches c s [] z → z ≡ s
  no_routes s z whole =
      let made = whole.made in
      let readers = whole.readers in
      let limbo = whole.limbo in
      λ i. record { rules = (made i).0; readers = readers i; limbo = limbo i; updates_begun = (made i).1 }

  -- nor does a route that is there
  reaches_unchanged : (s z : State Registry) (r : Route) (routes : List Route) → get s.rules r.prefix ≡ Some r.hop → Reaches c s (r ∷ routes) z → Reaches c s routes z
  reaches_unchanged s z r routes same whole =
      let rules = insert_same s.rules r.prefix r.hop same in
      let zero_changes = changed_same (get s.rules r.prefix) r.hop same in
      let begun : s.updates_begun + changed (get s.rules r.prefix) r.hop ≡ s.updates_begun = omega (arith, zero_changes) in
      record {
        made = whole.made ∙ (λ i. made_by (rules i, begun i) routes);
        readers = whole.readers;
        limbo = whole.limbo;
        fits = whole.fits;
        tokens = whole.tokens;
      }

  -- what routes reach, they are loaded to
  loads_back : (s z : State Registry) (routes : List Route) → s.limbo ≡ [] → Reaches c s routes z → Loads c s routes z
  loads_back s z [] none whole = no_routes s z whole
  loads_back s z (r ∷ routes) none whole = elim (changed_cases (get s.rules r.prefix) r.hop) [
    | inl same ↦ (Unchanged, s, (same, refl), loads_back s z routes none (reaches_unchanged s z r routes same whole))
    | inr other ↦
        let rest = reaches_rest s z r routes other.1 whole in
        let adds = adds_changed s z r routes (get s.rules r.prefix) refl other.0 none whole rest in
        (adds.0, changed_to s r, adds.1, loads_back (changed_to s r) z routes none rest)
  ]

-- ---- a whole table

-- no rules, and no group for them
pub no_rules : ◌≡◌ {A = ℕ} (len (empty {K = Network} {X = ℕ} {R = network_cmp})) 0
no_rules = rules.len-empty network_cmp ℕ

pub none_in_use : in_use empty ≡ 0
none_in_use = ap set.len (deep_blocks_empty 24 8) ∙ set.len-empty nat_cmp

-- one more rule
pub filled_more : (c : Config) (s z : State Registry) (p : Network) (h : ℕ) (put : Put) → IsFilled c s → Adds counter_transitions 24 8 c s p h (Ok put) z → IsFilled c z
filled_more c s z p h Unchanged filled adds = subst (IsFilled c) (sym adds.1) filled
filled_more c s z p h Replaced filled adds =
    let has = adds.1.0 in
    let first = ap (λ (x : Registry). x.token) filled.readers in
    record {
      readers = added_readers c s z p h Replaced filled.limbo adds ∙ filled.readers;
      limbo = added_limbo c s z p h Replaced filled.limbo adds;
      fits = subst (AreSufficient 24 8 c) (sym (added_rules c s z p h Replaced adds)) (fits_known c s.rules p h (some_of (get s.rules p) (λ old. old ≢ h) adds.0) filled.fits);
      tokens = λ some. omega (arith, has, first);
    }
filled_more c s z p h Added filled adds =
    let has = adds.0.1.0 in
    let first = ap (λ (x : Registry). x.token) filled.readers in
    let has_group : ¬ LacksGroup 24 8 c s p = λ lacks. let front = sym filled.limbo ∙ (adds.1.1.0 lacks).1 in absurd cc in
    record {
      readers = added_readers c s z p h Added filled.limbo adds ∙ filled.readers;
      limbo = added_limbo c s z p h Added filled.limbo adds;
      fits = subst (AreSufficient 24 8 c) (sym (added_rules c s z p h Added adds)) (fits_new c s p h filled.limbo adds.0.0 adds.0.2 has_group filled.fits);
      tokens = λ some. omega (arith, has, first);
    }

-- a route makes one change at most
one_change : (o : Option ℕ) (h : ℕ) → changed o h ≤ 1
one_change None h = omega arith
one_change (Some old) h = elim (cases_Bool (nat_eq old h)) [
  | inl same ↦ let none : changed (Some old) h ≡ 0 = ap {B = ℕ} (λ (t : Bool). cond t 0 1) same in omega (arith, none)
  | inr other ↦ let one : changed (Some old) h ≡ 1 = ap {B = ℕ} (λ (t : Bool). cond t 0 1) other in omega (arith, one)
]

changes_at_most : (m : Made) (routes : List Route) → (made_by m routes).1 ≤ m.1 + length routes
changes_at_most m [] = omega arith
changes_at_most m (r ∷ routes) =
    let rest = changes_at_most (with_route m r) routes in
    let one = one_change (get m.0 r.prefix) r.hop in
    omega (arith, rest, one)

-- where something changed there are rules
has_rules : (routes : List Route) → 0 < (made_by (empty, 0) routes).1 → 0 < len (made_by (empty, 0) routes).0
has_rules [] some = absurd (omega (arith, some))
has_rules (r ∷ routes) some =
    let more = (grows (with_route (empty, 0) r) routes).rules in
    let size = size_added empty r.prefix r.hop (get-empty network_cmp r.prefix) in
    omega (arith, more, size)

-- the table of these routes, by its rules and the number of changes
abbrev made_table : Config → List Route → State Registry
made_table c routes =
    let m = made_by (empty, 0) routes in
    record { rules = m.0; readers = (initial_by_counters c).readers; limbo = []; updates_begun = m.1 }

-- routes whose rules fit, with tokens for them, make that table
loaded_fitting : (c : Config) (routes : List Route) → length routes ≤ 2 ^ 61 → AreSufficient 24 8 c (rules_of_routes routes) → (0 < len (rules_of_routes routes) → c.first_token + c.groups ≤ 2 ^ 62) → IsLoaded c routes (made_table c routes)
loaded_fitting c routes few fits lasts =
    let made = made_rules (empty, 0) routes in
    let most : (made_by (empty, 0) routes).1 ≤ 0 + length routes = changes_at_most (empty, 0) routes in
    let way : Reaches c (initial_by_counters c) routes (made_table c routes) = record {
      made = refl;
      readers = refl;
      limbo = refl;
      fits = subst (AreSufficient 24 8 c) (sym made) fits;
      tokens = λ more. (lasts (subst (λ (R : RuleMap). 0 < len R) made (has_rules routes more)), omega (arith, most, few));
    } in
    record {
      loads = loads_back c (initial_by_counters c) (made_table c routes) routes refl way;
      rules = made;
      readers = refl;
      limbo = refl;
    }

-- by as many changes at most
loads_fitting : (c : Config) (routes : List Route) → length routes ≤ 2 ^ 61 → AreSufficient 24 8 c (rules_of_routes routes) → (0 < len (rules_of_routes routes) → c.first_token + c.groups ≤ 2 ^ 62) → (t : State Registry) × IsLoaded c routes t × (t.updates_begun ≤ length routes)
loads_fitting c routes few fits lasts =
    let most : (made_by (empty, 0) routes).1 ≤ 0 + length routes = changes_at_most (empty, 0) routes in
    (made_table c routes, loaded_fitting c routes few fits lasts, omega (arith, most))

-- told by the rules alone
pub loads_by_rules : (c : Config) (routes : List Route) (R : RuleMap) → length routes ≤ 2 ^ 61 → R ≡ rules_of_routes routes → AreSufficient 24 8 c R → (0 < len R → c.first_token + c.groups ≤ 2 ^ 62) → (t : State Registry) × IsLoaded c routes t
loads_by_rules c routes R few same fits lasts =
    let loaded = loads_fitting c routes few (subst (AreSufficient 24 8 c) same fits) (subst (λ (Q : RuleMap). 0 < len Q → c.first_token + c.groups ≤ 2 ^ 62) same lasts) in
    (loaded.0, loaded.1)

-- so do routes whose rules a table has
pub loads_filled : (c : Config) (routes : List Route) (table : State Registry) → length routes ≤ 2 ^ 61 → table.rules ≡ rules_of_routes routes → IsFilled c table → (t : State Registry) × IsLoaded c routes t
loads_filled c routes table few same filled = loads_by_rules c routes table.rules few same filled.fits filled.tokens

-- a table with these rules refuses a rule so
pub refuses : (c : Config) (s : State Registry) (l : RuleList) (p : Network) (h : ℕ) (refusal : Refusal) → refusal ≢ Memory → s.rules ≡ l.rules → l.max ≡ c.rules → s.limbo ≡ [] → HasTokens counter_transitions c s → Refuses c.groups l p refusal → Adds counter_transitions 24 8 c s p h (Err refusal) s
refuses c s l p h TooManyRules reason same max none has is =
    let full = is.1 in
    let size = ap (λ (R : RuleMap). len R) same in
    (ap (λ (R : RuleMap). get R p) same ∙ is.0, has, omega (arith, full, size, max), refl)
refuses c s l p h Memory reason same max none has is = absurd (reason refl)
refuses c s l p h (NoGroups oldest) reason same max none has is =
    let room = is.0.1 in
    let size = ap (λ (R : RuleMap). len R) same in
    let used = ap (λ (R : RuleMap). in_use R) same in
    let full = is.2 in
    let absent : get s.rules p ≡ None = ap (λ (R : RuleMap). get R p) same ∙ is.0.0 in
    let front : (o : Option Busy) → o ≡ None → HoldsFront counter_transitions s o s.readers = λ o e. subst (λ (x : Option Busy). HoldsFront counter_transitions s x s.readers) (sym e) (none, refl) in (
      (absent, has, omega (arith, room, size, max)),
      record {
        absent = absent;
        long = is.1.0;
        shallow = subst (λ (R : RuleMap). ¬ IsDeepBlock 24 8 R (block_of 8 p)) (sym same) is.1.1;
        none_free = omega (arith, full, used);
      },
      front oldest is.3,
      refl,
    )
refuses c s l p h refusal reason same max none has is = absurd is

-- ---- the rules alone

-- a rule that isn't refused for want of room
pub put_fits : (l : RuleList) (p : Network) (h : ℕ) → len l.rules ≤ l.max → ¬ LacksRoomFor l p → len (insert l.rules p h) ≤ l.max
put_fits l p h most room = by_cases (get l.rules p) refl where
  by_cases : (o : Option ℕ) → get l.rules p ≡ o → len (insert l.rules p h) ≤ l.max
  by_cases None absent = elim (cases_lt (len l.rules) l.max) [
    | inl free ↦ let size = size_added l.rules p h absent in omega (arith, size, free)
    | inr full ↦ absurd (room (absent, full))
  ]
  by_cases (Some old) here =
      let size = size_known l.rules p h (ap is_some here) in
      omega (arith, size, most)

-- how many groups are in use with one more rule
pub put_groups : (R : RuleMap) (p : Network) (h : ℕ) (b : Bool) → IsTrue b ↔ BringsGroup R p → in_use R + cond b 1 0 ≡ in_use (insert R p h)
put_groups R p h true brings =
    let is = brings.0 refl in
    let one = new_group R p h is.0 is.1 in
    omega (arith, one)
put_groups R p h false brings = elim (grouped R p h) [
  | inl one ↦ absurd (false≢true (brings.1 one.0))
  | inr same ↦ let size = same.1 in omega (arith, size)
]

-- the rules of one route more
pub rules_read : (routes : List Route) (i : ℕ) (r : Route) → i < length routes → r ≡ get_or routes i r → rules_of_routes (take (i + 1) routes) ≡ insert (rules_of_routes (take i routes)) r.prefix r.hop
rules_read routes i r within read = ap rules_of_routes (take_read routes i r within read) ∙ with_routes-more empty (take i routes) r

-- the first route that is refused stands at this place of the routes
pub refused_at : (c : Config) (routes : List Route) (i : ℕ) (r : Route) (l : RuleList) (refusal : Refusal) → i < length routes → r ≡ get_or routes i r → length routes ≤ 2 ^ 61 → l.rules ≡ rules_of_routes (take i routes) → l.max ≡ c.rules → len l.rules ≤ l.max → in_use l.rules ≤ c.groups → (0 < length routes → c.first_token + c.groups ≤ 2 ^ 62) → refusal ≢ Memory → Refuses c.groups l r.prefix refusal → IsFirstRefused c routes r.line refusal
refused_at c routes i r l refusal within read few same max most groups lasts reason is =
    let before : length (take i routes) ≡ i = length-take-le i routes (omega (arith, within)) in
    let fits : AreSufficient 24 8 c l.rules = (omega (arith, most, max), groups) in
    let have = lasts (omega (arith, within)) in
    let loaded = loads_fitting c (take i routes) (omega (arith, before, within, few)) (subst (AreSufficient 24 8 c) same fits) (λ some. have) in
    let t = loaded.0 in
    let first = ap (λ (x : Registry). x.token) loaded.1.readers in
    let changes = loaded.2 in
    first_refused c routes i r c t t refusal within read refl loaded.1 reason
    (refuses c t l r.prefix r.hop refusal reason (loaded.1.rules ∙ sym same) max loaded.1.limbo (omega (arith, have, first), omega (arith, changes, before, within, few)) is)

-- without tokens the first route is refused
pub exhausted_first : (c : Config) (routes : List Route) (r : Route) → 0 < length routes → r ≡ get_or routes 0 r → 2 ^ 62 < c.first_token + c.groups → IsFirstRefused c routes r.line Exhausted
exhausted_first c routes r some read more =
    let loaded : IsLoaded c [] (initial_by_counters c) = record { loads = refl; rules = refl; readers = refl; limbo = refl } in
    let none = get-empty network_cmp r.prefix in
    first_refused c routes 0 r c (initial_by_counters c) (initial_by_counters c) Exhausted some read refl loaded (λ e. cc)
    ((λ same. let never = sym none ∙ same in absurd cc), inl (omega (arith, more)), refl)

-- ---- a table that opens with the rules of routes

-- one route more, which changed a rule or not
pub changes_read : (routes : List Route) (i : ℕ) (r : Route) (R : RuleMap) (put : Put) (n : ℕ) → i < length routes → r ≡ get_or routes i r → R ≡ rules_of_routes (take i routes)
    → (put ≡ Unchanged) ↔ (get R r.prefix ≡ Some r.hop) → (put ≡ Unchanged → n ≡ 0) → (put ≢ Unchanged → n ≡ 1) → changes_of (take (i + 1) routes) ≡ changes_of (take i routes) + n
changes_read routes i r R put n within read same is none one =
    let xs = take i routes in
    let more : changes_of (take (i + 1) routes) ≡ changes_of xs + changed (get (made_by (empty, 0) xs).0 r.prefix) r.hop =
    ap changes_of (take_read routes i r within read) ∙ ap (λ (m : Made). m.1) (made-append (empty, 0) xs r) in
    let by : ◌≡◌ {A = ℕ} (changed (get (made_by (empty, 0) xs).0 r.prefix) r.hop) (changed (get R r.prefix) r.hop) =
    ap (λ (Q : RuleMap). changed (get Q r.prefix) r.hop) (made_rules (empty, 0) xs ∙ sym same) in
    elim (changed_cases (get R r.prefix) r.hop) [
      | inl here ↦ let no = none (is.1 here) in let zero_changes = changed_same (get R r.prefix) r.hop here in omega (arith, more, by, no, zero_changes)
      | inr other ↦ let some = one (λ e. other.0 (is.0 e)) in let changes = other.1 in omega (arith, more, by, some, changes)
    ]

-- where there are rules there are routes
pub lasts_for : (routes : List Route) (P : Type 0) → (0 < length routes → P) → 0 < len (rules_of_routes routes) → P
lasts_for [] P lasts some = let none = no_rules in absurd (omega (arith, none, some))
lasts_for (r ∷ routes) P lasts some = lasts (omega arith)

-- the table of routes, by its rules and the number of changes
pub loaded_as : (c : Config) (routes : List Route) (R : RuleMap) (n : ℕ) → length routes ≤ 2 ^ 61 → R ≡ rules_of_routes routes → n ≡ changes_of routes → AreSufficient 24 8 c R → (0 < length routes → c.first_token + c.groups ≤ 2 ^ 62)
    → IsLoaded c routes (record (initial_by_counters c) { rules = R; updates_begun = n })
loaded_as c routes R n few same count fits lasts =
    let loaded = loaded_fitting c routes few (subst (AreSufficient 24 8 c) same fits) (lasts_for routes (c.first_token + c.groups ≤ 2 ^ 62) lasts) in
    subst (λ (Q : RuleMap). IsLoaded c routes (record (initial_by_counters c) { rules = Q; updates_begun = n })) (made_rules (empty, 0) routes ∙ sym same)
    (subst (λ k. IsLoaded c routes (record (initial_by_counters c) { rules = (made_by (empty, 0) routes).0; updates_begun = k })) (sym count) loaded)

-- ---- routes behind those of which one is refused

first_longer : (c : Config) (xs ys : List Route) (line : ℕ) (refusal : Refusal) → IsFirstRefused c xs line refusal → IsFirstRefused c (xs ++ ys) line refusal
first_longer c xs ys line refusal is = record {
  before = is.before;
  route = is.route;
  after = is.after ++ ys;
  table = is.table;
  split = ap (λ (l : List Route). l ++ ys) is.split ∙ append_assoc is.before (is.route ∷ is.after) ys;
  number = is.number;
  loaded = is.loaded;
  reason = is.reason;
  refused = is.refused;
}

ends_before : (c : Config) (file : List ℕ) (xs ys : List Route) (failure : Failure) → EndsLoading c file xs failure → EndsLoading c file (xs ++ ys) failure
ends_before c file xs ys (failures.RefusedRoute path line refusal) ends = (ends.0, first_longer c xs ys line refusal ends.1)
ends_before c file xs ys failures.Memory ends = tt
ends_before c file xs ys failure ends = absurd ends

-- a refusal of one of the first routes is that of all of them
pub ends_longer : (c : Config) (file : List ℕ) (routes : List Route) (n : ℕ) (failure : Failure) → EndsLoading c file (take n routes) failure → EndsLoading c file routes failure
ends_longer c file routes n failure ends =
    subst (λ (l : List Route). EndsLoading c file l failure) (take-append-drop n routes) (ends_before c file (take n routes) (drop n routes) failure ends)

-- ---- a table that opens with a list of rules

-- it is filled where the tokens last for its rules
pub opened_filled : (c : Config) (R : RuleMap) (o : Option FibState) → IfSome o (λ (f : FibState). f ≡ initial_fib_with c R) → IfSome o (λ (f : FibState). AreSufficient 24 8 c R) → (0 < len R → c.first_token + c.groups ≤ 2 ^ 62) → IfSome o (λ (f : FibState). IsFilled c f.table)
opened_filled c R None is fits lasts = tt
opened_filled c R (Some f) is fits lasts = subst (λ (g : FibState). IsFilled c g.table) (sym is) (record {
  readers = refl;
  limbo = refl;
  fits = fits;
  tokens = lasts;
})
