-- What the index of a history says of a prefix and of an address at a version.
use Rattle.std.proofs.Common.{arith, ◌≡◌, ◌≢◌, ℕ, ◌-◌, ◌<◌, ◌≤◌, inl, inr, sym, ◌∙◌, subst, List, Some, None, Bool, true, false, length, get_or, eqb, ltb, leb, ◌+◌, refl, ap, [], ◌∷◌, ◌++◌, Option}
use Rattle.std.specs.Prelude.{◌&&◌, ◌||◌, IsSome}
use Rattle.std.specs.List.Sorted.{IsPartitionedBy, IsSortedBy, IsPermutation}
use Rattle.std.proofs.lemmas.Bool.{cases_lt}
use Rattle.std.proofs.lemmas.List.{get_or_default, get_or_read}
use Rattle.std.proofs.lemmas.Bool.Decides.{nat_tests}
use Rattle.std.specs.Ordering.{is_lt, nat_cmp, ordering_then}
use Rattle.std.proofs.lemmas.List.Sorted.{ranks_by, sorted_far, All-permutation, Contains-permutation}
use Rattle.lpm_rules.proofs.Views.{networks_total}
use Rattle.audit.specs.declared.events.Event.{Event}
use Rattle.audit.specs.Index.{AreOrdered, IsBefore, up_to, AreUpTo, IsLastEvent, IsLastAt, prefix_at, IsOfNone, IsEventOf, HasNetwork, IsAmong, IsTrueEvent, AreEventsUpTo, IsPrefixOf, IsLastFlush, IsSound}
use Rattle.std.specs.List.{Contains}
use Rattle.std.specs.FinMap.{get, get-empty}
use Rattle.std.proofs.lemmas.List.Elements.{All-nil, All-push, All-weaker, All-contains, Contains-append_left, Contains-push}
use Rattle.lpm_bits.specs.Network.{Network}
use Rattle.lpm_rules.specs.RuleMap.{RuleMap, network_cmp, AllNetworks}
use Rattle.lpm_rules.specs.Changes.{rules_with}
use Rattle.lpm_rules.specs.declared.Change.{Change}
use Rattle.lpm_rules.specs.declared.Change.TheVariants.{Synchronize}
use Rattle.audit.specs.Wrong.{version_of}
use Rattle.audit.proofs.Spans.{version_more, set_here, spares, kept_until, all_of}
use Rattle.std.specs.declared.vec.Vec.{Vec}
use Rattle.lpm_bits.specs.Widths.{IsShape}

-- The last event of a prefix up to a version, by a search through ordered events.

-- a sort by bits and version; the two numbers compare as the bits and the length of a prefix do
abbrev is_below : Event → Event → Bool
is_below x y = is_lt (ordering_then (nat_cmp x.bits y.bits) (nat_cmp x.version y.version))

not_below : (a b c d : ℕ) → is_lt (ordering_then (nat_cmp c a) (nat_cmp d b)) ≡ false → (a ≤ c) × (a ≡ c → b ≤ d)
not_below a b c d e = grind (arith, nat_tests)

pub ordered_by_sort : (es : List Event) → IsSortedBy is_below es → AreOrdered es
ordered_by_sort es up i j d le lt =
    let ranks = ranks_by networks_total (λ (e : Event). record { bits = e.bits; len = e.version }) in
    let a = get_or es i d in
    let b = get_or es j d in
    not_below a.bits a.version b.bits b.version (sorted_far is_below ranks es up i j d le lt)

abbrev IsUpTo : ℕ → ℕ → ℕ → ℕ → Type 0
IsUpTo bits k b v = (b ≤ bits) × (b ≡ bits → v ≤ k)

abbrev IsPast : ℕ → ℕ → ℕ → ℕ → Type 0
IsPast bits k b v = (bits ≤ b) × (b ≡ bits → k < v)

passed : (bits k b v : ℕ) → (ltb b bits || (eqb b bits && leb v k)) ≡ true → IsUpTo bits k b v
passed bits k b v t = grind (arith, nat_tests)

past : (bits k b v : ℕ) → (ltb b bits || (eqb b bits && leb v k)) ≡ false → IsPast bits k b v
past bits k b v t = grind (arith, nat_tests)

from_passed : (bits k b v : ℕ) → IsUpTo bits k b v → (ltb b bits || (eqb b bits && leb v k)) ≡ true
from_passed bits k b v u = grind (arith, nat_tests)

pub parted : (bits k : ℕ) (es : List Event) → AreOrdered es → IsPartitionedBy (up_to bits k) es
parted bits k es o i j d le lt t =
    let a = get_or es i d in
    let b = get_or es j d in
    let before : IsBefore a b = o i j d le lt in
    let up = passed bits k b.bits b.version t in
    let x = before.0 in
    let y = before.1 in
    from_passed bits k a.bits a.version (omega (arith, up, x), λ e. omega (arith, up, x, y))

-- an event from the partition point on is of a later prefix, or later than the version
after : (bits k : ℕ) (es : List Event) (n : ℕ) → AreUpTo bits k es n
    → (e : Event) (m : ℕ) → m < length es → get_or es m e ≡ e → n ≤ m → IsPast bits k e.bits e.version
after bits k es n point e m lt is le =
    let there = point.1 m e le lt in
    subst (λ (x : Event). IsPast bits k x.bits x.version) is (past bits k (get_or es m e).bits (get_or es m e).version there)

pub none_at_all : (bits k : ℕ) (es : List Event) → AreUpTo bits k es 0
    → IsLastEvent es bits k None
none_at_all bits k es point e has same upto =
    let p = after bits k es 0 point e has.0 has.1 has.2 (omega arith) in
    absurd (omega (arith, p, same, upto))

-- the event before the partition point
module _ (bits k : ℕ) (es : List Event) (n : ℕ) (last : Event) (some : 1 ≤ n) (within : n ≤ length es) (is : last ≡ get_or es (n - 1) last)
    (ordered : AreOrdered es) (point : AreUpTo bits k es n) where
  abbrev reached : IsUpTo bits k last.bits last.version
  reached =
      subst (λ (x : Event). IsUpTo bits k x.bits x.version) (sym is)
      (passed bits k (get_or es (n - 1) last).bits (get_or es (n - 1) last).version (point.0 (n - 1) last (omega arith) (omega (arith, some))))

  before_last : (e : Event) (m : ℕ) → m < n → get_or es m e ≡ e → IsBefore e last
  before_last e m lt at =
      let order = ordered m (n - 1) e (omega (arith, lt)) (omega (arith, some, within)) in
      let end : get_or es (n - 1) e ≡ last = get_or_default es (n - 1) e last (omega (arith, some, within)) ∙ sym is in
      subst (λ (x : Event). IsBefore x last) at (subst (λ (x : Event). IsBefore (get_or es m e) x) end order)

  pub other_prefix : last.bits ≢ bits → IsLastEvent es bits k None
  other_prefix other e has same upto = elim (cases_lt has.0 n) [
    | inl lt ↦
        let b = before_last e has.0 lt has.2 in
        let r = reached in
        absurd (other (omega (arith, b, r, same)))
    | inr le ↦
        let p = after bits k es n point e has.0 has.1 has.2 le in
        absurd (omega (arith, p, same, upto))
  ]

  last_at : last.bits ≡ bits → IsLastAt es bits k last
  last_at here e has same upto = elim (cases_lt has.0 n) [
    | inl lt ↦ let b = before_last e has.0 lt has.2 in omega (arith, b, same, here)
    | inr le ↦
        let p = after bits k es n point e has.0 has.1 has.2 le in
        absurd (omega (arith, p, same, upto))
  ]

  pub this_prefix : last.bits ≡ bits → IsLastEvent es bits k (Some last)
  this_prefix here = ((n - 1, omega (arith, some, within), sym is), here, reached.1 here, last_at here)

-- The events of one change more, and what the last event of a prefix says.

-- the events of one change more: change number i is c
module _ (f s : ℕ) (history : List (Change f s)) (len i : ℕ) (events : List Event) (c : Change f s)
    (lt : i < length history) (at : (d : Change f s) → c ≡ get_or history i d) (net : HasNetwork c) (old : AreEventsUpTo history len i events) where
  later : (e : Event) → IsTrueEvent history len i e → IsTrueEvent history len (i + 1) e
  later e t = let w = t.within in record { shape = t.shape; within = omega (arith, w); hop = t.hop }

  nets : (j : ℕ) (d : Change f s) → j < i + 1 → HasNetwork (get_or history j d)
  nets j d l = elim (cases_lt j i) [
    | inl less ↦ old.networks j d less
    | inr more ↦
        let same : i ≡ j = omega (arith, l, more) in
        subst (λ n. HasNetwork (get_or history n d)) same (subst (λ (x : Change f s). HasNetwork x) (at d) net)
  ]

  among : (es : List Event) → ((e : Event) → Contains events e → Contains es e) → IsAmong len (i + 1) es c
      → (j : ℕ) (d : Change f s) → j < i + 1 → IsAmong len (j + 1) es (get_or history j d)
  among es more here j d l = elim (cases_lt j i) [
    | inl less ↦ λ p is long. let a = old.all j d less p is long in (a.0, more a.0 a.1, a.2, a.3)
    | inr past ↦
        let same : i ≡ j = omega (arith, l, past) in
        subst (λ n. IsAmong len (n + 1) es (get_or history n d)) same (subst (IsAmong len (i + 1) es) (at d) here)
  ]

  -- a change of no prefix of this length
  pub events_same : IsOfNone len c → AreEventsUpTo history len (i + 1) events
  events_same other = record {
    hold = All-weaker (IsTrueEvent history len i) (IsTrueEvent history len (i + 1)) later events old.hold;
    all = among events (λ e has. has) (λ p is long. absurd (other p is long));
    networks = nets;
  }

  -- a change with an event
  module _ (e : Event) (is : IsEventOf len (i + 1) c e) where
    true_event : IsTrueEvent history len (i + 1) e
    true_event =
        let when = is.version in record {
          shape = (net (prefix_at len e) is.prefix).0;
          within = omega (arith, when);
          hop =
              ap (λ n. get (version_of history n) (prefix_at len e)) is.version
              ∙ ap (λ (R : RuleMap). get R (prefix_at len e)) (version_more f s history i Synchronize lt)
              ∙ ap (λ (x : Change f s). get (rules_with (version_of history i) x) (prefix_at len e)) (sym (at Synchronize))
              ∙ set_here f s (version_of history i) c (prefix_at len e) is.prefix
              ∙ sym is.hop;
        }

    here : IsAmong len (i + 1) (events ++ e ∷ []) c
    here p at_p long =
        let same : Some (prefix_at len e) ≡ Some p = sym is.prefix ∙ at_p in
        let one : prefix_at len e ≡ p = cc in
        (e, Contains-push events e, ap (λ (q : Network). q.bits) one, is.version)

    pub events_more : AreEventsUpTo history len (i + 1) (events ++ e ∷ [])
    events_more = record {
      hold =
          All-push (IsTrueEvent history len (i + 1)) events e
          (All-weaker (IsTrueEvent history len i) (IsTrueEvent history len (i + 1)) later events old.hold)
          true_event;
      all = among (events ++ e ∷ []) (λ x has. Contains-append_left events (e ∷ []) x has) here;
      networks = nets;
    }

-- the same events in another order
pub events_moved : (f s : ℕ) (history : List (Change f s)) (len i : ℕ) (xs ys : List Event) → IsPermutation xs ys → AreEventsUpTo history len i xs
    → AreEventsUpTo history len i ys
events_moved f s history len i xs ys moved are = record {
  hold = All-permutation (IsTrueEvent history len i) xs ys moved are.hold;
  all = λ j d lt p is long. let a = are.all j d lt p is long in (a.0, Contains-permutation xs ys a.0 moved a.1, a.2, a.3);
  networks = are.networks;
}

-- no events of no changes
pub events_none : (f s : ℕ) (history : List (Change f s)) (len : ℕ) → AreEventsUpTo history len 0 []
events_none f s history len = record {
  hold = All-nil (IsTrueEvent history len 0);
  all = λ j d lt. absurd (omega (arith, lt));
  networks = λ j d lt. absurd (omega (arith, lt));
}

-- what the last event of a prefix up to version k says, beside the last flush
module _ (f s : ℕ) (history : List (Change f s)) (len : ℕ) (events : List Event) (are : AreEventsUpTo history len (length history) events)
    (k flushed bits : ℕ) (le : k ≤ length history) (flush : IsLastFlush history k flushed) where
  abbrev here_at : Network
  here_at = record { bits = bits; len = len }

  -- no change from version v on is of the prefix, and none is a flush
  quiet_since : (v : ℕ) → v ≤ k → flushed ≤ v → ((e : Event) → Contains events e → e.bits ≡ bits → e.version ≤ k → e.version ≤ v)
      → get (version_of history k) here_at ≡ get (version_of history v) here_at
  quiet_since v low since last =
      kept_until f s history here_at v k low le (λ j d from to.
      spares f s here_at (get_or history j d)
      (λ is.
      let a = are.all j d (omega (arith, to, le)) here_at is refl in
      let when = a.3 in
      let z = last a.0 a.1 a.2 (omega (arith, when, to)) in
      omega (arith, when, z, from))
      (flush.none j d (omega (arith, since, from)) to))

  flushed_none : get (version_of history flushed) here_at ≡ None
  flushed_none = ap (λ (R : RuleMap). get R here_at) flush.empty ∙ get-empty network_cmp here_at

  pub no_event : IsLastEvent events bits k None → None ≡ get (version_of history k) here_at
  no_event none = let low = flush.before in sym (quiet_since flushed low (omega arith) (λ e has same upto. absurd (none e has same upto)) ∙ flushed_none)

  pub old_event : (last : Event) → IsLastEvent events bits k (Some last) → last.version ≤ flushed → None ≡ get (version_of history k) here_at
  old_event last is old =
      let low = flush.before in
      sym (quiet_since flushed low (omega arith) (λ e has same upto. let z = is.3 e has same upto in omega (arith, z, old)) ∙ flushed_none)

  pub new_event : (last : Event) → IsLastEvent events bits k (Some last) → flushed < last.version → last.hop ≡ get (version_of history k) here_at
  new_event last is new =
      let said = (All-contains (IsTrueEvent history len (length history)) events last are.hold is.0).hop in
      sym (quiet_since last.version is.2 (omega (arith, new)) is.3
      ∙ ap (λ b. get (version_of history last.version) (record { bits = b; len = len })) (sym is.1)
      ∙ said)

some_item : {X : Type 0} (xs : List X) → 0 < length xs → X
some_item [] lt = absurd (omega (arith, lt))
some_item (x ∷ xs) lt = x

module _ (f s : ℕ) {Z : Type 0} (history now : List (Change f s)) (flushed : List ℕ) (lengths : List (Vec Event Z))
    (sound : IsSound f s history flushed lengths) (view : history ≡ now) where
  of_table : (k : ℕ) → k ≤ length now → (q : Network) → IsSome (get (version_of now k) q) → IsPrefixOf f s q
  of_table k le =
      let long = sound.long in
      let first = sound.events 0 (some_item lengths (omega (arith, long))) (omega arith) in
      subst (λ (h : List (Change f s)). k ≤ length h → (q : Network) → IsSome (get (version_of h k) q) → IsPrefixOf f s q) view
      (all_of f s history (IsPrefixOf f s) first.networks k)
      le

  pub networks : (k : ℕ) → k ≤ length now → AllNetworks (f + s) (version_of now k)
  networks k le q some = (of_table k le q some).1

  pub all_short : (k : ℕ) → k ≤ length now → (q : Network) → IsSome (get (version_of now k) q) → q.len ≤ 32
  all_short k le q some =
      let is = of_table k le q some in
      let wide = is.0.2 in
      let low = is.1.0 in
      omega (arith, wide, low)

  -- a table has the widths, where a length has an event
  pub shape : (len : ℕ) → len ≤ 32 → (v : Vec Event Z) → v ≡ get_or lengths len v → 0 < length v.items → IsShape f s
  shape len short v at some =
      let are : AreEventsUpTo history len (length history) v.items =
      subst (λ (w : Vec Event Z). AreEventsUpTo history len (length history) w.items) (sym at) (sound.events len v (omega (arith, short))) in
      (are.hold 0 (some_item v.items some) some).shape

  module _ (p : Network) (len bits k : ℕ) (by_len : len ≡ p.len) (by_bits : bits ≡ p.bits) (short : len ≤ 32) (most : k ≤ length now) (events : List Event) (v : Vec Event Z) (at : v ≡ get_or lengths len v) (is : events ≡ v.items) where
    most_kept : k ≤ length history
    most_kept = subst (λ (h : List (Change f s)). k ≤ length h) (sym view) most

    these : AreEventsUpTo history len (length history) events
    these =
        subst (AreEventsUpTo history len (length history)) (ap (λ (w : Vec Event Z). w.items) (sym at) ∙ sym is)
        (sound.events len v (omega (arith, short)))

    pub ordered : AreOrdered events
    ordered = subst AreOrdered (ap (λ (w : Vec Event Z). w.items) (sym at) ∙ sym is) (sound.ordered len v (omega (arith, short)))

    last_flush : (n : ℕ) → n ≡ get_or flushed k n → IsLastFlush history k n
    last_flush n there =
        let long = sound.flushes.long in
        let le = most_kept in
        subst (IsLastFlush history k) (sym (get_or_read flushed k n (omega (arith, long, le)) there 0)) (sound.flushes.each k le)

    abbrev kept_at : Network
    kept_at = record { bits = bits; len = len }

    at_prefix : (hop : Option ℕ) → hop ≡ get (version_of history k) kept_at → hop ≡ get (version_of now k) p
    at_prefix hop e =
        subst (λ (h : List (Change f s)). hop ≡ get (version_of h k) p) view
        (subst (λ n. hop ≡ get (version_of history k) (record { bits = p.bits; len = n })) by_len
        (subst (λ b. hop ≡ get (version_of history k) (record { bits = b; len = len })) by_bits e))

    pub no_hop : IsLastEvent events bits k None → None ≡ get (version_of now k) p
    no_hop none = at_prefix None (no_event f s history len events these k (get_or flushed k 0) bits most_kept (sound.flushes.each k most_kept) none)

    pub old_hop : (last : Event) (n : ℕ) → n ≡ get_or flushed k n → IsLastEvent events bits k (Some last) → last.version ≤ n
        → None ≡ get (version_of now k) p
    old_hop last n there is_last old = at_prefix None (old_event f s history len events these k n bits most_kept (last_flush n there) last is_last old)

    pub new_hop : (last : Event) (n : ℕ) → n ≡ get_or flushed k n → IsLastEvent events bits k (Some last) → n < last.version
        → last.hop ≡ get (version_of now k) p
    new_hop last n there is_last new = at_prefix last.hop (new_event f s history len events these k n bits most_kept (last_flush n there) last is_last new)

  -- no rule is of a length with no events
  pub no_rule : (len k : ℕ) → len ≤ 32 → k ≤ length now → (v : Vec Event Z) → v ≡ get_or lengths len v → length v.items ≡ 0
      → (b : ℕ) → None ≡ get (version_of now k) (record { bits = b; len = len })
  no_rule len k short le v at empty b =
      no_hop (record { bits = b; len = len }) len b k refl refl short le v.items v at refl
      (λ e has same upto. let lt = has.1 in absurd (omega (arith, lt, empty)))
