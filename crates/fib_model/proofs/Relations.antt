-- What each part of a change carries over, each whole change does: a relation of two ways to keep what changes depend
-- on, and the names that unlinkings have in both.
use Rattle.std.proofs.Common.{arith, ◌≡◌, ℕ, zero, suc, ◌+◌, ◌-◌, ◌^◌, ◌<◌, ◌≤◌, ◌↔◌, inl, inr, refl, ap, sym, subst, List, [], ◌∷◌, ◌++◌, length, get_or, slice_get, Option, Some, None, Result, Ok, Err, ◌⊎◌}
use Rattle.std.specs.FinMap.{get, remove, empty}
use Rattle.std.specs.FinSet as set
use Rattle.std.proofs.lemmas.Bool.{cases_lt, cases_Bool}
use Rattle.lpm_bits.specs.Network.{Network}
use Rattle.lpm_rules.specs.RuleMap.{RuleMap}
use Rattle.lpm_rules.specs.Deep.{IsDeepBlock, block_of, deep_blocks}
use Rattle.lpm_rules.proofs.Deep.{has_deep_blocks}
use Rattle.lpm_rules.specs.declared.Put.{Put}
use Rattle.lpm_rules.specs.declared.Put.TheVariants.{Added, Replaced, Unchanged}
use Rattle.lpm_limits.specs.declared.busy.Busy.{Busy}
use Rattle.lpm_limits.specs.declared.config.Config.{Config}
use Rattle.lpm_limits.specs.declared.refusal.Refusal.{Refusal}
use Rattle.lpm_limits.specs.declared.refusal.Refusal.TheVariants.{TooManyRules, NoSuchRule, Exhausted, NoGroups, Memory}
use Rattle.defer_queue.specs.declared.Reclaimed.{Reclaimed}
use Rattle.defer_queue.specs.Reclaims.{Ends, FreesFront}
use Rattle.fib_model.specs.State.{State, Transitions, HasTokens, IsExhausted, Reclaims, MakesRoom, UnlinksOne, Unlinks}
use Rattle.fib_model.specs.Outcomes.{groups_in_use, LacksGroup, TakesGroup, IsNew, HoldsFront, Updates, Adds, Shrinks, Deletes, Flushes, Frees}
use Rattle.fib_model.proofs.TwoWays.{AreNamed, IsCarried, Carries, AreFollowed, beside, Follows, ChangesCarryOver}

-- ---- lists of names

pub named_length : (P : ℕ → ℕ → Type 0) (ms ns : List ℕ) → AreNamed P ms ns → length ns ≡ length ms
named_length P [] [] h = refl
named_length P [] (n ∷ ns) h = absurd h
named_length P (m ∷ ms) [] h = absurd h
named_length P (m ∷ ms) (n ∷ ns) h = ap suc (named_length P ms ns h.1)

pub named_kept : (P Q : ℕ → ℕ → Type 0) → ((m n : ℕ) → P m n → Q m n) → (ms ns : List ℕ) → AreNamed P ms ns → AreNamed Q ms ns
named_kept P Q leads [] [] h = tt
named_kept P Q leads [] (n ∷ ns) h = absurd h
named_kept P Q leads (m ∷ ms) [] h = absurd h
named_kept P Q leads (m ∷ ms) (n ∷ ns) h = (leads m n h.0, named_kept P Q leads ms ns h.1)

pub named_at : (P : ℕ → ℕ → Type 0) (ms ns : List ℕ) (k d e : ℕ) → AreNamed P ms ns → k < length ms → P (get_or ms k d) (get_or ns k e)
named_at P [] ns k d e h low = absurd (omega (arith, low))
named_at P (m ∷ ms) [] k d e h low = absurd h
named_at P (m ∷ ms) (n ∷ ns) zero d e h low = h.0
named_at P (m ∷ ms) (n ∷ ns) (suc k) d e h low = named_at P ms ns k d e h.1 (omega (arith, low))

named_first : (P : ℕ → ℕ → Type 0) (ms ns : List ℕ) (m : ℕ) → AreNamed P ms ns → slice_get ms 0 ≡ Some m → (n : ℕ) × (slice_get ns 0 ≡ Some n) × P m n
named_first P [] ns m h at = let no : None ≡ Some m = at in cc
named_first P (k ∷ ms) [] m h at = absurd h
named_first P (k ∷ ms) (n ∷ ns) m h at = let is : Some k ≡ Some m = at in let same : k ≡ m = cc in (n, refl, subst (λ x. P x n) same h.0)

named_last : (P : ℕ → ℕ → Type 0) (ms ns : List ℕ) (m n : ℕ) → AreNamed P ms ns → P m n → AreNamed P (ms ++ m ∷ []) (ns ++ n ∷ [])
named_last P [] [] m n h name = (name, tt)
named_last P [] (k ∷ ns) m n h name = absurd h
named_last P (k ∷ ms) [] m n h name = absurd h
named_last P (k ∷ ms) (l ∷ ns) m n h name = (h.0, named_last P ms ns m n h.1 name)

named_front : (P : ℕ → ℕ → Type 0) (m : ℕ) (ms ns : List ℕ) → AreNamed P (m ∷ ms) ns → (n : ℕ) × (rest : List ℕ) × (ns ≡ n ∷ rest) × P m n × AreNamed P ms rest
named_front P m ms [] h = absurd h
named_front P m ms (n ∷ rest) h = (n, rest, refl, h.0, h.1)

named_none : (P : ℕ → ℕ → Type 0) (ns : List ℕ) → AreNamed P [] ns → ns ≡ []
named_none P [] h = refl
named_none P (n ∷ ns) h = absurd h

-- ---- whether a group is lacking

deep_or_not : (f g : ℕ) (R : RuleMap) (block : ℕ) → IsDeepBlock f g R block ⊎ (IsDeepBlock f g R block → ⊥)
deep_or_not f g R block = elim (cases_Bool (set.contains (deep_blocks f g R) block)) [
  | inl has ↦ inl ((has_deep_blocks f g R block).0 has)
  | inr lacking ↦ inr (λ deep. let is = (has_deep_blocks f g R block).1 deep in cc)
]

pub lacks_or_not : {X : Type 0} (f g : ℕ) (c : Config) (s : State X) (p : Network) → get s.rules p ≡ None → LacksGroup f g c s p ⊎ (LacksGroup f g c s p → ⊥)
lacks_or_not f g c s p absent = elim (cases_lt f p.len) [
  | inr short ↦ inr (λ h. let long = h.long in absurd (omega (arith, long, short)))
  | inl long ↦ elim (deep_or_not f g s.rules (block_of g p)) [
    | inl deep ↦ inr (λ h. h.shallow deep)
    | inr shallow ↦ elim (cases_lt (groups_in_use f g s.rules + length s.limbo) c.groups) [
      | inl free ↦ inr (λ h. let none = h.none_free in absurd (omega (arith, none, free)))
      | inr none ↦ inl record { absent = absent; long = long; shallow = shallow; none_free = none }
    ]
  ]
]

-- ---- two states

lacks : {X Y : Type 0} (P : ℕ → ℕ → Type 0) (f g : ℕ) (c : Config) (s : State X) (y : Y) (ns : List ℕ) (p : Network) → AreNamed P s.limbo ns
    → LacksGroup f g c s p ↔ LacksGroup f g c (beside s y ns) p
lacks P f g c s y ns p named =
    let size = named_length P s.limbo ns named in (
      (λ h. let none = h.none_free in record { absent = h.absent; long = h.long; shallow = h.shallow; none_free = omega (arith, none, size) }),
      (λ h. let none = h.none_free in record { absent = h.absent; long = h.long; shallow = h.shallow; none_free = omega (arith, none, size) }),
    )

module _ (X Y : Type 0) (t : Transitions X) (u : Transitions Y) (R : X → Y → Type 0) (N : X → Y → ℕ → ℕ → Type 0) (carries : Carries t u R N) where
  abbrev Carried : X → Y → X → Y → Type 0
  Carried x y x' y' = IsCarried R N x y x' y'

  still : (x x' : X) (y : Y) → R x y → x' ≡ x → Carried x y x' y
  still x x' y rel is = subst (λ v. Carried x y v y) (sym is) (rel, λ m n h. h)

  both : (x x1 x2 : X) (y y1 y2 : Y) → Carried x y x1 y1 → Carried x1 y1 x2 y2 → Carried x y x2 y2
  both x x1 x2 y y1 y2 a b = (b.0, λ m n h. b.1 m n (a.1 m n h))

  -- the names of a list that stays
  kept : (x z : X) (y w : Y) (ms ms' ns : List ℕ) → Carried x y z w → ms' ≡ ms → AreNamed (N x y) ms ns → AreNamed (N z w) ms' ns
  kept x z y w ms ms' ns carried is named = subst (λ l. AreNamed (N z w) l ns) (sym is) (named_kept (N x y) (N z w) carried.1 ms ns named)

  -- ---- reclaims

  abbrev Freed : {Z : Type 0} → Z → ℕ → Z → Type 0
  Freed y name w = w ≡ y

  checked : (n : ℕ) (x z : X) (y : Y) (ms ns left : List ℕ) → R x y → AreNamed (N x y) ms ns → FreesFront t.checks Freed n ms x left z
      → (w : Y) × (rest : List ℕ) × FreesFront u.checks Freed n ns y rest w × AreNamed (N z w) left rest × Carried x y z w
  checked zero x z y ms ns left rel named d =
      let carried = still x z y rel d.1 in
      (y, ns, (refl, refl), kept x z y y ms left ns carried d.0 named, carried)
  checked (suc n) x z y [] ns left rel named d = absurd d
  checked (suc n) x z y (m ∷ ms) [] left rel named d = absurd named
  checked (suc n) x z y (m ∷ ms) (k ∷ ns) left rel named d =
      let now = carries.checks x d.0 y m k (Ok tt) rel named.0 d.2 in
      let freed = both x d.0 d.1 y now.0 now.0 now.2 (still d.0 d.1 now.0 now.2.0 d.3) in
      let later = checked n d.1 z now.0 ms ns left freed.0 (kept x d.1 y now.0 ms ms ns freed refl named.1) d.4 in
      (later.0, later.1, (now.0, now.0, now.1, refl, later.2), later.3, both x d.1 z y now.0 later.0 freed later.4)

  ended : (max n : ℕ) (x z : X) (y : Y) (ms ns : List ℕ) (stopped : Option Busy) → R x y → AreNamed (N x y) ms ns → Ends t.checks Freed max n ms x stopped z
      → (w : Y) × Ends u.checks Freed max n ns y stopped w × Carried x y z w
  ended max n x z y ms ns None rel named d = (
    y,
    (
      elim d.0 [
        | inl all ↦ inl all
        | inr none ↦ inr (named_none (N x y) ns (subst (λ l. AreNamed (N x y) l ns) none named))
      ],
      refl,
    ),
    still x z y rel d.1,
  )
  ended max n x z y [] ns (Some busy) rel named d = absurd d
  ended max n x z y (m ∷ ms) [] (Some busy) rel named d = absurd named
  ended max n x z y (m ∷ ms) (k ∷ ns) (Some busy) rel named d =
      let now = carries.checks x z y m k (Err busy) rel named.0 d.1 in
      (now.0, (d.0, now.1), now.2)

  reclaims : (x z : X) (y : Y) (max : ℕ) (ms ns : List ℕ) (freed : ℕ) (stopped : Option Busy) (left : List ℕ) → R x y → AreNamed (N x y) ms ns
      → Reclaims t x max ms freed stopped left z → (w : Y) × (rest : List ℕ) × Reclaims u y max ns freed stopped rest w × AreNamed (N z w) left rest × Carried x y z w
  reclaims x z y max ms ns freed stopped left rel named d =
      let before = checked freed x d.last y ms ns left rel named d.front in
      let end = ended max freed d.last z before.0 left before.1 stopped before.4.0 before.3 d.end in (
        end.0,
        before.1,
        record { at_most = d.at_most; last = before.0; front = before.2; end = end.1 },
        kept d.last z before.0 end.0 left left before.1 end.2 refl before.3,
        both x d.last z y before.0 end.0 before.4 end.2,
      )

  makes_room : (c : Config) (x z : X) (y : Y) (ms ns left : List ℕ) → R x y → AreNamed (N x y) ms ns → MakesRoom t c x ms left z
      → (w : Y) × (rest : List ℕ) × MakesRoom u c y ns rest w × AreNamed (N z w) left rest × Carried x y z w
  makes_room c x z y ms ns left rel named d =
      let size = named_length (N x y) ms ns named in
      elim (cases_lt c.threshold (length ms)) [
        | inl over ↦
            let is = d.0 over in
            let done = reclaims x z y c.reclaim_max ms ns is.0 is.1 left rel named is.2 in
            (done.0, done.1, ((λ _. (is.0, is.1, done.2)), (λ within. absurd (omega (arith, within, over, size)))), done.3, done.4)
        | inr within ↦
            let is = d.1 within in
            let carried = still x z y rel is.1 in (
              y,
              ns,
              ((λ over. absurd (omega (arith, within, over, size))), (λ _. (refl, refl))),
              kept x z y y ms left ns carried is.0 named,
              carried,
            )
      ]

  -- ---- unlinkings

  unlinks_one : (c : Config) (x z : X) (y : Y) (ms ms' ns : List ℕ) → R x y → AreNamed (N x y) ms ns → UnlinksOne t c x ms z ms'
      → (w : Y) × (ns' : List ℕ) × UnlinksOne u c y ns w ns' × AreNamed (N z w) ms' ns' × Carried x y z w
  unlinks_one c x z y ms ms' ns rel named d =
      let now = carries.unlinks x d.1 y d.0 rel d.3 in
      let room = makes_room c d.1 z now.0 ms ns d.2 now.4.0 (kept x d.1 y now.0 ms ms ns now.4 refl named) d.4 in
      let last = named_last (N z room.0) d.2 room.1 d.0 now.1 room.3 (room.4.1 d.0 now.1 now.3) in (
        room.0,
        room.1 ++ now.1 ∷ [],
        (now.1, now.0, room.1, now.2, room.2, refl),
        subst (λ l. AreNamed (N z room.0) l (room.1 ++ now.1 ∷ [])) (sym d.5) last,
        both x d.1 z y now.0 room.0 now.4 room.4,
      )

  unlinks : (c : Config) (n : ℕ) (x z : X) (y : Y) (ms ms' ns : List ℕ) → R x y → AreNamed (N x y) ms ns → Unlinks t c n x ms z ms'
      → (w : Y) × (ns' : List ℕ) × Unlinks u c n y ns w ns' × AreNamed (N z w) ms' ns' × Carried x y z w
  unlinks c zero x z y ms ms' ns rel named d =
      let carried = still x z y rel d.0 in
      (y, ns, (refl, refl), kept x z y y ms ms' ns carried d.1 named, carried)
  unlinks c (suc n) x z y ms ms' ns rel named d =
      let before = unlinks c n x d.0 y ms d.1 ns rel named d.2 in
      let one = unlinks_one c d.0 z before.0 d.1 ms' before.1 before.4.0 before.3 d.3 in
      (one.0, one.1, (before.0, before.1, before.2, one.2), one.3, both x d.0 z y before.0 one.0 before.4 one.4)

  -- ---- whole changes

  module _ (f g : ℕ) (c : Config) (s z : State X) (y : Y) (ns : List ℕ) (rel : R s.readers y) (named : AreNamed (N s.readers y) s.limbo ns) where
    abbrev v : State Y
    v = beside s y ns

    keeps : z ≡ s → R z.readers y × AreNamed (N z.readers y) z.limbo ns
    keeps is = subst (λ (x : State X). R x.readers y × AreNamed (N x.readers y) x.limbo ns) (sym is) (rel, named)

    tokens : HasTokens t c s → HasTokens u c v
    tokens h = (subst (λ n. n + c.groups ≤ 2 ^ 62) (sym (carries.token s.readers y rel)) h.0, h.1)

    exhausted : IsExhausted t c s → IsExhausted u c v
    exhausted (inl h) = inl (subst (λ n. 2 ^ 62 < n + c.groups) (sym (carries.token s.readers y rel)) h)
    exhausted (inr h) = inr h

    is_new : (p : Network) → IsNew t c s p → IsNew u c v p
    is_new p h = (h.0, tokens h.1, h.2)

    takes : (p : Network) (left : List ℕ) (x' : X) → get s.rules p ≡ None → TakesGroup t f g c s p left x'
        → (w : Y) × (rest : List ℕ) × TakesGroup u f g c v p rest w × AreNamed (N x' w) left rest × Carried s.readers y x' w
    takes p left x' absent d =
        let same = lacks (N s.readers y) f g c s y ns p named in
        elim (lacks_or_not f g c s p absent) [
          | inl h ↦
              let is = d.0 h in
              let front = named_front (N s.readers y) is.0 left ns (subst (λ l. AreNamed (N s.readers y) l ns) is.1 named) in
              let now = carries.checks s.readers x' y is.0 front.0 (Ok tt) rel front.3 is.2 in (
                now.0,
                front.1,
                ((λ _. (front.0, front.2, now.1)), (λ not. absurd (not (same.0 h)))),
                kept s.readers x' y now.0 left left front.1 now.2 refl front.4,
                now.2,
              )
          | inr not ↦
              let is = d.1 not in
              let carried = still s.readers x' y rel is.1 in (
                y,
                ns,
                ((λ h. absurd (not (same.1 h))), (λ _. (refl, refl))),
                kept s.readers x' y y s.limbo left ns carried is.0 named,
                carried,
              )
        ]

    front : (oldest : Option Busy) (x' : X) → HoldsFront t s oldest x' → (w : Y) × HoldsFront u v oldest w × Carried s.readers y x' w
    front None x' d = (y, (named_none (N s.readers y) ns (subst (λ l. AreNamed (N s.readers y) l ns) d.0 named), refl), still s.readers x' y rel d.1)
    front (Some busy) x' d =
        let name = named_first (N s.readers y) s.limbo ns d.0 named d.1 in
        let now = carries.checks s.readers x' y d.0 name.0 (Err busy) rel name.2 d.2 in
        (now.0, (name.0, name.1, now.1), now.2)

    updates : (x x' : X) (w : Y) → R x w → Updates t x x' → (w' : Y) × Updates u w w' × Carried x w x' w'
    updates x x' w rel d =
        let begun = carries.begins x d.0 w rel d.1 in
        let ended = carries.ends d.0 x' begun.0 begun.2.0 d.2 in
        (ended.0, (begun.0, begun.1, ended.1), both x d.0 x' w begun.0 ended.0 begun.2 ended.2)

    pub adds : (p : Network) (h : ℕ) (r : Result Put Refusal) → Adds t f g c s p h r z → Follows R N z (Adds u f g c v p h r)
    adds p h (Ok Unchanged) d = let kept = keeps d.1 in (y, ns, (d.0, ap (λ x. beside x y ns) d.1), kept.0, kept.1)
    adds p h (Ok Replaced) d =
        let update = updates s.readers z.readers y rel d.2 in (
          update.0,
          ns,
          (d.0, tokens d.1, update.1, d.3, refl),
          update.2.0,
          kept s.readers z.readers y update.0 s.limbo z.limbo ns update.2 d.4 named,
        )
    adds p h (Ok Added) d =
        let is = d.1 in
        let group = takes p z.limbo is.0 d.0.0 is.1 in
        let update = updates is.0 z.readers group.0 group.4.0 is.2 in (
          update.0,
          group.1,
          (is_new p d.0, (group.0, group.2, update.1), d.2),
          update.2.0,
          kept is.0 z.readers group.0 update.0 z.limbo z.limbo group.1 update.2 refl group.3,
        )
    adds p h (Err Exhausted) d = let kept = keeps d.2 in (y, ns, (d.0, exhausted d.1, ap (λ x. beside x y ns) d.2), kept.0, kept.1)
    adds p h (Err TooManyRules) d = let kept = keeps d.3 in (y, ns, (d.0, tokens d.1, d.2, ap (λ x. beside x y ns) d.3), kept.0, kept.1)
    adds p h (Err Memory) d = let kept = keeps d.1 in (y, ns, (is_new p d.0, ap (λ x. beside x y ns) d.1), kept.0, kept.1)
    adds p h (Err (NoGroups oldest)) d =
        let held = front oldest z.readers d.2 in (
          held.0,
          ns,
          (is_new p d.0, (lacks (N s.readers y) f g c s y ns p named).0 d.1, held.1, ap (λ x. beside x held.0 ns) d.3),
          held.2.0,
          kept s.readers z.readers y held.0 s.limbo z.limbo ns held.2 (ap (λ (x : State X). x.limbo) d.3) named,
        )
    adds p h (Err other) d = absurd d

    shrinks : (Q : RuleMap) → Shrinks t f g c s Q z → Follows R N z (Shrinks u f g c v Q)
    shrinks Q d =
        let is = d.1 in
        let begun = carries.begins s.readers is.0 y rel is.2 in
        let gone = unlinks c (groups_in_use f g s.rules - groups_in_use f g Q) is.0 is.1 begun.0 s.limbo z.limbo ns begun.2.0
        (kept s.readers is.0 y begun.0 s.limbo s.limbo ns begun.2 refl named) is.3 in
        let ended = carries.ends is.1 z.readers gone.0 gone.4.0 is.4 in (
          ended.0,
          gone.1,
          (tokens d.0, (begun.0, gone.0, begun.1, gone.2, ended.1), d.2),
          ended.2.0,
          kept is.1 z.readers gone.0 ended.0 z.limbo z.limbo gone.1 ended.2 refl gone.3,
        )

    pub deletes : (p : Network) (r : Result ℕ Refusal) → Deletes t f g c s p r z → Follows R N z (Deletes u f g c v p r)
    deletes p (Ok h) d = let is = shrinks (remove s.rules p) d.1 in (is.0, is.1, (d.0, is.2), is.3, is.4)
    deletes p (Err NoSuchRule) d = let kept = keeps d.1 in (y, ns, (d.0, ap (λ x. beside x y ns) d.1), kept.0, kept.1)
    deletes p (Err Exhausted) d = let kept = keeps d.2 in (y, ns, (d.0, exhausted d.1, ap (λ x. beside x y ns) d.2), kept.0, kept.1)
    deletes p (Err other) d = absurd d

    pub flushes : (r : Result ℕ Refusal) → Flushes t f g c s r z → Follows R N z (Flushes u f g c v r)
    flushes (Ok zero) d =
        let kept = keeps (d.1 refl) in
        (y, ns, (d.0, (λ none. ap (λ x. beside x y ns) (d.1 none)), (λ some. absurd (omega (arith, some)))), kept.0, kept.1)
    flushes (Ok (suc n)) d =
        let is = shrinks empty (d.2 (omega arith)) in
        (is.0, is.1, (d.0, (λ none. absurd (omega (arith, none))), (λ _. is.2)), is.3, is.4)
    flushes (Err Exhausted) d = let kept = keeps d.2 in (y, ns, (d.0, exhausted d.1, ap (λ x. beside x y ns) d.2), kept.0, kept.1)
    flushes (Err other) d = absurd d

    pub frees : (max : ℕ) (r : Reclaimed) → Frees t s max r z → Follows R N z (Frees u v max r)
    frees max r d =
        let is = reclaims s.readers z.readers y max s.limbo ns r.freed r.stopped z.limbo rel named d.0 in
        (is.0, is.1, (is.2, ap (λ x. beside x is.0 is.1) d.1), is.4.0, is.3)

pub changes_carry_over : ChangesCarryOver
changes_carry_over X Y t u R N carries f g c s y ns rel named = record {
  adds = λ z p h r. adds X Y t u R N carries f g c s z y ns rel named p h r;
  deletes = λ z p r. deletes X Y t u R N carries f g c s z y ns rel named p r;
  flushes = λ z r. flushes X Y t u R N carries f g c s z y ns rel named r;
  frees = λ z max r. frees X Y t u R N carries f g c s z y ns rel named max r;
}

-- What each part of a change leaves true of what is kept, each whole change does.

pub record Keeps {X : Type 0} (t : Transitions X) (P : X → Type 0) : Type 0 where
  pub checks : (x : X) (name : ℕ) (r : Result (Unit {0}) Busy) (z : X) → P x → t.checks x name r z → P z
  pub begins : (x z : X) → P x → t.begins x z → P z
  pub unlinks : (x : X) (name : ℕ) (z : X) → P x → t.unlinks x name z → P z
  pub ends : (x z : X) → P x → t.ends x z → P z

-- what is kept beside it is the token number alone, of which nothing else is asked
abbrev pub tokens_alone : Transitions ℕ
tokens_alone = record {
  checks = λ x name r z. Unit {0};
  begins = λ x z. Unit {0};
  unlinks = λ x name z. Unit {0};
  ends = λ x z. Unit {0};
  token = λ x. x;
}

abbrev pub IsKept : {X : Type 0} → Transitions X → (X → Type 0) → X → ℕ → Type 0
IsKept t P x token = P x × (token ≡ t.token x)

abbrev pub AnyName : {X : Type 0} → X → ℕ → ℕ → ℕ → Type 0
AnyName x token m n = Unit {0}

named_any : (ms : List ℕ) → AreNamed (λ m n. Unit {0}) ms ms
named_any [] = tt
named_any (m ∷ ms) = (tt, named_any ms)

keeps_carry : {X : Type 0} (t : Transitions X) (P : X → Type 0) → Keeps t P → Carries t tokens_alone (IsKept t P) AnyName
keeps_carry t P keeps = record {
  token = λ x token h. h.1;
  checks = λ x z y m n r h any d. (t.token z, tt, ((keeps.checks x m r z h.0 d, refl), λ m n name. name));
  begins = λ x z y h d. (t.token z, tt, ((keeps.begins x z h.0 d, refl), λ m n name. name));
  unlinks = λ x z y m h d. (t.token z, m, tt, tt, ((keeps.unlinks x m z h.0 d, refl), λ m n name. name));
  ends = λ x z y h d. (t.token z, tt, ((keeps.ends x z h.0 d, refl), λ m n name. name));
}

pub changes_keep : {X : Type 0} (t : Transitions X) (P : X → Type 0) → Keeps t P → (f g : ℕ) (c : Config) (s : State X) → P s.readers
    → AreFollowed t tokens_alone (IsKept t P) AnyName f g c s (beside s (t.token s.readers) s.limbo)
changes_keep {X} t P keeps f g c s holds =
    changes_carry_over X ℕ t tokens_alone (IsKept t P) AnyName (keeps_carry t P keeps) f g c s (t.token s.readers) s.limbo (holds, refl) (named_any s.limbo)
