-- What has been passed stays passed, and is not stored again.
use Rattle.std.proofs.Common.{arith, ◌≡◌, ℕ, ◌+◌, ◌*◌, ◌/◌, ◌%◌, ◌^◌, ◌<◌, ◌≤◌, inl, inr, refl, ap, sym, ◌∙◌, subst, List, Option}
use Rattle.std.specs.Prelude.{slice_index}
use Rattle.std.proofs.lemmas.Bool.{cases_Bool}
use Rattle.std.proofs.lemmas.Nat.{pow_pos, mod_below, shr_below, shr_split, same_from_place}
use Rattle.lpm_cells.specs.declared.entry.Entry.TheVariants.{Group}
use Rattle.lpm_cells.specs.Words.{entry_in, group_in, Words}
use Rattle.lpm_update.specs.declared.Did.{Did}
use Rattle.lpm_update.specs.declared.Did.TheVariants.{First, Second, Unlinked, Done}
use Rattle.lpm_update.specs.declared.rewrite_range.RewriteRange.{RewriteRange}
use Rattle.lpm_update.specs.declared.link_group.LinkGroup.{LinkGroup}
use Rattle.lpm_update.specs.declared.unlink_group.UnlinkGroup.{UnlinkGroup}
use Rattle.lpm_update.specs.declared.update.Plan.{Plan}
use Rattle.lpm_update.specs.declared.update.Plan.TheVariants.{Range, Link, Unlink, Flush}
use Rattle.lpm_update.specs.BlockGroups.{IsTable, IsLinkTo, group_at}
use Rattle.lpm_update.specs.Kinds.{IsRewriting, IsSecondStore, IsUnlinking}
use Rattle.lpm_update.specs.Update.{IsUnderWay, IsOnward, IsNextFirst, IsNextSecond, IsNextUnlink, HasPassedFirst, HasPassedSecond, IsSecondBefore, SameGroups}
use Rattle.lpm_update.specs.Step.{Steps, StoresNext, HasPassed, HeldAlong}
use Rattle.lpm_update.specs.Laws.{IsSameWord}
use Rattle.lpm_update.proofs.Unlinks.{some_group, both_ways}
use Rattle.lpm_update.proofs.Onward.{by_kind}

-- ---- what is passed stays so

first_stays : (s i : ℕ) (u v : Plan) → IsOnward u v → HasPassedFirst s u i → HasPassedFirst s v i
first_stays s i = by_kind (λ x y. HasPassedFirst s x i → HasPassedFirst s y i)
    (λ x y o p. let a = o.at in omega (arith, a, p))
    (λ x y o p. let a = o.1 in omega (arith, a, p))
    (λ x y o p. elim p [
      | inl before ↦ let a = o.0.at in let l = before.0 in inl (omega (arith, a, l), λ q. before.1 (q ∙ o.1))
      | inr gone ↦ inr (o.2 gone)
    ])
    (λ x y o p. omega (arith, o, p))

-- along a store that leaves each block its group
second_along : (f s at next j end : ℕ) (F F' : List ℕ) → at ≤ next → at ≤ end → end ≤ 2 ^ (f + s) → ((b : ℕ) → b < 2 ^ f → group_at F' b ≡ group_at F b) → IsSecondBefore s at F j → IsSecondBefore s next F' j
second_along f s at next j end F F' on within fits same p =
    let before = p.2 in
    let block = shr_below p.1 f s (omega (arith, before, within, fits)) in
    (p.0, p.1, omega (arith, on, before), some_group (entry_in (slice_index F' (p.1 / 2 ^ s))) p.0 (same (p.1 / 2 ^ s) block ∙ ap group_in p.3), p.4)

-- a step that unlinks nothing leaves each block the group that it holds
pub held_same : (f : ℕ) (did : Did) (L M : ℕ → Option ℕ) → ((b g : ℕ) → did ≡ Unlinked b g → ⊥) → HeldAlong f did L M → SameGroups f L M
held_same f (First i) L M n h = h
held_same f (Second j) L M n h = h
held_same f (Unlinked b g) L M n h = absurd (n b g refl)
held_same f Done L M n h = h

module _ (f s : ℕ) (z z' : Words) (j : ℕ) where
  range_stays : (u v : RewriteRange) (e : Did) → IsOnward (Range u) (Range v) → IsUnderWay f s (Range u) z → HasPassedSecond s (Range u) z.firsts j → Steps f s (Range u) z e (Range v) z'
      → HasPassedSecond s (Range v) z'.firsts j
  range_stays u v e o k p h = second_along f s u.at v.at j u.end z.firsts z'.firsts o.at k.within k.fits
      (held_same f e (group_at z.firsts) (group_at z'.firsts) (λ b g q. (subst (λ d. StoresNext f s d (Range u) z (Range v) z') q h.stored).0) h.held) p

  unlink_stays : (u v : UnlinkGroup) (e : Did) → IsOnward (Unlink u) (Unlink v) → IsUnlinking f s u.range u.block z → IsSecondBefore s u.range.at z.firsts j → Steps f s (Unlink u) z e (Unlink v) z'
      → HasPassedSecond s (Unlink v) z'.firsts j
  unlink_stays u v (First i) o k p h = inl (second_along f s u.range.at v.range.at j u.range.end z.firsts z'.firsts o.0.at k.rewriting.within k.rewriting.fits h.held p)
  unlink_stays u v (Second i) o k p h = inl (second_along f s u.range.at v.range.at j u.range.end z.firsts z'.firsts o.0.at k.rewriting.within k.rewriting.fits h.held p)
  unlink_stays u v (Unlinked b g) o k p h = elim h.passed [
    | inl apart ↦ absurd (apart.1 (h.stored.0.1 ∙ sym o.1))
    | inr gone ↦ inr gone
  ]
  unlink_stays u v Done o k p h = inl (second_along f s u.range.at v.range.at j u.range.end z.firsts z'.firsts o.0.at k.rewriting.within k.rewriting.fits h.held p)

  second_stays : (v v' : Plan) (e : Did) → IsUnderWay f s v z → HasPassedSecond s v z.firsts j → Steps f s v z e v' z' → HasPassedSecond s v' z'.firsts j
  second_stays v v' e k p h = by_kind (λ x y. IsUnderWay f s x z → HasPassedSecond s x z.firsts j → Steps f s x z e y z' → HasPassedSecond s y z'.firsts j)
      (λ x y o k p h. range_stays x y e o k p h)
      (λ x y o k p h.
      let a = o.1 in
      let same : y.group ≡ x.group = ap (λ (w : LinkGroup). w.group) o.0 in
      let base : y.group * 2 ^ s ≡ x.group * 2 ^ s = ap (λ w. w * 2 ^ s) same in
      omega (arith, a, base, p))
      (λ x y o k p h. elim p [
        | inr gone ↦ inr (o.2 gone)
        | inl before ↦ elim (cases_Bool x.unlinked) [
          | inl gone ↦ inr (o.2 gone)
          | inr still ↦ unlink_stays x y e o (k.0 still) before h
        ]
      ])
      (λ x y o k p h. absurd p)
      v v' h.onward k p h

-- what a step stored stays passed
pub passed_stays : (f s : ℕ) (d e : Did) (v v' : Plan) (z z' : Words) → IsUnderWay f s v z → HasPassed s d v z.firsts → Steps f s v z e v' z' → HasPassed s d v' z'.firsts
passed_stays f s (First i) e v v' z z' k p h = first_stays s i v v' h.onward p
passed_stays f s (Second j) e v v' z z' k p h = second_stays f s z z' j v v' e k p h
passed_stays f s (Unlinked b g) e v v' z z' k p h = first_stays s b v v' h.onward p
passed_stays f s Done e v v' z z' k p h = tt

-- ---- what is passed is not stored

not_first : (f s : ℕ) (v : Plan) (z : Words) (i w : ℕ) → HasPassedFirst s v i → IsNextFirst f s v z i w → ⊥
not_first f s (Range u) z i w p n = let l = n.low in omega (arith, l, p)
not_first f s (Link u) z i w p n = let e = n.0 in omega (arith, e, p)
not_first f s (Unlink u) z i w p n = elim p [
  | inl before ↦ let l = n.1.low in let b = before.0 in omega (arith, l, b)
  | inr gone ↦ both_ways u.unlinked gone n.0
]
not_first f s (Flush u) z i w p n = let l = n.0.low in omega (arith, l, p)

not_unlink : (f s : ℕ) (v : Plan) (z : Words) (b g w : ℕ) → HasPassedFirst s v b → IsNextUnlink f s v z b g w → ⊥
not_unlink f s (Range u) z b g w p n = n
not_unlink f s (Link u) z b g w p n = n
not_unlink f s (Unlink u) z b g w p n = elim p [
  | inl before ↦ before.1 n.1
  | inr gone ↦ both_ways u.unlinked gone n.0
]
not_unlink f s (Flush u) z b g w p n = let l = n.0.low in omega (arith, l, p)

-- two addresses whose words are at one place of a group are one
one_address : (f s : ℕ) (W : Words) (g x h y j : ℕ) → IsTable f s W → x / 2 ^ s < 2 ^ f → y / 2 ^ s < 2 ^ f → IsLinkTo W.firsts (x / 2 ^ s) g → IsLinkTo W.firsts (y / 2 ^ s) h
    → j ≡ g * 2 ^ s + x % 2 ^ s → j ≡ h * 2 ^ s + y % 2 ^ s → x ≡ y
one_address f s W g x h y j t lx ly ex ey px py =
    let both = same_from_place g (x % 2 ^ s) h (y % 2 ^ s) (2 ^ s) (mod_below x (2 ^ s) (pow_pos s)) (mod_below y (2 ^ s) (pow_pos s)) (sym px ∙ py) in
    let same = t.linked_once (x / 2 ^ s) (y / 2 ^ s) g lx ly ex (ey ∙ ap Group (sym both.0)) in
    sym (shr_split x s) ∙ ap (λ k. k * 2 ^ s + x % 2 ^ s) same ∙ ap (λ k. y / 2 ^ s * 2 ^ s + k) both.1 ∙ shr_split y s

range_once : (f s : ℕ) (u : RewriteRange) (z : Words) (g x j w : ℕ) → IsTable f s z → IsRewriting f s u.from u.at u.end u.rewrite z.firsts → IsSecondBefore s u.at z.firsts j
    → IsSecondStore s u.at u.end u.rewrite z g x j w → ⊥
range_once f s u z g x j w t k p n =
    let before = p.2 in
    let low = n.low in
    let high = n.high in
    let within = k.within in
    let fits = k.fits in
    let one = one_address f s z p.0 p.1 g x j t (shr_below p.1 f s (omega (arith, before, within, fits))) (shr_below x f s (omega (arith, high, fits))) p.3 n.group p.4 n.place in
    omega (arith, one, before, low)

not_second : (f s : ℕ) (v : Plan) (z : Words) (j w : ℕ) → IsTable f s z → IsUnderWay f s v z → HasPassedSecond s v z.firsts j → IsNextSecond s v z j w → ⊥
not_second f s (Range u) z j w t k p n = range_once f s u z n.0 n.1 j w t k p n.2
not_second f s (Link u) z j w t k p n = let e = n.1 in omega (arith, e, p)
not_second f s (Unlink u) z j w t k p n = elim p [
  | inl before ↦ range_once f s u.range z n.1.0 n.1.1 j w t (k.0 n.0).rewriting before n.1.2
  | inr gone ↦ both_ways u.unlinked gone n.0
]
not_second f s (Flush u) z j w t k p n = n

pub not_twice : (f s : ℕ) (d e : Did) (v v' : Plan) (z z' : Words) → IsTable f s z → IsUnderWay f s v z → HasPassed s d v z.firsts → StoresNext f s e v z v' z' → IsSameWord d e → ⊥
not_twice f s (First i) (First k) v v' z z' t u p h q = not_first f s v z k _ (subst (HasPassedFirst s v) q p) h.0
not_twice f s (First i) (Unlinked k g) v v' z z' t u p h q = not_unlink f s v z k g _ (subst (HasPassedFirst s v) q p) h.0
not_twice f s (First i) other v v' z z' t u p h q = absurd q
not_twice f s (Second j) (Second k) v v' z z' t u p h q = not_second f s v z k _ t u (subst (HasPassedSecond s v z.firsts) q p) h.0
not_twice f s (Second j) other v v' z z' t u p h q = absurd q
not_twice f s (Unlinked i g) (First k) v v' z z' t u p h q = not_first f s v z k _ (subst (HasPassedFirst s v) q p) h.0
not_twice f s (Unlinked i g) (Unlinked k g') v v' z z' t u p h q = not_unlink f s v z k g' _ (subst (HasPassedFirst s v) q p) h.0
not_twice f s (Unlinked i g) other v v' z z' t u p h q = absurd q
not_twice f s Done e v v' z z' t u p h q = absurd q
