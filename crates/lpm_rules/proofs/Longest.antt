-- The last change of a prefix decides its rule.
use Rattle.std.proofs.Common.{◌≡◌, ◌∙◌, ap, refl, ℕ, List, [], ◌∷◌, ◌++◌, inl, inr, arith, ◌+◌, ◌-◌, ◌*◌, ◌/◌, ◌^◌, sym, subst, Option, Some, None, length, suc}
use Rattle.std.specs.Prelude.{All, IsSome}
use Rattle.std.specs.FinMap.{get, get-empty}
use Rattle.std.proofs.lemmas.List.Elements.{All-head, All-tail}
use Rattle.std.proofs.lemmas.List.Sums.{fold-append}
use Rattle.lpm_bits.specs.Network.{Network, Covers, IsNetwork, network_bits, prefix_of}
use Rattle.lpm_rules.specs.RuleMap.{RuleMap, network_cmp, AllNetworks}
use Rattle.lpm_rules.specs.declared.Change.{Change}
use Rattle.lpm_rules.specs.declared.Rule.{Rule}
use Rattle.lpm_rules.specs.declared.Change.TheVariants.{Add, Delete, Flush, Reclaim, Synchronize}
use Rattle.lpm_rules.specs.Changes.{rules_with, rules_after, Spares, SparedIsKept, LastAdditionDecides, LastDeletionDecides, LastFlushDecides}
use Rattle.lpm_rules.proofs.Views.{insert_cases, insert_here, remove_cases, remove_here, not_some}
use Rattle.std.proofs.lemmas.Bool.{cases_lt}
use Rattle.std.proofs.lemmas.Nat.{shl-shr}
use Rattle.lpm_rules.specs.Longest.{IsLongestHop, AreLongestHops, IsCoverRule, IsMatch, HasOneLongestHop, HasOneCover}

pub rules_after-append : (f s : ℕ) (R : RuleMap) (xs ys : List (Change f s)) → rules_after R (xs ++ ys) ≡ rules_after (rules_after R xs) ys
rules_after-append f s R xs ys = fold-append (λ (x : RuleMap) (c : Change f s). rules_with x c) R xs ys

kept : (f s : ℕ) (R : RuleMap) (p : Network) (c : Change f s) → Spares p c → get (rules_with R c) p ≡ get R p
kept f s R p (Add q h) other = elim (insert_cases R q h p) [ inl here ↦ absurd (other here.0) | inr same ↦ same ]
kept f s R p (Delete q) other = elim (remove_cases R q p) [ inl here ↦ absurd (other here.0) | inr same ↦ same ]
kept f s R p Flush other = absurd other
kept f s R p (Reclaim n) other = refl
kept f s R p Synchronize other = refl

pub spared_is_kept : SparedIsKept
spared_is_kept f s R p [] all = refl
spared_is_kept f s R p (c ∷ more) all = spared_is_kept f s (rules_with R c) p more (All-tail (Spares p) c more all) ∙ kept f s R p c (All-head (Spares p) c more all)

last : (f s : ℕ) (R : RuleMap) (p : Network) (c : Change f s) (xs ys : List (Change f s)) → All (Spares p) ys → get (rules_after R (xs ++ c ∷ ys)) p ≡ get (rules_with (rules_after R xs) c) p
last f s R p c xs ys all = ap (λ (x : RuleMap). get x p) (rules_after-append f s R xs (c ∷ ys)) ∙ spared_is_kept f s (rules_with (rules_after R xs) c) p ys all

pub last_addition_decides : LastAdditionDecides
last_addition_decides f s R p h before after all = last f s R p (Add p h) before after all ∙ insert_here (rules_after R before) p h

pub last_deletion_decides : LastDeletionDecides
last_deletion_decides f s R p before after all = last f s R p (Delete p) before after all ∙ remove_here (rules_after R before) p

pub last_flush_decides : LastFlushDecides
last_flush_decides f s R p before after all = last f s R p Flush before after all ∙ get-empty network_cmp p

-- the one prefix of a length that covers an address
pub network_at : (width a : ℕ) (q : Network) → IsNetwork width q → Covers width q a → q ≡ record { bits = network_bits width q.len a; len = q.len }
network_at width a q n c =
    let bits : q.bits ≡ network_bits width q.len a = sym n.2 ∙ ap (λ x. x * 2 ^ (width - q.len)) (sym c) in
    λ i. record { bits = bits i; len = q.len }

-- the prefix of each length covers the address that it was made of
pub covers_masked : (width len a : ℕ) → Covers width (record { bits = network_bits width len a; len = len }) a
covers_masked width len a = sym (shl-shr (a / 2 ^ (width - len)) (width - len))

-- two rules of one length that cover an address are one
pub same_length : (width a : ℕ) (p q : Network) → IsNetwork width p → IsNetwork width q → Covers width p a → Covers width q a → p.len ≡ q.len → p ≡ q
same_length width a p q np nq cp cq e =
    network_at width a p np cp ∙ ap (λ n. record { bits = network_bits width n a; len = n }) e ∙ sym (network_at width a q nq cq)

-- a rule that covers the address is that of the prefix of the address of its length
has_rule : (width a : ℕ) (R : RuleMap) (q : Network) → AllNetworks width R → IsSome (get R q) → Covers width q a → get R (prefix_of width q.len a) ≡ None → ⊥
has_rule width a R q nets some cov none = not_some (ap (get R) (network_at width a q (nets q some) cov) ∙ none) some

-- no prefix of the address has a rule, so none covers it
pub none_matches : (first second a : ℕ) (R : RuleMap) → AllNetworks (first + second) R → IsMatch first second R a None → IsLongestHop (first + second) R a None
none_matches first second a R nets none q some cov = has_rule (first + second) a R q nets some cov (none q.len (nets q some).0)

-- the rule that answers the address is the longest that covers it
pub hop_of_match : (first second a : ℕ) (R : RuleMap) (rule : Rule first second) → AllNetworks (first + second) R → IsMatch first second R a (Some rule) → IsLongestHop (first + second) R a (Some rule.hop)
hop_of_match first second a R rule nets is = (
  rule.prefix,
  is.0,
  record {
    covers = subst (λ (p : Network). Covers (first + second) p a) (sym is.1) (covers_masked (first + second) rule.prefix.len a);
    longest = λ q some cov. elim (cases_lt rule.prefix.len q.len) [
      | inl longer ↦ absurd (has_rule (first + second) a R q nets some cov (is.2 q.len longer (nets q some).0))
      | inr within ↦ within
    ];
  },
)

hop_of : (R : RuleMap) (p q : Network) (x y : ℕ) → p ≡ q → get R p ≡ Some x → get R q ≡ Some y → x ≡ y
hop_of R p q x y e gx gy =
    let s : Some x ≡ Some y = sym gx ∙ ap (get R) e ∙ gy in
    cc

is_some_of : (R : RuleMap) (p : Network) (x : ℕ) → get R p ≡ Some x → IsSome (get R p)
is_some_of R p x e = subst IsSome (sym e) refl

pub one_longest_hop : HasOneLongestHop
one_longest_hop width R a None None nets lx ly = refl
one_longest_hop width R a None (Some y) nets lx ly = absurd (lx ly.0 (is_some_of R ly.0 y ly.1) ly.2.covers)
one_longest_hop width R a (Some x) None nets lx ly = absurd (ly lx.0 (is_some_of R lx.0 x lx.1) lx.2.covers)
one_longest_hop width R a (Some x) (Some y) nets lx ly =
    let sx = is_some_of R lx.0 x lx.1 in
    let sy = is_some_of R ly.0 y ly.1 in
    let up = lx.2.longest ly.0 sy ly.2.covers in
    let down = ly.2.longest lx.0 sx lx.2.covers in
    let same = same_length width a lx.0 ly.0 (nets lx.0 sx) (nets ly.0 sy) lx.2.covers ly.2.covers (omega (arith, up, down)) in
    ap Some (hop_of R lx.0 ly.0 x y same lx.1 ly.1)

pub one_cover_rule : (width : ℕ) (R : RuleMap) (p c d : Network) (x y : ℕ) → AllNetworks width R → IsCoverRule width R p c x → IsCoverRule width R p d y → (c ≡ d) × (x ≡ y)
one_cover_rule width R p c d x y nets lx ly =
    let sx = is_some_of R c x lx.rule in
    let sy = is_some_of R d y ly.rule in
    let up = lx.longest d sy ly.shorter ly.covers in
    let down = ly.longest c sx lx.shorter lx.covers in
    let same = same_length width p.bits c d (nets c sx) (nets d sy) lx.covers ly.covers (omega (arith, up, down)) in
    (same, hop_of R c d x y same lx.rule ly.rule)

pub one_cover : HasOneCover
one_cover width R p None None nets lx ly = refl
one_cover width R p None (Some y) nets lx ly = absurd (lx y.0 (is_some_of R y.0 y.1 ly.rule) ly.shorter ly.covers)
one_cover width R p (Some x) None nets lx ly = absurd (ly x.0 (is_some_of R x.0 x.1 lx.rule) lx.shorter lx.covers)
one_cover width R p (Some x) (Some y) nets lx ly =
    let same = one_cover_rule width R p x.0 y.0 x.1 y.1 nets lx ly in
    λ i. Some (same.0 i, same.1 i)

-- the answers to a list of addresses, one more at its end
pub AreLongestHops-append : (width : ℕ) (R : RuleMap) (addrs : List ℕ) (hops : List (Option ℕ)) (addr : ℕ) (hop : Option ℕ)
    → AreLongestHops width R addrs hops → IsLongestHop width R addr hop → AreLongestHops width R (addrs ++ addr ∷ []) (hops ++ hop ∷ [])
AreLongestHops-append width R [] [] addr hop done this = (this, tt)
AreLongestHops-append width R [] (h ∷ hops) addr hop done this = absurd done
AreLongestHops-append width R (a ∷ addrs) [] addr hop done this = absurd done
AreLongestHops-append width R (a ∷ addrs) (h ∷ hops) addr hop done this = (done.0, AreLongestHops-append width R addrs hops addr hop done.1 this)

pub length-AreLongestHops : (width : ℕ) (R : RuleMap) (addrs : List ℕ) (hops : List (Option ℕ)) → AreLongestHops width R addrs hops → length hops ≡ length addrs
length-AreLongestHops width R [] [] done = refl
length-AreLongestHops width R [] (h ∷ hops) done = absurd done
length-AreLongestHops width R (a ∷ addrs) [] done = absurd done
length-AreLongestHops width R (a ∷ addrs) (h ∷ hops) done = ap (λ n. suc n) (length-AreLongestHops width R addrs hops done.1)
