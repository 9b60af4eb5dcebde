-- Rules that are put in by the order of their prefixes, each prefix once.
use Rattle.std.proofs.Common.{◌≡◌, ◌∙◌, ap, sym, refl, ℕ, suc, ◌+◌, ◌<◌, Bool, true, false, cond, Option, Some, None, List, [], ◌∷◌, ◌++◌, length, map, get_or, drop, arith}
use Rattle.std.proofs.Math.Seq.{drop-cons}
use Rattle.std.proofs.lemmas.Bool.{and_parts, eqb-true}
use Rattle.std.specs.Prelude.{◌&&◌, IsTrue, nat_eq}
use Rattle.std.specs.Ordering.{eq_by_cmp}
use Rattle.std.specs.FinMap.{get, insert, empty, get-empty, get-insert, same_map}
use Rattle.lpm_bits.specs.Network.{Network}
use Rattle.lpm_rules.specs.RuleMap.{RuleMap, network_cmp, with_rules, rules_of}
use Rattle.lpm_rules.specs.declared.Rule.{Rule}
use Rattle.lpm_rules.proofs.Views.{networks_total, exact_networks}
use Rattle.route_text.specs.declared.routes.Route.{Route}
use Rattle.lpm_commands.specs.Load.{rule_of}

-- ---- the rules of routes, one list after another

pub with_routes-append : (R : RuleMap) (xs ys : List Route) → with_rules R (map rule_of (xs ++ ys)) ≡ with_rules (with_rules R (map rule_of xs)) (map rule_of ys)
with_routes-append R [] ys = refl
with_routes-append R (x ∷ xs) ys = with_routes-append (insert R x.prefix x.hop) xs ys

-- ---- over other rules

-- the first that there is
abbrev first_of : Option ℕ → Option ℕ → Option ℕ
first_of (Some h) other = Some h
first_of None other = other

first_of_cond : (t : Bool) (h : ℕ) (x y o : Option ℕ) → x ≡ first_of y o → cond t (Some h) x ≡ first_of (cond t (Some h) y) o
first_of_cond true h x y o same = refl
first_of_cond false h x y o same = same

-- a prefix has the hop of the list, or else the one that it had
over : (R S B : RuleMap) (rs : List (Rule 24 8)) → ((p : Network) → get R p ≡ first_of (get S p) (get B p)) → (p : Network) → get (with_rules R rs) p ≡ first_of (get (with_rules S rs) p) (get B p)
over R S B [] same p = same p
over R S B (r ∷ rs) same p = over (insert R r.prefix r.hop) (insert S r.prefix r.hop) B rs (λ q.
    get-insert networks_total R r.prefix r.hop q
    ∙ (first_of_cond (eq_by_cmp network_cmp q r.prefix) r.hop (get R q) (get S q) (get B q) (same q)
    ∙ sym (ap (λ (o : Option ℕ). first_of o (get B q)) (get-insert networks_total S r.prefix r.hop q)))) p

none_first : (R : RuleMap) (q : Network) → first_of (get (empty {K = Network} {X = ℕ} {R = network_cmp}) q) (get R q) ≡ get R q
none_first R q = ap (λ (o : Option ℕ). first_of o (get R q)) (get-empty network_cmp q)

-- lists of the same rules do the same to any rules
pub over_same : (R : RuleMap) (xs ys : List (Rule 24 8)) → rules_of xs ≡ rules_of ys → with_rules R xs ≡ with_rules R ys
over_same R xs ys same = same_map networks_total exact_networks _ _ (λ p.
    over R empty R xs (λ q. sym (none_first R q)) p
    ∙ (ap (λ (S : RuleMap). first_of (get S p) (get R p)) same
    ∙ sym (over R empty R ys (λ q. sym (none_first R q)) p)))

-- ---- the last rule of each prefix

cond_twice : (t : Bool) (g h : ℕ) (o : Option ℕ) → cond t (Some h) (cond t (Some g) o) ≡ cond t (Some h) o
cond_twice true g h o = refl
cond_twice false g h o = refl

insert_twice : (R : RuleMap) (p : Network) (g h : ℕ) → insert (insert R p g) p h ≡ insert R p h
insert_twice R p g h = same_map networks_total exact_networks _ _ (λ q.
    get-insert networks_total (insert R p g) p h q
    ∙ (ap (λ (o : Option ℕ). cond (eq_by_cmp network_cmp q p) (Some h) o) (get-insert networks_total R p g q)
    ∙ (cond_twice (eq_by_cmp network_cmp q p) g h (get R q)
    ∙ sym (get-insert networks_total R p h q))))

-- a prefix is told by its bits and its length
pub same_network : (p q : Network) (b : Bool) → b ≡ (nat_eq p.bits q.bits && nat_eq p.len q.len) → IsTrue b → p ≡ q
same_network p q b is test =
    let parts = and_parts (nat_eq p.bits q.bits) (nat_eq p.len q.len) (sym is ∙ test) in
    let bits = eqb-true p.bits q.bits parts.0 in
    let len = eqb-true p.len q.len parts.1 in
    λ i. record { bits = bits i; len = len i }

-- the rules from this one on
drop_read : (rs : List (Rule 24 8)) (i : ℕ) (r : Rule 24 8) → i < length rs → r ≡ get_or rs i r → drop i rs ≡ r ∷ drop (i + 1) rs
drop_read rs i r within read =
    let next : suc i ≡ i + 1 = omega arith in
    drop-cons rs i r within
    ∙ (ap (λ (x : Rule 24 8). x ∷ drop (suc i) rs) (sym read) ∙ ap (λ (n : ℕ). r ∷ drop n rs) next)

-- a rule before another of its prefix may be left out
pub replaced : (rs : List (Rule 24 8)) (i : ℕ) (r s : Rule 24 8) → i + 1 < length rs → r ≡ get_or rs i r → s ≡ get_or rs (i + 1) s → s.prefix ≡ r.prefix → (R : RuleMap) → with_rules R (drop i rs) ≡ with_rules R (drop (i + 1) rs)
replaced rs i r s within first second same R =
    let next : drop (i + 1) rs ≡ s ∷ drop (i + 1 + 1) rs = drop_read rs (i + 1) s within second in
    let rest = drop (i + 1 + 1) rs in
    let one : with_rules R (drop i rs) ≡ with_rules R (r ∷ drop (i + 1) rs) = ap (λ (l : List (Rule 24 8)). with_rules R l) (drop_read rs i r (omega (arith, within)) first) in
    let two : with_rules R (r ∷ drop (i + 1) rs) ≡ with_rules R (r ∷ s ∷ rest) = ap (λ (l : List (Rule 24 8)). with_rules R (r ∷ l)) next in
    let put : insert (insert R r.prefix r.hop) s.prefix s.hop ≡ insert R s.prefix s.hop = ap (λ (p : Network). insert (insert R r.prefix r.hop) p s.hop) same ∙ (insert_twice R r.prefix r.hop s.hop ∙ sym (ap (λ (p : Network). insert R p s.hop) same)) in
    let both : with_rules R (r ∷ s ∷ rest) ≡ with_rules R (s ∷ rest) = ap (λ (Q : RuleMap). with_rules Q rest) put in
    one ∙ (two ∙ (both ∙ sym (ap (λ (l : List (Rule 24 8)). with_rules R l) next)))

-- one more rule that was put in
pub put_in : (rs : List (Rule 24 8)) (i : ℕ) (r : Rule 24 8) → i < length rs → r ≡ get_or rs i r → (R : RuleMap) → with_rules R (drop i rs) ≡ with_rules (insert R r.prefix r.hop) (drop (i + 1) rs)
put_in rs i r within read R = ap (λ (l : List (Rule 24 8)). with_rules R l) (drop_read rs i r within read)
