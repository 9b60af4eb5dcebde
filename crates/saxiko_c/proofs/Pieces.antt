-- Lookups of many addresses.
use Rattle.std.proofs.Common.{ℕ, ◌≡◌, false, List, Option, None, Some, set, get_or, unwrap_or, ap, sym, ◌∙◌, subst, ◌-◌, ◌≤◌, length, length-drop, map, take, drop, arith}
use Rattle.std.specs.Prelude.{slice_get, min}
use Rattle.std.specs.List.{AllZip}
use Rattle.std.proofs.Math.Nat.{min-eq_left}
use Rattle.std.proofs.lemmas.List.{set-set, set-get_or, take_all}
use Rattle.std.proofs.lemmas.Option.{unwrap_or-slice_get}
use Rattle.shared_fib.specs.Passes.{PassState}
use Rattle.saxiko_c.specs.RunningTable.{StagedOwner}
use Rattle.shared_fib.specs.Bursts.{LooksUpBurst}
use Rattle.shared_fib.specs.RunningTable.{hop_or}

-- A reader that is handed out and taken back at once.

-- what stood at a place is put back
pub set_back : {X : Type 0} (xs : List X) (k : ℕ) (x y : X) → slice_get xs k ≡ Some y → set (set xs k x) k y ≡ xs
set_back {X} xs k x y e =
    let same : get_or xs k y ≡ y = sym (unwrap_or-slice_get xs k y) ∙ ap (λ (o : Option X). unwrap_or o y) e in
    set-set xs k x y ∙ subst (λ (z : X). set xs k z ≡ xs) same (set-get_or xs k y)

-- the owner is as it was before
pub as_before : (o p q : StagedOwner) (k : ℕ) (reader given left : PassState) → given ≡ reader → reader.worker ≡ k
    → reader.online ≡ false → slice_get o.bench k ≡ Some (Some reader) → p.bench ≡ set o.bench k None
    → p.writer ≡ o.writer → p.waits ≡ o.waits → q.bench ≡ set p.bench given.worker (Some left)
    → (given.online ≡ false → left ≡ given) → q.writer ≡ p.writer → q.waits ≡ p.waits → q ≡ o
as_before o p q k reader given left same worker offline was handed pw ps back leaves qw qs =
    let at : given.worker ≡ k = ap (λ (r : PassState). r.worker) same ∙ worker in
    let is : left ≡ reader = leaves (ap (λ (r : PassState). r.online) same ∙ offline) ∙ same in
    let bench : q.bench ≡ o.bench = back
    ∙ ap (λ (n : ℕ). set p.bench n (Some left)) at
    ∙ ap (λ (r : PassState). set p.bench k (Some r)) is
    ∙ ap (λ (xs : List (Option PassState)). set xs k (Some reader)) handed
    ∙ set_back o.bench k None (Some reader) was in
    let writer = qw ∙ pw in
    let waits = qs ∙ ps in
    λ i. record { writer = writer i; waits = waits i; bench = bench i }

-- as many addresses are looked up as there are, where there is as much room
pub as_many : (count addrs room : ℕ) → addrs ≡ room → count ≡ min addrs room → count ≡ addrs
as_many count addrs room same is = is ∙ min-eq_left (omega (arith, same))

-- each address is answered
pub all_answered : (R : ℕ → ℕ → Type 0) (addrs before after : List ℕ) (count : ℕ) → length addrs ≡ length before
    → count ≡ length addrs → AllZip R (take count addrs) (take count after) → drop count after ≡ drop count before
    → AllZip R addrs after
all_answered R addrs before after count same all answers rest =
    let none : length after - count ≡ length before - count = sym (length-drop count after) ∙ ap length rest ∙ length-drop count before in
    let few : length after ≤ count = omega (arith, none, same, all) in
    subst (λ xs. AllZip R xs after) (take_all count addrs (omega (arith, all)))
    (subst (AllZip R (take count addrs)) (take_all count after few) answers)

-- all addresses were looked up
pub all_found : (default : ℕ) (addrs hops : List ℕ) (n lo hi : ℕ) (p q : PassState)
    → length addrs ≤ n → length hops ≤ n
    → ((found : List (Option ℕ)) × LooksUpBurst (take n addrs) found lo hi p q
    × (take n hops ≡ map (hop_or default) found))
    → (found : List (Option ℕ)) × LooksUpBurst addrs found lo hi p q × (hops ≡ map (hop_or default) found)
all_found default addrs hops n lo hi p q few few_hops h = (
  h.0,
  subst (λ (xs : List ℕ). LooksUpBurst xs h.0 lo hi p q) (take_all n addrs few) h.1,
  sym (take_all n hops few_hops) ∙ h.2,
)
