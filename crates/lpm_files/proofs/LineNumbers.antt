-- The line of a route is one of the lines that were read.
use Rattle.std.proofs.Common.{◌≡◌, ℕ, ◌+◌, ◌<◌, ◌≤◌, List, [], ◌∷◌, length, All, sym, subst, arith}
use Rattle.std.proofs.lemmas.List.Elements.{All-nil, All-cons, All-append}
use Rattle.route_text.specs.declared.routes.Route.{Route}
use Rattle.route_text.specs.Files.{fields, StandsFor, AreItems, SpellsRoute}

spelled_line : (n : ℕ) (fs : List (List ℕ)) (route : Route) → SpellsRoute n fs route → route.line ≡ n
spelled_line n [] route is = absurd is
spelled_line n (p ∷ []) route is = absurd is
spelled_line n (p ∷ h ∷ []) route is = is.0
spelled_line n (p ∷ h ∷ f ∷ fs) route is = absurd is

stands_within : (n m : ℕ) (fs : List (List ℕ)) (here : List Route) → n < m → StandsFor SpellsRoute n fs here → All (λ route. route.line < m) here
stands_within n m fs [] lt is = All-nil (λ (route : Route). route.line < m)
stands_within n m fs (a ∷ []) lt is =
    let P : Route → Type 0 = λ route. route.line < m in
    All-cons P a [] (omega (arith, spelled_line n fs a is.1)) (All-nil P)
stands_within n m fs (a ∷ b ∷ more) lt is = absurd is

pub items_within : (n m : ℕ) (ls : List (List ℕ)) (routes : List Route) → n + length ls ≤ m → AreItems SpellsRoute n ls routes → All (λ route. route.line < m) routes
items_within n m [] routes le is = subst (λ (t : List Route). All (λ (route : Route). route.line < m) t) (sym is) (All-nil (λ (route : Route). route.line < m))
items_within n m (l ∷ ls) routes le is =
    let P : Route → Type 0 = λ route. route.line < m in
    let here = stands_within n m (fields l) is.0 (omega arith) is.2 in
    let rest = items_within (n + 1) m ls is.1 (omega arith) is.3 in
    subst (λ (t : List Route). All P t) (sym is.4) (All-append P is.0 is.1 here rest)
