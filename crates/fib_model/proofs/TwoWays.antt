-- Changes by two ways to keep what they depend on: where each part of a change carries a relation over, each whole
-- change does, and comes out the same. No contract can say this of all types, so it stands here.
use Rattle.std.specs.Prelude.{ℕ, ◌≡◌, List, [], ◌∷◌, Result}
use Rattle.lpm_bits.specs.Network.{Network}
use Rattle.lpm_rules.specs.declared.Put.{Put}
use Rattle.lpm_limits.specs.declared.busy.Busy.{Busy}
use Rattle.lpm_limits.specs.declared.config.Config.{Config}
use Rattle.lpm_limits.specs.declared.refusal.Refusal.{Refusal}
use Rattle.defer_queue.specs.declared.Reclaimed.{Reclaimed}
use Rattle.fib_model.specs.State.{State, Transitions}
use Rattle.fib_model.specs.Outcomes.{Adds, Deletes, Flushes, Frees}

-- what is kept then is related too, and two names of one unlinking stay so
abbrev pub IsCarried : {X Y : Type 0} → (X → Y → Type 0) → (X → Y → ℕ → ℕ → Type 0) → X → Y
    → X → Y → Type 0
IsCarried R N x y z w = R z w × ((m n : ℕ) → N x y m n → N z w m n)

-- each part of a change by t is one by u, from related states to related states; R relates what is kept, and N says
-- which names are those of one unlinking
pub record Carries {X Y : Type 0} (t : Transitions X) (u : Transitions Y) (R : X → Y → Type 0)
    (N : X → Y → ℕ → ℕ → Type 0) : Type 0 where
  pub token : (x : X) (y : Y) → R x y → u.token y ≡ t.token x
  pub checks : (x z : X) (y : Y) (m n : ℕ) (r : Result (Unit {0}) Busy) → R x y → N x y m n
      → t.checks x m r z → (w : Y) × u.checks y n r w × IsCarried R N x y z w
  pub begins : (x z : X) (y : Y) → R x y
      → t.begins x z → (w : Y) × u.begins y w × IsCarried R N x y z w
  pub unlinks : (x z : X) (y : Y) (m : ℕ) → R x y
      → t.unlinks x m z → (w : Y) × (n : ℕ) × u.unlinks y n w × N z w m n × IsCarried R N x y z w
  pub ends : (x z : X) (y : Y) → R x y
      → t.ends x z → (w : Y) × u.ends y w × IsCarried R N x y z w

-- the names of two lists, one by one
abbrev pub AreNamed : (ℕ → ℕ → Type 0) → List ℕ → List ℕ → Type 0
AreNamed P [] [] = Unit {0}
AreNamed P (m ∷ ms) (n ∷ ns) = P m n × AreNamed P ms ns
AreNamed P ms ns = ⊥

-- a state with the same rules and as many updates
abbrev pub beside : {X Y : Type 0} → State X → Y → List ℕ → State Y
beside s y limbo = record { rules = s.rules; readers = y; limbo = limbo; updates_begun = s.updates_begun }

-- some state beside z, related to it, is as D says
abbrev pub Follows : {X Y : Type 0} → (X → Y → Type 0) → (X → Y → ℕ → ℕ → Type 0) → State X
    → (State Y → Type 0) → Type 0
Follows {X} {Y} R N z D = (y : Y) × (limbo : List ℕ) × D (beside z y limbo)
    × R z.readers y × AreNamed (N z.readers y) z.limbo limbo

-- each change of s by t is one of v by u, with the same outcome
pub record AreFollowed {X Y : Type 0} (t : Transitions X) (u : Transitions Y)
    (R : X → Y → Type 0) (N : X → Y → ℕ → ℕ → Type 0) (f g : ℕ) (c : Config) (s : State X)
    (v : State Y) : Type 0 where
  pub adds : (z : State X) (p : Network) (h : ℕ) (r : Result Put Refusal)
      → Adds t f g c s p h r z → Follows R N z (Adds u f g c v p h r)
  pub deletes : (z : State X) (p : Network) (r : Result ℕ Refusal)
      → Deletes t f g c s p r z → Follows R N z (Deletes u f g c v p r)
  pub flushes : (z : State X) (r : Result ℕ Refusal)
      → Flushes t f g c s r z → Follows R N z (Flushes u f g c v r)
  pub frees : (z : State X) (max : ℕ) (r : Reclaimed)
      → Frees t s max r z → Follows R N z (Frees u v max r)

-- where each part of a change carries a relation over, each whole change does
abbrev pub ChangesCarryOver : Type 1
ChangesCarryOver = (X Y : Type 0) (t : Transitions X) (u : Transitions Y) (R : X → Y → Type 0)
    (N : X → Y → ℕ → ℕ → Type 0) → Carries t u R N → (f g : ℕ) (c : Config) (s : State X) (y : Y)
    (limbo : List ℕ) → R s.readers y → AreNamed (N s.readers y) s.limbo limbo
    → AreFollowed t u R N f g c s (beside s y limbo)
