-- The retired groups of a worked caller, as items are taken and put last.
use Rattle.std.proofs.Common.{arith, ℕ, ◌≡◌, ◌≢◌, ◌<◌, ◌∙◌, List, [], ◌∷◌, ◌++◌, length, get_or, sym, ap}
use Rattle.std.proofs.Math.ListN.{set}
use Rattle.std.proofs.lemmas.List.{get_or-set_other, get_or-set_same}
use Rattle.defer_queue.specs.RetiredGroups.{IsAbsent}
use Rattle.core_tests.specs.RetiredGroups.{AreRetired}

-- a write for a group that has no item
pub AreRetired-set : (tokens : List ℕ) (items : List (ℕ × ℕ)) (group token : ℕ)
    → IsAbsent group items → AreRetired tokens items → AreRetired (set tokens group token) items
AreRetired-set tokens [] group token absent h = tt
AreRetired-set tokens (item ∷ rest) group token absent h =
    (h.0, get_or-set_other tokens group item.0 token 0 absent.0 ∙ h.1, h.2, AreRetired-set tokens rest group token absent.1 h.3)

absent : (tokens : List ℕ) (items : List (ℕ × ℕ)) (group : ℕ) → get_or tokens group 0 ≡ 0 → AreRetired tokens items → IsAbsent group items
absent tokens [] group z h = tt
absent tokens (item ∷ rest) group z h = (
  (λ e. let f : get_or tokens item.0 0 ≡ get_or tokens group 0 = ap (λ g. get_or tokens g 0) e in
      omega (arith, f, z, h.0, h.1)),
  absent tokens rest group z h.3,
)

IsAbsent-push : (items : List (ℕ × ℕ)) (g group token : ℕ) → g ≢ group → IsAbsent group items → IsAbsent group (items ++ (g, token) ∷ [])
IsAbsent-push [] g group token n h = (n, tt)
IsAbsent-push (item ∷ rest) g group token n h = (h.0, IsAbsent-push rest g group token n h.1)

-- one more group is retired
push : (tokens : List ℕ) (items : List (ℕ × ℕ)) (group token : ℕ) → group < length tokens → 0 < token → IsAbsent group items
    → AreRetired tokens items → AreRetired (set tokens group token) (items ++ (group, token) ∷ [])
push tokens [] group token l p a h = (p, get_or-set_same tokens group token 0 l, tt, tt)
push tokens (item ∷ rest) group token l p a h = (
  h.0,
  get_or-set_other tokens group item.0 token 0 a.0 ∙ h.1,
  IsAbsent-push rest group item.0 token (λ e. a.0 (sym e)) h.2,
  push tokens rest group token l p a.1 h.3,
)

pub AreRetired-push : (tokens : List ℕ) (items : List (ℕ × ℕ)) (group token : ℕ)
    → group < length tokens → get_or tokens group 0 ≡ 0 → 0 < token → AreRetired tokens items
    → AreRetired (set tokens group token) (items ++ (group, token) ∷ [])
AreRetired-push tokens items group token l z p h = push tokens items group token l p (absent tokens items group z h) h
