-- This layer's own: what a contract sees of a queue of retired groups (Fraser, UCAM-CL-TR-579,
-- 2004, epoch-based reclamation: a limbo list holds what was given up until no reader can hold it
-- any more).
use Rattle.std.specs.Prelude.{ℕ, List}

-- the retired groups, each with its token, from the oldest to the newest, and how many there may be
pub record Limbo : Type 0 where
  pub items : List (ℕ × ℕ)
  pub capacity : ℕ
