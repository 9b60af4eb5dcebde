-- Meaning: the command `migrate` (this project's program: an update file of version 1 becomes one of
-- version 2).
use Rattle.std.specs.Prelude.{ℕ, ◌≡◌, ◌⊎◌, List, [], ◌∷◌, Option}
use Rattle.fib_model.specs.declared.orders.Order.{Order}
use Rattle.route_text.specs.Updates.{AreOldUpdates}
use Rattle.route_text.specs.Texts.{update_lines}
use Rattle.lpm_files.specs.declared.failure.Failure.{Failure}
use Rattle.lpm_files.specs.declared.failure.Failure.TheVariants.{CannotWrite}
use Rattle.lpm_files.specs.Inputs.{Reads, old_update_file, EndsAtOne}

-- the text is the update file, in version 2, of the updates that the old file lists; its bytes are
-- known, or not
abbrev pub IsMigrateText : Option (List ℕ) → List ℕ → Type 0
IsMigrateText old text = (orders : List (Order 24 8)) × Reads AreOldUpdates old orders
    × (text ≡ update_lines orders)

-- a migration of the file of this path, whose bytes these are, ends so
abbrev pub EndsMigrate : List ℕ → (List ℕ → Option (List ℕ)) → Failure → Type 0
EndsMigrate old bytes failure =
    EndsAtOne (old_update_file old (bytes old) ∷ []) failure ⊎ (failure ≡ CannotWrite)
