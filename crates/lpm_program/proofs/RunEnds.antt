-- How a run ended.
use Rattle.std.proofs.Common.{◌≡◌, ◌≢◌, ◌⊎◌, inl, inr, refl}
use Rattle.lpm_files.specs.declared.failure.Failure.{Failure}
use Rattle.lpm_files.specs.declared.failure.Failure.TheVariants.{CannotWrite}

-- a failure is a failed write, or another one
pub cannot_write : (e : Failure) → (e ≡ CannotWrite) ⊎ (e ≢ CannotWrite)
cannot_write CannotWrite = inl refl
cannot_write other = inr (λ e. cc)
