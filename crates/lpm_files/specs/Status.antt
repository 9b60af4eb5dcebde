-- Meaning: the exit status of a failure (this project's program).
use Rattle.std.specs.Prelude.{ℕ}
use Rattle.lpm_files.specs.declared.failure.Failure.{Failure}
use Rattle.lpm_files.specs.declared.failure.Failure.TheVariants.{CannotRead, CannotWrite, Bad}
use Rattle.lpm_files.specs.declared.failure.Failure.TheVariants.{Memory, RefusedRoute, Refused}

abbrev pub status_of : Failure → ℕ
status_of (CannotRead path) = 3
status_of CannotWrite = 3
status_of (Bad path fault) = 4
status_of Memory = 5
status_of (RefusedRoute path line refusal) = 6
status_of (Refused refusal) = 6
