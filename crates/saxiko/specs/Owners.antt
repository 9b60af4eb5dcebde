-- Meaning: the owner of a running table, as its callers see it, and what comes of a registration (this
-- project's).
use Rattle.std.specs.Prelude.{ℕ, ◌≡◌, ◌≤◌, ◌↔◌, List, Option, Some, None, slice_get, slice_set, refl}
use Rattle.std.specs.Prelude.{◌⊎◌, Result, IfOk, IfErr, IsErrOf, OnErr}
use Rattle.std.specs.Coded.{Coded, code_by, coded×, coded_list, coded_option}
use Rattle.lpm_limits.specs.declared.refusal.Refusal.{Refusal}
use Rattle.lpm_limits.specs.declared.refusal.Refusal.TheVariants.{NoSuchWorker, Taken, Memory}
use Rattle.shared_fib.specs.Passes.{PassState, IsPassOf, IsBenchOf, coded_pass}
use Rattle.shared_fib.specs.RunningTable.{WriterState, coded_writer}

-- its writer, and the passes that no reader has, by their numbers
pub record OwnerState : Type 0 where
  pub writer : WriterState
  pub bench : List (Option PassState)

abbrev pub coded_owner : Coded OwnerState
coded_owner = code_by (WriterState × List (Option PassState))
    (coded× coded_writer (coded_list (coded_option coded_pass)))
    (λ o. (o.writer, o.bench)) (λ p. record { writer = p.0; bench = p.1 }) (λ _. refl)

-- What the registration of a worker comes to: a reader has the worker's pass, which is offline, and the bench
-- has it no more. Or nothing changes: the table has no such worker, its pass isn't there, or there is no room
-- for the reader.
pub record Registers (x : OwnerState) (worker : ℕ) (r : Result PassState Refusal) (z : OwnerState)
    : Type 0 where
  pub reader : IfOk r (IsPassOf x.writer.identity worker)
  pub registered : IfOk r (λ p. (slice_get x.bench worker ≡ Some (Some p))
      × (z.bench ≡ slice_set x.bench worker None))
  pub no_such_worker : IsErrOf r NoSuchWorker ↔ (x.writer.identity.initial.workers ≤ worker)
  pub taken : IsErrOf r Taken ↔ (slice_get x.bench worker ≡ Some None)
  pub refusals : IfErr r (λ e. (e ≡ NoSuchWorker) ⊎ (e ≡ Taken) ⊎ (e ≡ Memory))
  pub unchanged : OnErr r (z ≡ x)
  pub own : IsBenchOf z.writer.identity z.bench
  pub same : z.writer ≡ x.writer
