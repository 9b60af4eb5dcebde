-- What a table keeps, before and after its calls.
use Rattle.std.proofs.Common.{arith, ◌≡◌, ℕ, ◌<◌, inl, inr, refl, ap, sym, ◌∙◌, subst, List, [], length, slice_index, Result}
use Rattle.std.specs.Prelude.{slice_set}
use Rattle.std.proofs.lemmas.Bool.{cases_eq}
use Rattle.std.proofs.lemmas.List.{length-set, get_or-set_same, get_or-set_other}
use Rattle.lpm_bits.specs.Network.{Network}
use Rattle.lpm_limits.specs.declared.refusal.Refusal.{Refusal}
use Rattle.lpm_rules.specs.declared.Put.{Put}
use Rattle.qsbr.specs.Counters.{IsPast, Passes, Registry, with_counter}
use Rattle.defer_queue.specs.declared.Reclaimed.{Reclaimed}
use Rattle.fib_model.specs.State.{State}
use Rattle.fib_model.specs.Outcomes.{Adds, Deletes, Flushes, Frees}
use Rattle.fib_model.specs.Counters.{counter_transitions}
use Rattle.fib_model.proofs.TwoWays.{AreFollowed, Follows, beside}
use Rattle.fib_model.proofs.Relations.{changes_carry_over}
use Rattle.lpm_trace.specs.declared.step.WriterStep.{WriterStep}
use Rattle.lpm_trace.specs.States.{InitialState, state_after}
use Rattle.lpm_writer.specs.declared.plain_memory.PlainMemory.{PlainMemory}
use Rattle.lpm_writer.specs.Plain.{PlainDid}
use Rattle.lpm_writer.specs.declared.control.ControlState.{ControlState}
use Rattle.lpm_writer.specs.Rest.{IsResting, state_of}
use Rattle.lpm_writer.specs.MemorySteps.{WithSteps, by_writer}
use Rattle.lpm_writer.proofs.Waits.{started_all}
use Rattle.lpm_writer.proofs.StepsAlone.{named_is, named_same}
use Rattle.lpm_writer.specs.Commands.{Commands}
use Rattle.fib.specs.Fib.{FibState, IsSound, table_of}
use Rattle.fib.proofs.Steps.{Shows, does, same_name, carries}

-- ---- changes

-- A command has led from the control state `old` and the memory m to `new` and z. Callers see x before it.
module _ (f s : ℕ) (old : ControlState f s) (m : PlainMemory f s) (known : IsSound f s old m) (new : ControlState f s) (z : PlainMemory f s)
    (x : FibState) (is : record { config = old.config; table = table_of old m } ≡ x) where
  abbrev c : InitialState
  c = known.0

  abbrev S : State (WithSteps (PlainMemory f s))
  S = state_of old.rules.rules (m, known.1) old.pool old.versions

  followed : AreFollowed (by_writer (does f s c) c) counter_transitions (Shows f s c) (same_name f s c) f s old.config S (table_of old m)
  followed =
      let k = known.2 in
      changes_carry_over (WithSteps (PlainMemory f s)) Registry (by_writer (does f s c) c) counter_transitions (Shows f s c) (same_name f s c) (carries f s c) f s old.config S m.domain S.limbo
      (record { domain = refl; workers = k.did.workers; token = sym k.did.token; passed = k.passed }) (named_same S.limbo)

  -- what a command of the writer leaves is kept, and comes out the same by token and counters
  after : (later : List WriterStep) (D : FibState → State Registry → Type 0) → PlainDid f s z.cells z.domain c later → IsResting f s c later new.config new.rules new.pool new.versions
      → Follows (Shows f s c) (same_name f s c) (state_of new.rules.rules (z, later) new.pool new.versions) (D (record { config = old.config; table = table_of old m })) → IsSound f s new z × D x (table_of new z)
  after later D did rests h =
      let Z : State (WithSteps (PlainMemory f s)) = state_of new.rules.rules (z, later) new.pool new.versions in
      let shows : Shows f s c (z, later) h.0 = h.3 in
      let limbo : h.1 ≡ Z.limbo = named_is Z.limbo h.1 h.4 in
      let seen : FibState = record { config = old.config; table = table_of old m } in (
        (
          c,
          later,
          record {
            did = did;
            rests = rests;
            passed = subst (λ (r : Registry). Passes (state_after c later).passed r.counters) (sym shows.domain) shows.passed;
          },
        ),
        subst (λ (y : FibState). D y (table_of new z)) is
            (subst (λ l. D seen (beside Z z.domain l)) limbo (subst (λ r. D seen (beside Z r h.1)) (sym shows.domain) h.2)),
      )

  -- whichever steps led to the memory m, this came of it
  abbrev Tells : (InitialState → State (WithSteps (PlainMemory f s)) → State (WithSteps (PlainMemory f s)) → Type 0) → Type 0
  Tells = Commands (λ (y : PlainMemory f s). PlainDid f s y.cells y.domain) old m new z

  pub adds : (p : Network) (h : ℕ) (r : Result Put Refusal) → Tells (λ c y w. Adds (by_writer (does f s c) c) f s old.config y p h r w)
      → IsSound f s new z × Adds counter_transitions f s x.config x.table p h r (table_of new z)
  adds p h r told =
      let e = told c known.1 known.2.did known.2.rests in
      after e.0 (λ y. Adds counter_transitions f s y.config y.table p h r) e.1 e.2 (followed.adds (state_of new.rules.rules (z, e.0) new.pool new.versions) p h r e.3)

  pub deletes : (p : Network) (r : Result ℕ Refusal) → Tells (λ c y w. Deletes (by_writer (does f s c) c) f s old.config y p r w)
      → IsSound f s new z × Deletes counter_transitions f s x.config x.table p r (table_of new z)
  deletes p r told =
      let e = told c known.1 known.2.did known.2.rests in
      after e.0 (λ y. Deletes counter_transitions f s y.config y.table p r) e.1 e.2 (followed.deletes (state_of new.rules.rules (z, e.0) new.pool new.versions) p r e.3)

  pub flushes : (r : Result ℕ Refusal) → Tells (λ c y w. Flushes (by_writer (does f s c) c) f s old.config y r w)
      → IsSound f s new z × Flushes counter_transitions f s x.config x.table r (table_of new z)
  flushes r told =
      let e = told c known.1 known.2.did known.2.rests in
      after e.0 (λ y. Flushes counter_transitions f s y.config y.table r) e.1 e.2 (followed.flushes (state_of new.rules.rules (z, e.0) new.pool new.versions) r e.3)

  pub frees : (max : ℕ) (r : Reclaimed) → Tells (λ c y w. Frees (by_writer (does f s c) c) y max r w)
      → IsSound f s new z × Frees counter_transitions x.table max r (table_of new z)
  frees max r told =
      let e = told c known.1 known.2.did known.2.rests in
      after e.0 (λ y. Frees counter_transitions y.table max r) e.1 e.2 (followed.frees (state_of new.rules.rules (z, e.0) new.pool new.versions) max r e.3)

-- ---- reports

passes_with : (token : ℕ) (counters : List ℕ) (w counter : ℕ) → IsPast token counter → Passes token counters → Passes token (slice_set counters w counter)
passes_with token counters w counter past h i low =
    let size = length-set counters w counter in
    let within : i < length counters = omega (arith, size, low) in
    elim (cases_eq i w) [
      | inl e ↦ subst (IsPast token) (sym (ap (slice_index (slice_set counters w counter)) e ∙ get_or-set_same counters w counter 0 (omega (arith, e, within)))) past
      | inr n ↦ subst (IsPast token) (sym (get_or-set_other counters w i counter 0 n)) (h i within)
    ]

-- a worker stored this counter
reported : (f s : ℕ) (old : ControlState f s) (m : PlainMemory f s) (w counter : ℕ) (known : IsSound f s old m) → IsPast (state_after known.0 known.1).passed counter
    → IsSound f s old (record m { domain = with_counter m.domain w counter })
reported f s old m w counter known past =
    let k = known.2 in
    let d = k.did in (
      known.0,
      known.1,
      record {
        did = record {
          first_bits = d.first_bits;
          second_bits = d.second_bits;
          workers = length-set m.domain.counters w counter ∙ d.workers;
          written = d.written;
          words = d.words;
          token = d.token;
        };
        rests = k.rests;
        passed = passes_with (state_after known.0 known.1).passed m.domain.counters w counter past k.passed;
      },
    )

-- the newest token
pub reported_token : (f s : ℕ) (old : ControlState f s) (m : PlainMemory f s) (w : ℕ) (z : Registry) → IsSound f s old m → z ≡ with_counter m.domain w m.domain.token → IsSound f s old (record m { domain = z })
reported_token f s old m w z known is =
    let within = (started_all known.0 known.1 known.2.did.written).1 in
    let token = known.2.did.token in
    subst (λ d. IsSound f s old (record m { domain = d })) (sym is) (reported f s old m w m.domain.token known (inr (omega (arith, within, token))))

pub reported_none : (f s : ℕ) (old : ControlState f s) (m : PlainMemory f s) (w : ℕ) (z : Registry) → IsSound f s old m → z ≡ with_counter m.domain w 0 → IsSound f s old (record m { domain = z })
reported_none f s old m w z known is = subst (λ d. IsSound f s old (record m { domain = d })) (sym is) (reported f s old m w 0 known (inl refl))

-- ---- a new table

-- no token has passed yet
pub sound_new : (f s : ℕ) (c : InitialState) (control : ControlState f s) (m : PlainMemory f s) → PlainDid f s m.cells m.domain c []
    → IsResting f s c [] control.config control.rules control.pool control.versions → IsSound f s control m
sound_new f s c control m did rests = (c, [], record { did = did; rests = rests; passed = λ w low. inr (omega arith) })
