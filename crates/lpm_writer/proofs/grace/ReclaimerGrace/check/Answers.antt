use Rattle.std.proofs.Common.{arith, ◌≡◌, ◌<◌, ◌≤◌, ◌⊎◌, ◌∷◌, inl, inr, refl, sym, subst, ◌∙◌}
use Rattle.std.proofs.lemmas.Bool.{cases_lt}
use Rattle.std.specs.Prelude.{Err, Ok}
use Rattle.lpm_limits.specs.declared.busy.Busy.{Busy}
use Rattle.lpm_trace.specs.declared.step.WriterStep.TheVariants.{LoadCounter}
use Rattle.lpm_writer.specs.TokenCheck.{Loads, LoadsUntilStopped}
use Rattle.lpm_writer.specs.MemorySteps.{Goes}
use Rattle.lpm_writer.specs.Commands.{ChecksBy, HasPassedFront}
use Rattle.lpm_writer.proofs.Checks.{counters_loaded_none, counters_loaded_more, passed_where_all_pass, passed_where_one_stops, passes_by}
use Rattle.lpm_writer.proofs.Reclaims.{MayLoad, may_load, passes_item, passed_already}
use Rattle.lpm_writer.proofs.grace.ReclaimerGrace.check.Given.{Over}
use Rattle.lpm_writer.proofs.grace.ReclaimerGrace.check.Goals.{After-loop-worker}
use Rattle.lpm_writer.proofs.grace.ReclaimerGrace.check.Goals as goal

pub returns-then-has_passed-clause-passed : goal.returns-then-has_passed-clause-passed
returns-then-has_passed-clause-passed g c = λ group rest ready.
    let s = c.args.self.now in
    passed_already g.M.Memory.did s.memory.now s.groups.now s.passed.now c.args.token group rest (omega arith) ready

pub loop-worker-init : goal.loop-worker-init
loop-worker-init g c = record {
  loaded = counters_loaded_none g.M.Memory.did g.M.Memory.does g.met.M.Memory.follows c.args.self.now.memory.now c.args.token;
  groups = refl;
  passed = refl;
  lent = refl;
}

pub load_counter-counter-requires-clause-worker : goal.load_counter-counter-requires-clause-worker
load_counter-counter-requires-clause-worker g c =
    let s = c.args.self.now in
    let may : MayLoad g.M.Memory.did s.memory.now s.passed.now c.args.token = may_load g.M.Memory.did s.memory.now s.groups.now s.passed.now c.args.token c.requires in
    let so_far = c.loop-worker.invariant.loaded may.0 may.1 may.2 (may.3 (omega arith)) in
    let now = (g.met.M.Memory.shows c.loop-worker.self.memory.now may.0 so_far.0 so_far.1).2 in
    let old = (g.met.M.Memory.shows s.memory.now may.0 may.1 may.2).2 in
    omega (arith, c.loop-worker-test.true, c.counter_count-worker-end.ensures, now, old)

pub load_counter-counter-requires-clause-may : goal.load_counter-counter-requires-clause-may
load_counter-counter-requires-clause-may g c = λ counter.
    let s = c.args.self.now in
    let may : MayLoad g.M.Memory.did s.memory.now s.passed.now c.args.token = may_load g.M.Memory.did s.memory.now s.groups.now s.passed.now c.args.token c.requires in
    let so_far = c.loop-worker.invariant.loaded may.0 may.1 may.2 (may.3 (omega arith)) in
    let old = (g.met.M.Memory.shows s.memory.now may.0 may.1 may.2).2 in
    (may.0, so_far.0, so_far.1, so_far.3 (omega (arith, c.loop-worker-test.true, c.counter_count-worker-end.ensures, old)) counter)

pub returns-then-holds-clause-checks : goal.returns-then-holds-clause-checks
returns-then-holds-clause-checks g c =
    let m = c.args.self.now.memory.now in (
      λ s steps did known may.
          let more : c.args.self.now.passed.now < c.args.token = omega arith in
          let so_far = c.loop-worker.invariant.loaded s steps did (may more) in
          let old = (g.met.M.Memory.shows m s steps did).2 in
          let below : c.loop-worker.worker < s.workers = omega (arith, c.loop-worker-test.true, c.counter_count-worker-end.ensures, old) in
          let does = c.load_counter-counter.ensures.does in
          let held = c.holds.ensures.0 c.if-holds.true in
          let next = LoadCounter c.args.token c.loop-worker.worker c.load_counter-counter.result in
          let later = next ∷ so_far.0 in
          let busy : Busy = record { worker = c.loop-worker.worker; counter = c.load_counter-counter.result } in
          let stops : LoadsUntilStopped (Goes g.M.Memory.does) s.workers (m, steps) c.args.token (Err busy) (c.load_counter-counter.new.self, later) = ((c.loop-worker.self.memory.now, so_far.0), so_far.2, below, held.0, held.1, (does, refl)) in (
            later,
            g.met.M.Memory.follows c.loop-worker.self.memory.now next c.load_counter-counter.new.self s so_far.0 does so_far.1 (so_far.3 below c.load_counter-counter.result),
            inr ((λ some. let k = known some in omega (arith, k, more)), stops),
            λ some. c.loop-worker.invariant.passed ∙ known some ∙ sym (passed_where_one_stops g.M.Memory.does s (m, steps) c.args.token busy (c.load_counter-counter.new.self, later) stops),
          ),
      c.loop-worker.invariant.groups,
      tt,
      c.loop-worker.invariant.passed,
    )

pub returns-then-holds-clause-lent : goal.returns-then-holds-clause-lent
returns-then-holds-clause-lent g c = c.loop-worker.invariant.lent

pub loop-worker-preserved : goal.loop-worker-preserved
loop-worker-preserved g c =
    let m = c.args.self.now.memory.now in
    let passes : (c.load_counter-counter.result ≡ 0) ⊎ (c.args.token ≤ c.load_counter-counter.result) = elim (cases_lt 0 c.load_counter-counter.result) [
      | inl some ↦ elim (cases_lt c.load_counter-counter.result c.args.token) [
        | inl older ↦ absurd (cc (c.if-holds.false, c.holds.ensures.1 (some, older)))
        | inr newer ↦ inr newer
      ]
      | inr none ↦ inl (omega (arith, none))
    ] in
    record {
      loaded = counters_loaded_more g.M.Memory.did g.M.Memory.does g.met.M.Memory.follows m c.args.token c.loop-worker.worker c.loop-worker.self.memory.now c.load_counter-counter.result c.load_counter-counter.new.self
          c.loop-worker.invariant.loaded c.load_counter-counter.ensures.does (passes_by c.args.token c.load_counter-counter.result passes)
          (λ s steps did. let old = (g.met.M.Memory.shows m s steps did).2 in omega (arith, c.loop-worker-test.true, c.counter_count-worker-end.ensures, old));
      groups = c.loop-worker.invariant.groups;
      passed = c.loop-worker.invariant.passed;
      lent = c.loop-worker.invariant.lent;
    }

-- what the contract says where every counter has passed
abbrev HasPassed : (g : Over) → After-loop-worker g → Type 0
HasPassed g c = ChecksBy g.M.Memory.did g.M.Memory.does c.args.self.now.memory.now c.args.self.now.passed.now c.args.token (Ok tt) c.loop-worker.self.memory.now c.args.token

passed : (g : Over) (c : After-loop-worker g) → HasPassed g c
passed g c = λ s steps did known may.
    let m = c.args.self.now.memory.now in
    let more : c.args.self.now.passed.now < c.args.token = omega arith in
    let so_far = c.loop-worker.invariant.loaded s steps did (may more) in
    let old = (g.met.M.Memory.shows m s steps did).2 in
    let all : c.loop-worker.worker ≡ s.workers = omega (arith, old) in
    let loads = subst (λ n. Loads (Goes g.M.Memory.does) n (m, steps) c.args.token (c.loop-worker.self.memory.now, so_far.0)) all so_far.2 in (
      so_far.0,
      so_far.1,
      inr ((λ some. let k = known some in omega (arith, k, more)), loads),
      λ some. passed_where_all_pass g.M.Memory.does s (m, steps) c.args.token (c.loop-worker.self.memory.now, so_far.0) (let k = known some in omega (arith, k, more)) loads some,
    )

pub returns-clause-checks : goal.returns-clause-checks
returns-clause-checks g c = (passed g c, c.loop-worker.invariant.groups, omega arith, tt)

pub returns-clause-lent : goal.returns-clause-lent
returns-clause-lent g c = c.loop-worker.invariant.lent

pub returns-clause-passed : goal.returns-clause-passed
returns-clause-passed g c = λ group rest ready.
    let s = c.args.self.now in
    let z = c.loop-worker.self in
    subst (λ states. HasPassedFront g.M.Memory.did z.memory.now states c.args.token (group, c.args.token) rest) (sym c.loop-worker.invariant.groups)
    (passes_item g.M.Memory.did g.M.Memory.does s.memory.now s.groups.now s.passed.now group c.args.token rest z.memory.now c.args.token (Ok tt) (passed g c) ready refl)
