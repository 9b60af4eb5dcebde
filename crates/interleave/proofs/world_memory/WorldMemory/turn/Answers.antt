use Rattle.std.proofs.Common.{◌≡◌, ◌+◌, ◌^◌, ◌<◌, ◌≤◌, [], vec_len, vec_capacity, length, get_or, refl, sym, ap, subst, ◌∙◌, inl, inr, arith, suc, add-one}
use Rattle.std.specs.Prelude.{slice_set}
use Rattle.std.proofs.lemmas.List.{length-map, get_or-map, set-get_or}
use Rattle.lpm_trace.specs.declared.shown_step.Actor.TheVariants.{Worker as WorkerActor}
use Rattle.lpm_trace.specs.States.{state_after}
use Rattle.lpm_trace.specs.Trace.{writes, worker_of}
use Rattle.interleave.specs.Scripts.{IsDone, steps_by}
use Rattle.interleave.specs.declared.shared_state.Shared.{Shared}
use Rattle.interleave.specs.View.{WorldView, script_at}
use Rattle.interleave.specs.World.{IsWorld}
use Rattle.interleave.proofs.Turns.{view_in}
use Rattle.interleave.proofs.WorkerTurn.{moved_by, four_at_most, turn_passes, turn_moves, is_of, stands, sequence_within}
use Rattle.interleave.proofs.world_memory.WorldMemory.turn.Goals as goal

pub returns-then-worker-self-clause-turn : goal.returns-then-worker-self-clause-turn
returns-then-worker-self-clause-turn g c = λ c' whole trace world.
    let f = g.row.FIRST in
    let s = g.row.SECOND in
    let k = c.args.worker in
    let v : WorldView = view_in f s c.self.inside in
    let is : v ≡ c.args.self.now = c.self.view_is in
    let many : length v.scripts ≤ k = omega (arith, length-map c.self.inside.scripts.now (λ script. script.items)) in (
      trace,
      turn_passes f s v c' whole trace (WorkerActor k) (v.next + 1) (add-one v.next)
          (subst (λ (y : WorldView). y.next < length y.schedule) (sym is) c.requires.left)
          (subst (λ (y : WorldView). get_or y.schedule y.next (WorkerActor k) ≡ WorkerActor k) (sym is) (c.requires.item (WorkerActor k)))
          (inl many)
          (subst (λ y. IsWorld f s y c' whole trace []) (sym is) world),
      refl,
    )

pub step-made-requires : goal.step-made-requires
step-made-requires g c =
    let f = g.row.FIRST in
    let s = g.row.SECOND in
    let k = c.args.worker in
    let x = c.self.inside in
    let v : WorldView = view_in f s x in
    let is : v ≡ c.args.self.now = c.self.view_is in
    let known = c.requires.known in
    let here : IsWorld f s v known.0 known.1 known.2 [] = subst (λ y. IsWorld f s y known.0 known.1 known.2 []) (sym is) known.3 in
    let inside : k < length v.scripts = omega (arith, length-map x.scripts.now (λ script. script.items)) in
    let script : c.deref.result.now ≡ script_at v.scripts k =
    c.deref.ensures.value ∙ sym (get_or-map (λ script. script.items) x.scripts.now k c.index-self-worker.result [] c.if-worker-self.false) in
    let left : x.next < length x.schedule.now = subst (λ (y : WorldView). y.next < length y.schedule) (sym is) c.requires.left in
    let kept = c.self.invariant in
    let at = stands f s v known.0 known.1 known.2 here k c.index_mut-machine.result.now c.index_mut-machine.result.now c.deref.result.now inside c.index_mut-machine.ensures.value script in
    let room : vec_len x.seen + 4 ≤ vec_capacity x.seen = omega (arith, kept.few_seen, kept.seen_fit, left) in
    let low : v.sequence < 2 ^ 63 = omega (arith, sequence_within f s v known.0 known.1 known.2 [] here, kept.few_items, left) in
    (omega arith, ((worker_of k known.2, steps_by k known.2, at), (low, room)))

pub returns-in-Some-clause-turn : goal.returns-in-Some-clause-turn
returns-in-Some-clause-turn g c = λ c' whole trace world.
    let f = g.row.FIRST in
    let s = g.row.SECOND in
    let k = c.args.worker in
    let x = c.self.inside in
    let v : WorldView = view_in f s x in
    let is : v ≡ c.args.self.now = c.self.view_is in
    let here : IsWorld f s v c' whole trace [] = subst (λ y. IsWorld f s y c' whole trace []) (sym is) world in
    let inside : k < length v.scripts = omega (arith, length-map x.scripts.now (λ script. script.items)) in
    let many : length v.machines ≡ length v.scripts = sym x.workers.ok.0 ∙ c.self.invariant.as_many ∙ sym (length-map x.scripts.now (λ script. script.items)) in
    let script : c.deref.result.now ≡ script_at v.scripts k =
    c.deref.ensures.value ∙ sym (get_or-map (λ script. script.items) x.scripts.now k c.index-self-worker.result [] c.if-worker-self.false) in
    let at = stands f s v c' whole trace here k c.index_mut-machine.result.now c.index_mut-machine.result.now c.deref.result.now inside c.index_mut-machine.ensures.value script in
    let when : c.len-now.result + 1 ≡ suc (length v.steps) = add-one c.len-now.result ∙ ap suc (c.len-now.ensures ∙ x.steps.ok.0) in
    let turn = turn_moves f s v c' whole trace k (v.next + 1) (c.len-now.result + 1) c.deref.result.now c.step-made.new.self c.in-Some.step c.step-made.new.seen.items
    (add-one v.next) when script
    (subst (λ (y : WorldView). y.next < length y.schedule) (sym is) c.requires.left)
    (subst (λ (y : WorldView). get_or y.schedule y.next (WorkerActor k) ≡ WorkerActor k) (sym is) (c.requires.item (WorkerActor k)))
    inside many here
    (c.in-Some.ensures.step c' (state_after c' (writes trace)) (worker_of k trace) (steps_by k trace) (is_of f s v c' whole trace here) at) in
    let after : WorldView = moved_by v (v.next + 1) k c.step-made.new.self c.in-Some.step c.step-made.new.seen.items in
    let shared = c.step-made.ensures.same in
    let same : after ≡ record after { words = c.step-made.new.shared.cells; sequence = c.step-made.new.shared.sequence; token = c.step-made.new.shared.token; steps = c.append.new.steps.items } =
    ap (λ (y : Shared f s). record after { words = y.cells; sequence = y.sequence; token = y.token }) (sym shared)
    ∙ ap (λ y. record after { words = c.step-made.new.shared.cells; sequence = c.step-made.new.shared.sequence; token = c.step-made.new.shared.token; steps = y }) (sym c.append.ensures.items) in
    (turn.0, subst (λ y. IsWorld f s y c' whole turn.0 []) same turn.1, turn.2)

pub returns-in_default-clause-turn : goal.returns-in_default-clause-turn
returns-in_default-clause-turn g c = λ c' whole trace world.
    let f = g.row.FIRST in
    let s = g.row.SECOND in
    let k = c.args.worker in
    let x = c.self.inside in
    let v : WorldView = view_in f s x in
    let is : v ≡ c.args.self.now = c.self.view_is in
    let here : IsWorld f s v c' whole trace [] = subst (λ y. IsWorld f s y c' whole trace []) (sym is) world in
    let inside : k < length v.scripts = omega (arith, length-map x.scripts.now (λ script. script.items)) in
    let script : c.deref.result.now ≡ script_at v.scripts k =
    c.deref.ensures.value ∙ sym (get_or-map (λ script. script.items) x.scripts.now k c.index-self-worker.result [] c.if-worker-self.false) in
    let at = stands f s v c' whole trace here k c.index_mut-machine.result.now c.index_mut-machine.result.now c.deref.result.now inside c.index_mut-machine.ensures.value script in
    let none = c.in_default.ensures.ended (worker_of k trace) (steps_by k trace) at in
    let same_seen = ap (λ seen. seen.items) c.in_default.ensures.unchanged.1 in
    let ended : IsDone (script_at v.scripts k) (worker_of k trace) (steps_by k trace) = subst (λ y. IsDone y (worker_of k trace) (steps_by k trace)) script none in
    let after : WorldView = record v { next = v.next + 1 } in
    let machines : v.machines ≡ slice_set v.machines k c.step-made.new.self =
    sym (set-get_or v.machines k c.index_mut-machine.result.now)
    ∙ ap (slice_set v.machines k) (sym c.index_mut-machine.ensures.value ∙ sym c.in_default.ensures.unchanged.0) in
    let same : after ≡ record after { words = c.step-made.new.shared.cells; sequence = c.step-made.new.shared.sequence; token = c.step-made.new.shared.token; machines = slice_set v.machines k c.step-made.new.self; seen = c.step-made.new.seen.items } =
    ap (λ (y : Shared f s). record after { words = y.cells; sequence = y.sequence; token = y.token }) (sym c.step-made.ensures.same)
    ∙ ap (λ y. record after { words = c.step-made.new.shared.cells; sequence = c.step-made.new.shared.sequence; token = c.step-made.new.shared.token; machines = y }) machines
    ∙ ap (λ y. record after { words = c.step-made.new.shared.cells; sequence = c.step-made.new.shared.sequence; token = c.step-made.new.shared.token; machines = slice_set v.machines k c.step-made.new.self; seen = y }) (sym same_seen) in (
      trace,
      subst (λ y. IsWorld f s y c' whole trace []) same
          (turn_passes f s v c' whole trace (WorkerActor k) (v.next + 1) (add-one v.next)
          (subst (λ (y : WorldView). y.next < length y.schedule) (sym is) c.requires.left)
          (subst (λ (y : WorldView). get_or y.schedule y.next (WorkerActor k) ≡ WorkerActor k) (sym is) (c.requires.item (WorkerActor k)))
          (inr ended) here),
      refl,
    )

pub invariant_of-self-in-Some : goal.invariant_of-self-in-Some
invariant_of-self-in-Some g c =
    let f = g.row.FIRST in
    let s = g.row.SECOND in
    let k = c.args.worker in
    let x = c.self.inside in
    let v : WorldView = view_in f s x in
    let is : v ≡ c.args.self.now = c.self.view_is in
    let known = c.requires.known in
    let c' = known.0 in
    let trace = known.2 in
    let here : IsWorld f s v c' known.1 trace [] = subst (λ y. IsWorld f s y c' known.1 trace []) (sym is) known.3 in
    let inside : k < length v.scripts = omega (arith, length-map x.scripts.now (λ script. script.items)) in
    let script : c.deref.result.now ≡ script_at v.scripts k =
    c.deref.ensures.value ∙ sym (get_or-map (λ script. script.items) x.scripts.now k c.index-self-worker.result [] c.if-worker-self.false) in
    let at = stands f s v c' known.1 trace here k c.index_mut-machine.result.now c.index_mut-machine.result.now c.deref.result.now inside c.index_mut-machine.ensures.value script in
    let step = c.in-Some.ensures.step c' (state_after c' (writes trace)) (worker_of k trace) (steps_by k trace) (is_of f s v c' known.1 trace here) at in
    let four = four_at_most f s (length v.words.seconds) c.index_mut-machine.result.now c.deref.result.now (worker_of k trace) (steps_by k trace) k step.made x.seen.items c.step-made.new.seen.items at step.noted in
    let kept = c.self.invariant in
    let left : x.next < length x.schedule.now = subst (λ (y : WorldView). y.next < length y.schedule) (sym is) c.requires.left in
    record {
      token_low = subst (λ (y : Shared f s). y.token ≤ 2 ^ 62) (sym c.step-made.ensures.same) kept.token_low;
      as_many = kept.as_many;
      within = omega (arith, left);
      few_items = kept.few_items;
      few_steps = omega (arith, kept.few_steps, c.append.ensures.len);
      few_seen = omega (arith, four, kept.few_seen, x.seen.ok.0, c.step-made.new.seen.ok.0);
      steps_fit = omega (arith, kept.steps_fit, c.append.ensures.capacity);
      seen_fit = omega (arith, kept.seen_fit, c.step-made.ensures.capacity);
    }
