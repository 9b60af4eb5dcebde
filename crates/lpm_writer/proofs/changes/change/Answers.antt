use Rattle.std.proofs.Common.{arith, length-drop, inl, inr, drop, ◌≡◌, ℕ, suc, Option, ◌+◌, ◌<◌, ◌≤◌, ◌^◌, refl, sym, ap, subst, ◌∙◌, List, [], ◌∷◌, ◌++◌, length}
use Rattle.lpm_limits.specs.declared.config.Config.{Config}
use Rattle.lpm_rules.specs.RuleMap.{RuleList}
use Rattle.lpm_update.specs.GroupStates.{IsTied}
use Rattle.lpm_update.specs.Update.{group_held}
use Rattle.lpm_trace.specs.declared.step.WriterStep.{WriterStep}
use Rattle.lpm_trace.specs.declared.step.WriterStep.TheVariants.{BeginUpdate, BumpToken, EndUpdate}
use Rattle.lpm_trace.specs.States.{InitialState}
use Rattle.lpm_writer.proofs.GivenUp.{HasRetired, HasUnlinked, Retires}
use Rattle.lpm_writer.proofs.RunningUpdate.{MayMake, HasMade}
use Rattle.lpm_writer.specs.Rest.{IsDue, IsResting}
use Rattle.lpm_writer.proofs.Rests.{due_step, due_few, due_opened, due_closed}
use Rattle.lpm_writer.proofs.RunningStores.{IsUnderWayAt, at_first, allows_along, run_stopped, run_retired, run_over}
use Rattle.lpm_writer.proofs.changes.change.Invariants.{memory}
use Rattle.lpm_writer.proofs.changes.change.Given.{Over}
use Rattle.std.specs.Prelude.{slice_set}
use Rattle.lpm_groups.specs.declared.GroupState.{GroupState}
use Rattle.lpm_groups.specs.declared.GroupState.TheVariants.{Limbo}
use Rattle.lpm_groups.specs.States.{IsLinkedTo}
use Rattle.defer_queue.specs.Limbo.{Limbo as Queue}
use Rattle.lpm_trace.specs.States.{state_after}
use Rattle.lpm_update.specs.declared.update.Update.{Update}
use Rattle.lpm_writer.specs.declared.pool.GroupPool.{GroupPool}
use Rattle.lpm_writer.specs.declared.control.ControlState.{ControlState}
use Rattle.lpm_writer.specs.GroupsMatch.{GroupsMatchSteps, MayReclaim, OnlyChecks}
use Rattle.lpm_writer.specs.MemorySteps.{by_writer}
use Rattle.std.proofs.Math.ListN.{length-set}
use Rattle.std.specs.Option.{option_map}
use Rattle.lpm_groups.specs.States.{is_linked}
use Rattle.lpm_writer.specs.Limbo.{AreWaiting, IsFreed, IsQueued, tokens_of}
use Rattle.lpm_writer.proofs.LimboItems.{waiting_set, absent_other, linked_limbo, MadeRoom, freed_within, no_more_room, room_above, room_below, retired_queue, retired_room, retired_linked, retired_others, retired_gone}
use Rattle.lpm_writer.proofs.Reclaims.{may_bump, keeps_bumped, may_make_room, still_same, bumped_on, tokens_append}
use Rattle.fib_model.specs.State.{MakesRoom}
use Rattle.defer_queue.specs.declared.Reclaimed.{Reclaimed}
use Rattle.lpm_writer.specs.Commands.{FreesAt}
use Rattle.lpm_groups.proofs.Marks.{Retires-set}
use Rattle.std.proofs.lemmas.List.{length-map}
use Rattle.lpm_writer.proofs.changes.change.Goals.{After-open_update, After-bump-token, After-len}
use Rattle.lpm_writer.proofs.changes.change.Lts.{Step-Joined1}
use Rattle.lpm_writer.proofs.changes.change.Goals as goal

-- the update has begun
begun : (g : Over) (c : After-open_update g) (initial : InitialState) (steps : List WriterStep) → g.M.Memory.did c.args.memory.now initial steps
    → let l = c.args.control.now in
    IsDue g.row.FIRST g.row.SECOND initial steps l.config l.rules l.pool l.versions c.args.update c.args.rule_change.now
    → g.M.Memory.did c.open_update.new.self initial (BeginUpdate c.args.rule_change.now ∷ steps) × MayMake g.row.FIRST g.row.SECOND initial (BeginUpdate c.args.rule_change.now ∷ steps) c.args.update l.pool
    × IsTied g.row.FIRST l.pool.groups (group_held c.args.update (g.M.Cells.words c.open_update.new.self).firsts) × (g.M.Memory.newest c.open_update.new.self + length l.pool.groups ≤ 2 ^ 62)
begun g c initial steps did due =
    let l = c.args.control.now in
    due_opened g.row.FIRST g.row.SECOND initial steps l.config l.rules l.pool l.versions c.args.update c.args.rule_change.now due (memory g) c.args.memory.now did c.open_update.new.self c.open_update.ensures.does

-- it may be so after some steps that may have led to the memory
abbrev Begins : (g : Over) → g.row.M.Denot → Update → GroupPool → Type 0
Begins g m update pool = (initial : InitialState) × (steps : List WriterStep) × g.M.Memory.did m initial steps × MayMake g.row.FIRST g.row.SECOND initial steps update pool

begins : (g : Over) (c : After-open_update g) → Begins g c.open_update.new.self c.args.update c.args.control.now.pool
begins g c = let d = c.requires.due in let now = begun g c d.0 d.1 d.2 d.3 in (d.0, BeginUpdate c.args.rule_change.now ∷ d.1, now.0, now.1)

pub open_update-requires : goal.open_update-requires
open_update-requires g c =
    let l = c.args.control.now in
    let d = c.requires.due in
    record {
      may = (d.0, d.1, d.2, due_step g.row.FIRST g.row.SECOND d.0 d.1 l.config l.rules l.pool l.versions c.args.update c.args.rule_change.now d.3);
      few = (d.0, d.1, d.2, due_few g.row.FIRST g.row.SECOND d.0 d.1 l.config l.rules l.pool l.versions c.args.update c.args.rule_change.now d.3);
    }

pub loop-group-init : goal.loop-group-init
loop-group-init g c =
    let l = c.args.control.now in
    let d = c.requires.due in
    let at = (goal.at.loop-group-init g c).After-open_update in
    record {
      under_way = at_first (memory g) g.row.FIRST g.row.SECOND l.config c.open_update.new.self l.pool c.args.update (begins g at) (begun g at d.0 d.1 d.2 d.3).2 d.3.queued;
      config = refl;
      rules = refl;
      versions = refl;
    }

pub run-requires : goal.run-requires
run-requires g c =
    let x = c.loop-group in
    let at = x.invariant.under_way in
    record {
      shape = c.requires.due.3.rested.shape;
      table = at.come.table;
      under_way = at.come.under_way;
      allows = allows_along (memory g) g.row.FIRST g.row.SECOND x.control.config c.open_update.new.self c.args.control.now.pool c.args.update (begins g (goal.at.run-requires g c).After-open_update) x.memory x.control.pool x.update at;
    }

pub bump-token-requires-clause-low : goal.bump-token-requires-clause-low
bump-token-requires-clause-low g c =
    let x = c.loop-group in
    let d = c.requires.due in
    let at = (goal.at.bump-token-requires-clause-low g c).After-open_update in
    let stopped = run_stopped (memory g) g.row.FIRST g.row.SECOND x.control.config c.open_update.new.self c.args.control.now.pool c.args.update (begins g at)
    x.memory x.control.pool x.update x.invariant.under_way c.in-Some.group c.run.new.self c.run.new.cells c.in-Some.ensures in
    stopped.1 (begun g at d.0 d.1 d.2 d.3).3

pub bump-token-requires-clause-may : goal.bump-token-requires-clause-may
bump-token-requires-clause-may g c =
    let x = c.loop-group in
    let at = (goal.at.bump-token-requires-clause-may g c).After-open_update in
    let h = (run_stopped (memory g) g.row.FIRST g.row.SECOND x.control.config c.open_update.new.self c.args.control.now.pool c.args.update (begins g at)
    x.memory x.control.pool x.update x.invariant.under_way c.in-Some.group c.run.new.self c.run.new.cells c.in-Some.ensures).2 in
    (h.0, h.1, h.3, may_bump h.0 h.1 x.control.pool c.in-Some.group h.2 h.4)

-- the group that the run has unlinked last, and by which steps
unlinked : (g : Over) (c : After-bump-token g) → Begins g c.open_update.new.self c.args.update c.args.control.now.pool
    → let x = c.loop-group.control.pool in
    let n = c.in-Some.group in
    ((block : ℕ) × IsLinkedTo x.groups n block) × ((initial : InitialState) × (steps : List WriterStep) × (held : Option ℕ) × g.M.Memory.did c.run.new.cells initial steps × HasUnlinked initial steps x n held)
unlinked g c begins =
    let x = c.loop-group in
    let stopped = run_stopped (memory g) g.row.FIRST g.row.SECOND x.control.config c.open_update.new.self c.args.control.now.pool c.args.update begins
    x.memory x.control.pool x.update x.invariant.under_way c.in-Some.group c.run.new.self c.run.new.cells c.in-Some.ensures in
    (stopped.0, stopped.2)

pub retire-requires : goal.retire-requires
retire-requires g c = let at = goal.at.retire-requires g c in ap (option_map is_linked) (unlinked g at.After-bump-token (begins g at.After-open_update)).0.1

-- where a bump of the token led from the memory m to z, and the group is in limbo by the states, the groups that wait may be freed
bumped : (g : Over) (m z : g.row.M.Denot) (x : GroupPool) (group : ℕ) (states : List GroupState) → g.M.Memory.does m BumpToken z → states ≡ slice_set x.groups group Limbo
    → (s : InitialState) (steps : List WriterStep) (held : Option ℕ) → g.M.Memory.did m s steps → HasUnlinked s steps x group held
    → g.M.Memory.did z s (BumpToken ∷ steps)
    × GroupsMatchSteps s (BumpToken ∷ steps) states (x.queue.items ++ (group, suc (state_after s steps).token) ∷ []) x.passed held
    × MayReclaim s (BumpToken ∷ steps) x.queue.items
bumped g m z x group states does set s steps held did h =
    let waiting = x.queue.items ++ (group, suc (state_after s steps).token) ∷ [] in (
      g.met.M.Memory.follows m BumpToken z s steps does did (may_bump s steps x group held h),
      subst (λ xs. GroupsMatchSteps s (BumpToken ∷ steps) xs waiting x.passed held) (sym set) (keeps_bumped s steps x group held h),
      may_make_room s steps x group held h,
    )

-- what a group that is retired comes to, by whatever steps it may have been unlinked
abbrev Retiring : (g : Over) → g.row.M.Denot → GroupPool → ℕ → Config → g.row.M.Denot → GroupPool → Type 0
Retiring g z x n config y last = (s : InitialState) (steps : List WriterStep) (held : Option ℕ) → g.M.Memory.did z s steps → HasUnlinked s steps x n held
    → (later : List WriterStep) × g.M.Memory.did y s later × HasRetired s steps later × GroupsMatchSteps s later last.groups last.queue.items last.passed held
    × Retires g.M.Memory.does s config (z, steps) (tokens_of x.queue.items) (y, later) (tokens_of last.queue.items)

-- the groups that wait, behind the one that is in limbo by now
still_waiting : (x : GroupPool) (n block : ℕ) → IsLinkedTo x.groups n block → IsQueued x.groups x.queue → AreWaiting (slice_set x.groups n Limbo) x.queue.items
still_waiting x n block at queued = waiting_set x.groups n Limbo x.queue.items (absent_other x.groups n _ x.queue.items at (linked_limbo block) queued.waiting) queued.waiting

pub free_waiting-requires-clause-waiting : goal.free_waiting-requires-clause-waiting
free_waiting-requires-clause-waiting g c =
    let at = goal.at.free_waiting-requires-clause-waiting g c in
    let x = c.loop-group.control.pool in
    let linked = (unlinked g at.After-bump-token (begins g at.After-open_update)).0 in
    subst (λ xs. AreWaiting xs x.queue.items) (sym c.retire.ensures) (still_waiting x c.in-Some.group linked.0 linked.1 c.loop-group.invariant.under_way.queued)

pub free_waiting-requires-clause-kept : goal.free_waiting-requires-clause-kept
free_waiting-requires-clause-kept g c =
    let at = goal.at.free_waiting-requires-clause-kept g c in
    let x = c.loop-group.control.pool in
    let h = (unlinked g at.After-bump-token (begins g at.After-open_update)).1 in
    let on = bumped g c.run.new.cells c.bump-token.new.self x c.in-Some.group c.retire.new.self c.bump-token.ensures.does c.retire.ensures h.0 h.1 h.2 h.3 h.4 in
    record { initial = h.0; steps = BumpToken ∷ h.1; behind = (c.in-Some.group, suc (state_after h.0 h.1).token) ∷ []; held = h.2; led = on.0; groups = on.1; may = on.2 }

pub retire-requires-in-Some : goal.retire-requires-in-Some
retire-requires-in-Some g c =
    let at = goal.at.retire-requires-in-Some g c in
    let x = c.loop-group.control.pool in
    let linked = (unlinked g at.After-bump-token (begins g at.After-open_update)).0 in
    let room : length x.queue.items < x.queue.capacity = retired_room x.groups x.queue c.in-Some.group linked.0 0 linked.1 c.loop-group.invariant.under_way.queued in
    grind (arith, length-drop {A = ℕ × ℕ})

-- what the writer keeps, and the memory, where room was made: some of the groups that wait were freed, where
-- more than the threshold wait, and else all is as it was
data Came (g : Over) (x : ControlState g.row.FIRST g.row.SECOND) (states : List GroupState) (m : g.row.M.Denot) (long : ℕ) (y : ControlState g.row.FIRST g.row.SECOND) (z : g.row.M.Denot) : Type 0 where
  by_freeing : (r : Reclaimed) (pool : GroupPool) (last : g.row.M.Denot) → y ≡ record x { pool = pool } → z ≡ last → x.config.threshold < long
      → FreesAt g.M.Memory.did g.M.Memory.does m (record x.pool { groups = states }) x.config.reclaim_max r last pool
      → pool.queue ≡ record x.pool.queue { items = drop r.freed x.pool.queue.items } → AreWaiting pool.groups pool.queue.items → IsFreed states x.pool.queue.items r.freed pool.groups
      → Came g x states m long y z
  by_nothing : y ≡ record x { pool = record x.pool { groups = states } } → z ≡ m → long ≤ x.config.threshold → Came g x states m long y z

-- where the ways through the test meet. Rattle counts these types, and names the step after the test: `search`
-- finds it by the type, so a test that is written another way leaves the proof as it is
abbrev Joined : (g : Over) → After-len g → Type 0
Joined g c = Step-Joined1 _ _ _ _ _ _ _ _ _ _ _ _ _ _ c

came : (g : Over) (c : After-len g) (j : Joined g c) → Came g c.loop-group.control c.retire.new.self c.bump-token.new.self c.len.result j.control j.memory
came g c j = elim j.branch-raw [
  | inl w ↦
      let above : c.loop-group.control.config.threshold < c.len.result = omega arith in
      search (by_freeing, w)
  | inr w ↦
      let below : c.len.result ≤ c.loop-group.control.config.threshold = omega arith in
      search (by_nothing, w)
]

-- room was made for one more, and what the writer keeps besides is as it was
abbrev HasRoomFor : (g : Over) → ControlState g.row.FIRST g.row.SECOND → ℕ → ControlState g.row.FIRST g.row.SECOND → Type 0
HasRoomFor g old n new = MadeRoom old.pool n new.pool × (new.config ≡ old.config) × (new.rules ≡ old.rules) × (new.versions ≡ old.versions)

made : (g : Over) (x y : ControlState g.row.FIRST g.row.SECOND) (n : ℕ) (states : List GroupState) (b m z : g.row.M.Denot) (long : ℕ) → Came g x states m long y z
    → g.M.Memory.does b BumpToken m → states ≡ slice_set x.pool.groups n Limbo → AreWaiting (slice_set x.pool.groups n Limbo) x.pool.queue.items
    → (s : InitialState) (steps : List WriterStep) (held : Option ℕ) → g.M.Memory.did b s steps → HasUnlinked s steps x.pool n held → HasRoomFor g x n y
made g x y n states b m z long (by_freeing r pool last same there above reclaims queue waiting freed) does set waits s steps held did h =
    let on = bumped g b m x.pool n states does set s steps held did h in
    let done = reclaims.after s (BumpToken ∷ steps) ((n, suc (state_after s steps).token) ∷ []) held on.0 on.1 on.2 in
    subst (HasRoomFor g x n) (sym same) (
      record { n = r.freed; few = freed_within x.pool.queue.items done.4; queue = queue; waits = waiting; freed = subst (λ ys. IsFreed ys x.pool.queue.items r.freed pool.groups) set freed },
      refl,
      refl,
      refl,
    )
made g x y n states b m z long (by_nothing same there below) does set waits s steps held did h =
    subst (HasRoomFor g x n) (sym same) (no_more_room x.pool (record x.pool { groups = states }) n (ap (λ xs. record x.pool { groups = xs }) set) waits, refl, refl, refl)

-- by which steps the memory came to be so
abbrev WentTo : (g : Over) → Config → InitialState → List WriterStep → Option ℕ → GroupPool → ℕ → g.row.M.Denot → GroupPool → g.row.M.Denot → Type 0
WentTo g config s steps held x n m y z =
    let tail = (n, suc (state_after s steps).token) ∷ [] in
    (later : List WriterStep) × g.M.Memory.did z s later × OnlyChecks s (BumpToken ∷ steps) later
    × GroupsMatchSteps s later y.groups (y.queue.items ++ tail) y.passed held × MakesRoom (by_writer g.M.Memory.does s) config (m, BumpToken ∷ steps) (tokens_of x.queue.items) (tokens_of y.queue.items) (z, later)

went : (g : Over) (x y : ControlState g.row.FIRST g.row.SECOND) (n : ℕ) (states : List GroupState) (b m z : g.row.M.Denot) (long : ℕ) → Came g x states m long y z
    → g.M.Memory.does b BumpToken m → states ≡ slice_set x.pool.groups n Limbo → long ≡ length x.pool.queue.items
    → (s : InitialState) (steps : List WriterStep) (held : Option ℕ) → g.M.Memory.did b s steps → HasUnlinked s steps x.pool n held → WentTo g x.config s steps held x.pool n m y.pool z
went g x y n states b m z long (by_freeing r pool last same there above reclaims queue waiting freed) does set is s steps held did h =
    let on = bumped g b m x.pool n states does set s steps held did h in
    let done = reclaims.after s (BumpToken ∷ steps) ((n, suc (state_after s steps).token) ∷ []) held on.0 on.1 on.2 in
    let limbo = tokens_of x.pool.queue.items in
    let more : x.config.threshold < length limbo = omega (arith, above, is, length-map x.pool.queue.items (λ item. item.1)) in
    let room = room_above (by_writer g.M.Memory.does s) x.config (m, BumpToken ∷ steps) (last, done.0) limbo (tokens_of pool.queue.items) r.freed r.stopped more done.4 in
    subst (λ (l : ControlState g.row.FIRST g.row.SECOND). WentTo g x.config s steps held x.pool n m l.pool z) (sym same)
    (subst (WentTo g x.config s steps held x.pool n m pool) (sym there) (done.0, done.1, done.2, done.3, room))
went g x y n states b m z long (by_nothing same there below) does set is s steps held did h =
    let on = bumped g b m x.pool n states does set s steps held did h in
    let limbo = tokens_of x.pool.queue.items in
    let less : length limbo ≤ x.config.threshold = omega (arith, below, is, length-map x.pool.queue.items (λ item. item.1)) in
    let room = room_below (by_writer g.M.Memory.does s) x.config (m, BumpToken ∷ steps) limbo less in
    subst (λ (l : ControlState g.row.FIRST g.row.SECOND). WentTo g x.config s steps held x.pool n m l.pool z) (sym same)
    (subst (WentTo g x.config s steps held x.pool n m (record x.pool { groups = states })) (sym there) (BumpToken ∷ steps, on.0, still_same s (BumpToken ∷ steps) x.pool.queue.items on.2, on.1, room))

-- the group goes last, and the turn is over
turned : (g : Over) (c : After-len g) (begins : Begins g c.open_update.new.self c.args.update c.args.control.now.pool)
    → let x = c.loop-group.control in
    let n = c.in-Some.group in
    ((block : ℕ) × IsLinkedTo x.pool.groups n block) × ((initial : InitialState) × (steps : List WriterStep) × (held : Option ℕ) × g.M.Memory.did c.run.new.cells initial steps × HasUnlinked initial steps x.pool n held)
    → (j : Joined g c) (q : Queue) → q ≡ record j.control.pool.queue { items = j.control.pool.queue.items ++ (n, c.bump-token.result) ∷ [] }
    → record {
      under_way : IsUnderWayAt (memory g) g.row.FIRST g.row.SECOND j.control.config c.open_update.new.self c.args.control.now.pool c.args.update j.memory (record j.control.pool { queue = q }) c.run.new.self;
      config : j.control.config ≡ c.args.control.now.config;
      rules : j.control.rules ≡ c.args.control.now.rules;
      versions : j.control.versions ≡ c.args.control.now.versions;
    }
turned g c begins unlinked j q last =
    let x = c.loop-group in
    let old = x.control.pool in
    let n = c.in-Some.group in
    let y = j.control.pool in
    let z = j.memory in
    let came = came g c j in
    let does = g.M.Memory.does in
    let linked = unlinked.0 in
    let queued = x.invariant.under_way.queued in
    let h = unlinked.1 in
    let bump = c.bump-token.ensures.does in
    let done = made g x.control j.control n c.retire.new.self c.run.new.cells c.bump-token.new.self z c.len.result came bump c.retire.ensures (still_waiting old n linked.0 linked.1 queued) h.0 h.1 h.2 h.3 h.4 in
    let made = done.0 in
    let retires : Retiring g c.run.new.cells old n x.control.config z (record y { queue = q }) = λ s steps held did h.
    let now = (state_after s steps).token in
    let token : c.bump-token.result ≡ suc now = let e = (g.met.M.Memory.shows c.run.new.cells s steps did).1 in omega (arith, e, c.bump-token.ensures.value) in
    let went = went g x.control j.control n c.retire.new.self c.run.new.cells c.bump-token.new.self z c.len.result came bump c.retire.ensures c.len.ensures.len s steps held did h in
    let items : q.items ≡ y.queue.items ++ (n, suc now) ∷ [] = ap (λ (q : Queue). q.items) last ∙ ap (λ t. y.queue.items ++ (n, t) ∷ []) token in (
      went.0,
      went.1,
      bumped_on s steps went.0 old n held h went.2,
      subst (λ xs. GroupsMatchSteps s went.0 y.groups xs y.passed held) (sym items) went.3,
      ((c.bump-token.new.self, BumpToken ∷ steps), tokens_of y.queue.items, (bump, refl), went.4, ap tokens_of items ∙ tokens_append y.queue.items n (suc now)),
    ) in
    record {
      under_way = subst (λ (k : Config). IsUnderWayAt (memory g) g.row.FIRST g.row.SECOND k c.open_update.new.self c.args.control.now.pool c.args.update z (record y { queue = q }) c.run.new.self) (sym done.1)
          (run_retired (memory g) g.row.FIRST g.row.SECOND x.control.config c.open_update.new.self c.args.control.now.pool c.args.update begins
          x.memory old x.update x.invariant.under_way n c.run.new.self c.run.new.cells c.in-Some.ensures z (record y { queue = q }) retires
          (subst (IsQueued y.groups) (sym last) (retired_queue old y n linked.0 c.bump-token.result linked.1 queued made))
          (made.freed.as_many ∙ length-set old.groups n Limbo) (retired_linked old y n linked.0 linked.1 made) (retired_others old y n made) (retired_gone old y n linked.0 linked.1 made));
      config = done.1 ∙ x.invariant.config;
      rules = done.2 ∙ x.invariant.rules;
      versions = done.3 ∙ x.invariant.versions;
    }

pub loop-group-preserved : goal.loop-group-preserved
loop-group-preserved g c =
    let at = goal.at.loop-group-preserved g c in
    let begins = begins g at.After-open_update in
    let j : Joined g at.After-len = search in
    turned g at.After-len begins (unlinked g at.After-bump-token begins) j _ c.retire-in-Some.ensures

pub loop-group-smaller : goal.loop-group-smaller
loop-group-smaller g c =
    let at = goal.at.loop-group-smaller g c in
    let x = c.loop-group.control.pool in
    let linked = (unlinked g at.After-bump-token (begins g at.After-open_update)).0 in
    let one = (Retires-set x.groups c.in-Some.group linked.0 linked.1).linked in
    grind (arith, one)

pub close_update-requires : goal.close_update-requires
close_update-requires g c =
    let x = c.loop-group in
    let begins = begins g (goal.at.close_update-requires g c).After-open_update in
    let over = run_over (memory g) g.row.FIRST g.row.SECOND x.control.config c.open_update.new.self c.args.control.now.pool c.args.update begins
    x.memory x.control.pool x.update x.invariant.under_way c.run.new.self c.run.new.cells c.in_default.ensures in
    let made = over.0 begins.0 begins.1 begins.2 begins.3 in
    record { may = (begins.0, made.0, made.1, made.2.may_close) }

pub overflow_add-control : goal.overflow_add-control
overflow_add-control g c = let few = c.requires.due.3.few in let same = c.loop-group.invariant.versions in omega (arith, few, same)

pub returns-clause-changed : goal.returns-clause-changed
returns-clause-changed g c = λ initial steps did due.
    let f = g.row.FIRST in
    let s = g.row.SECOND in
    let l = c.args.control.now in
    let x = c.loop-group in
    let now = x.invariant in
    let change = c.args.rule_change.now in
    let at = (goal.at.returns-clause-changed g c).After-open_update in
    let opened = begun g at initial steps did due in
    let over = run_over (memory g) f s x.control.config c.open_update.new.self l.pool c.args.update (begins g at) x.memory x.control.pool x.update now.under_way c.run.new.self c.run.new.cells c.in_default.ensures in
    let made = over.0 initial (BeginUpdate change ∷ steps) opened.0 opened.1 in
    let all = subst (λ k. HasMade g.M.Memory.does initial k c.open_update.new.self (BeginUpdate change ∷ steps) l.pool c.run.new.cells made.0 x.control.pool) now.config made.2 in
    let end = due_closed f s initial steps l.config l.rules l.pool l.versions c.args.update change due (memory g) c.args.memory.now did c.open_update.new.self c.open_update.ensures.does
    c.run.new.cells c.close_update.new.self made.0 x.control.pool made.1 all c.close_update.ensures.does over.1 over.2 now.under_way.queued now.under_way.states in
    let later = EndUpdate ∷ made.0 in
    let rests = subst (λ n. IsResting f s initial later l.config l.rules x.control.pool (n + 1)) (sym now.versions) end.1 in
    let rules = subst (λ (r : RuleList). IsResting f s initial later l.config r x.control.pool (x.control.versions + 1)) (sym now.rules) rests in
    (later, end.0, subst (λ (k : Config). IsResting f s initial later k x.control.rules x.control.pool (x.control.versions + 1)) (sym now.config) rules, end.2)

pub returns-clause-stays : goal.returns-clause-stays
returns-clause-stays g c = c.loop-group.invariant.under_way.stays
