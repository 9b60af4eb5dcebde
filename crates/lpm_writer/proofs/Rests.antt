-- What a writer keeps, before and after its commands.
use Rattle.std.proofs.Common.{arith, ◌≡◌, ℕ, ◌+◌, ◌-◌, ◌*◌, ◌%◌, ◌^◌, ◌<◌, ◌≤◌, inl, inr, refl, sym, ap, subst, ◌∙◌, List, [], ◌∷◌, length, Option, Some, None, Bool, false}
use Rattle.std.proofs.lemmas.Option.{none-some}
use Rattle.std.specs.Prelude.{IsTrue, ◌↔◌}
use Rattle.std.proofs.lemmas.Bool.{cases_lt}
use Rattle.lpm_cells.specs.Words.{Words, entry_at}
use Rattle.lpm_groups.specs.declared.GroupState.{GroupState}
use Rattle.lpm_groups.specs.States.{linked_count}
use Rattle.lpm_limits.specs.declared.config.Config.{Config}
use Rattle.lpm_rules.specs.RuleMap.{RuleMap, RuleList}
use Rattle.lpm_update.specs.declared.update.Plan.{Plan}
use Rattle.lpm_update.specs.declared.update.Plan.TheVariants.{Range, Link, Unlink, Flush}
use Rattle.lpm_update.specs.BlockGroups.{group_at}
use Rattle.lpm_update.specs.Represents.{Represents, IsBegun, TurnsInto}
use Rattle.lpm_update.specs.GroupStates.{IsTied}
use Rattle.lpm_update.specs.Update.{FillsFor, entry_after, group_held}
use Rattle.lpm_update.proofs.Promises.{best_hop, linked_deep, tied_same}
use Rattle.fib_model.specs.State.{State, Transitions, IsExhausted, HasTokens, Unlinks}
use Rattle.fib_model.specs.Outcomes.{groups_in_use, Shrinks}
use Rattle.lpm_trace.specs.declared.step.RuleChange.{RuleChange}
use Rattle.lpm_trace.specs.declared.step.WriterStep.{WriterStep}
use Rattle.lpm_trace.specs.declared.step.WriterStep.TheVariants.{BeginUpdate, EndUpdate}
use Rattle.lpm_trace.specs.States.{InitialState, TableState, state_after, answer, IsAnswer, IsChange, updates_done_in, done_at, rules_by}
use Rattle.lpm_trace.specs.Writer.{MayStep}
use Rattle.lpm_writer.specs.declared.pool.GroupPool.{GroupPool}
use Rattle.lpm_writer.specs.Limbo.{IsFreed, IsQueued, tokens_of}
use Rattle.lpm_writer.specs.MemorySteps.{by_writer}
use Rattle.lpm_writer.specs.GroupsMatch.{HasNothingDue, SameState, OnlyChecks, GroupsMatchSteps}
use Rattle.lpm_writer.specs.Steps.{StoresOnce}
use Rattle.lpm_writer.specs.Commands.{MayCommand, MayFree}
use Rattle.lpm_writer.specs.TakenGroup.{MayTake}
use Rattle.lpm_writer.specs.declared.control.ControlState.{ControlState}
use Rattle.lpm_writer.proofs.LimboItems.{no_tail, may_reclaim}
use Rattle.lpm_writer.specs.GroupToFill.{group_to_fill, unless_linked, IsTakenBy}
use Rattle.lpm_writer.specs.Rest.{IsBetween, Changes, IsResting, IsDue, state_of}
use Rattle.lpm_writer.proofs.UpdateRuns.{AsMemory, fit}
use Rattle.lpm_writer.proofs.Checks.{quiet_same}
use Rattle.lpm_writer.proofs.StepsAlone.{StoresNothing}
use Rattle.lpm_writer.proofs.WholeUpdates.{MayChange, truth, may_open, after_open, after_close}
use Rattle.lpm_writer.proofs.RunningUpdate.{answer_after, MayMake, HasMade}

-- a change that fills no group
pub none_fills : (u : Plan) (block : ℕ) (F : List ℕ) → FillsFor u None block → (group_to_fill u F ≡ None) × IsTakenBy u None
none_fills (Range u) block F h = (refl, refl)
none_fills (Link u) block F h = absurd (none-some u.group h.0)
none_fills (Unlink u) block F h = (refl, refl)
none_fills (Flush u) block F h = (refl, refl)

-- a change that fills a group for a block that has none
pub some_fills : (u : Plan) (g block : ℕ) (F : List ℕ) → FillsFor u (Some g) block → group_at F block ≡ None → (group_to_fill u F ≡ Some g) × IsTakenBy u None
some_fills (Range u) g block F h none = absurd (none-some g (sym h))
some_fills (Link u) g block F h none = (ap (λ b. unless_linked (group_at F b) u.group) h.1 ∙ ap (λ o. unless_linked o u.group) none ∙ sym h.0, inr (refl, h.2))
some_fills (Unlink u) g block F h none = absurd (none-some g (sym h))
some_fills (Flush u) g block F h none = absurd (none-some g (sym h))

-- as many groups are linked as there are deep blocks
pub linked_resting : (f s : ℕ) (c : InitialState) (steps : List WriterStep) (config : Config) (rules : RuleList) (pool : GroupPool) (begun : ℕ) → IsResting f s c steps config rules pool begun
    → linked_count pool.groups ≡ groups_in_use f s rules.rules
linked_resting f s c steps config rules pool begun rest = linked_deep f s rules.rules (state_after c steps).words pool.groups rest.represents rest.tied

-- ---- tokens and versions

pub has_tokens : {X : Type 0} (t : Transitions X) (config : Config) (S : State X) (b : Bool) → b ≡ false → IsTrue b ↔ IsExhausted t config S → HasTokens t config S
has_tokens t config S b off k = (
  elim (cases_lt (2 ^ 62) (t.token S.readers + config.groups)) [
    | inl past ↦ absurd (truth b off (k.1 (inl past)))
    | inr within ↦ within
  ],
  elim (cases_lt S.updates_begun (2 ^ 61)) [
    | inl within ↦ within
    | inr past ↦ absurd (truth b off (k.1 (inr past)))
  ],
)

-- ---- after checks alone

pub even_not : (n : ℕ) → n % 2 ≡ 0 → n % 2 ≡ 1 → ⊥
even_not n p q = omega (arith, p, q)

pub between_take : (c : InitialState) (steps : List WriterStep) (pool : GroupPool) → IsBetween c steps → GroupsMatchSteps c steps pool.groups pool.queue.items pool.passed None → MayTake c steps pool
between_take c steps pool between keeps = record { keeps = keeps; idle = between.idle; rests = even_not (state_after c steps).sequence between.even }

between_quiet : (c : InitialState) (steps later : List WriterStep) → IsBetween c steps → SameState (state_after c steps) (state_after c later) → HasNothingDue c later → StoresOnce later → IsBetween c later
between_quiet c steps later between quiet idle once = record {
  idle = idle;
  even = ap (λ n. n % 2) quiet.sequence ∙ between.even;
  clear = λ a low. ap (λ t. t a) quiet.answer_changed ∙ between.clear a low;
  once = once;
}

version_quiet : (c : InitialState) (steps later : List WriterStep) (R : RuleMap) → (state_after c steps).history (updates_done_in (state_after c steps)) ≡ R → SameState (state_after c steps) (state_after c later) → (state_after c later).history (updates_done_in (state_after c later)) ≡ R
version_quiet c steps later R version quiet =
    ap (λ n. (state_after c later).history (done_at n)) quiet.sequence ∙ ap (λ h. h (updates_done_in (state_after c steps))) quiet.history ∙ version

-- the token may be another
pub rests_quiet : (f s : ℕ) (c : InitialState) (steps later : List WriterStep) (config : Config) (rules : RuleList) (pool new : GroupPool) (begun : ℕ) → IsResting f s c steps config rules pool begun
    → SameState (state_after c steps) (state_after c later) → HasNothingDue c later → StoresOnce later → GroupsMatchSteps c later new.groups new.queue.items new.passed None → IsTied f new.groups (group_at (state_after c steps).words.firsts)
    → IsQueued new.groups new.queue → length new.groups ≡ length pool.groups → IsResting f s c later config rules new begun
rests_quiet f s c steps later config rules pool new begun rest q idle once keeps tied queued states =
    record {
      shape = rest.shape;
      widths = rest.widths;
      workers = rest.workers;
      between = between_quiet c steps later rest.between q idle once;
      version = version_quiet c steps later rules.rules rest.version q;
      represents = subst (Represents f s rules.rules) (sym q.words) rest.represents;
      tied = subst (λ (W : Words). IsTied f new.groups (group_at W.firsts)) (sym q.words) tied;
      room = record {
        few = subst (λ n. n ≤ 65536) (sym states) rest.room.few;
        words = ap (λ (W : Words). length W.seconds) q.words ∙ rest.room.words ∙ ap (λ n. n * 2 ^ s) (sym states);
      };
      queued = queued;
      keeps = keeps;
      limits = rest.limits;
      max = rest.max;
      states = states ∙ rest.states;
      versions = rest.versions ∙ sym (ap done_at q.sequence);
      updates = rest.updates;
    }

pub rests_still : (f s : ℕ) (c : InitialState) (steps later : List WriterStep) (config : Config) (rules : RuleList) (pool new : GroupPool) (begun : ℕ) → IsResting f s c steps config rules pool begun
    → OnlyChecks c steps later → StoresNothing steps later → GroupsMatchSteps c later new.groups new.queue.items new.passed None → IsTied f new.groups (group_at (state_after c steps).words.firsts) → IsQueued new.groups new.queue
    → length new.groups ≡ length pool.groups → IsResting f s c later config rules new begun
rests_still f s c steps later config rules pool new begun rest still nothing keeps tied queued states =
    rests_quiet f s c steps later config rules pool new begun rest still.quiet still.idle (nothing.once rest.between.once) keeps tied queued states

-- ---- an update

module _ (f s : ℕ) (c : InitialState) (steps : List WriterStep) (config : Config) (rules : RuleList) (pool : GroupPool) (begun : ℕ) (u : Plan) (change : RuleChange) (due : IsDue f s c steps config rules pool begun u change) where
  number : begun ≡ updates_done_in (state_after c steps)
  number = due.rested.versions ∙ sym (ap done_at due.still.quiet.sequence)

  version : (state_after c steps).history (updates_done_in (state_after c steps)) ≡ due.before.rules
  version = version_quiet c due.older steps due.before.rules due.rested.version due.still.quiet

  represents_now : Represents f s due.before.rules (state_after c steps).words
  represents_now = subst (Represents f s due.before.rules) (sym due.still.quiet.words) due.rested.represents

  -- the update may be made
  may_change : MayChange f s c steps u change pool
  may_change =
      let w : TableState = state_after c steps in
      let widths = due.rested.widths in
      let represents = fit (λ a b. Represents a b due.before.rules w.words) f s c widths represents_now in
      let turns = fit (λ a b. TurnsInto a b u due.before.rules rules.rules) f s c widths due.turns in
      record {
        widths = widths;
        between = between_quiet c due.older steps due.rested.between due.still.quiet due.still.idle due.once;
        few = subst (λ n. n < 2 ^ 61) number due.few;
        table = represents.table;
        begun = fit (λ a b. IsBegun a b u w.words) f s c widths (subst (IsBegun f s u) (sym due.still.quiet.words) due.begins);
        fresh = due.fresh;
        sound = fit (λ a b. IsChange (a + b) change) f s c widths due.sound;
        old = λ a low. subst (λ r. IsAnswer c r a (answer c w.words a)) (sym version) (best_hop (c.first + c.second) due.before.rules a (entry_at c.second w.words a) (represents.best a low));
        new = λ a low. subst (λ r. IsAnswer c r a (answer_after c u w.words a)) (sym (ap (λ r. rules_by r change) version ∙ due.makes))
            (best_hop (c.first + c.second) rules.rules a (entry_after (c.first + c.second) u (entry_at c.second w.words) a) (turns.best (entry_at c.second w.words) represents.best a low));
        keeps = subst (λ (W : Words). GroupsMatchSteps c steps pool.groups pool.queue.items pool.passed (group_to_fill u W.firsts)) (sym due.still.quiet.words) due.keeps;
      }

  pub due_step : MayStep c steps (BeginUpdate change)
  due_step = may_open f s c steps u change pool may_change

  pub due_few : updates_done_in (state_after c steps) < 2 ^ 61
  due_few = subst (λ n. n < 2 ^ 61) number due.few

  module _ {M : Type 0} (mem : AsMemory M) (m : M) (did : mem.says.did m c steps) (x : M) (opens : mem.says.does m (BeginUpdate change) x) where
    did_open : mem.says.did x c (BeginUpdate change ∷ steps)
    did_open = mem.follows m (BeginUpdate change) x c steps opens did due_step

    seen : mem.cells.words x ≡ (state_after c steps).words
    seen = (mem.shows x c (BeginUpdate change ∷ steps) did_open).0

    -- the update has begun
    pub due_opened : mem.says.did x c (BeginUpdate change ∷ steps) × MayMake f s c (BeginUpdate change ∷ steps) u pool × IsTied f pool.groups (group_held u (mem.cells.words x).firsts)
        × (mem.says.newest x + length pool.groups ≤ 2 ^ 62)
    due_opened = (
      did_open,
      after_open f s c steps u change pool may_change,
      subst (λ (W : Words). IsTied f pool.groups (group_held u W.firsts)) (sym (seen ∙ due.still.quiet.words)) due.tied,
      omega (arith, (mem.shows x c (BeginUpdate change ∷ steps) did_open).1, due.still.token, due.states, due.rested.states, due.tokens),
    )

    -- the update is done
    module _ (y z : M) (later : List WriterStep) (new : GroupPool) (did_y : mem.says.did y c later) (made : HasMade mem.says.does c config x (BeginUpdate change ∷ steps) pool y later new) (closes : mem.says.does y EndUpdate z) where
      did_close : mem.says.did z c (EndUpdate ∷ later)
      did_close = mem.follows y EndUpdate z c later closes did_y made.may_close

      pub due_closed : ((R R' : RuleMap) → Represents f s R (mem.cells.words x) → TurnsInto f s u R R' → Represents f s R' (mem.cells.words y) × IsTied f new.groups (group_at (mem.cells.words y).firsts))
          → length (mem.cells.words y).seconds ≡ length (mem.cells.words x).seconds → IsQueued new.groups new.queue → length new.groups ≡ length pool.groups
          → mem.says.did z c (EndUpdate ∷ later) × IsResting f s c (EndUpdate ∷ later) config rules new (begun + 1) × Changes (by_writer mem.says.does c) config (m, steps) pool (z, EndUpdate ∷ later) new
      due_closed represents sizes queued as_many =
          let rest = due.rested in
          let done = after_close mem.says.does f s config c steps u change pool new m x y z later may_change opens made closes in
          let now : mem.cells.words y ≡ (state_after c later).words = (mem.shows y c later did_y).0 in
          let states = as_many ∙ due.states in
          let next = done.next in
          let few = due.few in
          let end = represents due.before.rules rules.rules (subst (Represents f s due.before.rules) (sym seen) represents_now) due.turns in (
            did_close,
            record {
              shape = rest.shape;
              widths = rest.widths;
              workers = rest.workers;
              between = done.between;
              version = done.rules ∙ ap (λ r. rules_by r change) version ∙ due.makes;
              represents = subst (Represents f s rules.rules) now end.0;
              tied = subst (λ (W : Words). IsTied f new.groups (group_at W.firsts)) now end.1;
              room = record {
                few = subst (λ n. n ≤ 65536) (sym states) rest.room.few;
                words = ap (λ (W : Words). length W.seconds) (sym now) ∙ sizes ∙ ap (λ (W : Words). length W.seconds) (seen ∙ due.still.quiet.words) ∙ rest.room.words ∙ ap (λ n. n * 2 ^ s) (sym states);
              };
              queued = queued;
              keeps = done.keeps;
              limits = rest.limits;
              max = due.max ∙ rest.max;
              states = states ∙ rest.states;
              versions = omega (arith, next, number);
              updates = omega (arith, few);
            },
            done.changes,
          )

-- a change of the rules at rest, whose update takes no group
pub due_at_rest : (f s : ℕ) (c : InitialState) (steps : List WriterStep) (config : Config) (rules new : RuleList) (pool : GroupPool) (begun : ℕ) (rest : IsResting f s c steps config rules pool begun) (R : RuleMap) (u : Plan) (change : RuleChange)
    → IsBegun f s u (state_after c steps).words × TurnsInto f s u rules.rules R → new ≡ record { rules = R; max = rules.max } → rules_by rules.rules change ≡ R → IsChange (f + s) change
    → ((block : ℕ) → FillsFor u None block) → ((firsts : List ℕ) (i : ℕ) → group_held u firsts i ≡ group_at firsts i)
    → ((state_after c steps).token + config.groups ≤ 2 ^ 62) × (begun < 2 ^ 61) → IsDue f s c steps config new pool begun u change
due_at_rest f s c steps config rules new pool begun rest R u change begins is makes sound fills held left =
    let w : TableState = state_after c steps in
    let none = none_fills u 0 w.words.firsts (fills 0) in
    let gone = ap (λ (r : RuleList). r.rules) is in
    record {
      older = steps;
      before = rules;
      kept = pool;
      rested = rest;
      still = record { quiet = quiet_same w; token = refl; taken = refl; idle = rest.between.idle };
      once = rest.between.once;
      states = refl;
      queued = rest.queued;
      tied = tied_same f pool.groups (group_at w.words.firsts) (group_held u w.words.firsts) (λ i low. held w.words.firsts i) rest.tied;
      keeps = subst (GroupsMatchSteps c steps pool.groups pool.queue.items pool.passed) (sym none.0) rest.keeps;
      fresh = none.1;
      begins = begins.0;
      turns = subst (TurnsInto f s u rules.rules) (sym gone) begins.1;
      makes = makes ∙ sym gone;
      max = ap (λ (r : RuleList). r.max) is;
      sound = sound;
      tokens = left.0;
      few = left.1;
    }

-- an update to fewer rules that was made
pub shrinks : {X : Type 0} (t : Transitions X) (f s : ℕ) (c : InitialState) (steps later : List WriterStep) (config config' : Config) (rules rules' : RuleList) (pool new : GroupPool) (begun begun' : ℕ) (R : RuleMap) (x z : X)
    → IsResting f s c steps config rules pool begun → IsResting f s c later config' rules' new begun' → rules'.rules ≡ R → begun' ≡ begun + 1 → HasTokens t config (state_of rules.rules x pool begun)
    → Changes t config x pool z new → Shrinks t f s config (state_of rules.rules x pool begun) R (state_of rules'.rules z new begun')
shrinks t f s c steps later config config' rules rules' pool new begun begun' R x z rest after gone next tokens k =
    let same : linked_count pool.groups - linked_count new.groups ≡ groups_in_use f s rules.rules - groups_in_use f s R =
    omega (arith, linked_resting f s c steps config rules pool begun rest, linked_resting f s c later config' rules' new begun' after, ap (groups_in_use f s) gone) in
    (tokens, (k.opened, k.last, k.begins, subst (λ n. Unlinks t config n k.opened (tokens_of pool.queue.items) k.last (tokens_of new.queue.items)) same k.unlinks, k.ends), (gone, next))

-- a test has told that tokens and versions are left
abbrev pub AreFoundLeft : {f s : ℕ} {M : Type 0} → (M → InitialState → List WriterStep → Type 0) → (M → WriterStep → M → Type 0) → ControlState f s → M → Type 0
AreFoundLeft did does l m = (b : Bool) × (b ≡ false)
    × ((c : InitialState) (steps : List WriterStep) → did m c steps → IsTrue b ↔ IsExhausted (by_writer does c) l.config (state_of l.rules.rules (m, steps) l.pool l.versions))

pub found_left : {f s : ℕ} {M : Type 0} (did : M → InitialState → List WriterStep → Type 0) (does : M → WriterStep → M → Type 0) (l : ControlState f s) (m : M) → AreFoundLeft did does l m
    → (c : InitialState) (steps : List WriterStep) → did m c steps → HasTokens (by_writer does c) l.config (state_of l.rules.rules (m, steps) l.pool l.versions)
found_left did does l m told c steps may_be = has_tokens (by_writer does c) l.config (state_of l.rules.rules (m, steps) l.pool l.versions) told.0 told.1 (told.2 c steps may_be)

-- groups that wait may be freed where the writer rests
pub may_free_at_rest : {f s : ℕ} {M : Type 0} (did : M → InitialState → List WriterStep → Type 0) (l : ControlState f s) (m : M) → MayCommand did l m → MayFree did m l.pool.groups l.pool.passed l.pool.queue.items
may_free_at_rest did l m r =
    let x = l.pool in
    record { initial = r.0; steps = r.1; behind = []; held = None; led = r.2; groups = no_tail r.0 r.1 x.groups x.queue.items x.passed None r.3.keeps; may = may_reclaim r.0 r.1 x (between_take r.0 r.1 x r.3.between r.3.keeps) }

-- groups that no block has were freed
pub tied_freed : (f n : ℕ) (xs ys : List GroupState) (items : List (ℕ × ℕ)) (L : ℕ → Option ℕ) → IsFreed xs items n ys → IsTied f xs L → IsTied f ys L
tied_freed f n xs ys items L freed tied = record {
  linked = λ b g low e. (freed.links g b).1 (tied.linked b g low e);
  only = λ b g at. tied.only b g ((freed.links g b).0 at);
}
