-- A whole update, from its first step to its last.
use Rattle.std.proofs.Common.{arith, ◌≡◌, ◌≢◌, ℕ, suc, ◌+◌, ◌/◌, ◌%◌, ◌^◌, ◌<◌, Bool, true, false, refl, sym, ap, subst, ◌∙◌, List, ◌∷◌, None}
use Rattle.std.proofs.lemmas.List.Elements.{All-nil}
use Rattle.lpm_limits.specs.declared.config.Config.{Config}
use Rattle.lpm_rules.specs.RuleMap.{RuleMap}
use Rattle.lpm_update.specs.declared.update.Plan.{Plan}
use Rattle.lpm_update.specs.BlockGroups.{IsTable}
use Rattle.lpm_update.specs.Represents.{IsBegun}
use Rattle.lpm_update.proofs.Runs.{run_begins}
use Rattle.lpm_trace.specs.declared.step.RuleChange.{RuleChange}
use Rattle.lpm_trace.specs.declared.step.WriterStep.{WriterStep}
use Rattle.lpm_trace.specs.declared.step.WriterStep.TheVariants.{BeginUpdate, EndUpdate}
use Rattle.lpm_trace.specs.States.{InitialState, TableState, state_after, addresses, answer, IsAnswer, IsChange, updates_done_in, updates_begun_in, done_at, rules_by}
use Rattle.lpm_trace.specs.Writer.{MayStep}
use Rattle.lpm_trace.proofs.Versions.{with_at-same, with_at-other}
use Rattle.lpm_writer.specs.declared.pool.GroupPool.{GroupPool}
use Rattle.lpm_writer.specs.MemorySteps.{by_writer}
use Rattle.lpm_writer.specs.GroupsMatch.{GroupsMatchSteps}
use Rattle.lpm_writer.specs.GroupToFill.{HasWidths, IsTakenBy, group_to_fill}
use Rattle.lpm_writer.specs.Rest.{IsBetween, Changes}
use Rattle.lpm_writer.proofs.Reclaims.{kept_quiet}
use Rattle.lpm_writer.proofs.RunningUpdate.{HasPassedStore, answer_after, MayMake, HasMade}

-- the update u by this change of the rules may be made
pub record MayChange (first second : ℕ) (c : InitialState) (steps : List WriterStep) (u : Plan)
    (change : RuleChange) (pool : GroupPool) : Type 0 where
  pub widths : HasWidths first second c
  pub between : IsBetween c steps
  pub few : updates_done_in (state_after c steps) < 2 ^ 61
  pub table : IsTable c.first c.second (state_after c steps).words
  pub begun : IsBegun c.first c.second u (state_after c steps).words
  pub fresh : IsTakenBy u None
  pub sound : IsChange (c.first + c.second) change
  pub old : (a : ℕ) → a < addresses c
      → IsAnswer c ((state_after c steps).history (updates_done_in (state_after c steps))) a
      (answer c (state_after c steps).words a)
  pub new : (a : ℕ) → a < addresses c
      → IsAnswer c (rules_by ((state_after c steps).history (updates_done_in (state_after c steps))) change) a
      (answer_after c u (state_after c steps).words a)
  pub keeps : GroupsMatchSteps c steps pool.groups pool.queue.items pool.passed
      (group_to_fill u (state_after c steps).words.firsts)

-- the update was made
pub record HasChanged {M : Type 0} (does : M → WriterStep → M → Type 0) (c : InitialState)
    (config : Config) (change : RuleChange) (m : M) (steps : List WriterStep) (old : GroupPool) (z : M)
    (later : List WriterStep) (new : GroupPool) : Type 0 where
  pub between : IsBetween c later
  pub keeps : GroupsMatchSteps c later new.groups new.queue.items new.passed None
  pub rules : (state_after c later).history (updates_done_in (state_after c later))
      ≡ rules_by ((state_after c steps).history (updates_done_in (state_after c steps))) change
  pub next : updates_done_in (state_after c later) ≡ updates_done_in (state_after c steps) + 1
  pub changes : Changes (by_writer does c) config (m, steps) old (z, later) new

-- ---- numbers of updates

even_done : (n : ℕ) → n % 2 ≡ 0 → (suc n) / 2 ≡ n / 2
even_done n e = omega (arith, e)

pub even_begun : (n : ℕ) → n % 2 ≡ 0 → (suc n + 1) / 2 ≡ suc ((n + 1) / 2)
even_begun n e = omega (arith, e)

pub even_same : (n : ℕ) → n % 2 ≡ 0 → (n + 1) / 2 ≡ n / 2
even_same n e = omega (arith, e)

not_next : (n : ℕ) → n % 2 ≡ 0 → n / 2 ≢ suc ((n + 1) / 2)
not_next n e h = omega (arith, e, h)

pub truth : (b : Bool) → b ≡ false → b ≡ true → ⊥
truth b p q = cc

-- ---- the step that opens the update

pub may_open : (f s : ℕ) (c : InitialState) (steps : List WriterStep) (u : Plan) (change : RuleChange) (pool : GroupPool) → MayChange f s c steps u change pool → MayStep c steps (BeginUpdate change)
may_open f s c steps u change pool m = ((m.between.even, m.sound), m.between.idle.next_step)

pub after_open : (f s : ℕ) (c : InitialState) (steps : List WriterStep) (u : Plan) (change : RuleChange) (pool : GroupPool) → MayChange f s c steps u change pool → MayMake f s c (BeginUpdate change ∷ steps) u pool
after_open f s c steps u change pool m =
    let w : TableState = state_after c steps in
    let z : TableState = state_after c (BeginUpdate change ∷ steps) in
    let n = w.sequence in
    let even = m.between.even in
    let R = w.history (updates_done_in w) in
    let same : updates_begun_in w ≡ updates_done_in w = even_same n even in
    let at_done : z.history (updates_done_in z) ≡ R = ap z.history (even_done n even) ∙ with_at-other w.history (suc (updates_begun_in w)) (rules_by (w.history (updates_begun_in w)) change) (updates_done_in w) (not_next n even) in
    let at_begun : z.history (updates_begun_in z) ≡ rules_by R change = ap z.history (even_begun n even) ∙ with_at-same w.history (suc (updates_begun_in w)) (rules_by (w.history (updates_begun_in w)) change) ∙ ap (λ k. rules_by (w.history k) change) same in
    record {
      widths = m.widths;
      making = record {
        come = run_begins c.first c.second u w.words m.table m.begun;
        updating = omega (arith, even);
        taken = m.fresh;
        passed = All-nil (HasPassedStore c.second u w.words.firsts);
        once = (λ n d low same. same, m.between.once);
        old = λ a low. subst (λ (r : RuleMap). IsAnswer c r a (answer c w.words a)) (sym at_done) (m.old a low);
        new = λ a low. subst (λ (r : RuleMap). IsAnswer c r a (answer_after c u w.words a)) (sym at_begun) (m.new a low);
        answer_changed = λ a low now. absurd (truth (w.answer_changed a) (m.between.clear a low) now);
      };
      idle = record { next_step = m.between.idle.next_step; awaited = m.between.idle.awaited };
      keeps = record { kept = kept_quiet c w z w.token pool.groups pool.queue.items (group_to_fill u w.words.firsts) refl (omega arith) m.keeps.kept; remembers = m.keeps.remembers };
    }

-- ---- the step that closes it

pub after_close : {M : Type 0} (does : M → WriterStep → M → Type 0) (f s : ℕ) (config : Config) (c : InitialState) (steps : List WriterStep) (u : Plan) (change : RuleChange) (old new : GroupPool) (m x y z : M) (later : List WriterStep)
    → MayChange f s c steps u change old → does m (BeginUpdate change) x → HasMade does c config x (BeginUpdate change ∷ steps) old y later new → does y EndUpdate z
    → HasChanged does c config change m steps old z (EndUpdate ∷ later) new
after_close does f s config c steps u change old new m x y z later may opens made closes =
    let w : TableState = state_after c steps in
    let v : TableState = state_after c later in
    let n = w.sequence in
    let even = may.between.even in
    let seq : v.sequence ≡ suc n = made.sequence in
    let number : done_at (suc v.sequence) ≡ suc (updates_begun_in w) = ap (λ k. done_at (suc k)) seq ∙ twice n even in
    record {
      between = record {
        idle = record { next_step = made.idle.next_step; awaited = made.idle.awaited };
        even = ap (λ k. suc k % 2) seq ∙ back n even;
        clear = λ a low. refl;
        once = (λ n d low same. same, made.once);
      };
      keeps = record { kept = kept_quiet c v (state_after c (EndUpdate ∷ later)) v.token new.groups new.queue.items None refl (omega arith) made.keeps.kept; remembers = made.keeps.remembers };
      rules = ap v.history number ∙ ap (λ (h : ℕ → RuleMap). h (suc (updates_begun_in w))) made.history ∙ with_at-same w.history (suc (updates_begun_in w)) (rules_by (w.history (updates_begun_in w)) change)
          ∙ ap (λ k. rules_by (w.history k) change) (even_same n even);
      next = omega (arith, number, even_same n even);
      changes = record {
        opened = (x, BeginUpdate change ∷ steps);
        last = made.unlinked.last;
        begins = (change, (opens, refl));
        unlinks = made.unlinked.unlinks;
        ends = (made.unlinked.stores, (y, later), made.unlinked.since, (closes, refl));
      };
    }
  where
    twice : (n : ℕ) → n % 2 ≡ 0 → suc (suc n) / 2 ≡ suc ((n + 1) / 2)
    twice n e = omega (arith, e)

    back : (n : ℕ) → n % 2 ≡ 0 → suc (suc n) % 2 ≡ 0
    back n e = omega (arith, e)
