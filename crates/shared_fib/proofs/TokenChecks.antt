-- Each group that a command frees was checked after it was retired, and so was the token of a synchronize.
use Rattle.std.proofs.Common.{ℕ, suc, ◌≡◌, ◌+◌, ◌<◌, ◌≤◌, inl, inr, ap, sym, subst, All, List, [], ◌∷◌, ◌++◌, get_or, arith}
use Rattle.std.proofs.lemmas.Bool.{cases_lt}
use Rattle.std.specs.List.{range_with_len}
use Rattle.std.proofs.lemmas.List.FromFn.{length-range_with_len, get_or-range_with_len}
use Rattle.std.proofs.lemmas.List.Elements.{All-nil, All-cons, All-append}
use Rattle.fib_model.specs.State.{State}
use Rattle.lpm_trace.specs.declared.step.WriterStep.{WriterStep}
use Rattle.lpm_trace.specs.declared.step.WriterStep.TheVariants.{BumpToken}
use Rattle.lpm_trace.specs.States.{InitialState, state_after}
use Rattle.lpm_trace.specs.Laws.{IsChecked}
use Rattle.lpm_trace.proofs.Versions.{token_is, passed_is}
use Rattle.lpm_trace.specs.Writer.{token_after}
use Rattle.lpm_writer.specs.Steps.{Synchronizes}
use Rattle.lpm_writer.proofs.StepsAlone.{steps_passed, stopped_token}
use Rattle.lpm_writer.specs.GroupsMatch.{AreRetired}
use Rattle.lpm_writer.specs.Limbo.{tokens_of}
use Rattle.shared_words.specs.declared.view.View.{View}
use Rattle.shared_words.specs.Layout.{InitialData, initial_state_of}
use Rattle.shared_words.specs.Seats.{AreChecked}
use Rattle.shared_fib.specs.FreedGroups.{FreesChecked}
use Rattle.shared_fib.proofs.FreedGroups.{Leaves}
use Rattle.shared_fib.specs.RunningTable.{OnlySees}
use Rattle.shared_fib.proofs.LeastGroup.{given_up}
use Rattle.shared_fib.proofs.Lookups.{all_front}

-- ---- the tokens under which groups are retired

-- each was started, and none is token 0
tokens_numbered : (o : InitialData) (steps : List WriterStep) (token : ℕ) (items : List (ℕ × ℕ))
    → AreRetired (state_after (initial_state_of o) steps).groups token items → All (λ t. 0 < t) (tokens_of items)
tokens_numbered o steps token [] are = All-nil (λ t. 0 < t)
tokens_numbered o steps token (item ∷ items) are =
    All-cons (λ t. 0 < t) item.1 (tokens_of items) (let up = given_up o steps item.0 item.1 are.0 in omega (arith, up.next))
    (tokens_numbered o steps token items are.2)

-- ---- so each was checked

-- what the look at the end of a command finds, by what the table was opened with
pub looked : (v w : View) → OnlySees v w → AreChecked w.initial w.writer_steps → AreChecked v.initial w.writer_steps
looked v w sees are =
    subst (λ (o : InitialData). AreChecked o w.writer_steps) (ap (λ (x : View). x.initial) sees) are

-- a token that was started, and has passed
pub token_checked : (o : InitialData) (steps : List WriterStep) (t : ℕ) → 0 < t
    → (0 < (initial_state_of o).workers → t ≤ (state_after (initial_state_of o) steps).passed)
    → AreChecked o steps → IsChecked o.workers o.token steps t
token_checked o steps t past passed checked = elim (cases_lt 0 (initial_state_of o).workers) [
  | inl some ↦ let low = passed some in checked t past (omega (arith, low, passed_is (initial_state_of o) steps))
  | inr none ↦ record {
    checked = t;
    later = omega arith;
    each = λ worker inside. absurd (omega (arith, none, inside));
  }
]

started_past : (token n : ℕ) → All (λ t. 0 < t) (range_with_len (token + 1) n)
started_past token n i d within =
    let low : i < n = omega (arith, length-range_with_len (token + 1) n, within) in
    subst (λ t. 0 < t) (sym (get_or-range_with_len (token + 1) n i d low)) (omega arith)

pub frees_checked : (o : InitialData) (s z : State (List WriterStep)) (token : ℕ) (items : List (ℕ × ℕ))
    (n : ℕ) (freed : List ℕ)
    → AreRetired (state_after (initial_state_of o) s.readers).groups token items → s.limbo ≡ tokens_of items
    → Leaves (initial_state_of o) s.readers z.readers s.limbo n freed z.limbo → AreChecked o z.readers
    → FreesChecked o s z freed
frees_checked o s z token items n freed are same h checked =
    let c : InitialState = initial_state_of o in
    let t : ℕ = (state_after c s.readers).token in
    let waited : All (λ t. 0 < t) s.limbo = subst (All (λ t. 0 < t)) (sym same)
    (tokens_numbered o s.readers token items are) in
    let all : All (λ t. 0 < t) (s.limbo ++ range_with_len (t + 1) n) =
    All-append (λ t. 0 < t) s.limbo (range_with_len (t + 1) n) waited (started_past t n) in
    let past : All (λ t. 0 < t) freed =
    all_front (λ t. 0 < t) freed z.limbo (subst (All (λ t. 0 < t)) h.queue all) in
    let old : t ≡ token_after o.token s.readers = token_is c s.readers in
    record {
      started = n;
      token = omega (arith, h.token, old, token_is c z.readers);
      queue = subst (λ u. s.limbo ++ range_with_len (u + 1) n ≡ freed ++ z.limbo) old h.queue;
      checked = λ i d within. token_checked o z.readers (get_or freed i d) (past i d within) (λ some. h.passed some i d within) checked;
    }

-- ---- a synchronize

-- the token that a synchronize starts is the newest then, and was checked
pub record IsNewestChecked (x : List WriterStep) (c d : InitialState) (z : List WriterStep) : Type 0 where
  pub started : token_after d.token z ≡ token_after c.token x + 1
  pub checked : IsChecked d.workers d.token z (token_after d.token z)

newest_checked : (o : InitialData) (x z : List WriterStep)
    → Synchronizes o.workers o.token x z → AreChecked o z → IsNewestChecked x (initial_state_of o) (initial_state_of o) z
newest_checked o x z h are =
    let c : InitialState = initial_state_of o in
    let t : ℕ = token_after o.token (BumpToken ∷ x) in
    let newest : ℕ = token_after o.token z in
    let before : (state_after c x).token ≡ token_after o.token x = token_is c x in
    let stopped : (state_after c h.last).token ≡ suc (state_after c x).token =
    stopped_token c h.stops (BumpToken ∷ x) t h.last h.stopped in
    let passed = steps_passed c h.last t z h.passes in
    let last : newest ≡ t = omega (arith, passed.token, stopped, before, token_is c z) in
    record {
      started = last;
      checked = token_checked o z newest (omega (arith, last)) (λ some. omega (arith, last, passed.passed some)) are;
    }

pub synchronize_checked : (v w : View) → OnlySees v w
    → Synchronizes v.initial.workers v.initial.token v.writer_steps w.writer_steps
    → AreChecked v.initial w.writer_steps
    → IsNewestChecked v.writer_steps (initial_state_of v.initial) (initial_state_of w.initial) w.writer_steps
synchronize_checked v w sees h are =
    let same : w.initial ≡ v.initial = ap (λ (x : View). x.initial) sees in
    subst (λ (o : InitialData). IsNewestChecked v.writer_steps (initial_state_of v.initial) (initial_state_of o) w.writer_steps) (sym same)
    (newest_checked v.initial v.writer_steps w.writer_steps h are)
