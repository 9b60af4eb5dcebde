-- The writer's script, change by change: what was answered so far, and how a run ends.
use Rattle.std.proofs.Common.{arith, ◌≡◌, ℕ, zero, suc, ◌+◌, ◌<◌, ◌≤◌, inl, inr, refl, ap, subst, sym, ◌∙◌, List, [], ◌∷◌, ◌++◌, length, map, reverse, Result, Ok, Err}
use Rattle.std.proofs.lemmas.List.{reverse-append, append-nil}
use Rattle.lpm_limits.specs.declared.busy.Busy.{Busy}
use Rattle.lpm_limits.specs.declared.config.Config.{Config}
use Rattle.lpm_rules.specs.declared.Change.{Change}
use Rattle.lpm_trace.specs.declared.step.WriterStep.{WriterStep}
use Rattle.lpm_trace.specs.declared.step.WriterStep.TheVariants.{BumpToken}
use Rattle.lpm_trace.specs.States.{InitialState}
use Rattle.lpm_writer.specs.Steps.{AreStopped, Checks, IsNext}
use Rattle.lpm_writer.specs.TokenCheck.{Loads}
use Rattle.interleave.specs.declared.reply.Reply.{Reply}
use Rattle.interleave.specs.Runs.{StateBySteps, Waits, CameOut, next_token, HaveComeOut, IsUnderWay, AreUnanswered, IsPerformed}

-- ---- how long a wait is

loads_longer : (n : ℕ) (x z : List WriterStep) (token : ℕ) → Loads IsNext n x token z → length x ≤ length z
loads_longer zero x z token h = omega (arith, ap length h)
loads_longer (suc n) x z token h =
    let before = loads_longer n x h.0 token h.2 in
    let now : length z ≡ suc (length h.0) = ap length h.4 in
    omega (arith, before, now)

stop_longer : (workers : ℕ) (x z : List WriterStep) (token : ℕ) (busy : Busy) → Checks workers x token (Err busy) z → length x < length z
stop_longer workers x z token busy (inl h) = absurd (no_pass busy h.1)
  where
    no_pass : (b : Busy) → ◌≡◌ {A = Result (Unit {0}) Busy} (Err b) (Ok tt) → ⊥
    no_pass b e = cc
stop_longer workers x z token busy (inr h) =
    let ask = h.1 in
    let before = loads_longer busy.worker x ask.0 token ask.1 in
    let now : length z ≡ suc (length ask.0) = ap length ask.5 in
    omega (arith, before, now)

stops_longer : (workers n : ℕ) (x z : List WriterStep) (token : ℕ) → AreStopped workers n x token z → length x + n ≤ length z
stops_longer workers zero x z token h = omega (arith, ap length h)
stops_longer workers (suc n) x z token h =
    let before = stops_longer workers n x h.0 token h.2 in
    let now = stop_longer workers h.0 z token h.1 h.3 in
    omega (arith, before, now)

pub waits_longer : (c : InitialState) (n : ℕ) (x z : List WriterStep) → Waits c n x z → length x + n < length z
waits_longer c n x z h =
    let longer = stops_longer c.workers n (BumpToken ∷ x) z (next_token c x) h in
    omega (arith, longer)

-- ---- the script

module _ (c : InitialState) (f g : ℕ) (config : Config) (n : ℕ) (initial : StateBySteps) where
  -- these changes were answered so, and left `last`
  pub record HasPerformed (changes : List (Change f g)) (replies : List Reply) (last : StateBySteps) : Type 0 where
    pub log : List (Change f g × Reply)
    pub changes_are : changes ≡ reverse (map (λ entry. entry.0) log)
    pub replies_are : replies ≡ reverse (map (λ entry. entry.1) log)
    pub answered : HaveComeOut c f g config n initial log last

  pub performed_more : (changes : List (Change f g)) (replies : List Reply) (last : StateBySteps) (change : Change f g) (reply : Reply) (z : StateBySteps)
      → HasPerformed changes replies last → length last.readers < n → length z.readers ≤ n → CameOut c f g config last change reply z
      → HasPerformed (changes ++ change ∷ []) (replies ++ reply ∷ []) z
  performed_more changes replies last change reply z h low high answers = record {
    log = (change, reply) ∷ h.log;
    changes_are = ap (λ xs. xs ++ change ∷ []) h.changes_are ∙ sym (reverse-append (change ∷ []) (map (λ entry. entry.0) h.log));
    replies_are = ap (λ xs. xs ++ reply ∷ []) h.replies_are ∙ sym (reverse-append (reply ∷ []) (map (λ entry. entry.1) h.log));
    answered = (last, h.answered, low, high, answers);
  }

  performed_with : (changes left : List (Change f g)) (replies : List Reply) (last : StateBySteps) (steps : List WriterStep)
      → HasPerformed changes replies last → AreUnanswered c f g config n last left steps
      → IsPerformed c f g config n initial (changes ++ left) replies steps
  performed_with changes left replies last steps h rest = record {
    log = h.log;
    left = left;
    last = last;
    script_is = ap (λ xs. xs ++ left) h.changes_are;
    replies_are = h.replies_are;
    answered = h.answered;
    unanswered = rest;
  }

  pub performed_all : (changes : List (Change f g)) (replies : List Reply) (last : StateBySteps)
      → HasPerformed changes replies last → IsPerformed c f g config n initial changes replies last.readers
  performed_all changes replies last h =
      subst (λ xs. IsPerformed c f g config n initial xs replies last.readers) (append-nil changes)
      (performed_with changes [] replies last last.readers h refl)

  pub performed_before : (changes left : List (Change f g)) (replies : List Reply) (last : StateBySteps) (change : Change f g)
      → HasPerformed changes replies last → n ≤ length last.readers
      → IsPerformed c f g config n initial (changes ++ change ∷ left) replies last.readers
  performed_before changes left replies last change h none =
      performed_with changes (change ∷ left) replies last last.readers h (inl (none, refl))

  pub performed_within : (changes left : List (Change f g)) (replies : List Reply) (last : StateBySteps) (change : Change f g)
      (steps : List WriterStep) → HasPerformed changes replies last → length last.readers < n → n < length steps
      → IsUnderWay c f g config last change steps
      → IsPerformed c f g config n initial (changes ++ change ∷ left) replies steps
  performed_within changes left replies last change steps h low high way =
      performed_with changes (change ∷ left) replies last steps h (inr (low, high, way))
