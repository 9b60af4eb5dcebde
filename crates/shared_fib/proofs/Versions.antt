-- Versions by the steps that began them are those of the tables.
use Rattle.std.proofs.Common.{ℕ, suc, ◌≡◌, ◌≤◌, List, [], ◌∷◌, ◌++◌, length, inl, inr, refl, ap, sym, subst, ◌∙◌, arith, length-append}
use Rattle.std.proofs.lemmas.Bool.{cases_lt}
use Rattle.lpm_rules.specs.RuleMap.{RuleMap}
use Rattle.lpm_trace.specs.declared.step.WriterStep.{WriterStep}
use Rattle.lpm_trace.specs.declared.step.WriterStep.TheVariants.{BeginUpdate, EndUpdate}
use Rattle.lpm_trace.specs.States.{InitialState, TableState, updates_done_in, updates_begun_in, oldest, rules_by, state_after, state_at}
use Rattle.lpm_trace.specs.Writer.{IsWritten}
use Rattle.lpm_trace.proofs.Versions.{with_at_case, with_at-same}
use Rattle.lpm_trace.proofs.Traces.{oldest_all, oldest_old, oldest_new, begun_grows, history_at}
use Rattle.shared_words.specs.Rule.{IsLater}
use Rattle.shared_fib.specs.Versions.{updates_begun, updates_done, rules_after, IsVersion}

-- updates are done and begun as the sequence says
pub record Counts (c : InitialState) (steps : List WriterStep) : Type 0 where
  pub begun_is : updates_begun_in (state_after c steps) ≡ updates_begun steps
  pub done_is : updates_done_in (state_after c steps) ≡ updates_done steps

pub counts : (c : InitialState) (steps : List WriterStep) → IsWritten c steps → Counts c steps
counts c [] h = record { begun_is = refl; done_is = refl }
counts c (BeginUpdate change ∷ steps) h =
    let k = counts c steps h.1 in
    let even = h.0.0.0 in
    record { begun_is = omega (arith, k.begun_is, even); done_is = omega (arith, k.done_is, even) }
counts c (EndUpdate ∷ steps) h =
    let k = counts c steps h.1 in
    let odd = h.0.0.0 in
    record { begun_is = omega (arith, k.begun_is, odd); done_is = omega (arith, k.done_is, odd) }
counts c (s ∷ steps) h = let k = counts c steps h.1 in record { begun_is = k.begun_is; done_is = k.done_is }

-- those before a place might come one after another
pub written_then : (c : InitialState) (steps : List WriterStep) (place : ℕ) → IsWritten c steps → IsWritten c (oldest place steps)
written_then c [] place h = h
written_then c (s ∷ steps) place h = elim (cases_lt (length steps) place) [
  | inl all ↦ subst (IsWritten c) (sym (oldest_new s steps place all)) h
  | inr old ↦ subst (IsWritten c) (sym (oldest_old s steps place (omega (arith, old)))) (written_then c steps place h.1)
]

more : (initial : RuleMap) (s : WriterStep) (steps : List WriterStep) (k : ℕ) (rules : RuleMap)
    → IsVersion initial steps k rules → IsVersion initial (s ∷ steps) k rules
more initial s steps k rules v = record {
  newer = s ∷ v.newer;
  older = v.older;
  split = ap (λ (l : List WriterStep). s ∷ l) v.split;
  count = v.count;
  rules_are = v.rules_are;
}

-- the history has the rules of each version that was begun, and of the last one those after all
pub record HistoryHasRules (c : InitialState) (steps : List WriterStep) : Type 0 where
  pub last : (state_after c steps).history (updates_begun_in (state_after c steps)) ≡ rules_after c.rules steps
  pub each : (k : ℕ) → k ≤ updates_begun_in (state_after c steps) → IsVersion c.rules steps k ((state_after c steps).history k)

pub history_has_rules : (c : InitialState) (steps : List WriterStep) → IsWritten c steps → HistoryHasRules c steps
history_has_rules c [] h = record {
  last = refl;
  each = λ k low. record { newer = []; older = []; split = refl; count = omega (arith, low); rules_are = refl };
}
history_has_rules c (EndUpdate ∷ steps) h =
    let k = history_has_rules c steps h.1 in
    let w : TableState = state_after c steps in
    let odd = h.0.0.0 in
    let same : updates_begun_in (state_after c (EndUpdate ∷ steps)) ≡ updates_begun_in w = omega (arith, odd) in
    record {
      last = ap w.history same ∙ k.last;
      each = λ n low. more c.rules EndUpdate steps n _ (k.each n (omega (arith, low, same)));
    }
history_has_rules c (BeginUpdate change ∷ steps) h =
    let k = history_has_rules c steps h.1 in
    let w : TableState = state_after c steps in
    let even = h.0.0.0 in
    let z : TableState = state_after c (BeginUpdate change ∷ steps) in
    let rules : RuleMap = rules_by (w.history (updates_begun_in w)) change in
    let is : rules ≡ rules_after c.rules (BeginUpdate change ∷ steps) = ap (λ (R : RuleMap). rules_by R change) k.last in
    let next : updates_begun_in z ≡ suc (updates_begun_in w) = omega (arith, even) in
    let n_is = (counts c (BeginUpdate change ∷ steps) h).begun_is in
    record {
      last = ap z.history next ∙ (with_at-same w.history (suc (updates_begun_in w)) rules ∙ is);
      each = λ n low. with_at_case (λ R. IsVersion c.rules (BeginUpdate change ∷ steps) n R) w.history (suc (updates_begun_in w)) rules n
          (λ here. record {
            newer = [];
            older = BeginUpdate change ∷ steps;
            split = refl;
            count = omega (arith, sym n_is, next, here);
            rules_are = is;
          })
          (λ other. more c.rules (BeginUpdate change) steps n _ (k.each n (omega (arith, low, next, other))));
    }
history_has_rules c (s ∷ steps) h = let k = history_has_rules c steps h.1 in
    record { last = k.last; each = λ n low. more c.rules s steps n _ (k.each n low) }

-- ---- a beginning of the steps

pub oldest_before : (new before : List WriterStep) (place : ℕ) → place ≤ length before
    → oldest place (new ++ before) ≡ oldest place before
oldest_before [] before place low = refl
oldest_before (s ∷ new) before place low =
    oldest_old s (new ++ before) place (omega (arith, low, length-append new before)) ∙ oldest_before new before place low

-- what was there is the beginning of what is there later
pub beginning_of : (old now : List WriterStep) → IsLater old now → oldest (length old) now ≡ old
beginning_of old now later =
    ap (oldest (length old)) later.1 ∙ (oldest_before later.0 old (length old) (omega arith) ∙ oldest_all old (length old) (omega arith))

-- the rules of a version are those that the history of the tables has
pub version_is : (c : InitialState) (steps : List WriterStep) (k : ℕ) (rules : RuleMap) → IsWritten c steps
    → IsVersion c.rules steps k rules → (k ≤ updates_begun_in (state_after c steps)) × ((state_after c steps).history k ≡ rules)
version_is c steps k rules h v =
    let place : ℕ = length v.older in
    let here : oldest place steps ≡ v.older = beginning_of v.older steps (v.newer, v.split) in
    let then : IsWritten c v.older = subst (IsWritten c) here (written_then c steps place h) in
    let at : state_at c steps place ≡ state_after c v.older = ap (state_after c) here in
    let count : updates_begun_in (state_after c v.older) ≡ k = (counts c v.older then).begun_is ∙ v.count in
    let low : k ≤ updates_begun_in (state_at c steps place) = subst (λ (w : TableState). k ≤ updates_begun_in w) (sym at) (omega (arith, count)) in (
      omega (arith, low, begun_grows c steps place),
      history_at c steps place k low ∙ (ap (λ (w : TableState). w.history k) at ∙ (ap (state_after c v.older).history (sym count)
          ∙ ((history_has_rules c v.older then).last ∙ sym v.rules_are))),
    )
