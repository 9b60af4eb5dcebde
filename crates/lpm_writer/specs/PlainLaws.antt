-- Proofs of what the trait asks of a memory: what one more step leaves of the memory of one thread.
use Rattle.std.proofs.Common.{ℕ, ◌≡◌, ◌+◌, List, ◌∷◌, length, refl, ap, sym, subst, ◌∙◌, suc, add-one}
use Rattle.lpm_cells.specs.Words.{Words, IsFirstWord, with_first, with_second, IsLastWord}
use Rattle.qsbr.specs.Counters.{Registry}
use Rattle.lpm_trace.specs.declared.step.WriterStep.{WriterStep}
use Rattle.lpm_trace.specs.declared.step.WriterStep.TheVariants.{StoreFirst, StoreSecond, BumpToken}
use Rattle.lpm_trace.specs.States.{InitialState, state_after}
use Rattle.lpm_trace.specs.Writer.{MayStep}
use Rattle.lpm_writer.specs.Plain.{PlainDid, PlainDoes, words_by, reports_by}

words_written : (c : InitialState) (t : Words) (s : WriterStep) (steps : List WriterStep)
    → t ≡ (state_after c steps).words → words_by t s ≡ (state_after c (s ∷ steps)).words
words_written c t (StoreFirst i x) steps e = ap (λ y. with_first y i x) e
words_written c t (StoreSecond j x) steps e = ap (λ y. with_second y j x) e
words_written c t s steps e = e

token_written : (c : InitialState) (r : Registry) (s : WriterStep) (steps : List WriterStep)
    → r.token ≡ (state_after c steps).token → (reports_by r s).token ≡ (state_after c (s ∷ steps)).token
token_written c r BumpToken steps e = rw add-one (ap suc e)
token_written c r s steps e = e

counters_stay : (r : Registry) (s : WriterStep) → (reports_by r s).counters ≡ r.counters
counters_stay r BumpToken = refl
counters_stay r s = refl

pub plain_follows : (first second : ℕ) (t : Words) (r : Registry) (t' : Words) (r' : Registry)
    (c : InitialState) (s : WriterStep) (steps : List WriterStep)
    → PlainDoes s t r t' r' → PlainDid first second t r c steps → MayStep c steps s
    → PlainDid first second t' r' c (s ∷ steps)
plain_follows first second t r t' r' c s steps does did may = record {
  first_bits = did.first_bits;
  second_bits = did.second_bits;
  workers = ap (λ (x : Registry). length x.counters) does.reports
      ∙ ap length (counters_stay r s) ∙ did.workers;
  written = (may, did.written);
  words = does.words ∙ words_written c t s steps did.words;
  token = ap (λ (x : Registry). x.token) does.reports ∙ token_written c r s steps did.token;
}

pub plain_shows : (first second : ℕ) (t : Words) (r : Registry) (c : InitialState) (steps : List WriterStep)
    → PlainDid first second t r c steps
    → (t ≡ (state_after c steps).words) × (r.token ≡ (state_after c steps).token) × (length r.counters ≡ c.workers)
plain_shows first second t r c steps did = (did.words, did.token, did.workers)

pub plain_first : (first second : ℕ) (t : Words) (r : Registry) (i w : ℕ)
    → ((c : InitialState) × (steps : List WriterStep) × PlainDid first second t r c steps
    × MayStep c steps (StoreFirst i w))
    → IsFirstWord (first + second) second t.seconds w
plain_first first second t r i w may =
    let did = may.2 in
    let x : Words = (state_after may.0 may.1).words in
    let word : IsFirstWord (may.0.first + may.0.second) may.0.second x.seconds w = may.3.0.2 in
    subst (λ (y : Words). IsFirstWord (first + second) second y.seconds w) (sym did.words)
    (subst (λ a. IsFirstWord (a + second) second x.seconds w) did.first_bits
    (subst (λ b. IsFirstWord (may.0.first + b) b x.seconds w) did.second_bits word))

pub plain_second : (first second : ℕ) (t : Words) (r : Registry) (i w : ℕ)
    → ((c : InitialState) × (steps : List WriterStep) × PlainDid first second t r c steps
    × MayStep c steps (StoreSecond i w))
    → IsLastWord (first + second) w
plain_second first second t r i w may =
    let did = may.2 in
    let word : IsLastWord (may.0.first + may.0.second) w = may.3.0.2 in
    subst (λ a. IsLastWord (a + second) w) did.first_bits
    (subst (λ b. IsLastWord (may.0.first + b) w) did.second_bits word)
