-- The first worker that holds an unlinking; where there is none, no worker holds it.
use Rattle.std.proofs.Common.{arith, ◌≡◌, ℕ, ◌<◌, inl, inr, refl, ap, sym, ◌∙◌, subst, List, zero, suc, ◌+◌}
use Rattle.std.proofs.lemmas.Bool.{cases_lt}
use Rattle.lpm_limits.specs.declared.busy.Busy.{Busy}
use Rattle.lpm_limits.specs.declared.config.Config.{Config}
use Rattle.fib_model.specs.declared.event.Event.{Event}
use Rattle.qsbr.specs.Intervals.{IsHeldByWorker, IsTidy, IsRunningSince}
use Rattle.fib_model.specs.Textbook.{by_reports, unlinkings_before, IsFirstHolder}
use Rattle.qsbr.proofs.RunningIntervals.{held_start}
use Rattle.fib_model.proofs.Unique.{IsUnheld}
use Rattle.fib_model.specs.Laws.{UnheldByNone}
use Rattle.fib_model.proofs.Runs.{tidy_run}

-- the one running interval of a worker that holds the unlinking, and no smaller worker holds it
pub first_holder : (c : Config) (E : List Event) (place worker start : ℕ) (busy : Busy) → IsTidy by_reports c.workers E → busy.worker ≡ worker → IsHeldByWorker by_reports E place worker
    → IsRunningSince by_reports E worker start → busy.counter ≡ c.first_token + unlinkings_before E start → ((w : ℕ) → w < worker → IsHeldByWorker by_reports E place w → ⊥)
    → IsFirstHolder c.first_token E place busy
first_holder c E place worker start busy tidy is holds runs counter first = record {
  holds = subst (IsHeldByWorker by_reports E place) (sym is) holds;
  first = λ w low. first w (omega (arith, is, low));
  counter = λ s r.
      let same = tidy.one worker start s runs (subst (λ w. IsRunningSince by_reports E w s) is r) in
      counter ∙ ap (λ n. c.first_token + unlinkings_before E n) same;
}

-- none of the first n workers holds it: the least that did would be its first holder
none_of_first : (c : Config) (E : List Event) (place : ℕ) → IsTidy by_reports c.workers E → IsUnheld c E place → (n : ℕ) → (w : ℕ) → w < n → IsHeldByWorker by_reports E place w → ⊥
none_of_first c E place tidy unheld zero = λ w low held. absurd (omega (arith, low))
none_of_first c E place tidy unheld (suc n) =
    let before = none_of_first c E place tidy unheld n in
    λ w low. elim (cases_lt w n) [
      | inl below ↦ before w below
      | inr above ↦ λ held.
          let start = held_start by_reports E place w held in
          let busy : Busy = record { worker = w; counter = c.first_token + unlinkings_before E start.0 } in
          unheld busy (first_holder c E place w start.0 busy tidy refl held start.1 refl (λ v less. before v (omega (arith, low, above, less))))
    ]

pub unheld_by_none : UnheldByNone
unheld_by_none f g c log z r place = (
  (λ passed w. none_of_first c z.readers place (tidy_run f g c log z r) passed.0 (suc w) w (omega arith)),
  (λ none. ((λ busy h. none busy.worker h.holds), refl)),
)
