-- The rules of a run are the last version that its log made.
use Rattle.std.proofs.Common.{arith, ◌≡◌, ℕ, zero, suc, ◌+◌, refl, ap, ◌∙◌, List, [], ◌∷◌, length}
use Rattle.std.specs.FinMap.{insert, remove}
use Rattle.lpm_limits.specs.declared.config.Config.{Config}
use Rattle.lpm_limits.specs.declared.refusal.Refusal.TheVariants.{TooManyRules, NoSuchRule, Exhausted, NoGroups, Memory, NoSuchWorker}
use Rattle.lpm_rules.specs.RuleMap.{RuleMap}
use Rattle.lpm_rules.specs.declared.Put.TheVariants.{Added, Replaced, Unchanged}
use Rattle.fib_model.specs.declared.orders.Order.{Order}
use Rattle.fib_model.specs.declared.orders.Order.TheVariants as order
use Rattle.fib_model.specs.declared.orders.Outcome.{Outcome}
use Rattle.fib_model.specs.declared.orders.Outcome.TheVariants as outcome
use Rattle.fib_model.specs.declared.orders.ReaderReport.{ReaderReport}
use Rattle.fib_model.specs.declared.orders.ReaderReport.TheVariants as report
use Rattle.fib_model.specs.State.{State, ReaderModel}
use Rattle.fib_model.specs.Outcomes.{Does, Reports}
use Rattle.fib_model.specs.Counters.{by_counters}
use Rattle.fib_model.specs.Textbook.{by_intervals}
use Rattle.fib_model.specs.Laws.{last_of, versions_after, history, RulesAreLastVersion, RulesAreLastVersionByCounters}

-- the rules are the last version, and as many updates were begun as there are versions
abbrev IsAt : {X : Type 0} → State X → List RuleMap → Type 0
IsAt z H = (z.rules ≡ last_of H) × (z.updates_begun ≡ length H)

stays : {X : Type 0} (s z : State X) (H : List RuleMap) → IsAt s H → z ≡ s → IsAt z H
stays s z H at e = (ap (λ x. x.rules) e ∙ at.0, ap (λ x. x.updates_begun) e ∙ at.1)

one_more : (n m l : ℕ) → n ≡ m + 1 → m ≡ l → n ≡ suc l
one_more n m l e f = omega arith

reports : {X : Type 0} (k : ReaderModel X) (c : Config) (s z : State X) (H : List RuleMap) (report : ReaderReport) (w : ℕ) (out : Outcome) → IsAt s H → Reports k c s report w out z → IsAt z H
reports k c s z H report w outcome.Told at d = (ap (λ x. x.rules) d.2 ∙ at.0, ap (λ x. x.updates_begun) d.2 ∙ at.1)
reports k c s z H report w (outcome.Refused NoSuchWorker) at d = stays s z H at d.1
reports k c s z H report w (outcome.Refused refusal) at d = stays s z H at d.3
reports k c s z H report w other at d = absurd d

step : {X : Type 0} (k : ReaderModel X) (first second : ℕ) (c : Config) (s z : State X) (H : List RuleMap) (order : Order first second) (outcome : Outcome)
    → IsAt s H → Does k first second c s order outcome z → IsAt z (versions_after H order outcome)
step k f g c s z H (order.Add p h) (outcome.Put Added) at d =
    (d.2.0 ∙ ap (λ R. insert R p h) at.0, one_more z.updates_begun s.updates_begun (length H) d.2.1 at.1)
step k f g c s z H (order.Add p h) (outcome.Put Replaced) at d =
    (d.3.0 ∙ ap (λ R. insert R p h) at.0, one_more z.updates_begun s.updates_begun (length H) d.3.1 at.1)
step k f g c s z H (order.Add p h) (outcome.Put Unchanged) at d = stays s z H at d.1
step k f g c s z H (order.Add p h) (outcome.Refused TooManyRules) at d = stays s z H at d.3
step k f g c s z H (order.Add p h) (outcome.Refused Exhausted) at d = stays s z H at d.2
step k f g c s z H (order.Add p h) (outcome.Refused (NoGroups oldest)) at d = (ap (λ x. x.rules) d.3 ∙ at.0, ap (λ x. x.updates_begun) d.3 ∙ at.1)
step k f g c s z H (order.Add p h) (outcome.Refused Memory) at d = stays s z H at d.1
step k f g c s z H (order.Add p h) (outcome.Refused other) at d = absurd d
step k f g c s z H (order.Add p h) other at d = absurd d
step k f g c s z H (order.Del p) (outcome.Deleted h) at d =
    (d.1.2.0 ∙ ap (λ R. remove R p) at.0, one_more z.updates_begun s.updates_begun (length H) d.1.2.1 at.1)
step k f g c s z H (order.Del p) (outcome.Refused NoSuchRule) at d = stays s z H at d.1
step k f g c s z H (order.Del p) (outcome.Refused Exhausted) at d = stays s z H at d.2
step k f g c s z H (order.Del p) (outcome.Refused other) at d = absurd d
step k f g c s z H (order.Del p) other at d = absurd d
step k f g c s z H order.Flush (outcome.Flushed zero) at d = stays s z H at (d.1 refl)
step k f g c s z H order.Flush (outcome.Flushed (suc n)) at d =
    let shrinks = d.2 (omega arith) in
    (shrinks.2.0, one_more z.updates_begun s.updates_begun (length H) shrinks.2.1 at.1)
step k f g c s z H order.Flush (outcome.Refused Exhausted) at d = stays s z H at d.2
step k f g c s z H order.Flush (outcome.Refused other) at d = absurd d
step k f g c s z H order.Flush other at d = absurd d
step k f g c s z H (order.Reclaim max) (outcome.Reclaimed r) at d = (ap (λ x. x.rules) d.1 ∙ at.0, ap (λ x. x.updates_begun) d.1 ∙ at.1)
step k f g c s z H (order.Reclaim max) other at d = absurd d
step k f g c s z H (order.Online w) out at d = reports k c s z H report.Online w out at d
step k f g c s z H (order.Offline w) out at d = reports k c s z H report.Offline w out at d
step k f g c s z H (order.Quiescent w) out at d = reports k c s z H report.Quiescent w out at d

pub rules_are_last_version : RulesAreLastVersion
rules_are_last_version f g c [] z r = (ap (λ x. x.rules) r, ap (λ x. x.updates_begun) r)
rules_are_last_version f g c (done ∷ log) z r =
    step (by_intervals c) f g c r.0 z (history log) done.0 done.1 (rules_are_last_version f g c log r.0 r.1) r.2

pub rules_are_last_version_by_counters : RulesAreLastVersionByCounters
rules_are_last_version_by_counters f g c [] z r = (ap (λ x. x.rules) r, ap (λ x. x.updates_begun) r)
rules_are_last_version_by_counters f g c (done ∷ log) z r =
    step by_counters f g c r.0 z (history log) done.0 done.1 (rules_are_last_version_by_counters f g c log r.0 r.1) r.2
