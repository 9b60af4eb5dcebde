-- Meaning: versions of the rules, told by the steps of a table's writer alone (Gupta, Lin and McKeown, INFOCOM
-- 1998, section 3: the answer is that of the longest match; that an update makes one version is this
-- project's).
use Rattle.std.specs.Prelude.{ℕ, ◌≡◌, ◌+◌, List, [], ◌∷◌, ◌++◌}
use Rattle.lpm_rules.specs.RuleMap.{RuleMap}
use Rattle.lpm_trace.specs.declared.step.WriterStep.{WriterStep}
use Rattle.lpm_trace.specs.declared.step.WriterStep.TheVariants.{BeginUpdate, EndUpdate}
use Rattle.lpm_trace.specs.States.{rules_by}

-- how many updates the writer has begun
abbrev pub updates_begun : List WriterStep → ℕ
updates_begun [] = 0
updates_begun (BeginUpdate change ∷ steps) = updates_begun steps + 1
updates_begun (other ∷ steps) = updates_begun steps

-- how many of them are done
abbrev pub updates_done : List WriterStep → ℕ
updates_done [] = 0
updates_done (EndUpdate ∷ steps) = updates_done steps + 1
updates_done (other ∷ steps) = updates_done steps

-- the rules after the changes of all updates that were begun
abbrev pub rules_after : RuleMap → List WriterStep → RuleMap
rules_after initial [] = initial
rules_after initial (BeginUpdate change ∷ steps) = rules_by (rules_after initial steps) change
rules_after initial (other ∷ steps) = rules_after initial steps

-- these are the rules of version k: those after the first k updates that were begun
pub record IsVersion (initial : RuleMap) (steps : List WriterStep) (k : ℕ) (rules : RuleMap) : Type 0 where
  pub newer : List WriterStep
  pub older : List WriterStep
  pub split : steps ≡ newer ++ older
  pub count : updates_begun older ≡ k
  pub rules_are : rules ≡ rules_after initial older
