-- Meaning: each refusal's number and name, and that each has its own (this project's profile).
use Rattle.std.specs.Prelude.{ℕ, ◌≡◌, List, None, codes}
use Rattle.lpm_limits.specs.declared.refusal.Refusal.{Refusal}
use Rattle.lpm_limits.specs.declared.refusal.Refusal.TheVariants as refusals

-- the number and the name of a refusal
abbrev pub row_of : Refusal → ℕ × List ℕ
row_of refusals.BadLength = (1, codes "BadLength")
row_of refusals.BadHop = (2, codes "BadHop")
row_of refusals.TooManyRules = (3, codes "TooManyRules")
row_of refusals.NoSuchRule = (4, codes "NoSuchRule")
row_of refusals.BadConfig = (5, codes "BadConfig")
row_of refusals.Exhausted = (6, codes "Exhausted")
row_of (refusals.NoGroups oldest) = (7, codes "NoGroups")
row_of refusals.NoWorkers = (8, codes "NoWorkers")
row_of refusals.Memory = (9, codes "Memory")
row_of refusals.NoSuchWorker = (10, codes "NoSuchWorker")
row_of refusals.Taken = (11, codes "Taken")
row_of refusals.NoThread = (12, codes "NoThread")
row_of refusals.NotOnline = (13, codes "NotOnline")
row_of refusals.AlreadyOnline = (14, codes "AlreadyOnline")

-- a refusal without the worker that `NoGroups` names
abbrev pub kind_of : Refusal → Refusal
kind_of (refusals.NoGroups oldest) = refusals.NoGroups None
kind_of refusal = refusal

-- the laws that no two refusals have one number, and no two one name
abbrev pub HaveOwnNumbers : Type 0
HaveOwnNumbers = (a b : Refusal) → (row_of a).0 ≡ (row_of b).0 → kind_of a ≡ kind_of b

abbrev pub HaveOwnNames : Type 0
HaveOwnNames = (a b : Refusal) → (row_of a).1 ≡ (row_of b).1 → kind_of a ≡ kind_of b
