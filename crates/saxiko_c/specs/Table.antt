-- Meaning: the calls of a table of one thread, by the status that they answer (DPDK Programmer's Guide,
-- "LPM Library").
use Rattle.std.specs.Prelude.{ℕ, ℤ, ⊤, ◌≡◌, ◌+◌, ◌≤◌, ◌<◌, ◌⊎◌, ◌↔◌, ◌≢◌, Option, Some, None, Result, Ok, Err, List, length}
use Rattle.std.specs.List.{AllZip}
use Rattle.std.specs.FinMap.{get, len}
use Rattle.lpm_bits.specs.Network.{prefix_of, Network}
use Rattle.lpm_rules.specs.RuleMap.{RuleMap, IsNextRule}
use Rattle.lpm_rules.specs.Longest.{IsLongestHop, IsMatch}
use Rattle.lpm_rules.specs.declared.Put.{Put}
use Rattle.lpm_limits.specs.Limits.{IsConfig}
use Rattle.lpm_limits.specs.declared.config.Config.{Config}
use Rattle.lpm_limits.specs.declared.refusal.Refusal.{Refusal}
use Rattle.defer_queue.specs.declared.Reclaimed.{Reclaimed}
use Rattle.fib_model.specs.Counters.{counter_transitions}
use Rattle.fib_model.specs.State.{State}
use Rattle.fib_model.specs.Outcomes.{groups_in_use, Adds, Deletes, Flushes, Frees}
use Rattle.fib.specs.Fib.{FibState, initial_fib, IsHopOrDefault}
use Rattle.saxiko_c.specs.Status.{OpensIt, success, no_entry, no_memory, invalid, add_status, status_of}
use Rattle.saxiko_c.specs.declared.records.SaxikoCounts.{SaxikoCounts}
use Rattle.lpm_rules.specs.declared.Rule.{Rule}
use Rattle.saxiko_c.specs.declared.records.SaxikoRoute.{SaxikoRoute}

-- ---- opening

-- no table was opened: EINVAL exactly where a limit is out of range, and else ENOMEM
abbrev pub IsUnopened : Config → ℤ → Type 0
IsUnopened c status =
    ((status ≡ invalid) ⊎ (status ≡ no_memory)) × ((status ≡ invalid) ↔ (¬ IsConfig c))

-- a closed handle has a table without rules then; an open one stays as it is
abbrev pub Opens : Config → Option FibState → ℤ → Option FibState → Type 0
Opens c = OpensIt (IsUnopened c) (λ f. (f ≡ initial_fib c) × IsConfig c) ⊤

-- ---- changes

-- a prefix length or a next hop that no rule has
abbrev pub IsBad : ℕ → ℕ → Type 0
IsBad depth hop = (32 < depth) ⊎ (16777216 ≤ hop)

-- the rule of this prefix has this next hop then
abbrev pub AddsRule : ℕ → ℕ → ℕ → FibState → ℤ → FibState → Type 0
AddsRule addr depth hop f status g =
    (IsBad depth hop × (status ≡ invalid) × (g ≡ f))
    ⊎ ((depth ≤ 32) × (hop < 16777216)
    × (r : Result Put Refusal) × Adds counter_transitions 24 8 f.config f.table (prefix_of 32 depth addr) hop r g.table
    × (g.config ≡ f.config) × (status ≡ add_status r))

-- a number is stored where the call is done
abbrev pub Stores : Result ℕ Refusal → ℕ → ℕ → Type 0
Stores (Ok number) before after = after ≡ number
Stores (Err refusal) before after = after ≡ before

-- this prefix has no rule then; the next hop that it had is stored
abbrev pub DeletesRule : ℕ → ℕ → ℕ → ℕ → FibState → ℤ → FibState → Type 0
DeletesRule addr depth before after f status g =
    ((32 < depth) × (status ≡ invalid) × (after ≡ before) × (g ≡ f))
    ⊎ ((depth ≤ 32)
    × (r : Result ℕ Refusal) × Deletes counter_transitions 24 8 f.config f.table (prefix_of 32 depth addr) r g.table
    × Stores r before after × (g.config ≡ f.config) × (status ≡ status_of r))

-- there is no rule then; how many there were is stored
abbrev pub FlushesRules : ℕ → ℕ → FibState → ℤ → FibState → Type 0
FlushesRules before after f status g =
    (r : Result ℕ Refusal) × Flushes counter_transitions 24 8 f.config f.table r g.table
    × Stores r before after × (g.config ≡ f.config) × (status ≡ status_of r)

-- at most `max` groups that wait are free then; how many is stored
abbrev pub FreesGroups : ℕ → ℕ → FibState → ℤ → FibState → Type 0
FreesGroups max freed f status g =
    (r : Reclaimed) × Frees counter_transitions f.table max r g.table
    × (freed ≡ r.freed) × (g.config ≡ f.config) × (status ≡ success)

-- ---- questions

-- the next hop is stored, or it is ENOENT where there is none
abbrev pub Tells : Option ℕ → ℤ → ℕ → ℕ → Type 0
Tells None status before after = (status ≡ no_entry) × (after ≡ before)
Tells (Some hop) status before after = (status ≡ success) × (after ≡ hop)

-- the next hop of the longest rule that covers the address
abbrev pub Finds : ℕ → ℕ → ℕ → FibState → ℤ → Type 0
Finds addr before after f status =
    (x : Option ℕ) × IsLongestHop 32 f.table.rules addr x × Tells x status before after

-- the next hop of the rule of this very prefix
abbrev pub Gets : ℕ → ℕ → ℕ → ℕ → RuleMap → ℤ → Type 0
Gets addr depth before after R status =
    ((32 < depth) × (status ≡ invalid) × (after ≡ before))
    ⊎ ((depth ≤ 32) × Tells (get R (prefix_of 32 depth addr)) status before after)

-- each address's next hop is stored, or the default, or it is EINVAL where there isn't as much room
abbrev pub FindsAll : ℕ → List ℕ → List ℕ → List ℕ → FibState → ℤ → Type 0
FindsAll default addrs before after f status =
    ((length addrs ≢ length before) × (status ≡ invalid) × (after ≡ before))
    ⊎ ((length addrs ≡ length before) × (status ≡ success)
    × AllZip (IsHopOrDefault 32 f.table.rules default) addrs after)

-- of a table with so many groups and this newest token, rules, versions, token and groups are counted
pub record IsCounted {X : Type 0} (table : State X) (groups newest : ℕ) (c : SaxikoCounts) : Type 0 where
  pub rules : c.rules ≡ len table.rules
  pub versions : c.versions ≡ table.updates_begun
  pub token : c.token ≡ newest
  pub in_use : c.groups_in_use ≡ groups_in_use 24 8 table.rules
  pub waiting : c.groups_waiting ≡ length table.limbo
  pub all : c.groups_in_use + c.groups_waiting + c.groups_free ≡ groups

abbrev pub Counts : SaxikoCounts → FibState → ℤ → Type 0
Counts c f status = (status ≡ success) × IsCounted f.table f.config.groups f.table.readers.token c

-- The rule that answers an address, by the status that its calls answer (this project's).

-- the route of a rule
abbrev pub route_of : Rule 24 8 → SaxikoRoute
route_of rule = record { addr = rule.prefix.bits; hop = rule.hop; depth = rule.prefix.len }

-- the rule's route is stored, or it is ENOENT where there is none
abbrev pub TellsRule : Option (Rule 24 8) → SaxikoRoute → SaxikoRoute → ℤ → Type 0
TellsRule None before after status = (status ≡ no_entry) × (after ≡ before)
TellsRule (Some rule) before after status = (status ≡ success) × (after ≡ route_of rule)

-- the rule that answers the address
abbrev pub FindsRule : ℕ → SaxikoRoute → SaxikoRoute → RuleMap → ℤ → Type 0
FindsRule addr before after R status =
    (found : Option (Rule 24 8)) × IsMatch 24 8 R addr found × TellsRule found before after status

-- A walk over the rules of a table in the order of their prefixes, by the status that its calls
-- answer (this project's).

-- the rule that comes next after the prefix
abbrev pub WalksOn : Option Network → SaxikoRoute → SaxikoRoute → RuleMap → ℤ → Type 0
WalksOn last before after R status =
    (found : Option (Rule 24 8)) × IsNextRule R last found × TellsRule found before after status

-- the first rule
abbrev pub FindsFirst : SaxikoRoute → SaxikoRoute → RuleMap → ℤ → Type 0
FindsFirst before after R status = WalksOn None before after R status

-- the rule that comes next after the prefix of this address and depth
abbrev pub FindsNext : ℕ → ℕ → SaxikoRoute → SaxikoRoute → RuleMap → ℤ → Type 0
FindsNext addr depth before after R status =
    ((32 < depth) × (status ≡ invalid) × (after ≡ before))
    ⊎ ((depth ≤ 32) × WalksOn (Some (prefix_of 32 depth addr)) before after R status)
