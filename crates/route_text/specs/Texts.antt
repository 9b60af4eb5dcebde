-- Meaning: the texts of answers, updates and outcomes (this project's file format: each line is
-- ended by LF).
use Rattle.std.specs.Prelude.{ℕ, List, [], ◌∷◌, ◌++◌, Option, Some, None}
use Rattle.std.specs.Prelude.{codes, decimal}
use Rattle.std.specs.Int.{w32, to_be_bytes}
use Rattle.std.specs.Net.Text.{ipv4_text}
use Rattle.lpm_bits.specs.Network.{Network}
use Rattle.lpm_bits.specs.Texts.{prefix_text}
use Rattle.lpm_limits.specs.declared.busy.Busy.{Busy}
use Rattle.lpm_limits.specs.declared.refusal.Refusal.{Refusal}
use Rattle.lpm_limits.specs.declared.refusal.Refusal.TheVariants.{NoGroups}
use Rattle.lpm_limits.specs.Refusals.{row_of}
use Rattle.lpm_rules.specs.declared.Put.TheVariants as puts
use Rattle.defer_queue.specs.declared.Reclaimed.{Reclaimed}
use Rattle.fib_model.specs.declared.orders.Order.{Order}
use Rattle.fib_model.specs.declared.orders.Order.TheVariants as orders
use Rattle.fib_model.specs.declared.orders.Outcome.{Outcome}
use Rattle.fib_model.specs.declared.orders.Outcome.TheVariants as outcomes
use Rattle.route_text.specs.Updates.{header}

-- the four octets as decimals
abbrev pub address_text : ℕ → List ℕ
address_text a = ipv4_text (to_be_bytes w32 a)

-- the hop as a decimal, or `-` for a miss
abbrev pub hop_text : Option ℕ → List ℕ
hop_text None = 45 ∷ []
hop_text (Some hop) = decimal hop

abbrev pub answer_line : ℕ → Option ℕ → List ℕ
answer_line addr hop = address_text addr ++ 32 ∷ [] ++ hop_text hop ++ 10 ∷ []

-- a line for each address with its hop
unfoldable pub answer_lines : List ℕ → List (Option ℕ) → List ℕ
answer_lines [] hops = []
answer_lines (a ∷ addrs) [] = []
answer_lines (a ∷ addrs) (hop ∷ hops) = answer_line a hop ++ answer_lines addrs hops

abbrev pub addition_text : Network → ℕ → List ℕ
addition_text prefix hop = codes "add " ++ prefix_text prefix ++ codes " " ++ decimal hop

abbrev pub deletion_text : Network → List ℕ
deletion_text prefix = codes "del " ++ prefix_text prefix

-- the word and its fields, with one space between neighbours
abbrev pub update_text : Order 24 8 → List ℕ
update_text (orders.Add prefix hop) = addition_text prefix hop
update_text (orders.Del prefix) = deletion_text prefix
update_text orders.Flush = codes "flush"
update_text (orders.Reclaim count) = codes "reclaim " ++ decimal count
update_text (orders.Online worker) = codes "online " ++ decimal worker
update_text (orders.Offline worker) = codes "offline " ++ decimal worker
update_text (orders.Quiescent worker) = codes "quiescent " ++ decimal worker

abbrev pub update_line : Order 24 8 → List ℕ
update_line order = update_text order ++ 10 ∷ []

unfoldable pub lines_of_updates : List (Order 24 8) → List ℕ
lines_of_updates [] = []
lines_of_updates (order ∷ more) = update_line order ++ lines_of_updates more

-- an update file of version 2: the header, and then a line for each update
abbrev pub update_lines : List (Order 24 8) → List ℕ
update_lines updates = header ++ 10 ∷ [] ++ lines_of_updates updates

-- a worker and the counter that was loaded
abbrev pub holder_text : Busy → List ℕ
holder_text busy = codes " worker " ++ decimal busy.worker ++ codes " counter " ++ decimal busy.counter

abbrev pub stopped_text : Option Busy → List ℕ
stopped_text None = []
stopped_text (Some busy) = codes " stopped" ++ holder_text busy

abbrev pub reclaimed_text : Reclaimed → List ℕ
reclaimed_text reclaimed = codes "reclaimed " ++ decimal reclaimed.freed ++ stopped_text reclaimed.stopped

-- the worker that a refusal names
abbrev pub busy_text : Refusal → List ℕ
busy_text (NoGroups (Some busy)) = holder_text busy
busy_text refusal = []

-- the number and the name of the refusal, and the worker
abbrev pub refused_text : Refusal → List ℕ
refused_text refusal = codes "refused " ++ decimal (row_of refusal).0 ++ codes " " ++ (row_of refusal).1
    ++ busy_text refusal

abbrev pub outcome_text : Outcome → List ℕ
outcome_text (outcomes.Put puts.Added) = codes "added"
outcome_text (outcomes.Put puts.Replaced) = codes "replaced"
outcome_text (outcomes.Put puts.Unchanged) = codes "unchanged"
outcome_text (outcomes.Deleted hop) = codes "deleted " ++ decimal hop
outcome_text (outcomes.Flushed rules) = codes "flushed " ++ decimal rules
outcome_text (outcomes.Reclaimed reclaimed) = reclaimed_text reclaimed
outcome_text outcomes.Told = codes "ok"
outcome_text (outcomes.Refused refusal) = refused_text refusal

abbrev pub outcome_line : Outcome → List ℕ
outcome_line outcome = outcome_text outcome ++ 10 ∷ []

-- a line for each outcome
unfoldable pub outcome_lines : List Outcome → List ℕ
outcome_lines [] = []
outcome_lines (outcome ∷ more) = outcome_line outcome ++ outcome_lines more
