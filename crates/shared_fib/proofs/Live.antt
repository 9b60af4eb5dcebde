-- A table of one thread whose words represent its rules, and of which no group waits, is one that a running
-- table may be opened with, and its control state rests there.
use Rattle.std.proofs.Common.{◌≡◌, ℕ, ◌<◌, refl, ap, ◌∙◌, List, [], length, map, slice_get, Option, Some, None}
use Rattle.std.proofs.lemmas.Option.{slice_get-map}
use Rattle.std.specs.Prelude.{option_map}
use Rattle.lpm_bits.specs.Widths.{IsShape}
use Rattle.lpm_cells.specs.Words.{Words}
use Rattle.lpm_groups.specs.declared.GroupState.{GroupState}
use Rattle.lpm_groups.specs.declared.GroupState.TheVariants.{Free, Linked, Limbo}
use Rattle.lpm_groups.specs.States.{limbo_count}
use Rattle.lpm_limits.specs.Limits.{IsConfig}
use Rattle.lpm_limits.specs.declared.config.Config.{Config}
use Rattle.lpm_rules.specs.RuleMap.{RuleMap}
use Rattle.lpm_update.specs.BlockGroups.{group_at}
use Rattle.lpm_update.specs.Represents.{Represents}
use Rattle.lpm_update.specs.GroupStates.{IsTied, HasGroupRoom}
use Rattle.lpm_trace.specs.States.{Status, Retired, IsSettled}
use Rattle.lpm_writer.specs.Rest.{IsResting}
use Rattle.lpm_writer.proofs.Reclaims.{linked_not_retired}
use Rattle.lpm_writer.proofs.Initial.{status_at_first, unused_retired, begins_settled, begins_resting}
use Rattle.shared_words.specs.Layout.{InitialData, status_of, initial_state_of}
use Rattle.shared_fib.specs.Initial.{block_of, initial_data_by}

-- no group of a new table was ever retired
pub never_retired : (x : Option (Option ℕ)) (t : ℕ) → status_of x ≡ Retired t → ⊥
never_retired (Some (Some block)) t e = linked_not_retired block t e
never_retired (Some None) t e = unused_retired t e
never_retired None t e = unused_retired t e

-- a group's block says what is known of it
status_is : (state : GroupState) → status_of (Some (block_of state)) ≡ status_at_first state
status_is Free = refl
status_is (Linked block) = refl
status_is Limbo = refl

module _ (f s : ℕ) (t : Words) (R : RuleMap) (xs : List GroupState) (config : Config) (token : ℕ)
    (represents : Represents f s R t) (tied : IsTied f xs (group_at t.firsts)) where
  abbrev live : InitialData
  live = initial_data_by f s t R xs config.workers token

  abbrev statuses : ℕ → Status
  statuses g = status_of (slice_get (map block_of xs) g)

  known : (g : ℕ) (state : GroupState) → slice_get xs g ≡ Some state → statuses g ≡ status_at_first state
  known g state here =
      ap status_of (slice_get-map block_of xs g ∙ ap (option_map block_of) here) ∙ status_is state

  never : (g x : ℕ) → statuses g ≡ Retired x → ⊥
  never g x e = never_retired (slice_get (map block_of xs) g) x e

  pub live_settled : 0 < token → IsSettled (initial_state_of live)
  live_settled pos = begins_settled f s t R xs config token statuses represents tied known never pos

  pub live_rests : (max : ℕ) → IsShape f s → IsConfig config → max ≡ config.rules
      → length xs ≡ config.groups → HasGroupRoom s t xs → limbo_count xs ≡ 0
      → IsResting f s (initial_state_of live) [] config (record { rules = R; max = max })
      (record { groups = xs; queue = record { items = []; capacity = length xs }; passed = 0 }) 0
  live_rests max shape limits same states room none =
      begins_resting f s t R xs config token statuses represents tied known never max shape limits same states room none
