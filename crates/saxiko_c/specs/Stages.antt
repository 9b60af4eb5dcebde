-- This layer's own: the owner of a running table, at rest or in a grace period.
use Rattle.std.specs.Prelude.{Bool, true, false, [], ⊤}
use Rattle.std.specs.FinMap.{empty}
use Rattle.lpm_limits.specs.Limits.{default_config}
use Rattle.shared_words.specs.Layout.{no_initial_data}
use Rattle.saxiko.specs.Owners.{OwnerState}
use Rattle.shared_fib.specs.RunningTable.{Identity, initial_writer}
use Rattle.saxiko_c.specs.declared.stage.Stage.{Stage}
use Rattle.saxiko_c.specs.declared.stage.Stage.TheVariants.{AtRest, Waiting, Moving}

-- what stands for the state between the two
abbrev no_table : Identity
no_table = record {
  words = record { words = 0; slots = 0; views_name = 0; atom = 0; block = 0; offset = 0; slot_names = [] };
  initial = no_initial_data;
}

-- its state; between the two it stands for none
abbrev pub owned_in : Stage → OwnerState
owned_in (AtRest owner) = owner
owned_in (Waiting period) = period
owned_in Moving = record {
  writer = initial_writer no_table default_config empty;
  bench = [];
}

-- whether a grace period lasts
abbrev pub waits_in : Stage → Bool
waits_in (AtRest owner) = false
waits_in (Waiting period) = true
waits_in Moving = false

-- it isn't on its way from one to the other
abbrev pub IsNotMoving : Stage → Type 0
IsNotMoving (AtRest owner) = ⊤
IsNotMoving (Waiting period) = ⊤
IsNotMoving Moving = ⊥
