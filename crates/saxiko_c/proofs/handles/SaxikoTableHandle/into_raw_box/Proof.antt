-- `into_raw_box` reads the flag, and moves the pointer where it is set.
use Rattle.saxiko_c.proofs.Forms.{table_form}
use Rattle.saxiko_c.proofs.HandleSteps.{into_meets}
use Rattle.saxiko_c.specs.contracts.handles.SaxikoTableHandle.into_raw_box.Key.{name}
use Rattle.saxiko_c.proofs.handles.SaxikoTableHandle.into_raw_box.Statement.{statement}
use Rattle.saxiko_c.proofs.handles.SaxikoTableHandle.into_raw_box.Code as code

pub into_raw_box_spec : {M : Type 1} → statement M
into_raw_box_spec 𝓤 𝓛 𝓜 𝓡 wired = into_meets table_form 𝓤 𝓛 𝓜 𝓡 name (code.unfolded 𝓤 𝓛.H 𝓜 𝓡 wired)
