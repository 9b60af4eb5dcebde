-- `closed` makes a handle that owns nothing.
use Rattle.saxiko_c.proofs.Forms.{writer_form}
use Rattle.saxiko_c.proofs.HandleSteps.{closed_meets}
use Rattle.saxiko_c.specs.contracts.handles.SaxikoWriterHandle.closed.Key.{name}
use Rattle.saxiko_c.proofs.handles.SaxikoWriterHandle.closed.Statement.{statement}
use Rattle.saxiko_c.proofs.handles.SaxikoWriterHandle.closed.Code as code

pub closed_spec : {M : Type 1} → statement M
closed_spec 𝓤 𝓛 𝓜 𝓡 wired = closed_meets writer_form 𝓤 𝓛 𝓜 𝓡 name (code.unfolded 𝓤 𝓛.H 𝓜 𝓡 wired)
