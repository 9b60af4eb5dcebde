-- `closed` makes a handle that owns nothing.
use Rattle.saxiko_c.proofs.Forms.{reader_form}
use Rattle.saxiko_c.proofs.HandleSteps.{closed_meets}
use Rattle.saxiko_c.specs.contracts.handles.SaxikoReaderHandle.closed.Key.{name}
use Rattle.saxiko_c.proofs.handles.SaxikoReaderHandle.closed.Statement.{statement}
use Rattle.saxiko_c.proofs.handles.SaxikoReaderHandle.closed.Code as code

pub closed_spec : {M : Type 1} → statement M
closed_spec 𝓤 𝓛 𝓜 𝓡 wired = closed_meets reader_form 𝓤 𝓛 𝓜 𝓡 name (code.unfolded 𝓤 𝓛.H 𝓜 𝓡 wired)
