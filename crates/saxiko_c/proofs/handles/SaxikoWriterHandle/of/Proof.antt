-- `of` moves the pointer, and what lies there goes with it.
use Rattle.saxiko_c.proofs.Forms.{writer_form}
use Rattle.saxiko_c.proofs.HandleSteps.{of_meets}
use Rattle.saxiko_c.specs.contracts.handles.SaxikoWriterHandle.of.Key.{name}
use Rattle.saxiko_c.proofs.handles.SaxikoWriterHandle.of.Statement.{statement}
use Rattle.saxiko_c.proofs.handles.SaxikoWriterHandle.of.Code as code

pub of_spec : {M : Type 1} → statement M
of_spec 𝓤 𝓛 𝓜 𝓡 wired = of_meets writer_form 𝓤 𝓛 𝓜 𝓡 name (code.unfolded 𝓤 𝓛.H 𝓜 𝓡 wired)
