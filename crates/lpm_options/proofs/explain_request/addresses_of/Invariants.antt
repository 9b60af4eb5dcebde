use Rattle.std.proofs.Common.{take}
use Rattle.std.specs.List.{AllZip}
use Rattle.route_text.specs.Fields.{IsAddress}
use Rattle.lpm_options.proofs.Words.{texts}
use Rattle.lpm_options.proofs.explain_request.addresses_of.Given as goal

abbrev pub invariant-loop-index : goal.invariant-loop-index
invariant-loop-index l = AllZip IsAddress (texts (take l.index l.words)) l.addresses.items
