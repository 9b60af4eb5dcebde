use Rattle.std.proofs.Common.{◌≡◌, ◌+◌, ◌^◌, [], length, map, sym, ap, subst, ◌∙◌}
use Rattle.std.proofs.lemmas.List.{length-map}
use Rattle.std.proofs.lemmas.List.Elements.{All-map}
use Rattle.interleave.specs.Scripts.{IsSound}
use Rattle.interleave.specs.View.{WorldView}
use Rattle.interleave.specs.World.{WorldDid, AreNew, IsInitial}
use Rattle.interleave.proofs.Steps.{unused, begins}
use Rattle.interleave.proofs.world_memory.WorldMemory.new.Goals as goal

pub returns-clause-did : goal.returns-clause-did
returns-clause-did g c = λ c' initial.
    let f = g.row.FIRST in
    let s = g.row.SECOND in
    let scripts = map (λ script. script.items) c.args.scripts.now in
    let count : length scripts ≡ length c.args.scripts.now = length-map c.args.scripts.now (λ script. script.items) in
    let words = c.in_ok-cells.cells in
    let machines = c.in_ok-workers.workers.items in
    let schedule = c.args.schedule.now in
    let made : WorldView = unused words c.args.first_token machines scripts schedule in
    let same : made ≡ record made { steps = c.in_ok-steps.steps.items; seen = c.in_ok-seen.seen.items } =
    ap (λ xs. record made { steps = xs }) (sym c.in_ok-steps.ensures.items) ∙ ap (λ xs. record made { steps = c.in_ok-steps.steps.items; seen = xs }) (sym c.in_ok-seen.ensures.items) in
    subst (λ v. WorldDid f s v c' []) same
    (begins f s c.args.groups c.args.first_token words machines scripts schedule c'
    (subst (λ n. IsInitial f s c.args.groups n c.args.first_token c') (sym count) initial)
    c.in_ok-cells.ensures.firsts c.in_ok-cells.ensures.seconds
    (subst (λ n. AreNew n machines) (sym count) c.in_ok-workers.ensures.new)
    (All-map (IsSound (2 ^ (f + s))) (λ script. script.items) c.args.scripts.now c.requires.sound))
