use Rattle.std.proofs.Common.{◌≡◌, subst, sym, arith, rules, refl, List, ℕ, [], ◌∷◌, ◌++◌, take, ◌+◌}
use Rattle.std.specs.List.{AllZip}
use Rattle.route_text.specs.Fields.{IsAddress}
use Rattle.lpm_options.proofs.Words.{texts, next_word, first_bad}
use Rattle.lpm_options.proofs.explain_request.addresses_of.Goals as goal

pub loop-index-preserved : goal.loop-index-preserved
loop-index-preserved c =
    let pushed : c.push.new.self.items ≡ c.loop-index.addresses.items ++ c.in-Some.address ∷ [] = search rules in
    subst (λ (l : List ℕ). AllZip IsAddress (texts (take (c.loop-index.index + 1) c.args.words.now)) l) (sym pushed)
    (next_word c.args.words.now c.loop-index.index _ c.loop-index.addresses.items c.in-Some.address (omega arith) c.loop-index.invariant c.in-Some.ensures.found)

pub returns-in_default-address_of-clause-refused : goal.returns-in_default-address_of-clause-refused
returns-in_default-address_of-clause-refused c = first_bad c.args.words.now c.loop-index.index _ c.loop-index.addresses.items (omega arith) c.loop-index.invariant (c.in_default-address_of.ensures.missing refl)
