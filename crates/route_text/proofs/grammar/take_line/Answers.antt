use Rattle.std.proofs.Common.{◌∷◌, [], refl, sym}
use Rattle.std.proofs.lemmas.List.{append-nil}
use Rattle.route_text.proofs.grammar.take_line.Goals as goal

pub returns-in-Nothing-clause-taken : goal.returns-in-Nothing-clause-taken
returns-in-Nothing-clause-taken g c = record {
  done = c.next_line.result.0.now ∷ [];
  more = [];
  split = c.next_line.ensures;
  counted = refl;
  good = ([], [], c.in-Nothing.ensures, refl, refl);
  grown = sym (append-nil c.args.items.items);
}

pub returns-in-Item-clause-taken : goal.returns-in-Item-clause-taken
returns-in-Item-clause-taken g c = record {
  done = c.next_line.result.0.now ∷ [];
  more = c.in-Item.item ∷ [];
  split = c.next_line.ensures;
  counted = refl;
  good = (c.in-Item.item ∷ [], [], c.in-Item.ensures, refl, refl);
  grown = c.in_ok-push-in-Item.ensures.items;
}
