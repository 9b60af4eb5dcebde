use Rattle.std.proofs.Common.{◌≡◌, ◌++◌, All, take, drop}
use Rattle.route_text.specs.Texts.{lines_of_updates, update_lines}
use Rattle.route_text.specs.Starts.{IsSound}
use Rattle.route_text.proofs.update_text.updates_text.Given as goal

abbrev pub invariant-loop-order : goal.invariant-loop-order
invariant-loop-order l = record {
  written : l.text.items ++ lines_of_updates (drop l.order-index l.orders) ≡ update_lines l.orders;
  sound : All IsSound (take l.order-index l.orders);
}
