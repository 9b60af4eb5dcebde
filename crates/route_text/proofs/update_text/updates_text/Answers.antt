use Rattle.std.proofs.Common.{◌≡◌, ℕ, ◌≤◌, List, ◌++◌, All, length, take, drop, sym, subst, arith, take_all}
use Rattle.std.proofs.lemmas.List.Elements.{All-more}
use Rattle.fib_model.specs.declared.orders.Order.{Order}
use Rattle.route_text.specs.Texts.{update_line, lines_of_updates, update_lines}
use Rattle.route_text.specs.Updates.{AreUpdates, IsCountInRange}
use Rattle.route_text.specs.Starts.{IsSound}
use Rattle.route_text.proofs.Grammars.{one_file}
use Rattle.route_text.proofs.WrittenLines.{step_on, at_end, next_update, no_updates, read_back}
use Rattle.route_text.proofs.update_text.updates_text.Goals as goal

-- the text is written to its end
is_read : (text : List ℕ) (os : List (Order 24 8)) (i : ℕ) → length os ≤ i → text ++ lines_of_updates (drop i os) ≡ update_lines os → All IsSound (take i os) → All IsCountInRange os → AreUpdates text os
is_read text os i le written sound fine =
    let whole : text ≡ update_lines os = at_end update_line lines_of_updates next_update no_updates os i text _ le written in
    subst (λ t. AreUpdates t os) (sym whole) (read_back os (subst (All IsSound) (take_all i os le) sound) fine)

pub loop-order-preserved : goal.loop-order-preserved
loop-order-preserved c =
    let os = c.args.orders.now in
    let i = c.loop-order.order-index in
    let o = c.order-item.result in
    record {
      written = step_on update_line lines_of_updates next_update no_updates os i o c.loop-order.text.items c.put_line.new.text.items _ (omega arith) c.order-item.is c.in_ok-put_line.ensures.written c.loop-order.invariant.written;
      sound = All-more IsSound os i o (omega arith) c.loop-order.invariant.sound (subst IsSound c.order-item.is c.in_ok-put_line.ensures.sound);
    }

pub returns-clause-text : goal.returns-clause-text
returns-clause-text c = at_end update_line lines_of_updates next_update no_updates c.args.orders.now c.loop-order.order-index c.loop-order.text.items _ (omega arith) c.loop-order.invariant.written

pub returns-clause-reads_back : goal.returns-clause-reads_back
returns-clause-reads_back c = is_read c.loop-order.text.items c.args.orders.now c.loop-order.order-index (omega arith) c.loop-order.invariant.written c.loop-order.invariant.sound c.requires

pub returns-clause-alone : goal.returns-clause-alone
returns-clause-alone c = λ others are. one_file c.loop-order.text.items others c.args.orders.now are (is_read c.loop-order.text.items c.args.orders.now c.loop-order.order-index (omega arith) c.loop-order.invariant.written c.loop-order.invariant.sound c.requires)
