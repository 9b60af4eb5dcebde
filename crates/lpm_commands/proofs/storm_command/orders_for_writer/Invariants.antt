use Rattle.std.proofs.Common.{◌≡◌, take}
use Rattle.lpm_commands.specs.Storm.{orders_for_writer}
use Rattle.lpm_commands.proofs.storm_command.orders_for_writer.Given as goal

abbrev pub invariant-loop-order : goal.invariant-loop-order
invariant-loop-order l = l.kept.items ≡ orders_for_writer (take l.order-index l.orders)
