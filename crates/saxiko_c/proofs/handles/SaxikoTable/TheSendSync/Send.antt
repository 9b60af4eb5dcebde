-- It may go to another thread, as what it holds may.
use denote.Param.Send.{IsSend}
use denote.Param.{number}
use Rattle.fib.proofs.fib.Fib.TheSendSync as held
use Rattle.saxiko_c.proofs.Forms.{table_form}
use Rattle.saxiko_c.proofs.HandleSends.{handle_send}
use Rattle.saxiko_c.specs.contracts.handles.SaxikoTable.{the_row}

pub send : IsSend the_row
send = handle_send table_form (held.the_send (number 24) (number 8))
