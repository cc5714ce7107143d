-- `encoding::put_run` meets its contract. The loop's invariant: the escapes of 127 that are counted are in the buffer.
use Rattle.encoding.proofs.EncodeTurns.{Escaping}
use Rattle.encoding.proofs.put_run.Given as goal

abbrev pub invariant-loop : goal.invariant-loop
invariant-loop l = Escaping l.b l.n l.initial.buffer 0 l.counter l.put l.buffer
