-- `values::decode_few` meets its contract. The loop's invariant: what is read stands in the buffer.
use lib.ListN.{drop}
use Rattle.values.proofs.DecodeTurns.{Decoding}
use Rattle.values.proofs.decode_few.Given as goal

abbrev pub invariant-loop-b : goal.invariant-loop-b
invariant-loop-b l = Decoding l.after l.bytes l.initial.buffer l.open (drop l.b-index l.bytes) l.put l.buffer
