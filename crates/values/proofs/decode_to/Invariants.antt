-- `values::decode_to` meets its contract. The loop's invariant: what is read stands in the buffer.
use mathlib.Core.Bool.{false}
use lib.ListN.{length}
use Rattle.values.proofs.DecodeTurns.{Decoding}
use Rattle.values.proofs.decode_to.Given as goal

abbrev pub invariant-loop-rest : goal.invariant-loop-rest
invariant-loop-rest l = Decoding false l.stored l.initial.buffer l.after l.rest l.put l.buffer

abbrev pub decreases-loop-rest : goal.decreases-loop-rest
decreases-loop-rest l = length l.rest
