-- `encoding::encode_to` meets its contract. The loop's invariant: the first bytes are in the buffer, and the rest is the canonical
-- form of the bytes left.
use lib.ListN.{length}
use Rattle.encoding.proofs.EncodeTurns.{Encoding}
use Rattle.encoding.proofs.encode_to.Given as goal

abbrev pub invariant-loop-x : goal.invariant-loop-x
invariant-loop-x l = Encoding l.value l.initial.buffer l.rest l.put l.buffer

abbrev pub decreases-loop-x : goal.decreases-loop-x
decreases-loop-x l = length l.rest
