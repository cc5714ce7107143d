-- `encoding::encoded_len` meets its contract. The loop's invariant: n bytes, and the canonical form of the bytes left, are the whole length.
use lib.ListN.{length}
use Rattle.encoding.proofs.EncodeTurns.{Counted}
use Rattle.encoding.proofs.encoded_len.Given as goal

abbrev pub invariant-loop-x : goal.invariant-loop-x
invariant-loop-x l = Counted l.value l.rest l.n

abbrev pub decreases-loop-x : goal.decreases-loop-x
decreases-loop-x l = length l.rest
