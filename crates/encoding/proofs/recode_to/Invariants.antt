-- `encoding::recode_to` meets its contract. The loop's invariant: the canonical form is written up to o, a run of n times b is
-- open, and the bytes from i on are as they were.
use Prim.Native.Nat.{◌-◌}
use Rattle.encoding.proofs.RecodeTurns.{Recoding}
use Rattle.encoding.proofs.recode_to.Given as goal

abbrev pub invariant-loop-i : goal.invariant-loop-i
invariant-loop-i l = Recoding l.initial.area l.from l.to l.at l.area l.i l.o l.b l.n

abbrev pub decreases-loop-i : goal.decreases-loop-i
decreases-loop-i l = l.to - l.i
