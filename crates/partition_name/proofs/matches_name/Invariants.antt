-- `partition_name::matches_name` meets its contract. The loop's invariant: the names match exactly when their bytes from i on do.
use Rattle.partition_name.proofs.LoopLaws.{Agree}
use Rattle.partition_name.proofs.matches_name.Given as goal

abbrev pub invariant-loop-i : goal.invariant-loop-i
invariant-loop-i l = Agree l.stored l.given l.i
