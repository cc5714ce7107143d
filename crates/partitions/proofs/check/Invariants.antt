-- `partitions::check` meets its contract. The loop's invariant: the partitions counted and those left are all of them.
use Prim.Native.Nat.{◌-◌}
use lib.ListN.{length}
use Rattle.partitions.proofs.CheckLaws.{Counting}
use Rattle.partitions.proofs.check.Given as goal

abbrev pub invariant-loop-step : goal.invariant-loop-step
invariant-loop-step l = Counting l.image l.cursor.at l.count

abbrev pub decreases-loop-step : goal.decreases-loop-step
decreases-loop-step l = length l.image - l.cursor.at
