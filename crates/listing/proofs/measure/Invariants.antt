-- `measure` meets its contract. The loop's invariant: the bytes and blocks so far, and what the rest of the walk adds, make the answer.
use Prim.Native.Nat.{◌-◌}
use lib.ListN.{length}
use Rattle.listing.proofs.LinesLaws.{Measuring}
use Rattle.listing.proofs.measure.Given as goal

abbrev pub invariant-loop-step : goal.invariant-loop-step
invariant-loop-step l = Measuring l.image l.cursor.at l.bytes l.blocks

abbrev pub decreases-loop-step : goal.decreases-loop-step
decreases-loop-step l = length l.image - l.cursor.at
