-- `Writer::put_lines` meets its contract. The loop's invariant: the lines before the cursor are written, and those of the rest of the walk are to come.
use Rattle.std.proofs.Common.{◌-◌, length}
use Rattle.listing.proofs.LinesLaws.{WritingLines}
use Rattle.listing.proofs.Writer.put_lines.Given as goal

abbrev pub invariant-loop-step : goal.invariant-loop-step
invariant-loop-step l = WritingLines l.image l.initial.self l.cursor.at l.self

abbrev pub decreases-loop-step : goal.decreases-loop-step
decreases-loop-step l = length l.image - l.cursor.at
