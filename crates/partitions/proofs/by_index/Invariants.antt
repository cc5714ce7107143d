-- `partitions::by_index` meets its contract. The loop's invariant: what the turns so far make of the partitions left is the answer.
use Prim.Native.Nat.{◌-◌}
use mathlib.Core.Path.{◌≡◌}
use lib.ListN.{length}
use Rattle.std.specs.Prelude.{Err}
use Rattle.partitions.specs.Find.{index_of}
use Rattle.partitions.proofs.WalkLaws.{rest, on_walk}
use Rattle.partitions.proofs.FindLaws.{seek_index}
use Rattle.partitions.proofs.by_index.Given as goal

abbrev pub invariant-loop-step : goal.invariant-loop-step
invariant-loop-step l = on_walk (seek_index l.found l.left) Err (rest l.image l.cursor.at) ≡ index_of l.image l.index

abbrev pub decreases-loop-step : goal.decreases-loop-step
decreases-loop-step l = length l.image - l.cursor.at
