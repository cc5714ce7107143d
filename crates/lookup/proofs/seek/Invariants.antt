-- `lookup::seek` meets its contract. The loop's invariant: what has matched so far and the partitions left give the answer.
use Prim.Native.Nat.{◌-◌}
use mathlib.Core.Path.{◌≡◌}
use lib.ListN.{length}
use Rattle.std.specs.Prelude.{not, eqb, Err}
use Rattle.partitions.proofs.WalkLaws.{rest, on_walk}
use Rattle.lookup.specs.Helpers.{seek_of}
use Rattle.lookup.proofs.SeekLaws.{seek_name}
use Rattle.lookup.proofs.seek.Given as goal

abbrev pub invariant-loop-step : goal.invariant-loop-step
invariant-loop-step g l =
    on_walk (seek_name (not (eqb g.row.ONLY 0)) l.image l.signature l.name l.matched) Err (rest l.image l.cursor.at) ≡ seek_of (not (eqb g.row.ONLY 0)) l.image l.signature l.name

abbrev pub decreases-loop-step : goal.decreases-loop-step
decreases-loop-step g l = length l.image - l.cursor.at
