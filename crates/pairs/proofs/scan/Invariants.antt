-- `pairs::scan` meets its contract. The invariants: complete pairs stand before `at`, so many as are counted, the search for the
-- name goes on there, and the two names agree for k bytes.
use Prim.Native.Nat.{◌-◌}
use lib.ListN.{length}
use Rattle.pairs.proofs.PairRuns.{Walked}
use Rattle.pairs.proofs.FindPlaces.{Finding, Compared}
use Rattle.pairs.proofs.scan.Given as goal

abbrev pub invariant-loop-k : goal.invariant-loop-k
invariant-loop-k l = (Compared l.area l.name l.pair.start l.pair.equals l.k)

abbrev pub invariant-pairs : goal.invariant-pairs
invariant-pairs l = Walked l.area l.at l.count × Finding l.area l.name l.place l.at

abbrev pub decreases-pairs : goal.decreases-pairs
decreases-pairs l = length l.area - l.at
