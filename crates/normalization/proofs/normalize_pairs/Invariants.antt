-- `normalization::normalize_pairs` meets its contract. The invariant: the pairs before `at` stand in canonical form from 0 up to `to`.
use Prim.Native.Nat.{◌-◌}
use lib.ListN.{length}
use Rattle.normalization.proofs.NormalizeLaws.{Normalizing}
use Rattle.normalization.proofs.normalize_pairs.Given as goal

abbrev pub invariant-loop-pair : goal.invariant-loop-pair
invariant-loop-pair l = Normalizing l.initial.area l.area l.at l.to

abbrev pub decreases-loop-pair : goal.decreases-loop-pair
decreases-loop-pair l = length l.initial.area - l.at
