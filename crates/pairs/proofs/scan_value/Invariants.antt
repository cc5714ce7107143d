-- `pairs::scan_value` meets its contract. The invariant: what is left of the scan gives its end.
use Prim.Native.Nat.{◌-◌}
use mathlib.Core.Bool.{false}
use lib.ListN.{length}
use Rattle.pairs.proofs.ScanPlaces.{ValueScan}
use Rattle.pairs.proofs.scan_value.Given as goal

abbrev pub invariant-loop-i : goal.invariant-loop-i
invariant-loop-i l = ValueScan l.area l.from false l.i

abbrev pub decreases-loop-i : goal.decreases-loop-i
decreases-loop-i l = length l.area - l.i
