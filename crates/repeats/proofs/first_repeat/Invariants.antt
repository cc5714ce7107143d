-- `repeats::first_repeat` meets its contract. The invariant: no piece before `best` has a name of the blocks so far.
use Prim.Native.Nat.{◌-◌, ◌<◌}
use lib.ListN.{length}
use Rattle.repeats.specs.Helpers.Places.{Start, Distinct, Best}
use Rattle.repeats.proofs.first_repeat.Given as goal

abbrev pub invariant-loop-from : goal.invariant-loop-from
invariant-loop-from l = Distinct l.pairs l.from l.best × Best l.pairs l.best × (l.from < l.best → Start l.pairs l.from)

abbrev pub decreases-loop-from : goal.decreases-loop-from
decreases-loop-from l = length l.pairs - l.from
