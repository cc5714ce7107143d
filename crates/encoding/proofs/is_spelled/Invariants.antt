-- `encoding::is_spelled` meets its contract. The loop's invariant: the bytes left are spelled exactly when all are.
use mathlib.Core.Path.{◌≡◌}
use lib.ListN.{length}
use Rattle.values.specs.Value.{spelled}
use Rattle.encoding.proofs.is_spelled.Given as goal

abbrev pub invariant-loop-b : goal.invariant-loop-b
invariant-loop-b l = spelled l.stored ≡ spelled l.rest

abbrev pub decreases-loop-b : goal.decreases-loop-b
decreases-loop-b l = length l.rest
