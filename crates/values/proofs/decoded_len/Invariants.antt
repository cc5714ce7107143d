-- `values::decoded_len` meets its contract. The loop's invariant: n bytes, and those that the bytes left stand for, are the value's length.
use Prim.Native.Nat.{◌≤◌}
use mathlib.Core.Bool.{false}
use lib.ListN.{length}
use Rattle.values.proofs.DecodeTurns.{Measured}
use Rattle.values.proofs.decoded_len.Given as goal

abbrev pub invariant-loop-rest : goal.invariant-loop-rest
invariant-loop-rest l = (l.n ≤ l.room) × Measured false l.stored l.after l.rest l.n

abbrev pub decreases-loop-rest : goal.decreases-loop-rest
decreases-loop-rest l = length l.rest
