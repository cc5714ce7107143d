-- `values::few_len` meets its contract. The loop's invariant: n bytes, and those that the bytes left stand for, are all.
use Prim.Native.Nat.{◌*◌, ◌≤◌}
use lib.ListN.{drop}
use Rattle.values.proofs.DecodeTurns.{Measured}
use Rattle.values.proofs.few_len.Given as goal

abbrev pub invariant-loop-b : goal.invariant-loop-b
invariant-loop-b l = (l.n ≤ 127 * l.b-index) × Measured l.after l.bytes l.open (drop l.b-index l.bytes) l.n
