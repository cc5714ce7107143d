-- `encoding::put_near` meets its contract. The loop's invariant: the bytes up to i stand for themselves and are in the buffer.
use Prim.Native.Nat.{◌+◌}
use mathlib.Core.Path.{◌≡◌}
use lib.ListN.{take, drop}
use Rattle.lists.specs.Helpers.{until_either}
use Rattle.lists.specs.Pasted.{pasted}
use Rattle.encoding.proofs.put_near.Given as goal

abbrev pub invariant-loop-i : goal.invariant-loop-i
invariant-loop-i l =
    (until_either 0 255 l.bytes ≡ l.i + until_either 0 255 (drop l.i l.bytes)) × (l.buffer ≡ pasted l.initial.buffer 0 (take l.i l.bytes))
