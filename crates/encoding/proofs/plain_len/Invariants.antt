-- `encoding::plain_len` meets its contract. The loop's invariant: the bytes up to i stand for themselves.
use Prim.Native.Nat.{◌+◌}
use mathlib.Core.Path.{◌≡◌}
use lib.ListN.{drop}
use Rattle.lists.specs.Helpers.{until_either}
use Rattle.encoding.proofs.plain_len.Given as goal

abbrev pub invariant-loop-i : goal.invariant-loop-i
invariant-loop-i l = until_either 0 255 l.bytes ≡ l.i + until_either 0 255 (drop l.i l.bytes)
