-- `lists::copy` meets its contract. The loop's invariant: what `to` had is overwritten by the first i bytes of `from`.
use mathlib.Core.Path.{◌≡◌}
use lib.ListN.{take}
use Rattle.lists.specs.Pasted.{pasted}
use Rattle.lists.proofs.copy.Given as goal

abbrev pub invariant-loop-i : goal.invariant-loop-i
invariant-loop-i l = l.to ≡ pasted l.initial.to 0 (take l.i l.from)
