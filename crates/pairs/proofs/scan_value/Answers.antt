-- `pairs::scan_value` meets its contract. The invariant: what is left of the scan gives its end.
use Prim.Native.Nat.{◌+◌}
use mathlib.Core.Path.{ap, ◌∙◌}
use Rattle.std.specs.Prelude.{Err}
use native.Mathlib.Omega.{arith}
use borrow.Author.Rules.{rules}
use Rattle.pairs.proofs.ScanPlaces.{value-cut, value-ends, value-skip, value-mark, escape-wrong, escape-next}
use Rattle.pairs.proofs.scan_value.Goals as goal

pub loop-i-preserved : goal.loop-i-preserved
loop-i-preserved c = escape-next (value-mark c.loop-i.invariant _ c.find_either-i.ensures (search rules) c.if-area-i-eq0.false) (search rules) c.if-area-i-eq0-2.false

pub returns-then-area-i : goal.returns-then-area-i
returns-then-area-i c = ap Err c.cut_off.ensures ∙ value-cut (value-skip c.loop-i.invariant _ c.find_either-i.ensures) (search rules)

pub returns-then-area-i-eq0 : goal.returns-then-area-i-eq0
returns-then-area-i-eq0 c = value-ends (value-skip c.loop-i.invariant _ c.find_either-i.ensures) (search rules) c.if-area-i-eq0.true

pub returns-then-area-i-2 : goal.returns-then-area-i-2
returns-then-area-i-2 c = ap Err c.cut_off-then-area-i-2.ensures ∙ value-cut (value-mark c.loop-i.invariant _ c.find_either-i.ensures (search rules) c.if-area-i-eq0.false) (search rules)

pub returns-then-area-i-eq0-2 : goal.returns-then-area-i-eq0-2
returns-then-area-i-eq0-2 c =
    let i = c.find_either-i.result in
    escape-wrong (value-mark c.loop-i.invariant _ c.find_either-i.ensures (search rules) c.if-area-i-eq0.false) (search rules) (omega (arith, c.type_inv.area (i + 1))) c.if-area-i-eq0-2.true
