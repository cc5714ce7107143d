-- `pairs::scan_name` meets its contract, by the first byte that a name may not hold and the check of the bytes before it.
use mathlib.Core.Path.{ap, ◌∙◌}
use Rattle.std.specs.Prelude.{Err}
use native.Mathlib.Omega.{arith}
use Rattle.names.proofs.AheadLaws.{allowed-index}
use Rattle.pairs.proofs.ScanPlaces.{name-wrong, name-at, name-cut}
use borrow.Author.Rules.{rules}
use Rattle.pairs.proofs.scan_name.Goals as goal

pub overflow_add-result : goal.overflow_add-result
overflow_add-result c =
    let i = allowed-index _ _ _ c.in-Err.ensures in
    omega (arith, i, c.name_end-end.ensures)

pub returns-in-Err : goal.returns-in-Err
returns-in-Err c =
    name-wrong _ _ _ c.name_end-end.ensures _ c.ends_at.ensures _
    c.in-Err.ensures

pub returns-then-end-area : goal.returns-then-end-area
returns-then-end-area c =
    name-at _ _ _ c.name_end-end.ensures _ c.ends_at.ensures
    c.in_default.ensures (search rules)

pub returns-else-end-area : goal.returns-else-end-area
returns-else-end-area c =
    ap Err c.cut_off.ensures
    ∙ name-cut _ _ _ c.name_end-end.ensures _ c.ends_at.ensures
    c.in_default.ensures (search rules)
