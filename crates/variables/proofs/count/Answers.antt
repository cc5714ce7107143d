-- `variables::count` meets its contract, by the scan of the area.
use mathlib.Core.Path.{ap, ◌∙◌}
use Rattle.errors.proofs.Passed.{passed-on}
use Rattle.variables.specs.Views.{amount_reply}
use Rattle.variables.proofs.CallPlaces.{count-pairs, count-refused}
use Rattle.variables.proofs.count.Goals as goal

pub returns-in_err-scanned : goal.returns-in_err-scanned
returns-in_err-scanned c =
    ap amount_reply (passed-on c.from_residual.result c.in_err-scanned.field-0.0 c.from_residual.ensures.1)
    ∙ count-refused _ _ _ c.in_err-scanned.ensures

pub returns : goal.returns
returns c = count-pairs _ _ _ c.in_ok-scanned.ensures
