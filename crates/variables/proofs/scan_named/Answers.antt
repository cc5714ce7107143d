-- `variables::scan_named` meets its contract: the name first, then the area.
use mathlib.Core.Path.{sym, ◌∙◌}
use Rattle.errors.proofs.Passed.{passed-on}
use Rattle.variables.proofs.CallPlaces.{scan-misnamed, scan-wellnamed}
use Rattle.variables.proofs.scan_named.Goals as goal

pub returns-in_err-check : goal.returns-in_err-check
returns-in_err-check c =
    passed-on c.from_residual.result _ c.from_residual.ensures.1 ∙ scan-misnamed _ _ _ (sym c.check.ensures ∙ c.in_err-check.was)

pub returns : goal.returns
returns c = c.scan.ensures ∙ scan-wellnamed _ _ _ (sym c.check.ensures ∙ c.in_ok-check.was)
