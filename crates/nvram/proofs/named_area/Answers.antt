-- `nvram::named_area` meets its contract: where there is no area, the name comes first.
use mathlib.Core.Path.{sym, ◌∙◌}
use Rattle.errors.proofs.Passed.{passed-on}
use Rattle.nvram.proofs.CodeLaws.{named-found, named-misnamed, named-wellnamed}
use Rattle.nvram.proofs.named_area.Goals as goal

pub returns-in-Ok : goal.returns-in-Ok
returns-in-Ok c = named-found _ _ _ c.common_area.ensures _ c.in-Ok.is

pub returns-in_err-check-in-Err : goal.returns-in_err-check-in-Err
returns-in_err-check-in-Err c =
    passed-on c.from_residual.result _ c.from_residual.ensures.1
    ∙ named-misnamed _ _ _ c.common_area.ensures _ c.in-Err.is _ (sym c.check.ensures ∙ c.in_err-check-in-Err.was)

pub returns-in_ok-check-in-Err : goal.returns-in_ok-check-in-Err
returns-in_ok-check-in-Err c =
    named-wellnamed _ _ _ c.common_area.ensures _ c.in-Err.is _ (sym c.check.ensures ∙ c.in_ok-check-in-Err.was)
