-- `lookup::find_only` meets its contract: the search refuses a second match.
use mathlib.Core.Path.{ap, sym, ◌∙◌}
use Rattle.errors.proofs.Passed.{passed-on}
use Rattle.lookup.specs.Helpers.{searched_found}
use Rattle.lookup.proofs.find_only.Goals as goal

pub returns-in_err-seek : goal.returns-in_err-seek
returns-in_err-seek c =
    passed-on c.from_residual.result _ c.from_residual.ensures.1 ∙ ap searched_found (sym c.in_err-seek.was) ∙ c.seek.ensures

pub returns : goal.returns
returns c = c.found.ensures ∙ ap searched_found (sym c.in_ok-seek.was) ∙ c.seek.ensures
