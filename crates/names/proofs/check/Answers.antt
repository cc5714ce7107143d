-- `names::check` meets its contract, by the allowed bytes at the name's start.
use mathlib.Core.Path.{◌∙◌}
use Rattle.names.proofs.AheadLaws.{check-whole}
use Rattle.names.proofs.check.Goals as goal

pub returns : goal.returns
returns c = c.check_by_allowed.ensures ∙ check-whole _ _ c.name_end-end.ensures
