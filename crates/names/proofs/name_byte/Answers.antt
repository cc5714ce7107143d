-- `names::name_byte` meets its contract: the table is the rule tabulated.
use borrow.Author.Rules.{rules}
use mathlib.Core.Path.{ap, ◌∙◌}
use Rattle.names.specs.Name.{name_byte}
use Rattle.names.proofs.Marks.{marked}
use Rattle.names.proofs.name_byte.Goals as goal

pub returns : goal.returns
returns c = marked c.from.result (search rules) ∙ ap name_byte c.from.ensures
