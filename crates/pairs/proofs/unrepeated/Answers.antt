-- `pairs::unrepeated` meets its contract, by the first repeat among the bytes before `at`.
use mathlib.Core.Path.{ap}
use Rattle.pairs.specs.Helpers.{unrepeated}
use Rattle.pairs.proofs.unrepeated.Goals as goal

pub returns-in-Some : goal.returns-in-Some
unfolding unrepeated
returns-in-Some c = ap unrepeated c.in-Some.ensures

pub returns-in-None : goal.returns-in-None
unfolding unrepeated
returns-in-None c = ap unrepeated c.in-None.ensures
