-- `pairs::ends_at` meets its contract, at the area's end and before it.
use borrow.Author.Rules.{rules}
use Rattle.pairs.proofs.ScanPlaces.{ends-past, ends-byte}
use Rattle.pairs.proofs.ends_at.Goals as goal

pub returns-then-area-at : goal.returns-then-area-at
returns-then-area-at c = ends-past _ _ (search rules)

pub returns : goal.returns
returns c = ends-byte _ _ (search rules)
