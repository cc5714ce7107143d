-- `header::fold_twice` meets its contract: two folds leave no carry, so that the byte holds them.
use mathlib.Core.Path.{ap, ◌∙◌}
use native.Mathlib.Omega.{arith}
use Rattle.header.specs.Checksum.{fold}
use Rattle.header.proofs.ChecksumLaws.{folds-byte}
use Rattle.header.proofs.fold_twice.Goals as goal

pub overflow_cast-result : goal.overflow_cast-result
overflow_cast-result c =
    omega (arith, c.fold-twice.ensures, c.fold-once.ensures, folds-byte c.args.total c.requires)

pub returns : goal.returns
returns c = c.fold-twice.ensures ∙ ap fold c.fold-once.ensures
