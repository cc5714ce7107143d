-- `repeats::ended` meets its contract: past the bytes a name has ended.
use Rattle.std.proofs.Common.{rules}
use Rattle.repeats.proofs.NameLaws.{ended-past}
use Rattle.repeats.proofs.ended.Goals as goal

pub returns-then-at-piece : goal.returns-then-at-piece
returns-then-at-piece c = let e = ended-past c.args.piece.now c.args.at c.if-at-piece.true in search rules
