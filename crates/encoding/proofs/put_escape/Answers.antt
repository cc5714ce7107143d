-- `encoding::put_escape` meets its contract: the two bytes are one piece.
use Rattle.encoding.proofs.EncodeTurns.{two_bytes}
use borrow.Author.Rules.{rules}
use Rattle.encoding.proofs.put_escape.Goals as goal

pub returns : goal.returns
returns c = two_bytes _ 0 c.args.c (search rules)
