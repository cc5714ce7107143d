-- `list_piece` meets its contract.
use Rattle.std.proofs.Common.{refl, rules}
use Rattle.listing.proofs.PieceLaws.{listed-short}
use Rattle.listing.proofs.WriterLaws.{listed-written}
use Rattle.listing.proofs.list_piece.Goals as goal

pub returns-then-text-piece : goal.returns-then-text-piece
returns-then-text-piece c = listed-short c.args.piece.now c.args.text.now c.if-text-piece.true

pub returns : goal.returns
returns c =
    let same = c.put.ensures.same in
    listed-written refl c.put.ensures refl (search rules)
