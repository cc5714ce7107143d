-- `Writer::put_line` meets its contract: the pieces of the line stand one after the other.
use Rattle.listing.proofs.WordLaws.{line-words}
use Rattle.listing.proofs.WriterLaws.{wrote_then, wrote_as}
use Rattle.listing.proofs.Writer.put_line.Goals as goal

pub returns : goal.returns
returns c =
    let two = wrote_then c.put_field.ensures c.put_field-2.ensures in
    wrote_as (wrote_then (wrote_then (wrote_then (wrote_then two c.put_hex.ensures) c.put_byte.ensures) c.put_name.ensures) c.put_byte-2.ensures)
    (line-words c.args.image.now c.args.p c.read.result c.read.ensures)
