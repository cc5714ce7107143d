-- `Writer::put_field` meets its contract.
use Rattle.listing.proofs.WriterLaws.{wrote_then}
use Rattle.listing.proofs.Writer.put_field.Goals as goal

pub returns : goal.returns
returns c = wrote_then c.put_decimal.ensures c.put_byte.ensures
