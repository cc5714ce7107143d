-- `Writer::put_hex` meets its contract.
use Rattle.std.proofs.Common.{arith, [], ◌∷◌}
use Rattle.listing.specs.Text.{hex_byte}
use Rattle.listing.proofs.WriterLaws.{wrote_then, wrote_as}
use Rattle.listing.proofs.Writer.put_hex.Goals as goal

pub put_byte-requires-2 : goal.put_byte-requires-2
put_byte-requires-2 c = omega arith

pub returns : goal.returns
unfolding hex_byte
returns c =
    wrote_as (wrote_then c.put_byte.ensures c.put_byte-2.ensures)
    (λ i. c.hex_digit.ensures i ∷ c.hex_digit-2.ensures i ∷ [])
