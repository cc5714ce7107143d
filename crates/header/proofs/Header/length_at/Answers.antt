-- `Header::length_at` meets its contract: two bytes, the high one first.
use Rattle.std.proofs.Common.{◌+◌, ◌*◌, ◌∙◌}
use Rattle.header.specs.Header.{header_at}
use Rattle.header.proofs.Header.length_at.Goals as goal

pub returns : goal.returns
unfolding header_at
returns c = λ i. record { 0 = (c.of_bytes.ensures ∙ (λ j. c.byte.ensures j * 256 + c.byte-2.ensures j)) i }
