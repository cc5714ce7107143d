-- `Header::signature_at` meets its contract: the header's first byte.
use Rattle.header.specs.Header.{header_at}
use Rattle.header.proofs.Header.signature_at.Goals as goal

pub returns : goal.returns
unfolding header_at
returns c = c.byte.ensures
