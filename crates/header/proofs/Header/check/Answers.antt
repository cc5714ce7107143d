-- `Header::check` meets its contract: the rules are tested with the checksum that is computed.
use Rattle.header.proofs.ValidityLaws.{check-read}
use Rattle.header.proofs.Header.check.Goals as goal

pub returns : goal.returns
returns c =
    let a = c.args in
    check-read a.self a.at a.room c.computed_checksum.result c.first_broken.result c.computed_checksum.ensures c.first_broken.ensures
