-- `Header::new` meets its contract, by the test of the length.
use Rattle.std.proofs.Common.{true, false}
use Rattle.header.proofs.NewLaws.{new-answer}
use Rattle.header.proofs.Header.new.Goals as goal

pub returns-then-fits_header : goal.returns-then-fits_header
returns-then-fits_header c =
    let a = c.args in
    new-answer a.signature a.length a.name true c.computed_checksum.result c.if-fits_header.ensures c.computed_checksum.ensures

pub returns-else-fits_header : goal.returns-else-fits_header
returns-else-fits_header c =
    let a = c.args in
    new-answer a.signature a.length a.name false c.computed_checksum.result c.if-fits_header.ensures c.computed_checksum.ensures
