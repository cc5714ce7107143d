-- `header::first_broken` meets its contract, test by test.
use Rattle.header.proofs.ValidityLaws.{zero-length, past_end, checksum-differs, no-rule-broken}
use Rattle.header.proofs.first_broken.Goals as goal

pub returns-then-blocks-eq0 : goal.returns-then-blocks-eq0
returns-then-blocks-eq0 c =
    let a = c.args in
    zero-length a.blocks a.stored a.computed a.at a.room c.if-blocks-eq0.true

pub returns-then-room-bytes : goal.returns-then-room-bytes
returns-then-room-bytes c =
    let a = c.args in
    past_end a.blocks a.stored a.computed a.at a.room c.if-blocks-eq0.false c.bytes-bytes.result c.bytes-bytes.ensures c.if-room-bytes.true

pub returns-then-differs : goal.returns-then-differs
returns-then-differs c =
    let a = c.args in
    checksum-differs a.blocks a.stored a.computed a.at a.room c.if-blocks-eq0.false c.bytes-bytes.result c.bytes-bytes.ensures
    c.if-room-bytes.false c.if-differs.true

pub returns : goal.returns
returns c =
    let a = c.args in
    no-rule-broken a.blocks a.stored a.computed a.at a.room c.if-blocks-eq0.false c.bytes-bytes.result c.bytes-bytes.ensures
    c.if-room-bytes.false c.if-differs.false
