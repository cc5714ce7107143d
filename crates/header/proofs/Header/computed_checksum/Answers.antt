-- `Header::computed_checksum` meets its contract: two folds of the plain sum are the checksum.
use Rattle.std.proofs.Common.{◌∙◌, arith, refl}
use Rattle.header.proofs.SumLaws.{sum-plain}
use Rattle.header.proofs.ChecksumLaws.{sum_bound, sum-covered}
use Rattle.header.proofs.Header.computed_checksum.Goals as goal

pub checksum_of-requires : goal.checksum_of-requires
checksum_of-requires c =
    let s = c.sum_bytes in
    omega (arith, s.ensures.value, sum-plain c.args.self.name, sum_bound c.args.self.name s.ensures.bytes)

pub returns : goal.returns
returns c =
    let a = c.args in
    let s = c.sum_bytes in
    sum-covered a.self (omega arith) s.ensures.bytes (omega arith) s.result a.self.signature c.checksum_of.result
    (s.ensures.value ∙ sum-plain a.self.name) refl c.checksum_of.ensures
