-- `header::checksum_of_whole` meets its contract: two folds of the plain sum of its 15 bytes are the checksum.
use Rattle.std.proofs.Common.{◌-◌, arith}
use Rattle.header.proofs.SumLaws.{sum-plain, header-sum}
use Rattle.header.proofs.ChecksumLaws.{sum_bound}
use Rattle.header.proofs.RuleLaws.{checksum-less}
use Rattle.header.proofs.checksum_of_whole.Goals as goal

pub overflow_sub-sum_bytes : goal.overflow_sub-sum_bytes
overflow_sub-sum_bytes c =
    let bytes = c.args.bytes.now in
    omega (arith, c.sum_bytes.ensures.value, sum-plain bytes, header-sum bytes c.told-bytes, c.from.ensures)

pub fold_twice-requires : goal.fold_twice-requires
fold_twice-requires c =
    let bytes = c.args.bytes.now in
    let s = c.sum_bytes in
    omega (arith, s.ensures.value, sum-plain bytes, sum_bound bytes s.ensures.bytes, c.told-bytes)

pub returns : goal.returns
returns c =
    let bytes = c.args.bytes.now in
    checksum-less bytes 0 c.sum_bytes.ensures.bytes (c.sum_bytes.result - c.from.result) c.fold_twice.result
    (omega (arith, c.sum_bytes.ensures.value, sum-plain bytes, header-sum bytes c.told-bytes, c.from.ensures))
    c.fold_twice.ensures
