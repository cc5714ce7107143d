-- `decimal_len` meets its contract.
use Rattle.std.proofs.Common.{arith}
use Rattle.listing.proofs.WordLaws.{length-digit, decimal-power}
use Rattle.listing.proofs.decimal_len.Goals as goal

pub returns-in-Some-clause-value : goal.returns-in-Some-clause-value
returns-in-Some-clause-value c =
    let p = c.in-Some.ensures in
    omega (arith, decimal-power c.in-Some.power c.args.n p.power_le p.next_power_gt)

pub returns-in-None-clause-value : goal.returns-in-None-clause-value
returns-in-None-clause-value c = omega (arith, length-digit c.args.n (omega (arith, c.in-None.ensures)))
