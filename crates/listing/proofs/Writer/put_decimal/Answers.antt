-- `Writer::put_decimal` meets its contract.
use Rattle.std.proofs.Common.{arith, refl}
use Rattle.std.proofs.lemmas.List.{length-set}
use Rattle.listing.proofs.PieceLaws.{left, next-digit, no-digit}
use Rattle.listing.proofs.Writer.put_decimal.Goals as goal

pub loop-i-init : goal.loop-i-init
loop-i-init c = record { same = refl; here = refl; long = refl; digits = left (omega arith) refl }

pub loop-i-preserved : goal.loop-i-preserved
loop-i-preserved c =
    let s = c.loop-i.invariant in
    record {
      same = s.same;
      here = s.here;
      long = simp length-set s.long;
      digits = next-digit s.digits (omega arith) (omega arith);
    }

pub returns : goal.returns
returns c =
    let s = c.loop-i.invariant in
    record { same = s.same; long = s.long; end = omega arith; room = omega arith; text = no-digit s.digits (omega arith) }
