-- `Writer::put_decimal` meets its contract. The loop's invariant: the digits of what is left, written before the offset, make the answer.
use Rattle.std.proofs.Common.{◌≡◌, length}
use Rattle.listing.proofs.PieceLaws.{Digits}
use Rattle.listing.proofs.Writer.put_decimal.Given as goal

abbrev pub invariant-loop-i : goal.invariant-loop-i
invariant-loop-i l =
    record {
      same : l.self.text.ghost_name ≡ l.initial.self.text.ghost_name;
      here : l.self.at ≡ l.initial.self.at;
      long : length l.self.text.now ≡ length l.initial.self.text.now;
      digits : Digits l.initial.self.text.now l.start l.n l.i l.left l.self.text.now;
    }
