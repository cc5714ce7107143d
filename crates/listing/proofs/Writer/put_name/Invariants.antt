-- `Writer::put_name` meets its contract. The loop's invariant: the bytes that are passed are written as they are shown.
use Rattle.std.proofs.Common.{drop}
use Rattle.listing.specs.Text.{shown_name}
use Rattle.listing.proofs.WriterLaws.{Writing}
use Rattle.listing.proofs.Writer.put_name.Given as goal

abbrev pub invariant-loop-b : goal.invariant-loop-b
invariant-loop-b l = Writing l.initial.self (shown_name l.name) (shown_name (drop l.b-index l.name)) l.self
