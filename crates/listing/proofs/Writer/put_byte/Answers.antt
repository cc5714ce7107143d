-- `Writer::put_byte` meets its contract.
use Rattle.std.proofs.Common.{refl, rules}
use Rattle.std.proofs.lemmas.List.{length-set}
use Rattle.lists.proofs.PastedLaws.{set-pasted}
use Rattle.listing.proofs.Writer.put_byte.Goals as goal

pub returns : goal.returns
returns c = record { same = refl; long = simp length-set; end = refl; room = search rules; text = set-pasted _ _ _ (search rules) }
