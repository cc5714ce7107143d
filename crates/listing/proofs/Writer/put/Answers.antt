-- `Writer::put` meets its contract.
use Rattle.std.proofs.Common.{refl, ap, arith, ◌∙◌, ◌≡◌, ◌+◌, ◌-◌, length}
use Rattle.lists.specs.Pasted.{pasted}
use Rattle.lists.proofs.PastedLaws.{part-pasted, length-pasted}
use borrow.Rule.Slice.PartMut.{put_mid}
use Rattle.listing.proofs.Writer.put.Goals as goal

pub returns : goal.returns
returns c =
    let w = c.args.self.now in
    let n = length c.args.piece.now in
    let same = c.copy_from_slice.ensures.after in
    let text : put_mid w.at (w.at + n - w.at) w.text.now c.copy_from_slice.new.self ≡ pasted w.text.now w.at c.args.piece.now =
    part-pasted w.text.now w.at (w.at + n) _ (omega arith) (omega arith) (omega (arith, ap length same)) ∙ ap (pasted w.text.now w.at) same in
    record { same = refl; long = ap length text ∙ length-pasted _ _ _ (omega arith); end = refl; room = omega arith; text = text }
