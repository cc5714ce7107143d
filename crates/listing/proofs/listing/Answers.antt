-- `listing` meets its contract.
use mathlib.Core.Path.{sym, ◌∙◌}
use Rattle.listing.proofs.PieceLaws.{listed-as}
use Rattle.listing.proofs.TextLaws.{text-too-long, text-by-walk, measured-broken}
use Rattle.listing.proofs.listing.Goals as goal

pub returns-then-image-gt-MAX_LISTED : goal.returns-then-image-gt-MAX_LISTED
returns-then-image-gt-MAX_LISTED c =
    listed-as _ c.args.text.now (sym (text-too-long c.args.image.now c.if-image-gt-MAX_LISTED.true)) c.list_piece.ensures

pub list_accepted-requires : goal.list_accepted-requires
list_accepted-requires c =
    record { image_len_bound = c.if-image-gt-MAX_LISTED.false; image_value = sym c.measure.ensures ∙ c.in-Ok.is }

pub returns-in-Ok : goal.returns-in-Ok
returns-in-Ok c =
    listed-as _ c.args.text.now (sym (text-by-walk c.args.image.now c.if-image-gt-MAX_LISTED.false)) c.list_accepted.ensures

pub returns-in-Err : goal.returns-in-Err
returns-in-Err c =
    let image = c.args.image.now in
    let refused = measured-broken image c.in-Err.e (sym c.measure.ensures ∙ c.in-Err.is) in
    listed-as _ c.args.text.now (refused ∙ sym (text-by-walk image c.if-image-gt-MAX_LISTED.false)) c.list_refused.ensures
