-- `repeats::same_name` meets its contract: the names are the same if both end behind what they have in common.
use Rattle.std.proofs.Common.{◌∙◌, ◌&&◌, Bool, ap, sym, refl, get_or}
use Rattle.repeats.specs.Pieces.{ends_name}
use Rattle.repeats.proofs.NameLaws.{ended-both}
use Rattle.repeats.proofs.same_name.Goals as goal

pub returns-then-ended : goal.returns-then-ended
returns-then-ended c =
    let t = c.ended-then-ended.result in
    sym (ap (λ (s : Bool). s && t) c.if-ended.true)
    ∙ ended-both c.args.x.now c.args.y.now c.common-end.result c.ended.result t c.common-end.ensures c.ended.ensures c.ended-then-ended.ensures

pub returns-else-ended : goal.returns-else-ended
returns-else-ended c =
    let t = ends_name (get_or c.args.y.now c.common-end.result 0) in
    c.if-ended.false ∙ sym (ap (λ (s : Bool). s && t) c.if-ended.false)
    ∙ ended-both c.args.x.now c.args.y.now c.common-end.result c.ended.result t c.common-end.ensures c.ended.ensures refl
