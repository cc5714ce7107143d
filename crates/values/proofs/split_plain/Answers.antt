-- `values::split_plain` meets its contract.
use native.Mathlib.Omega.{arith}
use Rattle.lists.proofs.FindLaws.{either-inside}
use Rattle.values.proofs.DecodeTurns.{decode-plain-piece, opened-plain-piece}
use Rattle.values.proofs.split_plain.Goals as goal

pub split_at-requires-2 : goal.split_at-requires-2
split_at-requires-2 c = either-inside c.args.stored.now 0 255 255 c.find_either.ensures (omega arith)

pub returns-clause-plain : goal.returns-clause-plain
returns-clause-plain c =
    let p = c.split_at-2.ensures in
    rw c.if-after.false (decode-plain-piece c.args.stored.now _ _ c.find_either.ensures p.front p.back)

pub returns-clause-opened_after : goal.returns-clause-opened_after
returns-clause-opened_after c =
    let p = c.split_at-2.ensures in
    rw c.if-after.false (opened-plain-piece c.args.stored.now _ _ c.find_either.ensures p.front p.back)
