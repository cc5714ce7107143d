-- `encoding::encode_to` meets its contract. The loop's invariant: the first bytes are in the buffer, and the rest is the canonical
-- form of the bytes left.
use mathlib.Core.Path.{refl, sym, ap, ◌∙◌}
use native.Mathlib.Omega.{arith}
use lib.ListN.{length}
use borrow.Rule.Slice.PartMut.{mid_len}
use lib.Seq.{length-take-le}
use Rattle.lists.specs.Pasted.{pasted}
use Rattle.lists.proofs.FindLaws.{until-short}
use Rattle.values.proofs.WrittenLaws.{tail-put}
use Rattle.encoding.proofs.EncodeTurns.{leading_length, run-smaller, piece-smaller, encoding-none, run_fits, run-turn, piece-room, piece-turn, encoding-all}
use Rattle.encoding.proofs.encode_to.Goals as goal

pub loop-x-init : goal.loop-x-init
loop-x-init c = encoding-none _ _ c.requires

pub split_at-requires : goal.split_at-requires
split_at-requires c = rw c.leading.ensures (leading_length _ _)

pub put_run-put-requires : goal.put_run-put-requires
put_run-put-requires c =
    let l = c.loop-x in
    let e = c.in-Some.ensures.cases.0 in
    let t = sym c.is_escaped.ensures ∙ c.if-is_escaped.true in
    let p = c.split_at.ensures in
    omega (arith, run_fits l.invariant e t c.leading.ensures p.front p.back, mid_len l.put (length l.buffer) l.buffer (omega arith))

pub overflow_add-put : goal.overflow_add-put
overflow_add-put c =
    let l = c.loop-x in
    let e = c.in-Some.ensures.cases.0 in
    let t = sym c.is_escaped.ensures ∙ c.if-is_escaped.true in
    let p = c.split_at.ensures in
    omega (arith, run_fits l.invariant e t c.leading.ensures p.front p.back, c.put_run-put.ensures.value)

pub loop-x-smaller-then-is_escaped : goal.loop-x-smaller-then-is_escaped
loop-x-smaller-then-is_escaped c =
    let p = c.split_at.ensures in
    run-smaller c.in-Some.ensures.cases.0 c.leading.ensures p.front p.back

pub loop-x-preserved-then-is_escaped : goal.loop-x-preserved-then-is_escaped
loop-x-preserved-then-is_escaped c =
    let l = c.loop-x in
    let e = c.in-Some.ensures.cases.0 in
    let t = sym c.is_escaped.ensures ∙ c.if-is_escaped.true in
    let p = c.split_at.ensures in
    let q = c.put_run-put in
    run-turn l.invariant e t c.leading.ensures p.front p.back q.ensures.value
    (tail-put l.buffer l.put _ q.new.buffer (run_fits l.invariant e t c.leading.ensures p.front p.back) q.ensures.buffer_after)

pub put_plain-requires : goal.put_plain-requires
put_plain-requires c =
    let l = c.loop-x in
    omega (arith, piece-room l.invariant refl refl refl, mid_len l.put (length l.buffer) l.buffer (omega arith), length-take-le _ l.rest.now (until-short 0 255 l.rest.now))

pub split_at-requires-else-is_escaped : goal.split_at-requires-else-is_escaped
split_at-requires-else-is_escaped c = omega (arith, until-short 0 255 c.loop-x.rest.now, c.put_plain.ensures.value)

pub loop-x-smaller : goal.loop-x-smaller
loop-x-smaller c =
    let p = c.split_at-else-is_escaped.ensures in
    let t = sym c.is_escaped.ensures ∙ c.if-is_escaped.false in
    piece-smaller c.loop-x.rest.now c.put_plain.ensures.value p.front p.back c.in-Some.ensures.cases.0 t

pub loop-x-preserved : goal.loop-x-preserved
loop-x-preserved c =
    let l = c.loop-x in
    let p = c.split_at-else-is_escaped.ensures in
    let q = c.put_plain in
    let r = piece-room l.invariant q.ensures.value p.front p.back in
    piece-turn l.invariant q.ensures.value p.front p.back
    (tail-put l.buffer l.put _ q.new.buffer r (q.ensures.buffer_after ∙ ap (pasted _ 0) (sym p.front)))

pub returns : goal.returns
returns c = encoding-all c.loop-x.invariant c.in_default.ensures.cases
