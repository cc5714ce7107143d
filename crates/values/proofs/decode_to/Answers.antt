-- `values::decode_to` meets its contract. The loop's invariant: what is read stands in the buffer.
use mathlib.Core.Path.{refl, sym, ap, ◌∙◌}
use Prim.Native.Nat.{◌+◌, ◌-◌, ◌<◌}
use native.Mathlib.Omega.{arith}
use lib.ListN.{length}
use borrow.Rule.Slice.PartMut.{put_mid, mid_len}
use Rattle.lists.specs.Pasted.{pasted}
use Rattle.values.proofs.DecodeTurns.{decoding-none, piece-room, piece-turn, few-room, few-turn, decoding-same, decoding-all, decode-begins, none-left}
use Rattle.values.proofs.StopLaws.{few-next, fewer-left}
use Rattle.values.proofs.WrittenLaws.{tail-copied, tail-put}
use borrow.Author.Rules.{rules}
use Rattle.values.proofs.decode_to.Goals as goal

pub loop-rest-init : goal.loop-rest-init
loop-rest-init c = decoding-none _ _ _ (omega (arith, c.requires, ap length (decode-begins c.args.stored.now)))

pub decode_few-k-requires : goal.decode_few-k-requires
decode_few-k-requires c =
    let l = c.loop-rest in
    let p = c.split_plain.ensures in
    let k = c.split_at.ensures in
    let r = piece-room l.invariant _ _ p.plain p.opened_after in
    let s = piece-turn l.invariant _ _ p.plain p.opened_after (tail-copied l.buffer l.put _ c.copy.new.to r c.copy.ensures) in
    let b = put_mid l.put (length l.buffer - l.put) l.buffer c.copy.new.to in
    omega (arith, few-room s _ k.front k.back refl, mid_len (l.put + length c.split_plain.result.0.now) (length b) b (omega arith))

pub overflow_add-put-in-loop-rest : goal.overflow_add-put-in-loop-rest
overflow_add-put-in-loop-rest c =
    let l = c.loop-rest in
    let p = c.split_plain.ensures in
    let k = c.split_at.ensures in
    let f = c.decode_few-k.ensures in
    let r = piece-room l.invariant _ _ p.plain p.opened_after in
    let s = piece-turn l.invariant _ _ p.plain p.opened_after (tail-copied l.buffer l.put _ c.copy.new.to r c.copy.ensures) in
    omega (arith, few-room s _ k.front k.back f.opened_after, f.len, decoding-same s)

pub split_at-requires : goal.split_at-requires
split_at-requires c = omega (arith, (few-next _ c.next_stop.ensures).inside)

pub loop-rest-smaller : goal.loop-rest-smaller
loop-rest-smaller c =
    let h : 0 < length c.loop-rest.rest.now = search rules in
    fewer-left _ _ _ _ _ h c.split_plain.ensures.rest_left (few-next _ c.next_stop.ensures) c.split_at.ensures.back_len

pub loop-rest-preserved : goal.loop-rest-preserved
loop-rest-preserved c =
    let l = c.loop-rest in
    let p = c.split_plain.ensures in
    let k = c.split_at.ensures in
    let f = c.decode_few-k.ensures in
    let r = piece-room l.invariant _ _ p.plain p.opened_after in
    let s = piece-turn l.invariant _ _ p.plain p.opened_after (tail-copied l.buffer l.put _ c.copy.new.to r c.copy.ensures) in
    few-turn s _ k.front k.back f.opened_after f.len
    (tail-put _ _ _ c.decode_few-k.new.buffer (few-room s _ k.front k.back f.opened_after) f.buffer_after)

pub returns : goal.returns
returns c =
    decoding-all c.loop-rest.invariant (none-left c.loop-rest.rest.now (search rules))
    ∙ ap (pasted c.args.buffer.now 0) (sym (decode-begins c.args.stored.now))
