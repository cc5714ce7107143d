-- `values::decoded_len` meets its contract. The loop's invariant: n bytes, and those that the bytes left stand for, are the value's length.
use Prim.Native.Nat.{◌<◌}
use mathlib.Core.Path.{sym, ap}
use native.Mathlib.Omega.{arith}
use lib.ListN.{length}
use Rattle.values.proofs.DecodeTurns.{measured-piece, measured-few, measured-len, decode-begins, none-left}
use Rattle.values.proofs.StopLaws.{few-next, fewer-left}
use Rattle.values.proofs.WrittenLaws.{written-not, count_fits}
use borrow.Author.Rules.{rules}
use Rattle.values.proofs.decoded_len.Goals as goal

pub returns-then-room-n : goal.returns-then-room-n
returns-then-room-n c =
    let p = c.split_plain.ensures in
    let s = measured-piece c.loop-rest.invariant.1 _ _ p.plain p.opened_after in
    sym (written-not _ _ (omega (arith, s.sum, c.loop-rest.invariant.0, ap length (decode-begins c.args.stored.now))))

pub returns-then-room-n-2 : goal.returns-then-room-n-2
returns-then-room-n-2 c =
    let p = c.split_plain.ensures in
    let k = c.split_at.ensures in
    let f = c.few_len-k.ensures in
    let s = measured-few (measured-piece c.loop-rest.invariant.1 _ _ p.plain p.opened_after) _ k.front k.back f.len f.opened_after in
    sym (written-not _ _ (omega (arith, s.sum, c.loop-rest.invariant.0, ap length (decode-begins c.args.stored.now))))

pub split_at-requires : goal.split_at-requires
split_at-requires c = omega (arith, (few-next _ c.next_stop.ensures).inside)

pub few_len-k-requires : goal.few_len-k-requires
few_len-k-requires c = omega (arith, c.split_at.ensures.front_len, (few-next _ c.next_stop.ensures).few)

pub loop-rest-smaller : goal.loop-rest-smaller
loop-rest-smaller c =
    let h : 0 < length c.loop-rest.rest.now = search rules in
    fewer-left _ _ _ _ _ h c.split_plain.ensures.rest_left (few-next _ c.next_stop.ensures) c.split_at.ensures.back_len

pub loop-rest-preserved : goal.loop-rest-preserved
loop-rest-preserved c =
    let p = c.split_plain.ensures in
    let k = c.split_at.ensures in
    let f = c.few_len-k.ensures in
    (omega arith, measured-few (measured-piece c.loop-rest.invariant.1 _ _ p.plain p.opened_after) _ k.front k.back f.len f.opened_after)

pub returns : goal.returns
returns c =
    let l = c.loop-rest in
    let e = none-left l.rest.now (search rules) in
    count_fits _ _ _ (omega (arith, measured-len l.invariant.1 e, ap length (decode-begins c.args.stored.now))) l.invariant.0
