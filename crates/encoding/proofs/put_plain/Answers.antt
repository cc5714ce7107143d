-- `encoding::put_plain` meets its contract: what the two parts copy is one piece.
use Prim.Native.Nat.{◌-◌}
use native.Mathlib.Omega.{arith}
use lib.ListN.{take, drop, length-take, length-drop}
use Rattle.lists.proofs.FindLaws.{until-short}
use Rattle.values.proofs.WrittenLaws.{tail-copied}
use Rattle.encoding.proofs.PlainLaws.{until-less, found-near, found-far, many-put}
use Rattle.encoding.proofs.put_plain.Goals as goal

pub put_near-n-requires : goal.put_near-n-requires
put_near-n-requires c = omega (arith, until-less c.min-near.result c.args.bytes.now (omega (arith, c.min-near.ensures)), c.requires)

pub returns-then-n-near-clause-value : goal.returns-then-n-near-clause-value
returns-then-n-near-clause-value c =
    let n = c.put_near-n.ensures in
    found-near c.min-near.result c.args.bytes.now (omega (arith, c.min-near.ensures)) n.value c.if-n-near.true

pub slice_bounds-copy-end : goal.slice_bounds-copy-end
slice_bounds-copy-end c =
    let n = c.put_near-n.ensures in
    let e = found-far c.min-near.result c.args.bytes.now (omega (arith, c.min-near.ensures)) n.value c.if-n-near.false c.find_either-end.ensures in
    omega (arith, e, until-short 0 255 c.args.bytes.now)

pub slice_bounds-copy-count-2 : goal.slice_bounds-copy-count-2
slice_bounds-copy-count-2 c =
    let n = c.put_near-n.ensures in
    let e = found-far c.min-near.result c.args.bytes.now (omega (arith, c.min-near.ensures)) n.value c.if-n-near.false c.find_either-end.ensures in
    omega (arith, e, c.requires, c.put_near-n.auto.buffer)

pub slice_bounds-copy-start-2 : goal.slice_bounds-copy-start-2
slice_bounds-copy-start-2 c =
    let n = c.put_near-n.ensures in
    let e = found-far c.min-near.result c.args.bytes.now (omega (arith, c.min-near.ensures)) n.value c.if-n-near.false c.find_either-end.ensures in
    omega (arith, e, c.requires, c.put_near-n.auto.buffer)

pub returns-clause-value : goal.returns-clause-value
returns-clause-value c =
    let n = c.put_near-n.ensures in
    found-far c.min-near.result c.args.bytes.now (omega (arith, c.min-near.ensures)) n.value c.if-n-near.false
    c.find_either-end.ensures

pub returns-clause-buffer_after : goal.returns-clause-buffer_after
returns-clause-buffer_after c =
    let k = c.min-near.result in
    let s = c.args.bytes.now in
    let n = c.put_near-n.ensures in
    let q = c.find_either-end.ensures in
    let e = found-far k s (omega (arith, c.min-near.ensures)) n.value c.if-n-near.false q in
    many-put k s (omega (arith, c.min-near.ensures)) n.value c.args.buffer.now n.buffer_after c.if-n-near.false q c.requires
    (tail-copied c.put_near-n.new.buffer k (take (c.find_either-end.result - k) (drop k s)) c.copy.new.to
    (omega (arith, e, c.requires, c.put_near-n.auto.buffer, length-take (c.find_either-end.result - k) (drop k s), length-drop k s, until-short 0 255 s)) c.copy.ensures)
