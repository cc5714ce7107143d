-- `encoding::put_run` meets its contract. The loop's invariant: the escapes of 127 that are counted are in the buffer.
use native.Mathlib.Omega.{arith}
use lib.ListN.{length}
use borrow.Rule.Slice.PartMut.{mid_len}
use Rattle.values.proofs.WrittenLaws.{tail-put}
use Rattle.encoding.proofs.EncodeTurns.{escaping-none, full-fits, full-turn, even_place, even-all, rest-fits, rest-place, rest_all}
use Rattle.encoding.proofs.put_run.Goals as goal

pub loop-init : goal.loop-init
loop-init c = escaping-none _ c.args.n _ _ (omega (arith, c.requires))

pub put_escape-requires : goal.put_escape-requires
put_escape-requires c =
    let l = c.loop in
    omega (arith, full-fits l.invariant (omega arith), mid_len l.put (length l.buffer) l.buffer (omega arith))

pub loop-preserved : goal.loop-preserved
loop-preserved c =
    let l = c.loop in
    let h = full-fits l.invariant c.loop-test.true in
    full-turn l.invariant c.loop-test.true c.mark_of-mark.ensures.0 (tail-put l.buffer l.put _ c.put_escape.new.buffer h c.put_escape.ensures)

pub returns-then-rest-eq0-clause-value : goal.returns-then-rest-eq0-clause-value
returns-then-rest-eq0-clause-value c = omega (arith, even_place c.loop.invariant c.loop-test.false c.if-rest-eq0.true)

pub returns-then-rest-eq0-clause-buffer_after : goal.returns-then-rest-eq0-clause-buffer_after
returns-then-rest-eq0-clause-buffer_after c = even-all c.loop.invariant c.loop-test.false c.if-rest-eq0.true

pub put_escape-requires-2 : goal.put_escape-requires-2
put_escape-requires-2 c =
    let l = c.loop in
    omega (arith, rest-fits l.invariant c.loop-test.false c.if-rest-eq0.false, mid_len l.put (length l.buffer) l.buffer (omega arith))

pub returns-clause-value : goal.returns-clause-value
returns-clause-value c =
    let l = c.loop in
    let h = rest-fits l.invariant c.loop-test.false c.if-rest-eq0.false in
    let w = tail-put l.buffer l.put _ c.put_escape-2.new.buffer h c.put_escape-2.ensures in
    omega (arith, rest-place l.invariant c.loop-test.false c.if-rest-eq0.false c.mark_of-mark.ensures.0 w)

pub returns-clause-buffer_after : goal.returns-clause-buffer_after
returns-clause-buffer_after c =
    let l = c.loop in
    let h = rest-fits l.invariant c.loop-test.false c.if-rest-eq0.false in
    rest_all l.invariant c.loop-test.false c.if-rest-eq0.false c.mark_of-mark.ensures.0
    (tail-put l.buffer l.put _ c.put_escape-2.new.buffer h c.put_escape-2.ensures)
