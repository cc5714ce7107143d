-- `values::decode_few` meets its contract. The loop's invariant: what is read stands in the buffer.
use native.Mathlib.Omega.{arith}
use lib.ListN.{drop_of_length-le}
use Rattle.lists.proofs.ListLaws.{drop-next}
use Rattle.lists.proofs.MoveLaws.{part_filled}
use Rattle.values.proofs.DecodeTurns.{decoding-none, run_room, run-turn, open-turn, byte-room, byte-turn, decoding-all, decoding-len, decoding-end}
use borrow.Author.Rules.{rules}
use Rattle.values.proofs.decode_few.Goals.{then-open, else-open+then-b, else-open+else-b}
use Rattle.values.proofs.decode_few.Goals as goal

pub loop-b-init : goal.loop-b-init
loop-b-init c = decoding-none _ _ _ c.requires

pub slice_bounds-fill-end : goal.slice_bounds-fill-end
slice_bounds-fill-end c =
    let l = c.loop-b in
    omega (arith, c.from.ensures, run_room l.invariant (drop-next c.args.bytes.now l.b-index c.loop-b-test.true) c.if-open.true)

pub bounds-buffer-put : goal.bounds-buffer-put
bounds-buffer-put c =
    let l = c.loop-b in
    byte-room l.invariant (drop-next c.args.bytes.now l.b-index c.loop-b-test.true) c.if-open.false c.if-b.false

pub loop-b-preserved : goal.loop-b-preserved
loop-b-preserved c =
    let l = c.loop-b in
    let s = l.invariant in
    let e = drop-next c.args.bytes.now l.b-index c.loop-b-test.true in
    elim c.if-open.branch [
      | then-open w ↦ let k = run_room s e w.if-open.true in
          let v = w.from.ensures in
          rw (w.put-is, w.open-is, w.buffer-is, v)
          (run-turn s e w.if-open.true w.run_byte.ensures (part_filled l.buffer l.put _ w.run_byte.result w.fill.new.s (omega arith) k (rw v at w.fill.ensures)))
      | else-open+then-b w ↦ rw (w.put-is, w.open-is, w.buffer-is) (open-turn s e w.if-open.false w.if-b.true)
      | else-open+else-b w ↦ rw (w.put-is, w.open-is, w.buffer-is) (byte-turn s e w.if-open.false w.if-b.false)
    ]

pub returns-clause-len : goal.returns-clause-len
returns-clause-len c = decoding-len c.loop-b.invariant (drop_of_length-le c.args.bytes.now (search rules))

pub returns-clause-opened_after : goal.returns-clause-opened_after
returns-clause-opened_after c = decoding-end c.loop-b.invariant (drop_of_length-le c.args.bytes.now (search rules))

pub returns-clause-buffer_after : goal.returns-clause-buffer_after
returns-clause-buffer_after c = decoding-all c.loop-b.invariant (drop_of_length-le c.args.bytes.now (search rules))
