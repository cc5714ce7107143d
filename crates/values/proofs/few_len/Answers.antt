-- `values::few_len` meets its contract. The loop's invariant: n bytes, and those that the bytes left stand for, are all.
use native.Mathlib.Omega.{arith}
use lib.ListN.{drop_of_length-le}
use Rattle.lists.proofs.ListLaws.{drop-next}
use Rattle.values.proofs.DecodeTurns.{measured-ran, measured-opens, measured-itself, measured-len, measured-end}
use borrow.Author.Rules.{rules}
use Rattle.values.proofs.few_len.Goals.{then-open, else-open+then-b, else-open+else-b}
use Rattle.values.proofs.few_len.Goals as goal

pub loop-b-preserved : goal.loop-b-preserved
loop-b-preserved c =
    let l = c.loop-b in
    let s = l.invariant.1 in
    let e = drop-next c.args.bytes.now l.b-index c.loop-b-test.true in
    elim c.if-open.branch [
      | then-open w ↦ rw (w.n-is, w.open-is, w.from-n.ensures) (omega (arith, l.invariant.0), measured-ran s e w.if-open.true)
      | else-open+then-b w ↦ rw (w.n-is, w.open-is) (omega (arith, l.invariant.0), measured-opens s e w.if-open.false w.if-b.true)
      | else-open+else-b w ↦ rw (w.n-is, w.open-is) (omega (arith, l.invariant.0), measured-itself s e w.if-open.false w.if-b.false)
    ]

pub returns-clause-len : goal.returns-clause-len
returns-clause-len c = measured-len c.loop-b.invariant.1 (drop_of_length-le c.args.bytes.now (search rules))

pub returns-clause-opened_after : goal.returns-clause-opened_after
returns-clause-opened_after c = measured-end c.loop-b.invariant.1 (drop_of_length-le c.args.bytes.now (search rules))
