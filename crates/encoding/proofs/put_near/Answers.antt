-- `encoding::put_near` meets its contract. The loop's invariant: the bytes up to i stand for themselves and are in the buffer.
use mathlib.Core.Path.{sym, ap, ◌∙◌}
use native.Mathlib.Omega.{arith}
use lib.ListN.{get_or, set}
use Rattle.lists.proofs.PastedLaws.{pasted-none, copy_step}
use Rattle.encoding.proofs.PlainLaws.{near-here, near-next, near-room, near-all}
use borrow.Author.Rules.{rules}
use Rattle.encoding.proofs.put_near.Goals as goal

pub loop-i-init : goal.loop-i-init
loop-i-init c = (omega arith, pasted-none _ 0)

pub returns-then-is_escaped-clause-value : goal.returns-then-is_escaped-clause-value
returns-then-is_escaped-clause-value c =
    let l = c.loop-i in
    near-here c.args.bytes.now l.i l.invariant.0 c.loop-i-test.true (sym c.is_escaped.ensures ∙ c.if-is_escaped.true)

pub bounds-buffer-i : goal.bounds-buffer-i
bounds-buffer-i c =
    let l = c.loop-i in
    omega (arith, near-room c.args.bytes.now l.i l.invariant.0 c.loop-i-test.true (sym c.is_escaped.ensures ∙ c.if-is_escaped.false))

pub loop-i-preserved : goal.loop-i-preserved
loop-i-preserved c =
    let l = c.loop-i in
    let s = c.args.bytes.now in
    let t = sym c.is_escaped.ensures ∙ c.if-is_escaped.false in
    let r = near-room s l.i l.invariant.0 c.loop-i-test.true t in (
      near-next s l.i l.invariant.0 c.loop-i-test.true t,
      ap (λ (b : _). set b l.i (get_or s l.i 0)) l.invariant.1 ∙ copy_step _ 0 s l.i l.i (omega arith) c.loop-i-test.true (omega arith),
    )

pub returns-clause-value : goal.returns-clause-value
returns-clause-value c =
    let l = c.loop-i in
    omega (arith, near-all c.args.bytes.now l.i l.invariant.0 (search rules))
