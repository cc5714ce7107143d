-- `encoding::plain_len` meets its contract. The loop's invariant: the bytes up to i stand for themselves.
use mathlib.Core.Path.{sym, ap, ◌∙◌}
use native.Mathlib.Omega.{arith}
use lib.Seq.{length-take-le, get_or-take}
use Rattle.values.specs.Value.{escaped}
use Rattle.encoding.proofs.PlainLaws.{near-here, near-next}
use Rattle.encoding.proofs.plain_len.Goals as goal

pub returns-then-is_escaped : goal.returns-then-is_escaped
returns-then-is_escaped c =
    let k = c.min-near.result in
    let s = c.args.bytes.now in
    let i = c.loop-i.i in
    let n = length-take-le k s (omega (arith, c.min-near.ensures)) in
    near-here s i c.loop-i.invariant (omega (arith, n, c.min-near.ensures))
    (ap escaped (sym (get_or-take k s i 0 (omega (arith, n)))) ∙ sym c.is_escaped.ensures ∙ c.if-is_escaped.true)

pub loop-i-preserved : goal.loop-i-preserved
loop-i-preserved c =
    let k = c.min-near.result in
    let s = c.args.bytes.now in
    let i = c.loop-i.i in
    let n = length-take-le k s (omega (arith, c.min-near.ensures)) in
    near-next s i c.loop-i.invariant (omega (arith, n, c.min-near.ensures))
    (ap escaped (sym (get_or-take k s i 0 (omega (arith, n)))) ∙ sym c.is_escaped.ensures ∙ c.if-is_escaped.false)
