-- `lists::copy` meets its contract. The loop's invariant: what `to` had is overwritten by the first i bytes of `from`.
use mathlib.Core.Path.{ap, ◌∙◌}
use native.Mathlib.Omega.{arith}
use lib.ListN.{get_or, set, length-take}
use lib.Seq.{get_or-take}
use Rattle.lists.proofs.PastedLaws.{pasted-none, copy_step}
use Rattle.lists.proofs.copy.Goals as goal

pub loop-i-init : goal.loop-i-init
loop-i-init c = pasted-none _ 0

pub loop-i-preserved : goal.loop-i-preserved
loop-i-preserved c =
    let l = c.loop-i in
    let s = c.args.from.now in
    let n = c.min-n.result in
    ap (λ (v : _). set l.to l.i v) (get_or-take n s l.i 0 (omega (arith, length-take n s, c.loop-i-test.true)))
    ∙ ap (λ (x : _). set x l.i (get_or s l.i 0)) l.invariant
    ∙ copy_step _ 0 s l.i l.i (omega arith) (omega (arith, length-take n s, c.loop-i-test.true)) (omega (arith, length-take n s, c.loop-i-test.true, c.min-n.ensures))
