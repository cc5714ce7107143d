-- `repeats::first_repeat` meets its contract. The invariant: no piece before `best` has a name of the blocks so far.
use mathlib.Core.Path.{◌∙◌}
use native.Mathlib.Omega.{arith}
use Rattle.repeats.proofs.FirstLaws.{first-found, none_yet, end-best, start-zero}
use Rattle.repeats.proofs.first_repeat.Goals as goal

pub loop-from-init : goal.loop-from-init
loop-from-init c = (none_yet _, end-best _, start-zero _)

pub turn_sized-turned-requires : goal.turn_sized-turned-requires
turn_sized-turned-requires c = let s = c.loop-from.invariant in record { distinct = s.0; better = s.1; below = c.loop-from-test.true; begins = s.2 c.loop-from-test.true }

pub loop-from-smaller : goal.loop-from-smaller
loop-from-smaller c = omega (arith, c.turn_sized-turned.ensures.further, c.loop-from.invariant.1.inside, c.loop-from-test.true)

pub loop-from-preserved : goal.loop-from-preserved
loop-from-preserved c = let t = c.turn_sized-turned.ensures in (t.distinct, t.better, t.begins)

pub returns : goal.returns
returns c = let s = c.loop-from.invariant in c.then_some.ensures ∙ first-found s.0 s.1 c.loop-from-test.false
