-- `partitions::by_index` meets its contract. The loop's invariant: what the turns so far make of the partitions left is the answer.
use Prim.Native.Nat.{◌-◌}
use mathlib.Core.Path.{◌≡◌, ap, sym, ◌∙◌, subst}
use native.Mathlib.Omega.{arith}
use Rattle.partitions.specs.declared.Cursor.{Cursor}
use Rattle.std.specs.Prelude.{None, Ok, Err}
use Rattle.partitions.specs.Find.{index_of}
use Rattle.partitions.proofs.WalkLaws.{next-bounds, rest, on_walk, loop-next, loop-end, loop-broken}
use Rattle.partitions.proofs.FindLaws.{seek_index, index-refused, index-start, seek-here, seek-later}
use Rattle.partitions.proofs.by_index.Goals as goal

pub returns-then-not-allowed_length : goal.returns-then-not-allowed_length
returns-then-not-allowed_length c =
    let a = c.args in
    index-refused a.image.now (sym c.allowed_length.ensures ∙ c.if-not-allowed_length.true) a.index

pub loop-step-init : goal.loop-step-init
loop-step-init c =
    let a = c.args in
    let image = a.image.now in
    subst (λ (s : Cursor). on_walk (seek_index None a.index) Err (rest image s.at) ≡ index_of image a.index)
    (sym c.start-cursor.ensures)
    (index-start image (sym c.allowed_length.ensures ∙ c.if-not-allowed_length.false) a.index)

pub loop-step-smaller-then-left-eq0 : goal.loop-step-smaller-then-left-eq0
loop-step-smaller-then-left-eq0 c =
    let g = c.in-Ok-Some in
    omega (arith, next-bounds c.args.image.now c.loop-step.cursor.at g.step (sym c.step.ensures ∙ g.is ∙ ap Ok g.field-0-is))

pub loop-step-preserved-then-left-eq0 : goal.loop-step-preserved-then-left-eq0
loop-step-preserved-then-left-eq0 c =
    let g = c.in-Ok-Some in
    loop-next c.args.image.now c.loop-step.cursor.at (seek_index c.loop-step.found c.loop-step.left) Err _ c.loop-step.invariant
    g.step (sym c.step.ensures ∙ g.is ∙ ap Ok g.field-0-is)
    (seek_index c.or-found.result c.loop-step.left)
    (λ ps. rw c.or-found.ensures (seek-here c.loop-step.found c.loop-step.left c.if-left-eq0.true g.step.here ps))

pub loop-step-smaller : goal.loop-step-smaller
loop-step-smaller c =
    let g = c.in-Ok-Some in
    omega (arith, next-bounds c.args.image.now c.loop-step.cursor.at g.step (sym c.step.ensures ∙ g.is ∙ ap Ok g.field-0-is))

pub loop-step-preserved : goal.loop-step-preserved
loop-step-preserved c =
    let g = c.in-Ok-Some in
    loop-next c.args.image.now c.loop-step.cursor.at (seek_index c.loop-step.found c.loop-step.left) Err _ c.loop-step.invariant
    g.step (sym c.step.ensures ∙ g.is ∙ ap Ok g.field-0-is)
    (seek_index c.loop-step.found (c.loop-step.left - 1))
    (seek-later c.loop-step.found c.loop-step.left c.if-left-eq0.false g.step.here)

pub returns-in-Ok-None : goal.returns-in-Ok-None
returns-in-Ok-None c =
    c.ok_or.ensures.value ∙ loop-end c.args.image.now c.loop-step.cursor.at (seek_index c.loop-step.found c.loop-step.left) Err _ c.loop-step.invariant
    (sym c.step.ensures ∙ c.in-Ok-None.is ∙ ap Ok c.in-Ok-None.field-0-is)

pub returns-in-Err : goal.returns-in-Err
returns-in-Err c =
    let g = c.in-Err in
    loop-broken c.args.image.now c.loop-step.cursor.at (seek_index c.loop-step.found c.loop-step.left) Err _ c.loop-step.invariant
    g.e (sym c.step.ensures ∙ g.is)
