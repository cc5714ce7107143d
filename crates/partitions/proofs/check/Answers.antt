-- `partitions::check` meets its contract. The loop's invariant: the partitions counted and those left are all of them.
use mathlib.Core.Path.{ap, sym, ◌∙◌, subst}
use native.Mathlib.Omega.{arith}
use Rattle.std.specs.Prelude.{Ok}
use Rattle.partitions.specs.declared.Cursor.{Cursor}
use Rattle.partitions.proofs.WalkLaws.{next-bounds}
use Rattle.partitions.proofs.CheckLaws.{Counting, check-refused, count-start, count_next, count-end, count-broken}
use Rattle.partitions.proofs.check.Goals as goal

pub returns-then-not-allowed_length : goal.returns-then-not-allowed_length
returns-then-not-allowed_length c =
    check-refused c.args.image.now (sym c.allowed_length.ensures ∙ c.if-not-allowed_length.true)

pub loop-step-init : goal.loop-step-init
loop-step-init c =
    let image = c.args.image.now in
    subst (λ (s : Cursor). Counting image s.at 0) (sym c.start-cursor.ensures)
    (count-start image (sym c.allowed_length.ensures ∙ c.if-not-allowed_length.false))

pub overflow_add-count : goal.overflow_add-count
overflow_add-count c =
    let g = c.in-Ok-Some in
    omega (arith, next-bounds c.args.image.now c.loop-step.cursor.at g.step (sym c.step.ensures ∙ g.is ∙ ap Ok g.field-0-is))

pub loop-step-smaller : goal.loop-step-smaller
loop-step-smaller c =
    let g = c.in-Ok-Some in
    omega (arith, next-bounds c.args.image.now c.loop-step.cursor.at g.step (sym c.step.ensures ∙ g.is ∙ ap Ok g.field-0-is))

pub loop-step-preserved : goal.loop-step-preserved
loop-step-preserved c =
    let g = c.in-Ok-Some in
    count_next c.args.image.now c.loop-step.cursor.at c.loop-step.count c.loop-step.invariant g.step (sym c.step.ensures ∙ g.is ∙ ap Ok g.field-0-is)

pub returns-in-Ok-None : goal.returns-in-Ok-None
returns-in-Ok-None c =
    count-end c.args.image.now c.loop-step.cursor.at c.loop-step.count c.loop-step.invariant (sym c.step.ensures ∙ c.in-Ok-None.is ∙ ap Ok c.in-Ok-None.field-0-is)

pub returns-in-Err : goal.returns-in-Err
returns-in-Err c =
    let g = c.in-Err in
    count-broken c.args.image.now c.loop-step.cursor.at c.loop-step.count c.loop-step.invariant g.e (sym c.step.ensures ∙ g.is)
