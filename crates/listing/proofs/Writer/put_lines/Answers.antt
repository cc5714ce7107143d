-- `Writer::put_lines` meets its contract.
use Rattle.std.proofs.Common.{◌≡◌, ap, sym, subst, ◌∙◌, arith}
use Rattle.std.specs.Prelude.{Ok, Some, None}
use Rattle.partitions.specs.declared.Cursor.{Cursor}
use Rattle.partitions.specs.Walk.{step_at}
use Rattle.partitions.proofs.WalkLaws.{next-bounds}
use Rattle.listing.proofs.LinesLaws.{WritingLines, write-start, write-room, write-next, write-end, write-broken}
use Rattle.listing.proofs.Writer.put_lines.Goals as goal
use Rattle.listing.proofs.Writer.put_lines.Goals.{In-Ok-Some}

-- a step that goes on
on : (c : In-Ok-Some) → step_at c.args.image.now c.loop-step.cursor.at ≡ Ok (Some c.in-Ok-Some.step)
on c = sym c.step.ensures ∙ c.in-Ok-Some.is ∙ ap Ok c.in-Ok-Some.field-0-is

pub loop-step-init : goal.loop-step-init
loop-step-init c =
    let a = c.args in
    subst (λ (s : Cursor). WritingLines a.image.now a.self.now s.at a.self.now) (sym c.start-cursor.ensures)
    (write-start a.image.now a.self.now c.requires.covered c.requires.image_in_bounds)

pub put_line-requires : goal.put_line-requires
put_line-requires c = write-room c.loop-step.invariant c.requires.image_in_bounds c.in-Ok-Some.step (on (goal.at.put_line-requires c).In-Ok-Some)

pub loop-step-smaller : goal.loop-step-smaller
loop-step-smaller c =
    omega (arith, next-bounds c.args.image.now c.loop-step.cursor.at c.in-Ok-Some.step (on (goal.at.loop-step-smaller c).In-Ok-Some))

pub loop-step-preserved : goal.loop-step-preserved
loop-step-preserved c =
    write-next c.loop-step.invariant c.in-Ok-Some.step (on (goal.at.loop-step-preserved c).In-Ok-Some) c.put_line.ensures

-- the walk has ended
pub returns-in_default : goal.returns-in_default
returns-in_default c =
    let e : c.in_default.field-0 ≡ None = cc in
    write-end c.loop-step.invariant (sym c.step.ensures ∙ c.in_default.is ∙ ap Ok e)

-- no header is broken
pub returns-in_default-2 : goal.returns-in_default-2
returns-in_default-2 c = write-broken c.loop-step.invariant c.in_default.field-0 (sym c.step.ensures ∙ c.in_default.is)
