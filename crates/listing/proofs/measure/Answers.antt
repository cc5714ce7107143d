-- `measure` meets its contract. The loop's invariant: the bytes and blocks so far, and what the rest of the walk adds, make the answer.
use Prim.Native.Nat.{◌≤◌}
use mathlib.Core.Path.{◌≡◌, ap, sym, subst, ◌∙◌}
use native.Mathlib.Omega.{arith}
use lib.ListN.{length}
use Rattle.std.specs.Prelude.{Ok, Some, None}
use Rattle.std.proofs.lemmas.Result.{err_from_is_err_and}
use Rattle.partitions.specs.declared.Cursor.{Cursor}
use Rattle.partitions.specs.Walk.{step_at}
use Rattle.partitions.proofs.LoopLaws.{Goes, next-goes}
use Rattle.listing.proofs.LinesLaws.{goes-within, Measuring, measure-refused, measure-start, measure-next, measure-end, measure-unbroken}
use Rattle.listing.proofs.measure.Goals as goal
use Rattle.listing.proofs.measure.Goals.{In-Ok-Some}

-- a step that goes on
on : (c : In-Ok-Some) → step_at c.args.image.now c.loop-step.cursor.at ≡ Ok (Some c.in-Ok-Some.step)
on c = sym c.step.ensures ∙ c.in-Ok-Some.is ∙ ap Ok c.in-Ok-Some.field-0-is

went : (c : In-Ok-Some) → Goes c.args.image.now c.loop-step.cursor.at c.in-Ok-Some.step
went c = next-goes c.args.image.now c.loop-step.cursor.at c.in-Ok-Some.step (on c)

pub returns-in_err-check : goal.returns-in_err-check
returns-in_err-check c =
    let p = err_from_is_err_and c.from_residual.result c.from_residual.ensures.1 in
    rw (p.1, p.2) (measure-refused c.args.image.now _ (sym c.check.ensures ∙ c.in_err-check.was))

pub loop-step-init : goal.loop-step-init
loop-step-init c =
    let image = c.args.image.now in
    subst (λ (s : Cursor). Measuring image s.at 0 0) (sym c.start-cursor.ensures)
    (measure-start image c.in_ok-check.field-0 (sym c.check.ensures ∙ c.in_ok-check.was))

pub overflow_add-bytes : goal.overflow_add-bytes
overflow_add-bytes c =
    let g = c.in-Ok-Some in
    let h : length c.args.image.now ≤ 65_536 = c.requires in
    omega (
      arith,
      goes-within c.args.image.now c.loop-step.cursor.at g.step h (went (goal.at.overflow_add-bytes c).In-Ok-Some),
      c.line_len-bytes.ensures,
      c.loop-step.invariant,
      h,
    )

pub overflow_add-blocks : goal.overflow_add-blocks
overflow_add-blocks c = omega (arith, went (goal.at.overflow_add-blocks c).In-Ok-Some, c.loop-step.invariant)

pub loop-step-smaller : goal.loop-step-smaller
loop-step-smaller c = omega (arith, went (goal.at.loop-step-smaller c).In-Ok-Some)

pub loop-step-preserved : goal.loop-step-preserved
loop-step-preserved c =
    let l = c.loop-step in
    measure-next c.args.image.now l.cursor.at l.bytes l.blocks l.invariant c.requires c.in-Ok-Some.step
    (on (goal.at.loop-step-preserved c).In-Ok-Some) c.line_len-bytes.result c.line_len-bytes.ensures

-- the walk has ended
pub returns-in_default : goal.returns-in_default
returns-in_default c =
    let l = c.loop-step in
    let e : c.in_default.field-0 ≡ None = cc in
    measure-end c.args.image.now l.cursor.at l.bytes l.blocks l.invariant (sym c.step.ensures ∙ c.in_default.is ∙ ap Ok e)

-- no header is broken
pub returns-in_default-2 : goal.returns-in_default-2
returns-in_default-2 c =
    let image = c.args.image.now in
    let l = c.loop-step in
    measure-unbroken image l.cursor.at l.bytes l.blocks l.invariant c.in_ok-check.field-0 (sym c.check.ensures ∙ c.in_ok-check.was)
    c.in_default.field-0 (sym c.step.ensures ∙ c.in_default.is)
