-- `nvram::remove` meets its contract, by where the area stands and what the call on it answers and leaves.
use mathlib.Core.Path.{ap, sym, ◌∙◌}
use native.Mathlib.Omega.{arith}
use Rattle.errors.proofs.Passed.{passed-on}
use Rattle.variables.proofs.CallLaws.{a-remove}
use Rattle.nvram.specs.Calls.{edit_told}
use Rattle.nvram.proofs.CodeLaws.{AreaAt, named-at, edit-room, edit-answer, edit-image, image-kept, remove-not}
use Rattle.nvram.proofs.remove.Goals as goal
use Rattle.nvram.proofs.remove.Goals.{In_ok-area}

-- where the variable area stands
area : (c : In_ok-area) → AreaAt c.args.image.now c.in_ok-area.area
area c = named-at _ c.args.name.now _ (sym c.in_ok-area.was ∙ c.named_area.ensures)

pub returns-in_err-area : goal.returns-in_err-area
returns-in_err-area c =
    let h = sym c.in_err-area.was ∙ c.named_area.ensures in
    record {
      result_value = ap edit_told (passed-on c.from_residual.result _ c.from_residual.ensures.1) ∙ remove-not _ _ _ h;
      image_after = image-kept _ _ _ h _;
    }

pub slice_bounds-remove-count : goal.slice_bounds-remove-count
slice_bounds-remove-count c = let w = area (goal.at.slice_bounds-remove-count c).In_ok-area in omega arith

pub slice_bounds-remove-start : goal.slice_bounds-remove-start
slice_bounds-remove-start c = let w = area (goal.at.slice_bounds-remove-start c).In_ok-area in omega arith

pub slice_bounds-remove-end : goal.slice_bounds-remove-end
slice_bounds-remove-end c = let w = area (goal.at.slice_bounds-remove-end c).In_ok-area in omega arith

pub moved-requires : goal.moved-requires
moved-requires c =
    omega (arith, edit-room _ _ (area (goal.at.moved-requires c).In_ok-area) _ c.remove-answer.result c.remove-answer.ensures.result_value)

pub returns : goal.returns
returns c =
    let w = area (goal.at.returns c).In_ok-area in
    record {
      result_value = edit-answer _ _ w _ c.remove-answer.result c.remove-answer.ensures.result_value (a-remove _) c.moved.result c.moved.ensures;
      image_after = edit-image _ _ w _ _ (omega arith) c.remove-answer.ensures.area_after;
    }
