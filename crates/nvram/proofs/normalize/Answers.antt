-- `nvram::normalize` meets its contract, by where the area stands and what the call on it answers and leaves.
use mathlib.Core.Path.{ap, ◌∙◌}
use native.Mathlib.Omega.{arith}
use Rattle.errors.proofs.Passed.{passed-on}
use Rattle.variables.proofs.CallLaws.{a-normalize}
use Rattle.nvram.specs.Calls.{edit_told}
use Rattle.nvram.proofs.CodeLaws.{AreaAt, span-at, span-not, edit-room, edit-answer, edit-image, image-not, normalize-not}
use Rattle.nvram.proofs.normalize.Goals as goal
use Rattle.nvram.proofs.normalize.Goals.{In_ok-area}

-- where the variable area stands
area : (c : In_ok-area) → AreaAt c.args.image.now c.in_ok-area.area
area c = span-at _ c.common_area.result c.common_area.ensures _ c.in_ok-area.was

pub returns-in_err-area : goal.returns-in_err-area
returns-in_err-area c =
    let f = span-not _ c.common_area.result c.common_area.ensures _ c.in_err-area.was in
    record {
      result_value = ap edit_told (passed-on c.from_residual.result _ c.from_residual.ensures.1) ∙ normalize-not _ _ f;
      image_after = image-not _ _ f _;
    }

pub slice_bounds-normalize-count : goal.slice_bounds-normalize-count
slice_bounds-normalize-count c = let w = area (goal.at.slice_bounds-normalize-count c).In_ok-area in omega arith

pub slice_bounds-normalize-start : goal.slice_bounds-normalize-start
slice_bounds-normalize-start c = let w = area (goal.at.slice_bounds-normalize-start c).In_ok-area in omega arith

pub slice_bounds-normalize-end : goal.slice_bounds-normalize-end
slice_bounds-normalize-end c = let w = area (goal.at.slice_bounds-normalize-end c).In_ok-area in omega arith

pub moved-requires : goal.moved-requires
moved-requires c =
    omega (arith, edit-room _ _ (area (goal.at.moved-requires c).In_ok-area) _ c.normalize-answer.result c.normalize-answer.ensures.result_value)

pub returns : goal.returns
returns c =
    let w = area (goal.at.returns c).In_ok-area in
    record {
      result_value = edit-answer _ _ w _ c.normalize-answer.result c.normalize-answer.ensures.result_value a-normalize c.moved.result c.moved.ensures;
      image_after = edit-image _ _ w _ _ (omega arith) c.normalize-answer.ensures.area_after;
    }
