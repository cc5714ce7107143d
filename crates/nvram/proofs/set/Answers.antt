-- `nvram::set` meets its contract, by where the area stands and what the call on it answers and leaves.
use mathlib.Core.Path.{ap, sym, ◌∙◌}
use native.Mathlib.Omega.{arith}
use Rattle.errors.proofs.Passed.{passed-on}
use Rattle.variables.proofs.CallLaws.{a-set}
use Rattle.nvram.specs.Calls.{edit_told}
use Rattle.nvram.proofs.CodeLaws.{AreaAt, named-at, edit-room, edit-answer, edit-image, image-kept, set-not}
use Rattle.nvram.proofs.set.Goals as goal
use Rattle.nvram.proofs.set.Goals.{In_ok-area}

-- where the variable area stands
area : (c : In_ok-area) → AreaAt c.args.image.now c.in_ok-area.area
area c = named-at _ c.args.name.now _ (sym c.in_ok-area.was ∙ c.named_area.ensures)

pub returns-in_err-area : goal.returns-in_err-area
returns-in_err-area c =
    let h = sym c.in_err-area.was ∙ c.named_area.ensures in
    record {
      result_value = ap edit_told (passed-on c.from_residual.result _ c.from_residual.ensures.1) ∙ set-not _ _ _ h _;
      image_after = image-kept _ _ _ h _;
    }

pub slice_bounds-set-count : goal.slice_bounds-set-count
slice_bounds-set-count c = let w = area (goal.at.slice_bounds-set-count c).In_ok-area in omega arith

pub slice_bounds-set-start : goal.slice_bounds-set-start
slice_bounds-set-start c = let w = area (goal.at.slice_bounds-set-start c).In_ok-area in omega arith

pub slice_bounds-set-end : goal.slice_bounds-set-end
slice_bounds-set-end c = let w = area (goal.at.slice_bounds-set-end c).In_ok-area in omega arith

pub moved-requires : goal.moved-requires
moved-requires c =
    omega (arith, edit-room _ _ (area (goal.at.moved-requires c).In_ok-area) _ c.set-answer.result c.set-answer.ensures.result_value)

pub returns : goal.returns
returns c =
    let w = area (goal.at.returns c).In_ok-area in
    record {
      result_value = edit-answer _ _ w _ c.set-answer.result c.set-answer.ensures.result_value (a-set _ _) c.moved.result c.moved.ensures;
      image_after = edit-image _ _ w _ _ (omega arith) c.set-answer.ensures.area_after;
    }
