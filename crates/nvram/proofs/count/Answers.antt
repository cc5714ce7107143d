-- `nvram::count` meets its contract, by where the area stands and what the call on it answers.
use mathlib.Core.Path.{ap, ◌∙◌}
use native.Mathlib.Omega.{arith}
use Rattle.errors.proofs.Passed.{passed-on}
use Rattle.variables.specs.Calls.{count}
use Rattle.variables.proofs.CallLaws.{a-count}
use Rattle.nvram.specs.Calls.{count_told}
use Rattle.nvram.proofs.CodeLaws.{AreaAt, span-at, span-not, amount-room, count-answer, count-not}
use Rattle.nvram.proofs.count.Goals as goal
use Rattle.nvram.proofs.count.Goals.{In_ok-area}

-- where the variable area stands
area : (c : In_ok-area) → AreaAt c.args.image.now c.in_ok-area.area
area c = span-at _ c.common_area.result c.common_area.ensures _ c.in_ok-area.was

pub returns-in_err-area : goal.returns-in_err-area
returns-in_err-area c =
    ap count_told (passed-on c.from_residual.result _ c.from_residual.ensures.1)
    ∙ count-not _ _ (span-not _ c.common_area.result c.common_area.ensures _ c.in_err-area.was)

pub slice_bounds-count-count : goal.slice_bounds-count-count
slice_bounds-count-count c = let w = area (goal.at.slice_bounds-count-count c).In_ok-area in omega arith

pub slice_bounds-count-start : goal.slice_bounds-count-start
slice_bounds-count-start c = let w = area (goal.at.slice_bounds-count-start c).In_ok-area in omega arith

pub slice_bounds-count-end : goal.slice_bounds-count-end
slice_bounds-count-end c = let w = area (goal.at.slice_bounds-count-end c).In_ok-area in omega arith

pub moved-requires : goal.moved-requires
moved-requires c =
    omega (arith, amount-room _ _ (area (goal.at.moved-requires c).In_ok-area) count c.count.result c.count.ensures)

pub returns : goal.returns
returns c =
    count-answer _ _ (area (goal.at.returns c).In_ok-area) count c.count.result c.count.ensures a-count c.moved.result c.moved.ensures
