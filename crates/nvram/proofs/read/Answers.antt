-- `nvram::read` meets its contract, by where the area stands and what the call on it answers and leaves.
use mathlib.Core.Path.{sym, ◌∙◌}
use native.Mathlib.Omega.{arith}
use Rattle.errors.proofs.Passed.{passed-on}
use Rattle.nvram.specs.Calls.{read_told}
use Rattle.nvram.proofs.CodeLaws.{AreaAt, named-at, amount-room, amount-answer, read-not}
use Rattle.nvram.proofs.read.Goals as goal
use Rattle.nvram.proofs.read.Goals.{In_ok-area}

-- where the variable area stands
area : (c : In_ok-area) → AreaAt c.args.image.now c.in_ok-area.area
area c = named-at _ c.args.name.now _ (sym c.in_ok-area.was ∙ c.named_area.ensures)

pub returns-in_err-area : goal.returns-in_err-area
returns-in_err-area c =
    (λ i. read_told (passed-on c.from_residual.result _ c.from_residual.ensures.1 i) c.args.buffer.now)
    ∙ read-not _ _ _ (sym c.in_err-area.was ∙ c.named_area.ensures) _

pub slice_bounds-read-count : goal.slice_bounds-read-count
slice_bounds-read-count c = let w = area (goal.at.slice_bounds-read-count c).In_ok-area in omega arith

pub slice_bounds-read-start : goal.slice_bounds-read-start
slice_bounds-read-start c = let w = area (goal.at.slice_bounds-read-start c).In_ok-area in omega arith

pub slice_bounds-read-end : goal.slice_bounds-read-end
slice_bounds-read-end c = let w = area (goal.at.slice_bounds-read-end c).In_ok-area in omega arith

pub moved-requires : goal.moved-requires
moved-requires c =
    omega (arith, amount-room _ _ (area (goal.at.moved-requires c).In_ok-area) _ c.read.result c.read.ensures.result_value)

pub returns : goal.returns
returns c =
    amount-answer _ _ (area (goal.at.returns c).In_ok-area) _ c.read.result c.read.ensures.result_value
    _ c.read.ensures.buffer_after c.moved.result c.moved.ensures
