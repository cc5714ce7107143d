-- What is written was put into the buffer, so it lies inside it.
use Rattle.std.proofs.Common.{arith, length-take-le, sym}
use Rattle.listing.proofs.PieceLaws.{written-inside}
use Rattle.nvlist.proofs.main.Goals as goal

pub slice_bounds-text-end : goal.slice_bounds-text-end
slice_bounds-text-end c = omega (arith, written-inside _ _ _ (sym c.in-Ok.ensures.value))

pub slice_bounds-write_all-end : goal.slice_bounds-write_all-end
slice_bounds-write_all-end c = sym (length-take-le _ _ (omega (arith, written-inside _ _ _ (sym c.in-Ok.ensures.value))))
