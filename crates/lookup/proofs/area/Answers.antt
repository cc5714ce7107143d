-- `lookup::area` meets its contract: the part after the header of what find answers, or its error.
use Prim.Native.Nat.{◌+◌, ◌≤◌}
use mathlib.Core.Path.{◌≡◌, ap, sym, ◌∙◌}
use native.Mathlib.Omega.{arith}
use mathlib.Core.List.{[]}
use lib.ListN.{length}
use Rattle.std.specs.Prelude.{Ok}
use Rattle.errors.specs.Answer.{answer_of}
use Rattle.errors.proofs.Passed.{passed-on}
use Rattle.std.specs.Result.{result_map_both}
use Rattle.partitions.specs.Find.{Found, find_of, area_found}
use Rattle.partitions.proofs.AreaLaws.{found_part, found-area, area-shown}
use Rattle.lookup.proofs.area.Goals as goal
use Rattle.lookup.proofs.area.Goals.{After-bytes-bytes}

inside : (c : After-bytes-bytes) → (16 ≤ c.bytes-bytes.result.0) × (c.in_ok-p.p.offset + c.bytes-bytes.result.0 ≤ length c.args.image.now)
inside c =
    found_part c.args.image.now _ _ c.find.result c.find.ensures c.in_ok-p.p c.in_ok-p.was c.bytes-bytes.result c.bytes-bytes.ensures

pub overflow_add-start : goal.overflow_add-start
overflow_add-start c = omega (arith, inside (goal.at.overflow_add-start c).After-bytes-bytes)

pub overflow_add-end : goal.overflow_add-end
overflow_add-end c = omega (arith, inside (goal.at.overflow_add-end c).After-bytes-bytes)

pub slice_bounds-result-count : goal.slice_bounds-result-count
slice_bounds-result-count c = omega (arith, inside (goal.at.slice_bounds-result-count c).After-bytes-bytes)

pub slice_bounds-result-start : goal.slice_bounds-result-start
slice_bounds-result-start c = omega (arith, inside (goal.at.slice_bounds-result-start c).After-bytes-bytes)

pub slice_bounds-result-end : goal.slice_bounds-result-end
slice_bounds-result-end c = omega (arith, inside (goal.at.slice_bounds-result-end c).After-bytes-bytes)

pub returns : goal.returns
returns c =
    let a = c.args in
    let e : find_of a.image.now a.signature a.name.now ≡ Ok c.in_ok-p.p = sym c.find.ensures ∙ c.in_ok-p.was in
    let f = ap Ok (found-area a.image.now a.signature a.name.now c.find.result c.find.ensures c.in_ok-p.p c.in_ok-p.was c.bytes-bytes.result c.bytes-bytes.ensures)
    ∙ rw e in
    record { found = f; shown = ap (answer_of []) f ∙ area-shown a.image.now (find_of a.image.now a.signature a.name.now) }

pub returns-in_err-p-clause-shown : goal.returns-in_err-p-clause-shown
returns-in_err-p-clause-shown c =
    let a = c.args in
    let sought = find_of a.image.now a.signature a.name.now in
    ap (λ (r : _). answer_of [] (result_map_both (λ part. part.now) (λ e. e) r)) (passed-on c.from_residual.result _ c.from_residual.ensures.1)
    ∙ ap (λ (f : Found). answer_of [] (area_found a.image.now f)) (sym c.in_err-p.was ∙ c.find.ensures) ∙ area-shown a.image.now sought
