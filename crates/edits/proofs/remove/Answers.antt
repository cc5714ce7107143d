-- `edits::remove` meets its contract: the scan for the name first; then the tail takes the pair's place, or there is none.
use mathlib.Core.Path.{sym, ap, ◌∙◌}
use native.Mathlib.Omega.{arith}
use Rattle.errors.proofs.Passed.{passed-on}
use Rattle.variables.specs.Calls as Calls
use Rattle.variables.specs.Views.{edit_reply}
use Rattle.variables.proofs.CallPlaces.{edit-refused, call-refused, some-place, no_place}
use Rattle.edits.proofs.ReplaceLaws.{found-bounds, remove-found, remove-missing}
use Rattle.edits.proofs.remove.Goals as goal

pub returns-in_err-scanned : goal.returns-in_err-scanned
returns-in_err-scanned c =
    let a = c.args in
    let r = edit-refused (Calls.remove a.name.now)
    (call-refused a.name.now Calls.removal a.area.now c.in_err-scanned.field-0.0 c.in_err-scanned.ensures) in
    let p = passed-on c.from_residual.result c.in_err-scanned.field-0.0 c.from_residual.ensures.1 in
    record { result_value = ap edit_reply p ∙ r.0; area_after = r.1 }

pub returns-in_err-pair : goal.returns-in_err-pair
returns-in_err-pair c =
    let s = c.in_ok-scanned in
    let n = no_place _ s.scanned.place c.in_err-pair.field-0.0 (sym c.ok_or.ensures.value ∙ c.in_err-pair.was) in
    let r = remove-missing _ _ s.scanned s.ensures n.0 in
    let p = passed-on c.from_residual-in_err-pair.result c.in_err-pair.field-0.0 c.from_residual-in_err-pair.ensures.1 in
    record { result_value = ap edit_reply p ∙ ap Calls.refused n.1 ∙ r.0; area_after = r.1 }

pub overflow_add-pair : goal.overflow_add-pair
overflow_add-pair c =
    let s = c.in_ok-scanned in
    let p = some-place _ s.scanned.place c.in_ok-pair.pair (sym c.ok_or.ensures.value ∙ c.in_ok-pair.was) in
    omega (arith, found-bounds _ _ s.scanned s.ensures _ p)

pub shift_tail-requires : goal.shift_tail-requires
shift_tail-requires c =
    let s = c.in_ok-scanned in
    let p = some-place _ s.scanned.place c.in_ok-pair.pair (sym c.ok_or.ensures.value ∙ c.in_ok-pair.was) in
    let b = found-bounds _ _ s.scanned s.ensures _ p in
    omega (arith, b)

pub returns : goal.returns
returns c =
    let s = c.in_ok-scanned in
    let p = some-place _ s.scanned.place c.in_ok-pair.pair (sym c.ok_or.ensures.value ∙ c.in_ok-pair.was) in
    let h = remove-found _ _ s.scanned s.ensures _ p in
    record { result_value = h.0; area_after = c.shift_tail.ensures ∙ h.1 }
