-- `edits::set` meets its contract: the scan for the name first; then the pair is replaced, or a new one is put at the end of the pairs.
use mathlib.Core.Path.{ap, ◌∙◌}
use native.Mathlib.Omega.{arith}
use Rattle.errors.proofs.Passed.{passed-on}
use Rattle.variables.specs.Calls as Calls
use Rattle.variables.specs.Views.{edit_reply}
use Rattle.variables.proofs.CallPlaces.{edit-refused, call-refused}
use Rattle.edits.proofs.ReplaceLaws.{used-inside, found-bounds, set_found, set-added}
use Rattle.edits.proofs.set.Goals as goal

pub returns-in_err-scanned : goal.returns-in_err-scanned
returns-in_err-scanned c =
    let a = c.args in
    let r = edit-refused (Calls.set a.name.now a.value.now)
    (call-refused a.name.now (Calls.set_to a.value.now) a.area.now c.in_err-scanned.field-0.0 c.in_err-scanned.ensures) in
    let p = passed-on c.from_residual.result c.in_err-scanned.field-0.0 c.from_residual.ensures.1 in
    record { result_value = ap edit_reply p ∙ r.0; area_after = r.1 }

pub overflow_add-pair : goal.overflow_add-pair
overflow_add-pair c = let s = c.in_ok-scanned in omega (arith, found-bounds _ _ s.scanned s.ensures c.in-Some.pair c.in-Some.is)

pub replace-requires : goal.replace-requires
replace-requires c = let s = c.in_ok-scanned in found-bounds _ _ s.scanned s.ensures c.in-Some.pair c.in-Some.is

pub replace-requires-in-None : goal.replace-requires-in-None
replace-requires-in-None c = let s = c.in_ok-scanned in (omega arith, omega arith, used-inside _ _ s.scanned s.ensures)

pub returns-in-Some : goal.returns-in-Some
returns-in-Some c =
    let s = c.in_ok-scanned in
    let h = set_found _ _ s.scanned s.ensures c.in-Some.pair c.in-Some.is c.args.value.now in
    record { result_value = c.replace.ensures.result_value ∙ h.0; area_after = c.replace.ensures.area_after ∙ h.1 }

pub returns-in-None : goal.returns-in-None
returns-in-None c =
    let s = c.in_ok-scanned in
    let h = set-added _ _ s.scanned s.ensures c.in-None.is c.args.value.now in
    record { result_value = c.replace-in-None.ensures.result_value ∙ h.0; area_after = c.replace-in-None.ensures.area_after ∙ h.1 }
