-- `variables::read` meets its contract: the scan for the name first, then the pair.
use mathlib.Core.Path.{refl, ap, ◌∙◌}
use native.Mathlib.Omega.{arith}
use Rattle.errors.proofs.Passed.{passed-on}
use Rattle.values.specs.Helpers.{part}
use Rattle.variables.specs.Calls as Calls
use Rattle.variables.specs.Views.{amount_reply}
use Rattle.variables.proofs.CallPlaces.{call-refused, reads-refused, read-none, read-decoded, sought-inside}
use Rattle.variables.proofs.read.Goals as goal

pub returns-in_err-scanned : goal.returns-in_err-scanned
returns-in_err-scanned c =
    let a = c.args in
    let action = Calls.read_into a.buffer.now in
    let f = call-refused a.name.now action a.area.now c.in_err-scanned.field-0.0 c.in_err-scanned.ensures in
    let r = reads-refused (Calls.named a.name.now action) f refl in
    let p = passed-on c.from_residual.result c.in_err-scanned.field-0.0 c.from_residual.ensures.1 in
    record { result_value = ap amount_reply p ∙ r.result_value; buffer_after = r.buffer_after }

pub returns-in_err-pair : goal.returns-in_err-pair
returns-in_err-pair c =
    let s = c.in_ok-scanned in
    let r = read-none _ _ c.args.buffer.now s.scanned s.ensures c.ok_or.ensures.value c.in_err-pair.was in
    let p = passed-on c.from_residual-in_err-pair.result c.in_err-pair.field-0.0 c.from_residual-in_err-pair.ensures.1 in
    record { result_value = ap amount_reply p ∙ r.result_value; buffer_after = r.buffer_after }

pub overflow_add-from : goal.overflow_add-from
overflow_add-from c = let s = c.in_ok-scanned in omega (arith, sought-inside _ _ c.args.buffer.now s.scanned s.ensures _ c.ok_or.ensures.value c.in_ok-pair.was)

pub slice_bounds-decode-count : goal.slice_bounds-decode-count
slice_bounds-decode-count c = let s = c.in_ok-scanned in omega (arith, sought-inside _ _ c.args.buffer.now s.scanned s.ensures _ c.ok_or.ensures.value c.in_ok-pair.was)

pub slice_bounds-decode-start : goal.slice_bounds-decode-start
slice_bounds-decode-start c = let s = c.in_ok-scanned in omega (arith, sought-inside _ _ c.args.buffer.now s.scanned s.ensures _ c.ok_or.ensures.value c.in_ok-pair.was)

pub slice_bounds-decode-end : goal.slice_bounds-decode-end
slice_bounds-decode-end c = let s = c.in_ok-scanned in omega (arith, sought-inside _ _ c.args.buffer.now s.scanned s.ensures _ c.ok_or.ensures.value c.in_ok-pair.was)

pub returns : goal.returns
unfolding part
returns c =
    let s = c.in_ok-scanned in
    let d = c.decode.ensures in
    let r = read-decoded _ _ c.args.buffer.now s.scanned s.ensures _ c.ok_or.ensures.value c.in_ok-pair.was _ _ d.value d.buffer_after in
    record { result_value = ap amount_reply c.ok_or-2.ensures.value ∙ r.result_value; buffer_after = r.buffer_after }
