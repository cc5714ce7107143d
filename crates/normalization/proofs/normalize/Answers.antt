-- `normalization::normalize` meets its contract: a fault refuses the call before anything is written.
use mathlib.Core.Path.{ap, ◌∙◌}
use Rattle.errors.proofs.Passed.{passed-on}
use Rattle.variables.specs.Views.{edit_reply}
use Rattle.normalization.proofs.NormalizeLaws.{scan-parses, normalize-refused, normalize-done}
use Rattle.normalization.proofs.normalize.Goals as goal

pub returns-in_err-scan : goal.returns-in_err-scan
returns-in_err-scan c =
    let h = normalize-refused c.args.area.now _ c.in_err-scan.field-0.0 c.in_err-scan.ensures in
    let p = passed-on c.from_residual.result c.in_err-scan.field-0.0 c.from_residual.ensures.1 in
    record { result_value = ap edit_reply p ∙ h.0; area_after = h.1 }

pub normalize_pairs-past-requires : goal.normalize_pairs-past-requires
normalize_pairs-past-requires c = scan-parses c.args.area.now _ c.in_ok-scan.field-0 c.in_ok-scan.ensures

pub returns : goal.returns
returns c =
    let m = c.normalize_pairs-past in
    let h = normalize-done
    (scan-parses c.args.area.now _ c.in_ok-scan.field-0 c.in_ok-scan.ensures)
    m.result m.ensures.upper_bound m.ensures.value m.new.area m.ensures.area_after c.fill.new.s c.fill.ensures in
    record { result_value = h.0; area_after = h.1 }
