-- `nvram::common_area` meets its contract: the offsets after the header and after the partition fit.
use mathlib.Core.Path.{◌∙◌}
use native.Mathlib.Omega.{arith}
use Rattle.errors.proofs.Passed.{passed-on}
use Rattle.nvram.proofs.CodeLaws.{span-part, span-found, span-refused}
use Rattle.nvram.proofs.common_area.Goals as goal

pub returns-in_err-p : goal.returns-in_err-p
returns-in_err-p c =
    passed-on c.from_residual.result _ c.from_residual.ensures.1
    ∙ span-refused c.args.image.now c.find_only.result c.find_only.ensures _ c.in_err-p.was

pub overflow_add-result : goal.overflow_add-result
overflow_add-result c =
    omega (arith, span-part c.args.image.now c.find_only.result c.find_only.ensures c.in_ok-p.p c.in_ok-p.was c.bytes-bytes.result c.bytes-bytes.ensures)

pub overflow_add-result-2 : goal.overflow_add-result-2
overflow_add-result-2 c =
    omega (arith, span-part c.args.image.now c.find_only.result c.find_only.ensures c.in_ok-p.p c.in_ok-p.was c.bytes-bytes.result c.bytes-bytes.ensures)

pub returns : goal.returns
returns c =
    span-found c.args.image.now c.find_only.result c.find_only.ensures c.in_ok-p.p c.in_ok-p.was c.bytes-bytes.result c.bytes-bytes.ensures
