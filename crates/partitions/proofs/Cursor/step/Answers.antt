-- `Cursor::step` meets its contract: the end, a header that breaks a rule, or the partition and the offset after it.
use mathlib.Core.Path.{sym, ◌∙◌}
use native.Mathlib.Omega.{arith}
use Rattle.errors.proofs.Passed.{passed-on}
use Rattle.partitions.proofs.StepLaws.{step_end, read_fits, read_next, read-broken}
use Rattle.partitions.proofs.Cursor.step.Goals as goal

pub returns-then-n-at : goal.returns-then-n-at
returns-then-n-at c =
    let a = c.args in
    sym (step_end a.image.now a.self.at c.if-n-at.true)

pub returns-in_err-check_at : goal.returns-in_err-check_at
returns-in_err-check_at c =
    let a = c.args in
    passed-on c.from_residual.result _ c.from_residual.ensures.1
    ∙ read-broken a.image.now a.self.at c.check_at.result c.check_at.ensures c.if-n-at.false _ c.in_err-check_at.was

pub overflow_add-next : goal.overflow_add-next
overflow_add-next c =
    let a = c.args in
    omega (
      arith,
      read_fits a.image.now a.self.at c.check_at.result c.check_at.ensures c.in_ok-check_at.was
          c.length_at-blocks.result c.length_at-blocks.ensures c.bytes-bytes.result c.bytes-bytes.ensures,
    )

pub returns : goal.returns
returns c =
    let a = c.args in
    read_next a.image.now a.self.at c.check_at.result c.check_at.ensures c.in_ok-check_at.was
    c.length_at-blocks.result c.length_at-blocks.ensures c.bytes-bytes.result c.bytes-bytes.ensures c.if-n-at.false
    c.signature_at-signature.result c.signature_at-signature.ensures
