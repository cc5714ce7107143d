-- `lists::move_bytes` meets its contract.
use Rattle.std.proofs.Common.{◌∙◌}
use Rattle.lists.proofs.MoveLaws.{moved-long, moved-from, moved_to, moved_pasted, moved_same}
use Rattle.lists.proofs.move_bytes.Goals.{else-n-len-via-then-n-len+then-from-len+then-to-len+else-from-to, else-n-len-via-then-n-len+then-from-len+else-to-len, else-n-len-via-then-n-len+else-from-len, else-n-len-via-else-n-len}
use Rattle.lists.proofs.move_bytes.Goals as goal

pub returns-then-from-to : goal.returns-then-from-to
returns-then-from-to c =
    let a = c.args in
    c.copy_within.ensures.after ∙ moved_pasted a.s.now a.from a.to a.n c.if-n-len.true c.if-from-len.true c.if-to-len.true

pub returns-else-n-len : goal.returns-else-n-len
returns-else-n-len c =
    let a = c.args in
    elim c.else-n-len.branch [
      | else-n-len-via-then-n-len+then-from-len+then-to-len+else-from-to w ↦
          moved_same a.s.now a.from a.to a.n w.if-n-len.true w.if-from-len.true w.if-to-len.true w.if-from-to.false
      | else-n-len-via-then-n-len+then-from-len+else-to-len w ↦ moved_to a.s.now a.from a.to a.n w.if-n-len.true w.if-from-len.true w.if-to-len.false
      | else-n-len-via-then-n-len+else-from-len w ↦ moved-from a.s.now a.from a.to a.n w.if-n-len.true w.if-from-len.false
      | else-n-len-via-else-n-len w ↦ moved-long a.s.now a.from a.to a.n w.if-n-len.false
    ]
