-- `encoding::run_len` meets its contract.
use Rattle.values.proofs.EncodeLaws.{run-even, run_more}
use Rattle.encoding.proofs.run_len.Goals as goal

pub returns-then-n-eq0 : goal.returns-then-n-eq0
returns-then-n-eq0 c = run-even 0 _ c.if-n-eq0.true

pub returns : goal.returns
returns c = run_more 0 _ c.if-n-eq0.false
