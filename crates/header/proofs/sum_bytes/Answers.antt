-- `header::sum_bytes` meets its contract.
use Rattle.std.proofs.Common.{arith}
use Rattle.lists.proofs.ByteLaws.{all-bytes}
use Rattle.header.proofs.sum_bytes.Goals as goal

pub returns-clause-bytes : goal.returns-clause-bytes
returns-clause-bytes c = all-bytes c.args.bytes.now (λ i. omega (arith, c.type_inv.bytes i))
