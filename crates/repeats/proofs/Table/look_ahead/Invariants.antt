-- `repeats::Table::look_ahead` meets its contract. The invariant: no piece up to `at` is found in the block.
use Rattle.std.proofs.Common.{◌-◌}
use Rattle.repeats.proofs.BlockLaws.{Scanned}
use Rattle.repeats.proofs.Table.look_ahead.Given as goal

abbrev pub invariant-loop-at : goal.invariant-loop-at
invariant-loop-at l = Scanned l.self.pairs.now l.self.from l.mid l.best l.at

abbrev pub decreases-loop-at : goal.decreases-loop-at
decreases-loop-at l = l.best - l.at
