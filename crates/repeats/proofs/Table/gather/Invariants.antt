-- `repeats::Table::gather` meets its contract. The invariant: the pieces so far are a block, in the table.
use Rattle.std.proofs.Common.{◌-◌, ◌≡◌}
use Rattle.repeats.specs.Helpers.Table.{HasGathered}
use Rattle.repeats.proofs.Table.gather.Given as goal

abbrev pub invariant-loop-at : goal.invariant-loop-at
invariant-loop-at l = HasGathered l.self l.at l.best × (l.self.from ≡ l.initial.self.from) × (l.self.pairs ≡ l.initial.self.pairs)

abbrev pub decreases-loop-at : goal.decreases-loop-at
decreases-loop-at l = l.best - l.at
