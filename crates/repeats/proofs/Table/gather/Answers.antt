-- `repeats::Table::gather` meets its contract. The invariant: the pieces so far are a block, in the table.
use Rattle.std.proofs.Common.{arith, ◌<◌, length, ap, ◌∙◌}
use Rattle.repeats.specs.Helpers.Table.{starts_of}
use Rattle.repeats.proofs.LinkLaws.{starts-many}
use Rattle.repeats.proofs.BlockLaws.{block-hit, block-past, gathered-more}
use Rattle.repeats.proofs.Table.gather.Goals as goal

pub returns-in_default-walk-clause-gathered : goal.returns-in_default-walk-clause-gathered
returns-in_default-walk-clause-gathered c =
    let s = c.loop-at.invariant.0 in
    block-hit s.block c.loop-at-test.true s.distinct c.in_default-walk.ensures

pub insert-requires : goal.insert-requires
insert-requires c =
    let t = c.loop-at.self in
    (c.in-Some.ensures.0, c.if-self.true, omega (arith, starts-many t.from t.entries.now, c.loop-at.invariant.0.block.trees.small))

pub loop-at-preserved : goal.loop-at-preserved
loop-at-preserved c =
    let t = c.loop-at.self in
    let i = c.insert.ensures in
    let room : t.count < length (starts_of t) = omega (arith, starts-many t.from t.entries.now, c.if-self.true) in (
      gathered-more c.loop-at.invariant.0 c.loop-at-test.true room c.in-Some.ensures.1 i.links i.starts c.in-Ok.ensures.1 i.count i.from
          (ap (λ p. p.now) i.pairs) c.next_start-at.ensures,
      i.from ∙ c.loop-at.invariant.1,
      i.pairs ∙ c.loop-at.invariant.2,
    )

pub returns-else-self-clause-further : goal.returns-else-self-clause-further
returns-else-self-clause-further c =
    let t = c.loop-at.self in
    let s = c.loop-at.invariant.0.block in
    let k : 0 < t.count = omega (arith, starts-many t.from t.entries.now, c.if-self.false, s.trees.some) in
    omega (arith, block-past s k, c.loop-at.invariant.1)
