-- `repeats::Table::look_ahead` meets its contract. The invariant: no piece up to `at` is found in the block.
use Rattle.std.proofs.Common.{◌≡◌, true, Option, Some, None, MatchOption, is_some}
use Rattle.repeats.proofs.StartLaws.{next_low, best-start}
use Rattle.repeats.proofs.BlockLaws.{scan-more, scan-end}
use Rattle.repeats.proofs.Table.look_ahead.Goals as goal

-- what a walk that finds no entry answers
missed : {A : Type 0} (P : Type 0) (Q : A → Type 0) (o : Option A) → is_some o ≡ true → MatchOption o P Q → (x : A) × Q x
missed P Q None e h = cc
missed P Q (Some x) e h = (x, h)

pub loop-at-preserved : goal.loop-at-preserved
loop-at-preserved c =
    let s = c.requires.0 in
    let n = c.next_start-at.ensures in
    let m = missed _ _ c.walk.result c.if-is_none.ensures c.walk.ensures in
    scan-more s.block c.loop-at.invariant s.distinct c.loop-at-test.true m.1.1 n (next_low n c.loop-at-test.true s.block.best-in (best-start s.better))

pub returns : goal.returns
returns c = scan-end c.requires.0.block c.loop-at.invariant c.requires.1 c.loop-at-test.false c.requires.0.better
