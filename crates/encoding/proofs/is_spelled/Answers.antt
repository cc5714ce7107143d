-- `encoding::is_spelled` meets its contract. The loop's invariant: the bytes left are spelled exactly when all are.
use mathlib.Core.Path.{sym, ◌∙◌}
use native.Mathlib.Omega.{arith}
use Rattle.lists.proofs.FindLaws.{until-short}
use Rattle.encoding.proofs.SpellingTurns.{spelling-zero, spelling-cut, spelling-bad, spelling-run, spelling-smaller, spelling-piece, spelling-all}
use borrow.Author.Rules.{rules}
use Rattle.encoding.proofs.is_spelled.Goals as goal

pub returns-then-b-eq0 : goal.returns-then-b-eq0
returns-then-b-eq0 c = spelling-zero c.in-Some.ensures.cases.0 c.if-b-eq0.true ∙ sym c.loop-b.invariant

pub returns-in_default-split_first : goal.returns-in_default-split_first
returns-in_default-split_first c =
    spelling-cut c.in-Some.ensures.cases.0 c.if-b.true c.in_default-split_first.ensures.cases ∙ sym c.loop-b.invariant

pub returns-then-c-eq0 : goal.returns-then-c-eq0
returns-then-c-eq0 c =
    spelling-bad c.in-Some.ensures.cases.0 c.if-b.true c.in-Some-split_first.ensures.cases.0 (search rules) c.if-c-eq0.true ∙ sym c.loop-b.invariant

pub loop-b-preserved-then-b : goal.loop-b-preserved-then-b
loop-b-preserved-then-b c =
    c.loop-b.invariant ∙ spelling-run c.in-Some.ensures.cases.0 c.if-b.true c.in-Some-split_first.ensures.cases.0 c.if-c-eq0.false

pub split_at-requires : goal.split_at-requires
split_at-requires c = omega (arith, c.plain_len.ensures, until-short 0 255 c.loop-b.rest.now)

pub loop-b-smaller : goal.loop-b-smaller
loop-b-smaller c =
    spelling-smaller c.in-Some.ensures.cases.0 c.if-b-eq0.false c.if-b.false _ c.plain_len.ensures c.split_at.ensures.back_len

pub loop-b-preserved : goal.loop-b-preserved
loop-b-preserved c = c.loop-b.invariant ∙ spelling-piece c.loop-b.rest.now c.plain_len.ensures c.split_at.ensures.back

pub returns : goal.returns
returns c = spelling-all c.loop-b.rest.now c.in_default.ensures.cases ∙ sym c.loop-b.invariant
