-- `pairs::pair_at` meets its contract, by the two scans.
use mathlib.Core.Path.{ap, ◌∙◌}
use Rattle.errors.proofs.Passed.{passed-on}
use native.Mathlib.Omega.{arith}
use Rattle.std.specs.Prelude.{Err}
use Rattle.pairs.proofs.PairPlaces.{name-end, stand-past, stand-end, stand-wrong, stand-value}
use borrow.Author.Rules.{rules}
use Rattle.pairs.proofs.pair_at.Goals as goal

pub returns-then-area-at : goal.returns-then-area-at
returns-then-area-at c = ap Err c.cut_off.ensures ∙ stand-past _ _ c.if-area-at.true

pub returns-then-area-at-eq0 : goal.returns-then-area-at-eq0
returns-then-area-at-eq0 c = stand-end _ _ (search rules) c.if-area-at-eq0.true

pub returns-in_err-equals : goal.returns-in_err-equals
returns-in_err-equals c =
    passed-on c.from_residual.result c.in_err-equals.field-0.0 c.from_residual.ensures.1
    ∙ stand-wrong _ _ (search rules) c.if-area-at-eq0.false _ c.in_err-equals.ensures

pub overflow_add-equals : goal.overflow_add-equals
overflow_add-equals c = omega (arith, (name-end _ _ _ c.in_ok-equals.ensures).inside)

pub returns-in_err-end : goal.returns-in_err-end
returns-in_err-end c =
    passed-on c.from_residual-in_err-end.result c.in_err-end.field-0.0 c.from_residual-in_err-end.ensures.1
    ∙ stand-value _ _ (search rules) c.if-area-at-eq0.false _ (name-end _ _ _ c.in_ok-equals.ensures) _ c.in_err-end.ensures

pub returns : goal.returns
returns c = stand-value _ _ (search rules) c.if-area-at-eq0.false _ (name-end _ _ _ c.in_ok-equals.ensures) _ c.in_ok-end.ensures
