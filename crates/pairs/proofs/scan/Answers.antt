-- `pairs::scan` meets its contract. The invariants: complete pairs stand before `at`, so many as are counted, the search for the
-- name goes on there, and the two names agree for k bytes.
use mathlib.Core.Path.{◌∙◌}
use native.Mathlib.Omega.{arith}
use Rattle.errors.proofs.Passed.{passed-on}
use Rattle.pairs.proofs.PairPlaces.{NoPair, pair-seen}
use Rattle.pairs.proofs.PairRuns.{walked_none, walked_more}
use Rattle.pairs.proofs.JoinLaws.{walked-repeat, walked-fault, walked-done}
use Rattle.pairs.proofs.FindPlaces.{finding-none, finding-end, finding-same, finding-next, other_length, compared-none, compared_same, compared-other, compared-all}
use borrow.Author.Rules.{rules}
use Rattle.pairs.proofs.scan.Goals as goal

pub pairs-init : goal.pairs-init
pairs-init c = (walked_none _, finding-none _ _)

pub returns-in_err-unrepeated : goal.returns-in_err-unrepeated
returns-in_err-unrepeated c =
    let v = c.pairs.invariant in
    let n : NoPair c.pair_at-seen.result = λ p e. grind arith in
    let s = c.pair_at-seen in
    passed-on c.from_residual.result c.in_err-unrepeated.field-0.0 c.from_residual.ensures.1
    ∙ walked-repeat v.0 _ _ s.ensures n _ (finding-end v.1 s.result s.ensures n) _ c.in_err-unrepeated.ensures

pub returns-in_err-seen : goal.returns-in_err-seen
returns-in_err-seen c =
    let v = c.pairs.invariant in
    let n : NoPair c.pair_at-seen.result = λ p e. grind arith in
    let s = c.pair_at-seen in
    passed-on c.from_residual-in_err-seen.result c.in_err-seen.field-0.0 c.from_residual-in_err-seen.ensures.1
    ∙ walked-fault v.0 _ _ s.ensures n _ (finding-end v.1 s.result s.ensures n) c.in_ok-unrepeated.ensures _ c.in_err-seen.was

pub returns : goal.returns
returns c =
    let v = c.pairs.invariant in
    let n : NoPair c.pair_at-seen.result = λ p e. grind arith in
    let s = c.pair_at-seen in
    walked-done v.0 _ _ s.ensures n _ (finding-end v.1 s.result s.ensures n) c.in_ok-unrepeated.ensures _ c.in_ok-seen.was

pub overflow_add-at : goal.overflow_add-at
overflow_add-at c = let s = pair-seen c.in-Ok-Some.pair c.pair_at-seen.ensures (grind arith) in omega (arith, s.inside)

pub overflow_sub-pair : goal.overflow_sub-pair
overflow_sub-pair c = let s = pair-seen c.in-Ok-Some.pair c.pair_at-seen.ensures (grind arith) in omega (arith, s.start, s.equals)

pub pairs-smaller-then-pair-name : goal.pairs-smaller-then-pair-name
pairs-smaller-then-pair-name c =
    let s = pair-seen c.in-Ok-Some.pair c.pair_at-seen.ensures (grind arith) in
    omega (arith, s.inside, s.equals, s.end)

pub pairs-preserved-then-pair-name : goal.pairs-preserved-then-pair-name
pairs-preserved-then-pair-name c =
    let v = c.pairs.invariant in
    let s = pair-seen c.in-Ok-Some.pair c.pair_at-seen.ensures (grind arith) in
    (walked_more v.0 s, finding-next v.1 s (other_length _ s (λ f. omega arith)))

pub loop-k-init : goal.loop-k-init
loop-k-init c = compared-none _ (pair-seen c.in-Ok-Some.pair c.pair_at-seen.ensures (grind arith)) (omega arith)

pub pairs-smaller-then-area-pair : goal.pairs-smaller-then-area-pair
pairs-smaller-then-area-pair c =
    let s = pair-seen c.in-Ok-Some.pair c.pair_at-seen.ensures (grind arith) in
    omega (arith, s.inside, s.equals, s.end)

pub pairs-preserved-then-area-pair : goal.pairs-preserved-then-area-pair
pairs-preserved-then-area-pair c =
    let v = c.pairs.invariant in
    let s = pair-seen c.in-Ok-Some.pair c.pair_at-seen.ensures (grind arith) in
    (walked_more v.0 s, finding-next v.1 s (compared-other c.loop-k.invariant (search rules) c.if-area-pair.true))

pub loop-k-preserved : goal.loop-k-preserved
loop-k-preserved c = compared_same c.loop-k.invariant (search rules) c.if-area-pair.false

pub pairs-smaller : goal.pairs-smaller
pairs-smaller c =
    let s = pair-seen c.in-Ok-Some.pair c.pair_at-seen.ensures (grind arith) in
    omega (arith, s.inside, s.equals, s.end)

pub pairs-preserved : goal.pairs-preserved
pairs-preserved c =
    let v = c.pairs.invariant in
    let s = pair-seen c.in-Ok-Some.pair c.pair_at-seen.ensures (grind arith) in
    (walked_more v.0 s, rw c.or-place.ensures (finding-same v.1 s (compared-all c.loop-k.invariant (search rules))))
