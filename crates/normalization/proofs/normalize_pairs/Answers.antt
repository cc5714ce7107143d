-- `normalization::normalize_pairs` meets its contract. The invariant: the pairs before `at` stand in canonical form from 0 up to `to`.
use native.Mathlib.Omega.{arith}
use Rattle.pairs.proofs.PairPlaces.{NoPair}
use Rattle.normalization.proofs.NormalizeLaws.{normalizing-none, normalizing-more, normalizing-end, pair-moves, pair-further}
use Rattle.normalization.proofs.normalize_pairs.Goals as goal

pub loop-pair-init : goal.loop-pair-init
loop-pair-init c = normalizing-none c.requires

pub normalize_pair-to-requires : goal.normalize_pair-to-requires
normalize_pair-to-requires c = pair-moves c.loop-pair.invariant c.in-Ok-Some.pair c.pair_at.ensures (grind arith)

pub overflow_add-at : goal.overflow_add-at
overflow_add-at c = omega (arith, pair-further c.loop-pair.invariant c.in-Ok-Some.pair c.pair_at.ensures (grind arith))

pub loop-pair-smaller : goal.loop-pair-smaller
loop-pair-smaller c = omega (arith, pair-further c.loop-pair.invariant c.in-Ok-Some.pair c.pair_at.ensures (grind arith))

pub loop-pair-preserved : goal.loop-pair-preserved
loop-pair-preserved c =
    let m = c.normalize_pair-to in
    normalizing-more c.loop-pair.invariant c.in-Ok-Some.pair c.pair_at.ensures (grind arith)
    m.result m.new.area m.ensures.upper_bound m.ensures.value m.ensures.area_after

pub returns-in_default : goal.returns-in_default
returns-in_default c =
    let p = c.pair_at in
    let n : NoPair p.result = λ x e. grind arith in
    let h = normalizing-end c.loop-pair.invariant p.result p.ensures n in
    record { upper_bound = h.0; value = h.1.0; area_after = h.1.1 }

pub returns-in_default-2 : goal.returns-in_default-2
returns-in_default-2 c =
    let p = c.pair_at in
    let n : NoPair p.result = λ x e. grind arith in
    let h = normalizing-end c.loop-pair.invariant p.result p.ensures n in
    record { upper_bound = h.0; value = h.1.0; area_after = h.1.1 }
