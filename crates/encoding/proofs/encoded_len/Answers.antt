-- `encoding::encoded_len` meets its contract. The loop's invariant: n bytes, and the canonical form of the bytes left, are the whole length.
use mathlib.Core.Path.{sym, ◌∙◌}
use native.Mathlib.Omega.{arith}
use Rattle.lists.proofs.FindLaws.{until-short}
use Rattle.encoding.proofs.EncodeTurns.{leading_length, run-smaller, piece-smaller, counted-bound, counted-run, counted-piece, counted-all}
use Rattle.encoding.proofs.encoded_len.Goals as goal

pub split_at-requires : goal.split_at-requires
split_at-requires c = rw c.leading.ensures (leading_length _ _)

pub overflow_add-n : goal.overflow_add-n
overflow_add-n c =
    let e = c.in-Some.ensures.cases.0 in
    let t = sym c.is_escaped.ensures ∙ c.if-is_escaped.true in
    let p = c.split_at.ensures in
    omega (arith, counted-bound (counted-run c.loop-x.invariant e t c.leading.ensures p.front p.back c.run_len-n.ensures))

pub loop-x-smaller-then-is_escaped : goal.loop-x-smaller-then-is_escaped
loop-x-smaller-then-is_escaped c =
    let p = c.split_at.ensures in
    run-smaller c.in-Some.ensures.cases.0 c.leading.ensures p.front p.back

pub loop-x-preserved-then-is_escaped : goal.loop-x-preserved-then-is_escaped
loop-x-preserved-then-is_escaped c =
    let e = c.in-Some.ensures.cases.0 in
    let t = sym c.is_escaped.ensures ∙ c.if-is_escaped.true in
    let p = c.split_at.ensures in
    counted-run c.loop-x.invariant e t c.leading.ensures p.front p.back c.run_len-n.ensures

pub split_at-requires-else-is_escaped : goal.split_at-requires-else-is_escaped
split_at-requires-else-is_escaped c = omega (arith, until-short 0 255 c.loop-x.rest.now, c.plain_len.ensures)

pub overflow_add-n-else-is_escaped : goal.overflow_add-n-else-is_escaped
overflow_add-n-else-is_escaped c =
    let p = c.split_at-else-is_escaped.ensures in
    omega (arith, counted-bound (counted-piece c.loop-x.invariant c.plain_len.ensures p.front p.back))

pub loop-x-smaller : goal.loop-x-smaller
loop-x-smaller c =
    let p = c.split_at-else-is_escaped.ensures in
    let t = sym c.is_escaped.ensures ∙ c.if-is_escaped.false in
    piece-smaller c.loop-x.rest.now c.plain_len.ensures p.front p.back c.in-Some.ensures.cases.0 t

pub loop-x-preserved : goal.loop-x-preserved
loop-x-preserved c =
    let p = c.split_at-else-is_escaped.ensures in
    counted-piece c.loop-x.invariant c.plain_len.ensures p.front p.back

pub returns : goal.returns
returns c = counted-all c.loop-x.invariant c.in_default.ensures.cases
