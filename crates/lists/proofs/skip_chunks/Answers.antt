-- `lists::skip_chunks` meets its contract: a chunk that has neither byte is passed.
use Rattle.std.proofs.Common.{◌∙◌, sym, ap, arith, length}
use Rattle.std.proofs.lemmas.List.{length-drop}
use lib.ListN.{length-append}
use Rattle.std.specs.Slice.Iter.{chunks_exact_rest}
use Rattle.lists.proofs.FindLaws.{chunk-skipped}
use Rattle.lists.proofs.skip_chunks.Goals as goal

pub loop-chunk-preserved : goal.loop-chunk-preserved
loop-chunk-preserved c =
    let a = c.args in
    let l = c.loop-chunk in
    let chunk = c.in-Some.chunk.now in
    let after = chunks_exact_rest c.next.new.self in
    let turn = c.in-Some.ensures.steps in
    let rest = l.invariant.4 ∙ turn.1.0 in
    let past = chunk-skipped a.b a.c a.s.now chunk after l.skipped l.invariant.3 rest (sym c.chunk_has.ensures ∙ c.if-chunk_has.false) in (
      omega (arith, turn.0, l.invariant.5),
      tt,
      omega (arith, length-drop l.skipped a.s.now, ap length rest, length-append chunk after, l.invariant.2),
      past.0,
      past.1,
      turn.0 ∙ l.invariant.5,
    )
