-- `lists::skip_chunks` meets its contract. The loop's invariant: no b or c stands before `skipped`, and the chunks to come stand from there on.
use Rattle.std.proofs.Common.{◌≡◌, ◌+◌, ◌≤◌, length, drop}
use Rattle.std.specs.Slice.Iter.{chunks_exact_rest, chunks_exact_size}
use Rattle.lists.specs.Helpers.{until_either}
use Rattle.lists.proofs.skip_chunks.Given as goal

abbrev pub invariant-loop-chunk : goal.invariant-loop-chunk
invariant-loop-chunk l =
    (goal.iterator-loop-chunk).can_next l.chunk-iterator × (goal.iterator-loop-chunk).is_finite l.chunk-iterator
    × (l.skipped ≤ length l.s) × (until_either l.b l.c l.s ≡ l.skipped + until_either l.b l.c (drop l.skipped l.s))
    × (drop l.skipped l.s ≡ chunks_exact_rest l.chunk-iterator) × (chunks_exact_size l.chunk-iterator ≡ 16)
