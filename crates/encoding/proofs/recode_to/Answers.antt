-- `encoding::recode_to` meets its contract. The loop's invariant: the canonical form is written up to o, a run of n times b is
-- open, and the bytes from i on are as they were.
use Prim.Native.Nat.{ℕ, ◌+◌}
use mathlib.Core.Path.{ap, ◌∙◌}
use native.Mathlib.Omega.{arith}
use lib.ListN.{length}
use borrow.Rule.Slice.PartMut.{mid_len}
use Rattle.lists.proofs.PastedLaws.{length-pasted}
use Rattle.values.proofs.WrittenLaws.{tail-put}
use Rattle.encoding.proofs.RecodeLaws.{recodable-told, piece-moved}
use Rattle.encoding.proofs.RecodeTurns.{recoding-none, recoding-same, flush-fits, two_in, same_turn, full-room, full-turn, other-turn, some_bytes, piece-in, move-fits, piece-turn, recoding-place, recoding-all}
use borrow.Author.Rules.{rules}
use Rattle.encoding.proofs.recode_to.Goals as goal

pub loop-i-init : goal.loop-i-init
loop-i-init c = recoding-none _ _ _ _ (recodable-told _ _ _ _ c.requires)

pub bounds-area-i : goal.bounds-area-i
bounds-area-i c = let s = c.loop-i.invariant in omega (arith, recoding-same s, s.inside)

pub bounds-area-i-then-area-i : goal.bounds-area-i-then-area-i
bounds-area-i-then-area-i c =
    let s = c.loop-i.invariant in
    omega (arith, recoding-same s, s.inside, two_in s (search rules) c.if-area-i.true)

pub loop-i-preserved-then-y-b : goal.loop-i-preserved-then-y-b
loop-i-preserved-then-y-b c =
    let l = c.loop-i in
    let p = c.put_run-o in
    rw c.from-k.ensures
    (other-turn l.invariant (search rules) c.if-area-i.true c.run_byte-y.ensures
    (omega (arith, c.type_inv.area (l.i + 1))) c.if-y-b.true (ap (λ (n : ℕ). l.o + n) p.ensures.value)
    (tail-put l.area l.o _ p.new.buffer (flush-fits l.invariant) p.ensures.buffer_after))

pub loop-i-preserved-then-n-k-le127 : goal.loop-i-preserved-then-n-k-le127
loop-i-preserved-then-n-k-le127 c =
    let t = c.if-area-i.true in
    let k = c.from-k.ensures in
    let m = rw k at c.if-n-k-le127.true in
    rw k (same_turn c.loop-i.invariant (search rules) t c.run_byte-y.ensures c.if-y-b.false m)

pub loop-i-preserved-else-n-k-le127 : goal.loop-i-preserved-else-n-k-le127
loop-i-preserved-else-n-k-le127 c =
    let l = c.loop-i in
    let t = c.if-area-i.true in
    let k = c.from-k.ensures in
    let m = rw k at c.if-n-k-le127.false in
    let r = full-room l.invariant (search rules) t c.run_byte-y.ensures c.if-y-b.false m in
    rw k
    (full-turn l.invariant (search rules) t c.run_byte-y.ensures c.if-y-b.false m c.mark_of.ensures.0
    (tail-put l.area l.o _ c.put_escape.new.buffer r c.put_escape.ensures))

pub slice_bounds-plain_len-end : goal.slice_bounds-plain_len-end
slice_bounds-plain_len-end c = let s = c.loop-i.invariant in omega (arith, recoding-same s, s.inside)

pub overflow_add-o-else-area-i-2 : goal.overflow_add-o-else-area-i-2
overflow_add-o-else-area-i-2 c =
    let l = c.loop-i in
    let p = c.put_run-o-else-area-i in
    let q = c.plain_len-k.ensures in
    omega (
      arith,
      p.ensures.value,
      l.invariant.behind,
      l.invariant.inside,
      recoding-same l.invariant,
      piece-in l.invariant (search rules) c.if-area-i.false q,
    )

pub overflow_add-i-else-area-i : goal.overflow_add-i-else-area-i
overflow_add-i-else-area-i c =
    let l = c.loop-i in
    omega (arith, piece-in l.invariant (search rules) c.if-area-i.false c.plain_len-k.ensures, l.invariant.inside, recoding-same l.invariant)

pub loop-i-smaller : goal.loop-i-smaller
loop-i-smaller c =
    let s = c.loop-i.invariant in
    let b = c.if-area-i.false in
    let q = c.plain_len-k.ensures in
    omega (arith, some_bytes s (search rules) b q, piece-in s (search rules) b q)

pub loop-i-preserved : goal.loop-i-preserved
loop-i-preserved c =
    let l = c.loop-i in
    let p = c.put_run-o-else-area-i in
    let b = c.if-area-i.false in
    let q = c.plain_len-k.ensures in
    let v = ap (λ (n : ℕ). l.o + n) p.ensures.value in
    let w = tail-put l.area l.o _ p.new.buffer (flush-fits l.invariant) p.ensures.buffer_after in
    let m = move-fits l.invariant (search rules) b q v w in
    piece-turn l.invariant (search rules) b q v w (c.move_bytes.ensures ∙ piece-moved _ l.i _ c.plain_len-k.result m.0 m.1)

pub slice_bounds-put_run-count-2 : goal.slice_bounds-put_run-count-2
slice_bounds-put_run-count-2 c = omega (arith, flush-fits c.loop-i.invariant)

pub slice_bounds-put_run-start-2 : goal.slice_bounds-put_run-start-2
slice_bounds-put_run-start-2 c = omega (arith, flush-fits c.loop-i.invariant)

pub put_run-requires : goal.put_run-requires
put_run-requires c =
    let l = c.loop-i in
    omega (arith, flush-fits l.invariant, mid_len l.o (length l.area) l.area (omega arith))

pub shape_of-area : goal.shape_of-area
shape_of-area c =
    let l = c.loop-i in
    let p = c.put_run in
    let r = flush-fits l.invariant in
    ap length (tail-put l.area l.o _ p.new.buffer r p.ensures.buffer_after) ∙ length-pasted l.area l.o _ r ∙ recoding-same l.invariant

pub returns-clause-value : goal.returns-clause-value
returns-clause-value c =
    let l = c.loop-i in
    let p = c.put_run in
    recoding-place l.invariant (search rules) (ap (λ (n : ℕ). l.o + n) p.ensures.value)
    (tail-put l.area l.o _ p.new.buffer (flush-fits l.invariant) p.ensures.buffer_after)

pub returns-clause-area_after : goal.returns-clause-area_after
returns-clause-area_after c =
    let l = c.loop-i in
    let p = c.put_run in
    recoding-all l.invariant (search rules) (ap (λ (n : ℕ). l.o + n) p.ensures.value)
    (tail-put l.area l.o _ p.new.buffer (flush-fits l.invariant) p.ensures.buffer_after)
