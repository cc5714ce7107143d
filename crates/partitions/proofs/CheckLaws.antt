-- The image check's loop: what is counted so far, and what the rest of the walk adds.
use Prim.Native.Nat.{ℕ, ◌+◌, ◌≤◌}
use mathlib.Core.Path.{◌≡◌, ap, refl, sym, ◌∙◌}
use mathlib.Core.Bool.{true, false}
use mathlib.Core.List.{List}
use native.Mathlib.Omega.{arith}
use lib.ListN.{length}
use Rattle.errors.specs.declared.Error.{Error}
use Rattle.errors.specs.declared.Error.TheVariants.{ImageLength}
use Rattle.partitions.specs.declared.Partition.{Partition}
use Rattle.std.specs.Prelude.{Ok, Err, Some, None, Result}
use Rattle.partitions.specs.declared.Step.{Step}
use Rattle.partitions.specs.Walk.{step_at, Walk, covered, broken, allowed_length}
use Rattle.partitions.specs.Find.{checked_by, check_of}
use Rattle.partitions.proofs.WalkLaws.{rest, walk-rest, walk_refused, next-bounds, on_walk, loop-next, loop-end, loop-broken}

abbrev counted : ℕ → List Partition → Result ℕ Error
counted n ps = Ok (n + length ps)

counted_none : (w : Walk) → on_walk (counted 0) Err w ≡ checked_by w
unfolding checked_by
counted_none (covered ps) = ap Ok (omega arith)
counted_none (broken e) = refl

pub check-refused : (image : List ℕ) → allowed_length (length image) ≡ false → Err ImageLength ≡ check_of image
unfolding check_of checked_by
check-refused image a = ap checked_by (sym (walk_refused image a))

-- count partitions stand before the offset, and the rest of the walk makes the answer of them
pub record Counting (image : List ℕ) (at count : ℕ) : Type 0 where
  pub few : count ≤ at
  pub inside : at ≤ length image
  pub rests : on_walk (counted count) Err (rest image at) ≡ check_of image

pub count-start : (image : List ℕ) → allowed_length (length image) ≡ true → Counting image 0 0
unfolding check_of
count-start image a =
    record { few = omega arith; inside = omega arith; rests = counted_none (rest image 0) ∙ ap checked_by (sym (walk-rest image a)) }

module _ (image : List ℕ) (at count : ℕ) (k : Counting image at count) where
  pub count_next : (s : Step) → step_at image at ≡ Ok (Some s) → Counting image s.next.at (count + 1)
  count_next s e =
      let b = next-bounds image at s e in
      record {
        few = omega arith;
        inside = omega arith;
        rests = loop-next image at (counted count) Err _ k.rests s e (counted (count + 1)) (λ ps. ap Ok (omega arith));
      }

  pub count-end : step_at image at ≡ Ok None → Ok count ≡ check_of image
  count-end e = ap Ok (omega arith) ∙ loop-end image at (counted count) Err _ k.rests e

  pub count-broken : (x : Error) → step_at image at ≡ Err x → Err x ≡ check_of image
  count-broken x e = loop-broken image at (counted count) Err _ k.rests x e
