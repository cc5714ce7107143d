-- Laws of the lines over a walk: what they take, and that they are written one after the other.
use Prim.Native.Nat.{ℕ, ◌+◌, ◌*◌, ◌≤◌}
use mathlib.Core.Path.{◌≡◌, refl, sym, ap, ◌∙◌}
use mathlib.Core.List.{List, [], ◌∷◌, ◌++◌}
use native.Mathlib.Nat.{zero-add}
use native.Mathlib.Omega.{arith}
use lib.ListN.{length, length-append}
use Rattle.lists.proofs.Tests.{clash}
use Rattle.errors.specs.declared.Error.{Error}
use Rattle.partitions.specs.declared.Partition.{Partition}
use Rattle.partitions.specs.declared.Step.{Step}
use Rattle.partitions.specs.Walk.{step_at, Walk, covered, broken, first, walk}
use Rattle.partitions.specs.Find.{checked_by, check_of}
use Rattle.partitions.proofs.WalkLaws.{rest, rest-next, rest_end, rest-broken, on_walk, loop-next, loop-end, loop-broken}
use Rattle.partitions.proofs.LoopLaws.{Goes, next-goes, check-broken, accepted-rest, covered-rest}
use Rattle.std.specs.Prelude.{Ok, Err, Some, None}
use Rattle.listing.specs.Text.{line, lines, blocks_sum}
use Rattle.listing.specs.Helpers.{HasRoom, Wrote, Measured, measured_by, measured_of, lines_by, lines_of, Covered}
use Rattle.listing.specs.declared.Writer.{Writer}
use Rattle.listing.proofs.WordLaws.{line-within}
use Rattle.listing.proofs.WriterLaws.{Writing, writing-start, writing-room, writing-next, writing-as, writing-end}

pub goes-within : (image : List ℕ) (at : ℕ) (s : Step) → length image ≤ 65_536 → Goes image at s → length (line image s.here) ≤ 28
goes-within image at s h g = line-within image s.here (omega (arith, g.here, g.past, g.inside)) (omega (arith, g.past, g.inside))

pub measure-refused : (image : List ℕ) (e : Error) → check_of image ≡ Err e → Err e ≡ measured_of image
unfolding measured_of measured_by
measure-refused image e q = ap (measured_by image) (sym (check-broken image e q))

-- an accepted image breaks no rule
accepted-measured {ℓ} : {A : Type ℓ} (image : List ℕ) (n : ℕ) → check_of image ≡ Ok n → (x : Error) → Err x ≡ measured_of image → A
unfolding check_of checked_by measured_of measured_by
accepted-measured {A = A} image n q x e = go (walk image) q e
  where
    go : (w : Walk) → checked_by w ≡ Ok n → Err x ≡ measured_by image w → A
    go (covered ps) r f = clash (cc)
    go (broken y) r f = clash (cc)

-- what the partitions that are left add to bytes and blocks
unfoldable pub added : List ℕ → ℕ → ℕ → List Partition → Measured
added image bytes blocks ps = Ok (record { bytes = bytes + length (lines image ps); blocks = blocks + blocks_sum ps })

-- bytes and blocks are those of the partitions before the offset, and the rest of the walk makes the answer of them
pub record Measuring (image : List ℕ) (at bytes blocks : ℕ) : Type 0 where
  pub few : 4 * bytes ≤ 7 * at
  pub fewer : 16 * blocks ≤ at
  pub inside : at ≤ length image
  pub rests : on_walk (added image bytes blocks) Err (rest image at) ≡ measured_of image

added_none : (image : List ℕ) (w : Walk) → on_walk (added image 0 0) Err w ≡ measured_by image w
unfolding added measured_by
added_none image (covered ps) = rw (zero-add (length (lines image ps)), zero-add (blocks_sum ps))
added_none image (broken e) = refl

pub measure-start : (image : List ℕ) (n : ℕ) → check_of image ≡ Ok n → Measuring image 0 0 0
unfolding measured_of
measure-start image n q =
    record {
      few = omega arith;
      fewer = omega arith;
      inside = omega arith;
      rests = added_none image (rest image 0) ∙ ap (measured_by image) (sym (accepted-rest image n q));
    }

module _ (image : List ℕ) (at bytes blocks : ℕ) (k : Measuring image at bytes blocks) where
  added-line : (p : Partition) (n : ℕ) → n ≡ length (line image p) → (ps : List Partition)
      → added image bytes blocks (p ∷ ps) ≡ added image (bytes + n) (blocks + p.blocks.0) ps
  unfolding added lines blocks_sum
  added-line p n e ps =
      let a : bytes + length (line image p ++ lines image ps) ≡ bytes + n + length (lines image ps) =
      omega (arith, length-append (line image p) (lines image ps)) in
      let b : blocks + (p.blocks.0 + blocks_sum ps) ≡ blocks + p.blocks.0 + blocks_sum ps = omega arith in
      λ i. Ok (record { bytes = a i; blocks = b i })

  pub measure-next : length image ≤ 65_536 → (s : Step) → step_at image at ≡ Ok (Some s) → (n : ℕ) → n ≡ length (line image s.here)
      → Measuring image s.next.at (bytes + n) (blocks + s.here.blocks.0)
  measure-next h s e n f =
      let g = next-goes image at s e in
      record {
        few = omega (arith, k.few, goes-within image at s h g, g.some, g.past);
        fewer = omega (arith, k.fewer, g.past);
        inside = g.inside;
        rests = loop-next image at (added image bytes blocks) Err _ k.rests s e (added image (bytes + n) (blocks + s.here.blocks.0)) (added-line s.here n f);
      }

  pub measure-end : step_at image at ≡ Ok None → Ok (record { bytes = bytes; blocks = blocks }) ≡ measured_of image
  unfolding added lines blocks_sum
  measure-end e =
      let a : bytes ≡ bytes + 0 = omega arith in
      let b : blocks ≡ blocks + 0 = omega arith in
      (λ i. Ok (record { bytes = a i; blocks = b i })) ∙ loop-end image at (added image bytes blocks) Err _ k.rests e

  -- no header of an accepted image is broken
  pub measure-unbroken {ℓ} : {A : Type ℓ} (n : ℕ) → check_of image ≡ Ok n → (x : Error) → step_at image at ≡ Err x → A
  measure-unbroken n q x e =
      accepted-measured image n q x (loop-broken image at (added image bytes blocks) Err _ k.rests x e)

-- the lines before the offset cur are written; those of the partitions that are left are to come
pub record WritingLines (image : List ℕ) (u : Writer) (cur : ℕ) (v : Writer) : Type 0 where
  pub left : List Partition
  pub so : rest image cur ≡ covered left
  pub writing : Writing u (lines_of image) (lines image left) v

pub write-start : (image : List ℕ) (u : Writer) → Covered image → HasRoom u (length (lines_of image)) → WritingLines image u 0 u
unfolding lines_of lines_by
write-start image u k h =
    record {
      left = k.all;
      so = covered-rest image k.all k.so;
      writing = writing-as (writing-start u (lines_of image) h) (ap (lines_by image) k.so);
    }

module _ {image : List ℕ} {u : Writer} {cur : ℕ} {v : Writer} (s : WritingLines image u cur v) where
  -- none of them is broken
  pub write-broken {ℓ} : {A : Type ℓ} (x : Error) → step_at image cur ≡ Err x → A
  write-broken x e = clash (cc (rest-broken image cur x e, s.so))

  -- the partition of the step is the first that is left
  pub record Split (t : Step) : Type 0 where
    pub after : List Partition
    pub so-after : rest image t.next.at ≡ covered after
    pub first-left : lines image s.left ≡ line image t.here ++ lines image after

  split-left : (t : Step) → step_at image cur ≡ Ok (Some t) → Split t
  unfolding lines
  split-left t e = go (rest image t.next.at) refl (sym s.so ∙ rest-next image cur t e)
    where
      go : (w : Walk) → rest image t.next.at ≡ w → covered s.left ≡ first t.here w → Split t
      go (covered qs) f q =
          let h : s.left ≡ t.here ∷ qs = cc in
          record { after = qs; so-after = f; first-left = ap (lines image) h }
      go (broken x) f q = clash (cc)

  pub write-room : HasRoom u (length (lines_of image)) → (t : Step) → step_at image cur ≡ Ok (Some t) → HasRoom v (length (line image t.here))
  write-room fits t e =
      let p = split-left t e in
      omega (arith, ap length p.first-left, length-append (line image t.here) (lines image p.after), writing-room s.writing fits)

  pub write-next : (t : Step) → step_at image cur ≡ Ok (Some t) → {w : Writer} → Wrote v (line image t.here) w → WritingLines image u t.next.at w
  write-next t e q =
      let p = split-left t e in
      record { left = p.after; so = p.so-after; writing = writing-next s.writing _ _ p.first-left q }

  pub write-end : step_at image cur ≡ Ok None → Wrote u (lines_of image) v
  unfolding lines
  write-end e =
      let z : s.left ≡ [] = cc (rest_end image cur e, s.so) in
      writing-end s.writing (ap (lines image) z)
