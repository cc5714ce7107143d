-- What a loop over the partitions may rely on: where a step leads, and what holds of a walk if each of its steps keeps it.
use Prim.Native.Nat.{ℕ, ◌+◌, ◌*◌, ◌≤◌, ◌<◌}
use mathlib.Core.Path.{◌≡◌, refl, sym, ap, subst, ◌∙◌}
use mathlib.Core.List.{List, []}
use native.Mathlib.Omega.{arith}
use lib.ListN.{length}
use Rattle.lists.specs.Bytes.{AllBytes}
use Rattle.lists.proofs.Tests.{split, clash}
use Rattle.lists.proofs.ByteLaws.{every_get}
use Rattle.errors.specs.declared.HeaderFault.{HeaderFault}
use Rattle.errors.specs.declared.Error.{Error}
use Rattle.errors.specs.declared.Error.TheVariants.{ImageLength, BadHeader}
use Rattle.header.specs.Header.{header_at, validity_at}
use Rattle.header.proofs.ValidityLaws.{valid-nonzero, invalid-here}
use Rattle.partitions.specs.declared.Partition.{Partition}
use Rattle.partitions.specs.Walk.{Stepped, onward, step_at, partition_of, past_of, Walk, covered, broken, first, walk, allowed_length}
use Rattle.std.specs.Prelude.{Ok, Err, Some, None}
use Rattle.partitions.specs.declared.Step.{Step}
use Rattle.partitions.specs.Find.{checked_by, check_of}
use Rattle.partitions.specs.Cover.{partition_at}
use Rattle.partitions.proofs.WalkLaws.{View, ends, goes, breaks, view, past-bounds, rest, walk-rest, walk_refused, rest-by-steps}
use Rattle.partitions.proofs.CheckLaws.{check-refused}

-- a step that goes on: the partition stands here, and ends inside the image
pub record Goes (image : List ℕ) (at : ℕ) (s : Step) : Type 0 where
  pub here : s.here.offset ≡ at
  pub some : 1 ≤ s.here.blocks.0
  pub past : s.next.at ≡ at + s.here.blocks.0 * 16
  pub inside : s.next.at ≤ length image

valid-goes : (image : List ℕ) (at : ℕ) → at < length image → validity_at image at ≡ Ok tt
    → Goes image at (onward image at)
unfolding partition_of past_of validity_at
valid-goes image at l v =
    let n : (header_at image at).length.0 ≡ 0 → ⊥ = valid-nonzero image at v in
    record { here = refl; some = omega arith; past = refl; inside = (past-bounds image at l v).1 }

pub next-goes : (image : List ℕ) (at : ℕ) (s : Step) → step_at image at ≡ Ok (Some s) → Goes image at s
next-goes image at s e = go (step_at image at) (view image at) e
  where
    go : (t : Stepped) → View image at t → t ≡ Ok (Some s) → Goes image at s
    go (Ok None) (ends l) q = clash (cc)
    go (Ok (Some t)) (goes l v) q =
        let a : t ≡ s = cc in
        subst (Goes image at) a (valid-goes image at l v)
    go (Err x) (breaks l v) q = clash (cc)

-- what holds at the end and at a broken header, and before a step where it holds after it, holds of every walk
module _ (image : List ℕ) (P : ℕ → Walk → Type 0) (last : P (length image) (covered []))
    (step : (at : ℕ) (s : Step) → Goes image at s → (w : Walk) → P s.next.at w → P at (first s.here w))
    (stop : (at : ℕ) → at < length image → (f : HeaderFault) → P at (broken (BadHeader f at))) where
  covers : P 0 (rest image 0)
  covers =
      rest-by-steps image P last
      (λ at i v w h. step at (onward image at) (valid-goes image at i v) w h)
      (λ at i e v. let h = invalid-here image at e v in rw h.1 (stop at i h.0))

  pub walk-by-steps : P 0 (broken ImageLength) → P 0 (walk image)
  walk-by-steps one =
      split (allowed_length (length image)) (λ t. rw (walk-rest image t) covers) (λ t. rw (walk_refused image t) one)

-- what the check of an image tells of its walk
pub check-broken : (image : List ℕ) (e : Error) → check_of image ≡ Err e → walk image ≡ broken e
unfolding check_of checked_by
check-broken image e q = go (walk image) q
  where
    go : (w : Walk) → checked_by w ≡ Err e → w ≡ broken e
    go (covered ps) r = clash (cc)
    go (broken x) r = let z : x ≡ e = cc in ap broken z

pub accepted-rest : (image : List ℕ) (n : ℕ) → check_of image ≡ Ok n → walk image ≡ rest image 0
accepted-rest image n q = split (allowed_length (length image)) (λ t. walk-rest image t) (λ t. clash (cc (check-refused image t)))

pub covered-rest : (image : List ℕ) (ps : List Partition) → walk image ≡ covered ps → rest image 0 ≡ covered ps
covered-rest image ps q =
    split (allowed_length (length image)) (λ t. sym (walk-rest image t) ∙ q) (λ t. clash (cc (walk_refused image t)))

-- a signature is a byte
pub signature-byte : (image : List ℕ) → AllBytes image → (at : ℕ) → (partition_at image at).signature < 256
unfolding partition_at
signature-byte image bytes at = every_get (λ b. b < 256) (omega arith) image (at + 0) bytes
