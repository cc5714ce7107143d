-- A partition that was found lies inside the image, and its data area is a part of it.
use Prim.Native.Nat.{ℕ, suc, zero, ◌+◌, ◌-◌, ◌*◌, ◌≤◌, ◌<◌}
use mathlib.Core.Path.{◌≡◌, ap, subst, refl, sym, ◌∙◌}
use mathlib.Core.Logic.{◌↔◌}
use mathlib.Core.Bool.{Bool, true, false, cond}
use mathlib.Core.List.{List, [], ◌∷◌, ◌++◌, append_assoc}
use native.Mathlib.Omega.{arith}
use lib.ListN.{length, take, drop, get_or, length-drop, take-append-drop}
use lib.Seq.{get_or-take, get_or-drop, length-take-le, drop-drop}
use Rattle.lists.specs.Pasted.{pasted}
use Rattle.lists.proofs.Tests.{clash}
use Rattle.header.specs.declared.Bytes.{Bytes}
use Rattle.errors.specs.declared.Error.{Error}
use Rattle.errors.specs.Answer.{answer_of}
use Rattle.header.specs.Header.{header_at, bytes_of, validity_at}
use Rattle.header.proofs.ValidityLaws.{valid-nonzero, valid-fits}
use Rattle.partitions.specs.declared.Partition.{Partition}
use Rattle.partitions.specs.Walk.{Stepped, partition_of, past_of, step_at, Walk, covered, broken, first, on_step, walk_from, allowed_length, walk}
use Rattle.std.specs.Prelude.{Ok, Err, Some, None}
use Rattle.partitions.specs.Find.{Found, first_match, find_by, find_of, area_of, area_found}
use Rattle.partitions.specs.Cover.{partition_at, area_at}
use Rattle.partitions.specs.Views.{area_answer}
use Rattle.partitions.proofs.WalkLaws.{View, ends, goes, breaks, view}
use Rattle.partitions.proofs.FoundLaws.{Match, found, missing, match}

-- a partition with its header, inside the image
pub record Inside (image : List ℕ) (p : Partition) : Type 0 where
  pub header : 16 ≤ (bytes_of p.blocks).0
  pub fits : p.offset + (bytes_of p.blocks).0 ≤ length image

abbrev EachInside : List ℕ → List Partition → Type 0
EachInside image [] = Unit {0}
EachInside image (p ∷ ps) = Inside image p × EachInside image ps

abbrev WalkInside : List ℕ → Walk → Type 0
WalkInside image (covered ps) = EachInside image ps
WalkInside image (broken e) = Unit {0}

valid-inside : (image : List ℕ) (at : ℕ) → at < length image → validity_at image at ≡ Ok tt → Inside image (partition_of image at)
unfolding partition_of
valid-inside image at l e =
    let n : (header_at image at).length.0 ≡ 0 → ⊥ = valid-nonzero image at e in
    let fits : (header_at image at).length.0 * 16 ≤ length image - at = valid-fits image at e in
    record { header = omega arith; fits = omega arith }

first-inside : (image : List ℕ) (p : Partition) (w : Walk) → Inside image p → WalkInside image w → WalkInside image (first p w)
first-inside image p (covered ps) i j = (i, j)
first-inside image p (broken e) i j = tt

from-inside : (image : List ℕ) (n at : ℕ) → WalkInside image (walk_from n image at)
unfolding walk_from
from-inside image zero at = tt
from-inside image (suc n) at = go (step_at image at) (view image at) (from-inside image n (past_of image at))
  where
    go : (s : Stepped) → View image at s → WalkInside image (walk_from n image (past_of image at))
        → WalkInside image (on_step s (λ past. walk_from n image past))
    go (Ok None) (ends l) ih = tt
    go (Ok (Some s)) (goes l e) ih = first-inside image (partition_of image at) (walk_from n image (past_of image at)) (valid-inside image at l e) ih
    go (Err x) (breaks l e) ih = tt

walk_inside : (image : List ℕ) → WalkInside image (walk image)
unfolding walk
walk_inside image = go (allowed_length (length image))
  where
    go : (b : Bool) → WalkInside image (cond b (walk_from (suc (length image)) image 0) (broken Rattle.errors.specs.declared.Error.TheVariants.ImageLength))
    go true = from-inside image (suc (length image)) 0
    go false = tt

-- p is one of the partitions that cover the image
pub record Among (image : List ℕ) (p : Partition) : Type 0 where
  pub before : List Partition
  pub after : List Partition
  pub walks : walk image ≡ covered (before ++ p ∷ after)

each-inside : (image : List ℕ) (before : List Partition) (p : Partition) (after : List Partition)
    → EachInside image (before ++ p ∷ after) → Inside image p
each-inside image [] p after i = i.0
each-inside image (q ∷ before) p after i = each-inside image before p after i.1

pub among-inside : (image : List ℕ) (p : Partition) → Among image p → Inside image p
among-inside image p m = each-inside image m.before p m.after (subst (WalkInside image) m.walks (walk_inside image))

-- a partition that was found is one of them
pub found_among : (image : List ℕ) (signature : ℕ) (name : List ℕ) (p : Partition) → find_of image signature name ≡ Ok p → Among image p
unfolding find_of find_by
found_among image signature name p = go (walk image) refl
  where
    of-match : (ps : List Partition) → walk image ≡ covered ps → (f : Found) → Match image signature name ps f → f ≡ Ok p → Among image p
    of-match ps w (Ok q) (found s) e =
        let k : q ≡ p = cc in
        record { before = s.before; after = s.after; walks = w ∙ ap covered (sym s.joined ∙ ap (λ (r : Partition). s.before ++ r ∷ s.after) k) }
    of-match ps w (Err x) (missing n) e = clash (cc)

    go : (w : Walk) → walk image ≡ w → find_by image signature name w ≡ Ok p → Among image p
    go (covered ps) w e = of-match ps w (first_match image signature name ps) (match image signature name ps) e
    go (broken x) w e = clash (cc)

pub found_inside : (image : List ℕ) (signature : ℕ) (name : List ℕ) (p : Partition) → find_of image signature name ≡ Ok p → Inside image p
found_inside image signature name p e = among-inside image p (found_among image signature name p e)

-- the same of what the code has found
module _ (image : List ℕ) (signature : ℕ) (name : List ℕ) (f : Found) (ef : f ≡ find_of image signature name) where
  module _ (p : Partition) (ep : f ≡ Ok p) where
    module _ (b : Bytes) (eb : b ≡ bytes_of p.blocks) where
      pub found_part : (16 ≤ b.0) × (p.offset + b.0 ≤ length image)
      found_part =
          let i = found_inside image signature name p (sym ef ∙ ep) in
          subst (λ (x : Bytes). (16 ≤ x.0) × (p.offset + x.0 ≤ length image)) (sym eb) (i.header, i.fits)

      pub found-area : take ((p.offset + b.0) - (p.offset + 16)) (drop (p.offset + 16) image) ≡ area_of image (find_of image signature name)
      unfolding area_of
      found-area =
          let e : (p.offset + b.0) - (p.offset + 16) ≡ b.0 - 16 = omega arith in
          ap (λ (n : ℕ). take n (drop (p.offset + 16) image)) e
          ∙ ap (λ (x : Bytes). take (x.0 - 16) (drop (p.offset + 16) image)) eb
          ∙ ap (area_of image) (sym ep ∙ ef)

-- the area has 16 x (blocks - 1) bytes: those from offset + 16 to offset + 16 x blocks
module _ (image : List ℕ) (p : Partition) (i : Inside image p) where
  pub area-length : length (area_of image (Ok p)) ≡ 16 * (p.blocks.0 - 1)
  unfolding area_of
  area-length =
      let fits : p.offset + p.blocks.0 * 16 ≤ length image = i.fits in
      let q : (bytes_of p.blocks).0 - 16 ≤ length (drop (p.offset + 16) image) = omega (arith, length-drop (p.offset + 16) image) in
      length-take-le ((bytes_of p.blocks).0 - 16) (drop (p.offset + 16) image) q ∙ omega arith

  -- as the part of the image between its two offsets
  pub area-part : area_of image (Ok p)
      ≡ take ((p.offset + (bytes_of p.blocks).0) - (p.offset + 16)) (drop (p.offset + 16) image)
  unfolding area_of
  area-part =
      let e : (bytes_of p.blocks).0 - 16 ≡ (p.offset + (bytes_of p.blocks).0) - (p.offset + 16) = omega arith in
      ap (λ (n : ℕ). take n (drop (p.offset + 16) image)) e

  pub area-long : length (area_of image (Ok p)) ≡ p.blocks.0 * 16 - 16
  area-long = area-length ∙ omega arith

  -- an area put back as it was
  pub area-back : pasted image (p.offset + 16) (area_of image (Ok p)) ≡ image
  unfolding pasted area_of
  area-back =
      let n : ℕ = p.offset + 16 in
      let k : ℕ = p.blocks.0 * 16 - 16 in
      let l : length (take k (drop n image)) ≡ k = area-long in
      ap (λ (m : ℕ). take n image ++ take k (drop n image) ++ drop (n + m) image) l
      ∙ ap (λ (z : List ℕ). take n image ++ take k (drop n image) ++ z) (sym (drop-drop k n image))
      ∙ append_assoc (take n image) (take k (drop n image)) (drop k (drop n image))
      ∙ ap (λ (z : List ℕ). take n image ++ z) (take-append-drop k (drop n image))
      ∙ take-append-drop n image

  pub area_byte : (k : ℕ) → k < 16 * (p.blocks.0 - 1) → get_or (area_of image (Ok p)) k 0 ≡ get_or image (p.offset + 16 + k) 0
  unfolding area_of
  area_byte k h =
      get_or-take ((bytes_of p.blocks).0 - 16) (drop (p.offset + 16) image) k 0 (omega arith) ∙ get_or-drop (p.offset + 16) image k 0

-- nothing where it was refused
pub area-refused : (image : List ℕ) (e : Error) → area_of image (Err e) ≡ []
unfolding area_of
area-refused image e = refl

-- what a caller sees of a data area: the code and the offset of the partition that is sought, and the area's bytes
pub area-shown : (image : List ℕ) (found : Found) → answer_of [] (area_found image found) ≡ area_answer image found
unfolding area_of
area-shown image (Ok p) = refl
area-shown image (Err e) = refl

-- the area by the rules is that of the partition at the offset
pub area-at : (image : List ℕ) (at : ℕ) → area_at image at ≡ area_of image (Ok (partition_at image at))
unfolding area_at area_of partition_at
area-at image at = refl

-- an area is empty exactly where find refuses or the partition has one block
pub data Empty : Found → Type 0 where
  refused : {e : Error} → Empty (Err e)
  one_block : {p : Partition} → p.blocks.0 ≡ 1 → Empty (Ok p)

pub area-empty : (image : List ℕ) (signature : ℕ) (name : List ℕ)
    → (area_of image (find_of image signature name) ≡ []) ↔ Empty (find_of image signature name)
unfolding area_of
area-empty image signature name = (there (find_of image signature name) refl, back (find_of image signature name) refl)
  where
    there : (f : Found) → find_of image signature name ≡ f → area_of image f ≡ [] → Empty f
    there (Err e) q z = refused
    there (Ok p) q z =
        let i = found_inside image signature name p q in
        let l : 0 ≡ 16 * (p.blocks.0 - 1) = sym (ap length z) ∙ area-length image p i in
        let h : 16 ≤ p.blocks.0 * 16 = i.header in
        one_block {p = p} (omega arith)

    back : (f : Found) → find_of image signature name ≡ f → Empty f → area_of image f ≡ []
    back (Err e) q refused = refl
    back (Ok p) q (one_block z) = ap (λ (n : ℕ). take (n * 16 - 16) (drop (p.offset + 16) image)) z
