-- Laws of the text: it is never longer than 131,072 bytes, and what it is in each case.
use Prim.Native.Nat.{ℕ, ◌+◌, ◌-◌, ◌*◌, ◌≤◌, ◌<◌}
use mathlib.Core.Path.{◌≡◌, refl, sym, ap, ◌∙◌}
use mathlib.Core.List.{List, [], ◌∷◌, ◌++◌}
use native.Mathlib.Omega.{arith}
use lib.Dec.{ltb}
use lib.ListN.{length, length-append}
use borrow.Author.Tests.{ltb-true, ltb-false, lt-ltb, le-ltb}
use Rattle.lists.proofs.Tests.{split, clash}
use Rattle.errors.specs.declared.Error.{Error}
use Rattle.errors.specs.declared.Error.TheVariants.{ImageLength, BadHeader}
use Rattle.errors.specs.Errors.{code_of, offset_of}
use Rattle.errors.proofs.ErrorLaws.{code-range}
use Rattle.partitions.specs.declared.Partition.{Partition}
use Rattle.partitions.specs.declared.Step.{Step}
use Rattle.partitions.specs.Walk.{Walk, covered, broken, first, walk}
use Rattle.partitions.proofs.LoopLaws.{Goes, walk-by-steps}
use Rattle.std.specs.Prelude.{Ok, Err}
use Rattle.listing.specs.declared.Lines.{Lines}
use Rattle.listing.specs.Words.{heading, blocks_word, too_long_text}
use Rattle.listing.specs.Text.{decimal, line, lines, blocks_sum, text_by, listing_text}
use Rattle.listing.specs.Helpers.{measured_by, measured_of, lines_by, lines_of, Covered}
use Rattle.listing.proofs.WordLaws.{decimal-within}
use Rattle.listing.proofs.LinesLaws.{goes-within}

-- what a walk from an offset finds: lines of at most 28 bytes for each block, or an offset inside the image
data Within (image : List ℕ) (at : ℕ) : Walk → Type 0 where
  fine : {ps : List Partition} → 4 * length (lines image ps) ≤ 7 * (length image - at) → 16 * blocks_sum ps ≤ length image - at → Within image at (covered ps)
  stops : {e : Error} → offset_of e ≤ length image → Within image at (broken e)

module _ (image : List ℕ) (h : length image ≤ 65_536) where
  within_first : (at : ℕ) (s : Step) → Goes image at s → (w : Walk) → Within image s.next.at w → Within image at (first s.here w)
  unfolding lines blocks_sum
  within_first at s g (covered ps) (fine a b) =
      let l : length (line image s.here) ≤ 28 = goes-within image at s h g in
      let n : length (line image s.here ++ lines image ps) ≡ length (line image s.here) + length (lines image ps) = length-append (line image s.here) (lines image ps) in
      fine {ps = s.here ∷ ps} (omega (arith, g.some, g.past, g.inside)) (omega (arith, g.past, g.inside))
  within_first at s g (broken e) (stops a) = stops a

  walk-within : Within image 0 (walk image)
  unfolding lines blocks_sum
  walk-within =
      walk-by-steps image (Within image) (fine {ps = []} (omega arith) (omega arith)) within_first
      (λ at l f. stops {e = BadHeader f at} (omega arith)) (stops {e = ImageLength} (omega arith))

  length-by : (w : Walk) → Within image 0 w → length (text_by image w) ≤ 131_072
  unfolding text_by
  length-by (covered ps) (fine a b) =
      simp length-append (omega (arith, decimal-within 4 (blocks_sum ps) (omega arith)))
  length-by (broken e) (stops a) =
      simp length-append (omega (arith, decimal-within 1 (code_of e) (omega (arith, (code-range e).1)), decimal-within 4 (offset_of e) (omega arith)))

  pub text-by-fits : length (text_by image (walk image)) ≤ 131_072
  text-by-fits = length-by (walk image) walk-within

module _ (image : List ℕ) where
  pub text-too-long : 65_536 < length image → listing_text image ≡ too_long_text
  unfolding listing_text
  text-too-long h = rw (lt-ltb _ _ h, listing_text)

  pub text-by-walk : length image ≤ 65_536 → listing_text image ≡ text_by image (walk image)
  unfolding listing_text
  text-by-walk h = rw (le-ltb _ _ h, listing_text)

-- a text has at most 131,072 bytes
pub text-fits : (image : List ℕ) → length (listing_text image) ≤ 131_072
text-fits image =
    split (ltb 65_536 (length image)) (λ t. rw (text-too-long image (ltb-true _ _ t)) (omega arith))
    (λ t. let h : length image ≤ 65_536 = ltb-false _ _ t in rw (text-by-walk image h) (text-by-fits image h))

-- an image of which the lines are measured
pub record Told (image : List ℕ) (l : Lines) : Type 0 where
  pub all : List Partition
  pub so : walk image ≡ covered all
  pub bytes-so : l.bytes ≡ length (lines image all)
  pub blocks-so : l.blocks ≡ blocks_sum all

module _ (image : List ℕ) (l : Lines) (m : measured_of image ≡ Ok l) where
  told : Told image l
  unfolding measured_of measured_by
  told = go (walk image) refl m
    where
      go : (w : Walk) → walk image ≡ w → measured_by image w ≡ Ok l → Told image l
      go (covered ps) e q =
          let s : record { bytes = length (lines image ps); blocks = blocks_sum ps } ≡ l = cc in
          record { all = ps; so = e; bytes-so = λ i. (sym s i).bytes; blocks-so = λ i. (sym s i).blocks }
      go (broken x) e q = clash (cc)

  pub measured-covered : Covered image
  measured-covered = record { all = told.all; so = told.so }

  pub measured-pieces : heading ++ lines_of image ++ decimal l.blocks ++ blocks_word ≡ text_by image (walk image)
  unfolding text_by lines_of lines_by
  measured-pieces = rw (told.blocks-so, told.so)

  pub measured-lines : length (lines_of image) ≡ l.bytes
  unfolding lines_of lines_by
  measured-lines = rw told.so (sym told.bytes-so)

  pub measured-length : length (text_by image (walk image)) ≡ l.bytes + length (decimal l.blocks) + 27
  measured-length = sym (ap length measured-pieces) ∙ simp length-append (omega (arith, measured-lines))

-- what is known of an image of which the lines are measured
pub ruleset measured = (measured-covered, measured-lines)

pub measured-broken : (image : List ℕ) (e : Error) → measured_of image ≡ Err e → text_by [] (broken e) ≡ text_by image (walk image)
unfolding measured_of measured_by text_by
measured-broken image e m = go (walk image) m
  where
    go : (w : Walk) → measured_by image w ≡ Err e → text_by [] (broken e) ≡ text_by image w
    go (covered ps) q = clash (cc)
    go (broken x) q = let z : x ≡ e = cc in rw z
