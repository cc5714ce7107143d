-- A header that is made: allowed exactly for the lengths that a header can hold, read back from its 16 bytes, and sound where it fits.
use Prim.Native.Nat.{ℕ, ◌+◌, ◌*◌, ◌/◌, ◌%◌, ◌≤◌, ◌<◌}
use mathlib.Core.Path.{◌≡◌, ap, refl, sym, ◌∙◌}
use mathlib.Core.Logic.{◌↔◌}
use mathlib.Core.Bool.{Bool, true, false, cond}
use mathlib.Core.List.{List, ◌∷◌}
use native.Mathlib.Omega.{arith}
use lib.ListN.{length as len, take, drop, length-take, length-drop}
use lib.Dec.{leb}
use borrow.Author.Tests.{leb-true, le-leb}
use Rattle.lists.specs.Bytes.{AllBytes}
use Rattle.std.specs.Prelude.{Result, Ok, Err}
use Rattle.lists.proofs.Tests.{clash, and-true}
use Rattle.header.specs.declared.Blocks.{Blocks}
use Rattle.header.specs.declared.Header.{Header}
use Rattle.header.specs.Checksum.{sum, sumcheck, closed_form}
use Rattle.header.specs.Header.{byte_at, name_at, header_at, covered_bytes, header_bytes, sealed, fits_header, new_header}
use Rattle.header.specs.Rules.{blocks_at, checksum_at, Sound}
use Rattle.header.proofs.SumLaws.{header-bytes}
use Rattle.header.proofs.ChecksumLaws.{closed-form}

module _ (signature : ℕ) (blocks : Blocks) (name : List ℕ) where
  -- the checksum covers these
  abbrev over : List ℕ
  over = signature ∷ blocks.0 / 256 % 256 ∷ blocks.0 % 256 ∷ name

  -- ALLOWED exactly for a length from 1 to 65,535
  pub allowed-exactly : (fits_header blocks ≡ true) ↔ ((1 ≤ blocks.0) × (blocks.0 ≤ 65535))
  unfolding fits_header
  allowed-exactly = (
    λ e. let t = and-true (leb 1 blocks.0) (leb blocks.0 65535) e in (leb-true _ _ t.0, leb-true _ _ t.1),
    λ h. rw (le-leb _ _ h.0, le-leb _ _ h.1),
  )

  -- the 16 bytes of such a header stand at an offset of an image
  module _ (allowed : fits_header blocks ≡ true) (twelve : len name ≡ 12) (image : List ℕ) (at : ℕ)
      (stands : take 16 (drop at image) ≡ header_bytes (sealed signature blocks name))
    where
      length-range : (1 ≤ blocks.0) × (blocks.0 ≤ 65535)
      length-range = allowed-exactly.0 allowed

      whole : at + 16 ≤ len image
      whole =
          let e : len (take 16 (drop at image)) ≡ 16 = ap len (stands) ∙ omega arith in
          omega (arith, length-take 16 (drop at image), length-drop at image)

      -- each field is read as it was written
      record Fields : Type 0 where
        signed : byte_at image at 0 ≡ signature
        sum_is : byte_at image at 1 ≡ sumcheck over
        high : byte_at image at 2 ≡ blocks.0 / 256 % 256
        low : byte_at image at 3 ≡ blocks.0 % 256
        named : name_at image at ≡ name

      fields : Fields
      fields =
          let e = sym (header-bytes image at whole) ∙ stands in
          record { signed = cc (e); sum_is = cc (e); high = cc (e); low = cc (e); named = cc (e) }

      blocks_is : byte_at image at 2 * 256 + byte_at image at 3 ≡ blocks.0
      blocks_is = omega (arith, fields.high, fields.low, length-range)

      -- IT READS BACK
      pub new-read : header_at image at ≡ sealed signature blocks name
      unfolding header_at
      new-read = λ i. record {
        signature = fields.signed i;
        checksum = fields.sum_is i;
        length = record { 0 = blocks_is i };
        name = fields.named i;
      }

      -- WITH THE FIELDS that it was made of
      pub new-fields : ((header_at image at).signature ≡ signature) × ((header_at image at).length ≡ blocks) × ((header_at image at).name ≡ name)
      unfolding header_at
      new-fields = (fields.signed, (λ i. record { 0 = blocks_is i }), fields.named)

      module _ (byte : signature < 256) (bytes : AllBytes name) where
        all : AllBytes over
        all = (byte, (omega arith, (omega arith, bytes)))

        -- AND IS SOUND where it fits
        pub new-sound : at + blocks.0 * 16 ≤ len image → Sound image at
        unfolding blocks_at checksum_at
        new-sound fits = record {
          nonzero = λ z. omega (arith, blocks_is, length-range);
          inside = omega (arith, blocks_is);
          agrees =
              fields.sum_is ∙ closed-form over all
              ∙ sym (λ i. closed_form (sum (fields.signed i ∷ fields.high i ∷ fields.low i ∷ fields.named i)));
        }

-- what an answer of `Header::new` says: its length is one that a header can hold, and the header is the sealed one
ok-fits : (fits : Bool) (h k : Header) → ◌≡◌ {A = Result Header Header} (cond fits (Ok h) (Err h)) (Ok k) → (fits ≡ true) × (k ≡ h)
ok-fits true h k e = (refl, cc (e))
ok-fits false h k e = clash (cc (e))

-- the same of what `Header::new` answers
module _ (signature : ℕ) (blocks : Blocks) (name : List ℕ) where
  -- it answers the header with the right checksum by the test of its length
  pub new-answer : (fits : Bool) (sum : ℕ) → fits ≡ fits_header blocks
      → sum ≡ sumcheck (covered_bytes (record { signature = signature; checksum = 0; length = blocks; name = name }))
      → (let h : Header = record { signature = signature; checksum = sum; length = blocks; name = name } in ◌≡◌ {A = Result Header Header} (cond fits (Ok h) (Err h)) (new_header signature blocks name))
  unfolding new_header
  new-answer fits sum f s =
      λ i. cond (f i) (Ok (record { signature = signature; checksum = s i; length = blocks; name = name }))
      (Err (record { signature = signature; checksum = s i; length = blocks; name = name }))

  -- OK exactly for a length from 1 to 65,535
  pub new-exactly : (new_header signature blocks name ≡ Ok (sealed signature blocks name)) ↔ ((1 ≤ blocks.0) × (blocks.0 ≤ 65535))
  unfolding new_header
  new-exactly = (
    λ e. (allowed-exactly signature blocks name).0 (ok-fits (fits_header blocks) (sealed signature blocks name) (sealed signature blocks name) e).0,
    λ h. rw ((allowed-exactly signature blocks name).1 h),
  )

  -- for any other length it is refused, with the same header
  pub new-refused : fits_header blocks ≡ false → new_header signature blocks name ≡ Err (sealed signature blocks name)
  unfolding new_header
  new-refused e = rw e

  module _ (h : Header) (made : new_header signature blocks name ≡ Ok h) where
    pub new-sealed : (fits_header blocks ≡ true) × (h ≡ sealed signature blocks name)
    unfolding new_header
    new-sealed = ok-fits (fits_header blocks) (sealed signature blocks name) h made

    -- the 16 bytes of the header that it answers stand at an offset of an image
    module _ (twelve : len name ≡ 12) (image : List ℕ) (at : ℕ) (stands : take 16 (drop at image) ≡ header_bytes h) where
      stands-sealed : take 16 (drop at image) ≡ header_bytes (sealed signature blocks name)
      stands-sealed = stands ∙ ap header_bytes new-sealed.1

      pub made-read : header_at image at ≡ h
      made-read = new-read signature blocks name new-sealed.0 twelve image at stands-sealed ∙ sym new-sealed.1

      pub made-fields : ((header_at image at).signature ≡ signature) × ((header_at image at).length ≡ blocks) × ((header_at image at).name ≡ name)
      made-fields = new-fields signature blocks name new-sealed.0 twelve image at stands-sealed

      pub made-sound : signature < 256 → AllBytes name → at + blocks.0 * 16 ≤ len image → Sound image at
      made-sound byte bytes fits = new-sound signature blocks name new-sealed.0 twelve image at stands-sealed byte bytes fits
