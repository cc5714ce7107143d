-- The header of a partition: 16 bytes of signature, checksum, length and name.
use Rattle.std.specs.Prelude.{ℕ, ◌+◌, ◌-◌, ◌*◌, ◌/◌, ◌%◌, not, ◌&&◌, cond, List, [], ◌∷◌, length, get_or, leb, ltb, eqb, Bool, ⊤, Result, Ok, Err}
use Rattle.header.specs.declared.Blocks.{Blocks}
use Rattle.header.specs.declared.Bytes.{Bytes}
use Rattle.header.specs.declared.Header.{Header}
use Rattle.errors.specs.declared.Error.{Error}
use Rattle.errors.specs.declared.Answer.{Answer}
use Rattle.errors.specs.Answer.{answer_of}
use Rattle.errors.specs.declared.HeaderFault.TheVariants.{ZeroLength, PastEnd, Checksum}
use Rattle.errors.specs.declared.Error.TheVariants.{BadHeader}
use Rattle.header.specs.Checksum.{sumcheck}

-- 16 bytes to a block
abbrev pub bytes_of : Blocks → Bytes
bytes_of b = record { 0 = b.0 * 16 }

-- the byte k places after an offset, 0 past the image's end
abbrev pub byte_at : List ℕ → ℕ → ℕ → ℕ
byte_at image at k = get_or image (at + k) 0

-- the twelve bytes of the name in the header at an offset
unfoldable pub name_at : List ℕ → ℕ → List ℕ
name_at image at =
    byte_at image at 4 ∷ byte_at image at 5 ∷ byte_at image at 6 ∷ byte_at image at 7
    ∷ byte_at image at 8 ∷ byte_at image at 9 ∷ byte_at image at 10 ∷ byte_at image at 11
    ∷ byte_at image at 12 ∷ byte_at image at 13 ∷ byte_at image at 14 ∷ byte_at image at 15 ∷ []

-- the header at an offset: signature 1 byte, checksum 1, length 2 with the high byte first, name 12
unfoldable pub header_at : List ℕ → ℕ → Header
header_at image at =
    record {
      signature = byte_at image at 0;
      checksum = byte_at image at 1;
      length = record { 0 = byte_at image at 2 * 256 + byte_at image at 3 };
      name = name_at image at;
    }

-- the 15 bytes that the checksum covers: signature, length and name
abbrev pub covered_bytes : Header → List ℕ
covered_bytes h = h.signature ∷ h.length.0 / 256 % 256 ∷ h.length.0 % 256 ∷ h.name

-- the 16 bytes of a header as they stand in an image, the length's high byte first
abbrev pub header_bytes : Header → List ℕ
header_bytes h = h.signature ∷ h.checksum ∷ h.length.0 / 256 % 256 ∷ h.length.0 % 256 ∷ h.name

-- the header of these fields, with the checksum that is right for them
abbrev pub sealed : ℕ → Blocks → List ℕ → Header
sealed signature blocks name =
    record {
      signature = signature;
      checksum = sumcheck (covered_bytes (record { signature = signature; checksum = 0; length = blocks; name = name }));
      length = blocks;
      name = name;
    }

-- whether a header can hold a length: one from 1 to 65,535
unfoldable pub fits_header : Blocks → Bool
fits_header blocks = leb 1 blocks.0 && leb blocks.0 65535

-- that header, Ok where a header can hold its length, and Err with the same header where none can
unfoldable pub new_header : ℕ → Blocks → List ℕ → Result Header Header
new_header signature blocks name = cond (fits_header blocks) (Ok (sealed signature blocks name)) (Err (sealed signature blocks name))

-- what the rules say of a header: nothing, or the first rule that it breaks
abbrev pub Validity : Type 0
Validity = Result ⊤ Error

-- the first rule broken by a length, a stored and a computed checksum, at an offset with so many bytes of the image left
abbrev pub first_broken : Blocks → ℕ → ℕ → ℕ → ℕ → Validity
first_broken blocks stored computed at room =
    cond (eqb blocks.0 0) (Err (BadHeader ZeroLength at))
    (cond (ltb room (bytes_of blocks).0) (Err (BadHeader PastEnd at))
    (cond (not (eqb stored computed)) (Err (BadHeader Checksum at))
    (Ok tt)))

-- the first rule that a header breaks, where it stands there
unfoldable pub validity_of : Header → ℕ → ℕ → Validity
validity_of h at room = first_broken h.length h.checksum (sumcheck (covered_bytes h)) at room

-- the first rule that the header at an offset of an image breaks
unfoldable pub validity_at : List ℕ → ℕ → Validity
validity_at image at = validity_of (header_at image at) at (length image - at)

-- the code and the offset that a caller sees of it
abbrev pub validity_answer : Validity → Answer ⊤
validity_answer checked = answer_of tt checked
