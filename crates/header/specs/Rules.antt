-- The rules of a header, by the bytes of the image; nothing here computes an answer.
use Rattle.std.specs.Prelude.{ℕ, ◌+◌, ◌*◌, ◌≤◌, ◌<◌, ◌≡◌, ◌≢◌, List, ◌∷◌, length, ⊤}
use Rattle.errors.specs.declared.HeaderFault.{HeaderFault}
use Rattle.errors.specs.declared.HeaderFault.TheVariants.{ZeroLength, PastEnd, Checksum}
use Rattle.errors.specs.declared.Answer.{Answer}
use Rattle.header.specs.Checksum.{sum, closed_form}
use Rattle.header.specs.Header.{byte_at, name_at}

-- the blocks that a header counts, high byte first
unfoldable pub blocks_at : List ℕ → ℕ → ℕ
blocks_at image at = byte_at image at 2 * 256 + byte_at image at 3

-- the closed form of the checksum of the 15 covered bytes
unfoldable pub checksum_at : List ℕ → ℕ → ℕ
checksum_at image at =
    closed_form (sum (byte_at image at 0 ∷ byte_at image at 2 ∷ byte_at image at 3 ∷ name_at image at))

-- a header that keeps every rule (document 01: a sound partition begins here); that its checksum is not zero follows, `sound-checksum`
pub record Sound (image : List ℕ) (at : ℕ) : Type 0 where
  pub nonzero : blocks_at image at ≢ 0
  pub inside : at + blocks_at image at * 16 ≤ length image
  pub agrees : byte_at image at 1 ≡ checksum_at image at

-- the first rule that a header breaks: one case for each of 2, 3, 4, the earlier ones kept
pub data Breaks (image : List ℕ) (at : ℕ) : HeaderFault → Type 0 where
  two : blocks_at image at ≡ 0 → Breaks image at ZeroLength
  three : blocks_at image at ≢ 0 → length image < at + blocks_at image at * 16 → Breaks image at PastEnd
  four : blocks_at image at ≢ 0 → at + blocks_at image at * 16 ≤ length image
      → byte_at image at 1 ≢ checksum_at image at → Breaks image at Checksum

-- what a caller sees of a header: 0 for a sound one, else the code of the first rule that it breaks, and its offset
pub data HeaderRow (image : List ℕ) (at : ℕ) : Answer ⊤ → Type 0 where
  is-sound : Sound image at → HeaderRow image at (record { code = 0; offset = 0; value = tt })
  is-two : Breaks image at ZeroLength → HeaderRow image at (record { code = 2; offset = at; value = tt })
  is-three : Breaks image at PastEnd → HeaderRow image at (record { code = 3; offset = at; value = tt })
  is-four : Breaks image at Checksum → HeaderRow image at (record { code = 4; offset = at; value = tt })
