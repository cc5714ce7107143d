-- The text of a listing in the paper's words. Nothing here computes an answer.
use Rattle.std.specs.Prelude.{ℕ, ◌+◌, ◌-◌, ◌*◌, ◌≤◌, ◌<◌, ◌≡◌, ◌≢◌, List, [], ◌∷◌, ◌++◌, length, get_or, drop}
use Rattle.lists.specs.Bytes.{Every}
use Rattle.errors.specs.declared.Error.{Error}
use Rattle.errors.specs.Errors.{code_of, offset_of}
use Rattle.header.specs.Header.{name_at}
use Rattle.partitions.specs.declared.Partition.{Partition}
use Rattle.partitions.specs.Cover.{Accepted, Rejected}
use Rattle.listing.specs.Words.{heading, blocks_word, refused_word, at_word, too_long_text}

-- `0` to `9`
pub record Digit (d : ℕ) : Type 0 where
  pub least : 0x30 ≤ d
  pub most : d ≤ 0x39

-- the number that digits spell, the first of them the highest, after a number that was read before them
unfoldable pub number_from : ℕ → List ℕ → ℕ
number_from n [] = n
number_from n (d ∷ ds) = number_from (n * 10 + (d - 0x30)) ds

-- the number that digits spell
unfoldable pub number : List ℕ → ℕ
number ds = number_from 0 ds

-- a number in decimal: digits that spell it, with no leading zero; the number 0 is the one digit `0`
pub record Decimal (n : ℕ) (ds : List ℕ) : Type 0 where
  pub some : 1 ≤ length ds
  pub digits : Every Digit ds
  pub first : 2 ≤ length ds → get_or ds 0 0 ≢ 0x30
  pub value : number ds ≡ n

-- a hex digit, and what it stands for: `0` to `9`, or a capital from `A` to `F`
pub data HexDigit : ℕ → ℕ → Type 0 where
  digit : {n : ℕ} → n ≤ 9 → HexDigit (0x30 + n) n
  capital : {n : ℕ} → n ≤ 5 → HexDigit (0x41 + n) (10 + n)

-- a byte in two hex digits: the one of its high half, then the one of its low half
pub data HexByte : ℕ → List ℕ → Type 0 where
  halves : {x y high low : ℕ} → HexDigit x high → HexDigit y low → HexByte (high * 16 + low) (x ∷ y ∷ [])

-- a byte of a name as it is shown: itself from 0x21 to 0x7E, else `?`
pub data ShownByte : ℕ → ℕ → Type 0 where
  itself : {b : ℕ} → 0x21 ≤ b → b ≤ 0x7E → ShownByte b b
  below : {b : ℕ} → b < 0x21 → ShownByte b 0x3F
  above : {b : ℕ} → 0x7E < b → ShownByte b 0x3F

-- each byte as it is shown
pub data Shown : List ℕ → List ℕ → Type 0 where
  none : Shown [] []
  byte : {b c : ℕ} {bs cs : List ℕ} → ShownByte b c → Shown bs cs → Shown (b ∷ bs) (c ∷ cs)

-- the bytes of a header's name before the first 0x00, or all of them where none is 0x00
pub data Ends : List ℕ → List ℕ → Type 0 where
  at_zero : {name : List ℕ} (padding : List ℕ) → Every (λ b. b ≢ 0x00) name → Ends (name ++ 0x00 ∷ padding) name
  at_last : {name : List ℕ} → Every (λ b. b ≢ 0x00) name → Ends name name

-- a header's name as it is shown
pub record ShownName (field text : List ℕ) : Type 0 where
  pub name : List ℕ
  pub ends : Ends field name
  pub shown : Shown name text

-- a partition's line: offset, blocks, signature and name, one space between them (before an empty name too), and 0x0A
pub data Line (image : List ℕ) (p : Partition) : List ℕ → Type 0 where
  fields : {at blocks signature name : List ℕ} → Decimal p.offset at → Decimal p.blocks.0 blocks
      → HexByte p.signature signature → ShownName (name_at image p.offset) name
      → Line image p (at ++ 0x20 ∷ blocks ++ 0x20 ∷ signature ++ 0x20 ∷ name ++ 0x0A ∷ [])

-- a line for each partition, in their order
pub data EachLine (image : List ℕ) : List Partition → List ℕ → Type 0 where
  none : EachLine image [] []
  next : {p : Partition} {ps : List Partition} {line text : List ℕ} → Line image p line → EachLine image ps text
      → EachLine image (p ∷ ps) (line ++ text)

-- the sum of the partitions' blocks
pub data BlockSum : List Partition → ℕ → Type 0 where
  none : BlockSum [] 0
  next : {p : Partition} {ps : List Partition} {n : ℕ} → BlockSum ps n → BlockSum (p ∷ ps) (p.blocks.0 + n)

-- the text of an image's listing: too long above 65,536 bytes; else `refused N at P` where the image is refused, and
-- where it is accepted the heading, a line for each partition, and the sum of their blocks
pub data Listing (image : List ℕ) : List ℕ → Type 0 where
  too_long : 65_536 < length image → Listing image too_long_text
  refused : {e : Error} {code at : List ℕ} → length image ≤ 65_536 → Rejected image e → Decimal (code_of e) code
      → Decimal (offset_of e) at → Listing image (refused_word ++ code ++ at_word ++ at ++ 0x0A ∷ [])
  accepted : {ps : List Partition} {n : ℕ} {lines sum : List ℕ} → length image ≤ 65_536 → Accepted image ps
      → EachLine image ps lines → BlockSum ps n → Decimal n sum → Listing image (heading ++ lines ++ sum ++ blocks_word)

-- all that a caller sees of a listing into a lent buffer: code, length, and the buffer afterwards
pub record ListSeen : Type 0 where
  pub code : ℕ
  pub amount : ℕ
  pub buffer : List ℕ

-- a row for each code
pub data ListRow (image lent : List ℕ) : ListSeen → Type 0 where
  -- done: the text's length, the text at the buffer's start, and the bytes after it kept
  done : {text : List ℕ} → Listing image text → length text ≤ length lent
      → ListRow image lent (record { code = 0; amount = length text; buffer = text ++ drop (length text) lent })
  -- caller's buffer shorter than the text: the length is 0, and the buffer as it was
  fourteen : {text : List ℕ} → Listing image text → length lent < length text
      → ListRow image lent (record { code = 14; amount = 0; buffer = lent })
