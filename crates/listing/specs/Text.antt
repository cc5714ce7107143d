-- The text of a listing, as `nvlist` prints it.
use Rattle.std.specs.Prelude.{ℕ, zero, suc, ◌+◌, ◌/◌, ◌%◌, true, false, cond, ◌&&◌, List, [], ◌∷◌, ◌++◌, length, leb, ltb, eqb}
use Rattle.errors.specs.Errors.{code_of, offset_of}
use Rattle.header.specs.Header.{name_at}
use Rattle.partitions.specs.declared.Partition.{Partition}
use Rattle.partitions.specs.Walk.{Walk, covered, broken, walk}
use Rattle.listing.specs.Words.{heading, blocks_word, refused_word, at_word, too_long_text}

-- a number in decimal digits, without leading zeros; the first number bounds the digits
unfoldable pub decimal_from : ℕ → ℕ → List ℕ
decimal_from zero n = (48 + n % 10) ∷ []
decimal_from (suc f) n =
    elim (ltb n 10) [ true ↦ (48 + n) ∷ [] | false ↦ decimal_from f (n / 10) ++ (48 + n % 10) ∷ [] ]

-- the number itself is bound enough
unfoldable pub decimal : ℕ → List ℕ
decimal n = decimal_from n n

-- one hex digit, in capitals
unfoldable pub hex_digit : ℕ → ℕ
hex_digit n = cond (ltb n 10) (48 + n) (55 + n)

-- a signature in two hex digits
unfoldable pub hex_byte : ℕ → List ℕ
hex_byte b = hex_digit (b / 16) ∷ hex_digit (b % 16) ∷ []

-- a byte of a name: outside 0x21 to 0x7E it shows as `?`
unfoldable pub visible : ℕ → ℕ
visible b = cond (leb 0x21 b && leb b 0x7E) b 0x3F

-- a name ends at its first 0x00
unfoldable pub shown_name : List ℕ → List ℕ
shown_name [] = []
shown_name (b ∷ bs) = elim (eqb b 0) [ true ↦ [] | false ↦ visible b ∷ shown_name bs ]

-- a partition's line: offset, blocks, signature and name, one space between them, and 0x0A
unfoldable pub line : List ℕ → Partition → List ℕ
line image p =
    decimal p.offset ++ 0x20 ∷ decimal p.blocks.0 ++ 0x20 ∷ hex_byte p.signature ++ 0x20
    ∷ shown_name (name_at image p.offset) ++ 0x0A ∷ []

-- a line for each partition
unfoldable pub lines : List ℕ → List Partition → List ℕ
lines image [] = []
lines image (p ∷ ps) = line image p ++ lines image ps

-- the blocks of all partitions
unfoldable pub blocks_sum : List Partition → ℕ
blocks_sum [] = 0
blocks_sum (p ∷ ps) = p.blocks.0 + blocks_sum ps

-- an accepted image: the heading, a line for each partition, the sum of blocks; a refused one: `refused N at P`
unfoldable pub text_by : List ℕ → Walk → List ℕ
text_by image (covered ps) = heading ++ lines image ps ++ decimal (blocks_sum ps) ++ blocks_word
text_by image (broken e) = refused_word ++ decimal (code_of e) ++ at_word ++ decimal (offset_of e) ++ 0x0A ∷ []

-- an image above 65,536 bytes is too long for a listing
unfoldable pub listing_text : List ℕ → List ℕ
listing_text image = elim (ltb 65_536 (length image)) [ true ↦ too_long_text | false ↦ text_by image (walk image) ]
