-- For the loops: how far they go byte by byte, a part of a list, and a stored value made canonical in its place.
use Rattle.std.specs.Prelude.{ℕ, ◌+◌, ◌-◌, Bool, true, false, ◌&&◌, cond, List, [], ◌∷◌, length, take, drop, leb, ltb, eqb, Option, Some, None}
use Rattle.lists.specs.Pasted.{pasted}
use Rattle.values.specs.Value.{decode, spelled, encode}

-- ---- the offsets up to which a loop takes bytes one by one before it looks for a long piece, in a list of `len` bytes

-- the first: the start at once, or the end where there are fewer than 16 bytes
unfoldable pub first_stop : ℕ → ℕ
first_stop len = cond (ltb len 16) len 0

-- the next after `from`: 128 bytes on, or the end where fewer are left
unfoldable pub next_stop : ℕ → ℕ → ℕ
next_stop from len = cond (ltb (len - from) 128) len (from + 128)

-- ---- a part of a list

-- the bytes from `from` up to `to`
unfoldable pub part : List ℕ → ℕ → ℕ → List ℕ
part l from to = take (to - from) (drop from l)

-- ---- stored bytes that are read piece by piece

-- whether an escape's 0xFF ends the bytes; after: the byte before them was one
unfoldable pub opened : Bool → List ℕ → Bool
opened after [] = after
opened true (c ∷ bs) = opened false bs
opened false (b ∷ bs) = opened (eqb b 0xFF) bs

-- ---- a stored value made canonical in its place

-- at ≤ from ≤ to ≤ length, and the bytes from `from` up to `to` stand for a value
unfoldable pub recodable : List ℕ → ℕ → ℕ → ℕ → Bool
recodable area from to at = leb at from && leb from to && leb to (length area) && spelled (part area from to)

-- the canonical form of the value that they stand for
unfoldable pub recoded : List ℕ → ℕ → ℕ → List ℕ
recoded area from to = encode (decode (part area from to))

-- the answer: its length
unfoldable pub recoded_of : List ℕ → ℕ → ℕ → ℕ → Option ℕ
recoded_of area from to at = cond (recodable area from to at) (Some (length (recoded area from to))) None

-- the area afterwards: the canonical form is written at `at`
unfoldable pub recoded_in : List ℕ → ℕ → ℕ → ℕ → List ℕ
recoded_in area from to at = cond (recodable area from to at) (pasted area at (recoded area from to)) area
