-- Bytes as pieces: a piece begins at 0 and after each 0x00, and its name is what stands before its first `=` or 0x00 or the end.
use Rattle.std.specs.Prelude.{ℕ, ◌+◌, Bool, true, false, ◌||◌, List, [], ◌∷◌, drop, eqb, Option, Some, None}
use Rattle.lists.specs.Bytes.{stands}

-- `=` and 0x00 end a name
unfoldable pub ends_name : ℕ → Bool
ends_name b = eqb b 0x3D || eqb b 0x00

-- the name at the start of these bytes
unfoldable pub name_of : List ℕ → List ℕ
name_of [] = []
name_of (b ∷ bs) = elim (ends_name b) [ true ↦ [] | false ↦ b ∷ name_of bs ]

-- the name of the piece that begins at an offset
unfoldable pub piece_name : List ℕ → ℕ → List ℕ
piece_name l at = name_of (drop at l)

-- the offsets at which a piece begins; fresh: one begins at the first of these bytes, whose offset is at
unfoldable pub starts_from : Bool → ℕ → List ℕ → List ℕ
starts_from fresh at [] = []
starts_from true at (b ∷ bs) = at ∷ starts_from (eqb b 0x00) (at + 1) bs
starts_from false at (b ∷ bs) = starts_from (eqb b 0x00) (at + 1) bs

-- the offsets at which the pieces begin
unfoldable pub starts : List ℕ → List ℕ
starts l = starts_from true 0 l

-- the first of these starts whose name stood before; seen: the names before them
unfoldable pub repeat_in : List ℕ → List (List ℕ) → List ℕ → Option ℕ
repeat_in l seen [] = None
repeat_in l seen (s ∷ ss) = elim (stands (piece_name l s) seen) [ true ↦ Some s | false ↦ repeat_in l (piece_name l s ∷ seen) ss ]

-- where the first piece begins whose name stood before
unfoldable pub first_repeat : List ℕ → Option ℕ
first_repeat l = repeat_in l [] (starts l)
