-- Whether two names of partitions are the same, computed.
use Rattle.std.specs.Prelude.{ℕ, ◌-◌, Bool, true, false, ◌&&◌, ◌||◌, List, [], ◌∷◌, ◌++◌, length, replicate, leb, eqb}

-- whether two names are the same: byte by byte, up to and with the first 0x00
unfoldable pub same_name : List ℕ → List ℕ → Bool
same_name [] [] = true
same_name [] (y ∷ ys) = false
same_name (x ∷ xs) [] = false
same_name (x ∷ xs) (y ∷ ys) = eqb x y && (eqb x 0x00 || same_name xs ys)

-- a name padded with 0x00 to twelve bytes; a longer one stays as it is
unfoldable pub padded : List ℕ → List ℕ
padded name = name ++ replicate (12 - length name) 0x00

-- whether a stored name matches the one that a caller gives
unfoldable pub matches_name : List ℕ → List ℕ → Bool
matches_name stored given = eqb (length stored) 12 && (leb (length given) 12 && same_name stored (padded given))
