-- What stands where a pair would begin: a scan of a name up to its `=`, and of a value up to its 0x00.
use Rattle.std.specs.Prelude.{ℕ, ◌+◌, Bool, true, false, ◌||◌, List, [], ◌∷◌, length, drop, eqb}
use Rattle.names.specs.Name.{name_check, on_check}

-- what a scan finds: its bytes and what follows the byte that ends it, or how far on the first byte is that breaks the rule, or that the area ends first
pub data Scan : Type 0 where
  ends : List ℕ → List ℕ → Scan
  bad : ℕ → Scan
  short : Scan

-- one byte more in front
abbrev pub and : ℕ → Scan → Scan
and b (ends bs rest) = ends (b ∷ bs) rest
and b (bad k) = bad k
and b short = short

-- the stored name at the start of these bytes: those before the first `=`, or all where there is none
unfoldable pub stored_name : List ℕ → List ℕ
stored_name [] = []
stored_name (b ∷ bs) = elim (eqb b 0x3D) [ true ↦ [] | false ↦ b ∷ stored_name bs ]

-- what follows it: the `=` and the rest, or the area's end
abbrev pub past_name : List ℕ → List ℕ → Scan
past_name name [] = short
past_name name (b ∷ rest) = ends name rest

-- a stored name is checked as a caller's is
unfoldable pub scan_name : List ℕ → Scan
scan_name bs = on_check (name_check (stored_name bs)) (past_name (stored_name bs) (drop (length (stored_name bs)) bs)) bad

-- k bytes of the stored value have been read; after: the last one was an escape's 0xFF, which 0x00 and 0x80 must not follow
unfoldable pub scan_value : Bool → ℕ → List ℕ → Scan
scan_value after k [] = short
scan_value true k (c ∷ bs) = elim (eqb c 0x00 || eqb c 0x80) [ true ↦ bad k | false ↦ and c (scan_value false (k + 1) bs) ]
scan_value false k (b ∷ bs) = elim (eqb b 0x00) [ true ↦ ends [] bs | false ↦ and b (scan_value (eqb b 0xFF) (k + 1) bs) ]

-- what stands there: a pair (name, stored value, what follows its 0x00), the 0x00 that ends the pairs, or the fault 7, or 8 or 9 so many bytes further on
pub data Stand : Type 0 where
  pair : List ℕ → List ℕ → List ℕ → Stand
  finish : Stand
  cut : Stand
  wrong_name : ℕ → Stand
  wrong_escape : ℕ → Stand

-- what stands there, by the scan of the value after a good name
abbrev pub on_value : List ℕ → Scan → Stand
on_value name (ends stored rest) = pair name stored rest
on_value name (bad k) = wrong_escape (length name + 1 + k)
on_value name short = cut

-- what stands there, by the scan of the name
abbrev pub on_name : Scan → Stand
on_name (ends name after) = on_value name (scan_value false 0 after)
on_name (bad k) = wrong_name k
on_name short = cut

-- what stands at the start of these bytes
unfoldable pub stand_at : List ℕ → Stand
stand_at [] = cut
stand_at (b ∷ bs) = elim (eqb b 0x00) [ true ↦ finish | false ↦ on_name (scan_name (b ∷ bs)) ]
