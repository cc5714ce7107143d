-- What each edit makes of the pairs, and the area that is written of them.
use Rattle.std.specs.Prelude.{ℕ, ◌+◌, ◌-◌, true, false, List, [], ◌∷◌, ◌++◌, length, replicate}
use Rattle.lists.specs.Bytes.{same_bytes}
use Rattle.values.specs.Value.{decode, encode}
use Rattle.pairs.specs.Area.{Pair, pair_of, pairs_bytes}

-- the pairs, the ending 0x00, and 0x00 to the area's end
unfoldable pub area_bytes : ℕ → List Pair → List ℕ
area_bytes size ps = pairs_bytes ps ++ 0x00 ∷ replicate (size - (length (pairs_bytes ps) + 1)) 0x00

-- a new pair is in canonical form
abbrev pub canonical_pair : List ℕ → List ℕ → Pair
canonical_pair name value = pair_of name (encode value)

-- the pair of that name is replaced where it stands, or added after the last
unfoldable pub set_pair : List ℕ → List ℕ → List Pair → List Pair
set_pair name value [] = canonical_pair name value ∷ []
set_pair name value (p ∷ ps) =
    elim (same_bytes name p.name) [ true ↦ canonical_pair name value ∷ ps | false ↦ p ∷ set_pair name value ps ]

-- the pair of that name is taken out
unfoldable pub remove_pair : List ℕ → List Pair → List Pair
remove_pair name [] = []
remove_pair name (p ∷ ps) = elim (same_bytes name p.name) [ true ↦ ps | false ↦ p ∷ remove_pair name ps ]

-- every value in canonical form (document 01: tidying)
unfoldable pub normalize_pairs : List Pair → List Pair
normalize_pairs [] = []
normalize_pairs (p ∷ ps) = canonical_pair p.name (decode p.stored) ∷ normalize_pairs ps

-- a variable's value, if it stands
pub data Lookup : Type 0 where
  found : List ℕ → Lookup
  missing : Lookup

-- the value of the first pair of that name
unfoldable pub lookup : List ℕ → List Pair → Lookup
lookup name [] = missing
lookup name (p ∷ ps) = elim (same_bytes name p.name) [ true ↦ found (decode p.stored) | false ↦ lookup name ps ]
