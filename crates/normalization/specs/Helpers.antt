-- For the code that makes values canonical: what it takes and leaves, by offsets of the area.
use Rattle.std.specs.Prelude.{ℕ, ◌+◌, ◌-◌, ◌≤◌, ◌<◌, ◌≡◌, true, List, [], ◌∷◌, ◌++◌, length, take, drop}
use Rattle.values.specs.Value.{spelled}
use Rattle.values.specs.Helpers.{part, recoded}
use Rattle.pairs.specs.declared.Place.{Place}
use Rattle.pairs.specs.Area.{Pair, pairs_bytes, Parse, parse, parsed, faulty}
use Rattle.variables.specs.Edits.{normalize_pairs}

-- a pair can be made canonical at `to`
pub record PairMoves (d : List ℕ) (p : Place) (to : ℕ) : Type 0 where
  pub before : to ≤ p.start
  pub order : p.start ≤ p.equals
  pub value : p.equals < p.end
  pub inside : p.end < length d
  pub valid : spelled (part d (p.equals + 1) p.end) ≡ true

-- its name and `=`, its value in canonical form, and 0x00
unfoldable pub pair_recoded : List ℕ → Place → List ℕ
pair_recoded d p = take (p.equals + 1 - p.start) (drop p.start d) ++ (recoded d (p.equals + 1) p.end ++ 0x00 ∷ [])

-- an area without a fault
pub record Parses (area : List ℕ) : Type 0 where
  pub pairs : List Pair
  pub reads : parse area ≡ parsed pairs

-- the bytes of its pairs, every value in canonical form
unfoldable pub normalized_bytes : Parse → List ℕ
normalized_bytes (parsed ps) = pairs_bytes (normalize_pairs ps)
normalized_bytes (faulty f at) = []
