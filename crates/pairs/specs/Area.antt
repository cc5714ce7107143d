-- The variable area: pairs, the ending 0x00, padding; and its faults 7 to 10, whose offsets count from the area's first byte.
use Rattle.std.specs.Prelude.{ℕ, zero, suc, ◌+◌, cond, List, [], ◌∷◌, ◌++◌, length}
use Rattle.lists.specs.Bytes.{stands}
use Rattle.errors.specs.declared.AreaFault.{AreaFault}
use Rattle.errors.specs.declared.AreaFault.TheVariants.{AreaEnd, StoredName, Escape, Repeated}
use Rattle.pairs.specs.Scan.{Stand, pair, finish, cut, wrong_name, wrong_escape, stand_at}

-- a stored pair: its name, and its value as it is stored
pub record Pair : Type 0 where
  pub name : List ℕ
  pub stored : List ℕ

-- a pair of this name and stored value
abbrev pub pair_of : List ℕ → List ℕ → Pair
pair_of name stored = record { name = name; stored = stored }

-- name, `=`, value, 0x00
unfoldable pub pair_bytes : Pair → List ℕ
pair_bytes p = p.name ++ 0x3D ∷ (p.stored ++ 0x00 ∷ [])

-- pairs one after the other
unfoldable pub pairs_bytes : List Pair → List ℕ
pairs_bytes [] = []
pairs_bytes (p ∷ ps) = pair_bytes p ++ pairs_bytes ps

-- the pairs of an area, or its first fault and the offset that decides it
pub data Parse : Type 0 where
  parsed : List Pair → Parse
  faulty : AreaFault → ℕ → Parse

-- a pair put before what a parse finds
abbrev pub first_pair : Pair → Parse → Parse
first_pair p (parsed ps) = parsed (p ∷ ps)
first_pair p (faulty f at) = faulty f at

-- seen: the names before; at: the offset of what is left; past: the area's length; go: the parse of what follows a pair
abbrev pub on_stand : Stand → List (List ℕ) → ℕ → ℕ → (List (List ℕ) → ℕ → List ℕ → Parse) → Parse
on_stand (pair name stored rest) seen at past go =
    cond (stands name seen) (faulty Repeated at)
    (first_pair (pair_of name stored) (go (name ∷ seen) (at + length name + length stored + 2) rest))
on_stand finish seen at past go = parsed []
on_stand cut seen at past go = faulty AreaEnd past
on_stand (wrong_name k) seen at past go = faulty StoredName (at + k)
on_stand (wrong_escape k) seen at past go = faulty Escape (at + k)

-- the first number bounds the pairs, and one more than the area's length is enough
unfoldable pub parse_from : ℕ → List (List ℕ) → ℕ → ℕ → List ℕ → Parse
parse_from zero seen at past rest = faulty AreaEnd past
parse_from (suc n) seen at past rest = on_stand (stand_at rest) seen at past (λ s a r. parse_from n s a past r)

-- the pairs of an area
unfoldable pub parse : List ℕ → Parse
parse area = parse_from (suc (length area)) [] 0 (length area) area
