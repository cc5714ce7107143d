-- For the code: what it answers, in terms of the scans, the stands and the pairs: offsets count from the area's first byte.
use Rattle.std.specs.Prelude.{ℕ, zero, suc, ◌+◌, Bool, ◌||◌, cond, List, length, get_or, leb, eqb, Option, Some, None, Result, Ok, Err}
use Rattle.lists.specs.Bytes.{same_bytes}
use Rattle.errors.specs.declared.AreaFault.{AreaFault}
use Rattle.errors.specs.declared.AreaFault.TheVariants.{AreaEnd, StoredName, Escape, Repeated}
use Rattle.errors.specs.declared.Error.{Error}
use Rattle.errors.specs.declared.Error.TheVariants.{BadArea}
use Rattle.pairs.specs.declared.Scanned.{Scanned}
use Rattle.pairs.specs.declared.Place.{Place}
use Rattle.pairs.specs.Scan.{Scan, ends, bad, short, Stand, pair, finish, cut, wrong_name, wrong_escape, stand_at}
use Rattle.pairs.specs.Area.{Parse, parsed, faulty, pairs_bytes}

-- whether a stored name ends at the offset at: its `=` stands there, or the area ends
unfoldable pub ends_at : List ℕ → ℕ → Bool
ends_at area at = leb (length area) at || eqb (get_or area at 0) 0x3D

-- the fault of an area that ends too early; long: its length
abbrev pub cut_off : ℕ → Error
cut_off long = BadArea AreaEnd long

-- where a scan that began at `from` ends; fault: what a byte that breaks its rule is; long: the area's length; at: the offset of what is left of it
unfoldable pub end_of : AreaFault → ℕ → ℕ → ℕ → Scan → Result ℕ Error
end_of fault long from at (ends bytes rest) = Ok (at + length bytes)
end_of fault long from at (bad k) = Err (BadArea fault (from + k))
end_of fault long from at short = Err (cut_off long)

-- a pair at the offset at, of this name and stored value
abbrev pub placed : ℕ → List ℕ → List ℕ → Place
placed at name stored = record { start = at; equals = at + length name; end = at + length name + 1 + length stored }

-- what stands at the offset at: a pair, nothing at the ending 0x00, or a fault; long: the area's length
unfoldable pub place_of : ℕ → ℕ → Stand → Result (Option Place) Error
place_of long at (pair name stored rest) = Ok (Some (placed at name stored))
place_of long at finish = Ok None
place_of long at cut = Err (cut_off long)
place_of long at (wrong_name k) = Err (BadArea StoredName (at + k))
place_of long at (wrong_escape k) = Err (BadArea Escape (at + k))

-- the number of pairs, the offset of the ending 0x00 and the place that was sought, or the first fault
unfoldable pub scanned_of : Parse → Option Place → Result Scanned Error
scanned_of (parsed ps) place = Ok (record { count = length ps; used = length (pairs_bytes ps); place = place })
scanned_of (faulty f at) place = Err (BadArea f at)

-- a repeat among the complete pairs is refused
unfoldable pub unrepeated : Option ℕ → Result Unit Error
unrepeated (Some at) = Err (BadArea Repeated at)
unrepeated None = Ok tt

-- at: the offset of what is left; go: the search in what follows a pair
abbrev pub on_find : Stand → List ℕ → ℕ → (ℕ → List ℕ → Option Place) → Option Place
on_find (pair n stored rest) name at go = cond (same_bytes name n) (Some (placed at n stored)) (go (at + length n + length stored + 2) rest)
on_find finish name at go = None
on_find cut name at go = None
on_find (wrong_name k) name at go = None
on_find (wrong_escape k) name at go = None

-- the first number bounds the pairs, and one more than the area's length is enough
unfoldable pub find_from : ℕ → List ℕ → ℕ → List ℕ → Option Place
find_from zero name at rest = None
find_from (suc n) name at rest = on_find (stand_at rest) name at (λ a r. find_from n name a r)

-- the first pair of that name
unfoldable pub find_at : List ℕ → List ℕ → Option Place
find_at area name = find_from (suc (length area)) name 0 area
