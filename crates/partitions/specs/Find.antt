-- The image check, a partition by its index or by its signature and name, the first or the only one, and its data area.
use Rattle.std.specs.Prelude.{ℕ, zero, suc, ◌+◌, ◌-◌, Bool, ◌&&◌, cond, List, [], ◌∷◌, length, take, drop, eqb, Result, Ok, Err}
use Rattle.errors.specs.declared.Error.{Error}
use Rattle.errors.specs.declared.Error.TheVariants.{NoPartition, RepeatedPartition}
use Rattle.header.specs.Header.{header_at, bytes_of}
use Rattle.partition_name.specs.Name.{matches_name}
use Rattle.partitions.specs.declared.Partition.{Partition}
use Rattle.partitions.specs.Walk.{Walk, covered, broken, walk}

-- the image check counts the partitions of the walk
unfoldable pub checked_by : Walk → Result ℕ Error
checked_by (covered ps) = Ok (length ps)
checked_by (broken e) = Err e

-- the check of an image
unfoldable pub check_of : List ℕ → Result ℕ Error
check_of image = checked_by (walk image)

-- what looking for a partition finds
abbrev pub Found : Type 0
Found = Result Partition Error

-- the partition of an index from 0; code 6 where there is none
unfoldable pub at_index : ℕ → List Partition → Found
at_index n [] = Err NoPartition
at_index zero (p ∷ ps) = Ok p
at_index (suc n) (p ∷ ps) = at_index n ps

-- the partition of an index among those that a walk finds
unfoldable pub index_by : ℕ → Walk → Found
index_by n (covered ps) = at_index n ps
index_by n (broken e) = Err e

-- the partition of an index of an image
unfoldable pub index_of : List ℕ → ℕ → Found
index_of image n = index_by n (walk image)

-- whether the header at an offset has this signature and a name that matches this one
unfoldable pub matches : List ℕ → ℕ → List ℕ → ℕ → Bool
matches image signature name at =
    eqb (header_at image at).signature signature && matches_name (header_at image at).name name

-- the first in image order that matches; code 6 where none does
unfoldable pub first_match : List ℕ → ℕ → List ℕ → List Partition → Found
first_match image signature name [] = Err NoPartition
first_match image signature name (p ∷ ps) =
    cond (matches image signature name p.offset) (Ok p) (first_match image signature name ps)

-- the first match among the partitions that a walk finds
unfoldable pub find_by : List ℕ → ℕ → List ℕ → Walk → Found
find_by image signature name (covered ps) = first_match image signature name ps
find_by image signature name (broken e) = Err e

-- the partition of a signature and a name in an image
unfoldable pub find_of : List ℕ → ℕ → List ℕ → Found
find_of image signature name = find_by image signature name (walk image)

-- a match, by what the search after it finds: code 20 at another's header, else the partition
abbrev pub only_unless : Partition → Found → Found
only_unless p (Ok second) = Err (RepeatedPartition second.offset)
only_unless p (Err e) = Ok p

-- the only one that matches; code 20 at the second where more do, code 6 where none does
unfoldable pub only_match : List ℕ → ℕ → List ℕ → List Partition → Found
only_match image signature name [] = Err NoPartition
only_match image signature name (p ∷ ps) =
    cond (matches image signature name p.offset) (only_unless p (first_match image signature name ps)) (only_match image signature name ps)

-- the only match among the partitions that a walk finds
unfoldable pub only_by : List ℕ → ℕ → List ℕ → Walk → Found
only_by image signature name (covered ps) = only_match image signature name ps
only_by image signature name (broken e) = Err e

-- the only partition of a signature and a name in an image; code 20 or 6 where there is none
unfoldable pub only_of : List ℕ → ℕ → List ℕ → Found
only_of image signature name = only_by image signature name (walk image)

-- the data area of the partition that was found: what follows its header; nothing where it was refused
unfoldable pub area_of : List ℕ → Found → List ℕ
area_of image (Ok p) = take ((bytes_of p.blocks).0 - 16) (drop (p.offset + 16) image)
area_of image (Err e) = []

-- the data area of the partition that was found, or the error
abbrev pub area_found : List ℕ → Found → Result (List ℕ) Error
area_found image (Ok p) = Ok (area_of image (Ok p))
area_found image (Err e) = Err e
