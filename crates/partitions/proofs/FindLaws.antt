-- The loop that looks for a partition by its index.
use Prim.Native.Nat.{ℕ, suc, zero, ◌-◌}
use mathlib.Core.Path.{◌≡◌, ap, refl, sym, ◌∙◌}
use mathlib.Core.Bool.{true, false}
use mathlib.Core.List.{List, [], ◌∷◌}
use native.Mathlib.Omega.{arith}
use lib.ListN.{length}
use Rattle.errors.specs.declared.Error.TheVariants.{ImageLength, NoPartition}
use Rattle.std.specs.Option.{option_or, ok_or}
use Rattle.partitions.specs.declared.Partition.{Partition}
use Rattle.partitions.specs.Find.{Found, at_index, index_by, index_of}
use Rattle.std.specs.Prelude.{Option, Some, None, Ok, Err}
use Rattle.partitions.specs.Walk.{Walk, covered, broken, allowed_length}
use Rattle.partitions.proofs.WalkLaws.{rest, walk-rest, walk_refused, on_walk}

-- n partitions are to be passed
abbrev pub seek_index : Option Partition → ℕ → List Partition → Found
seek_index found n [] = ok_or found NoPartition
seek_index found zero (p ∷ ps) = seek_index (option_or found (Some p)) zero ps
seek_index found (suc n) (p ∷ ps) = seek_index found n ps

index_kept : (q : Partition) (ps : List Partition) → seek_index (Some q) 0 ps ≡ Ok q
index_kept q [] = refl
index_kept q (p ∷ ps) = index_kept q ps

seek-index : (n : ℕ) (ps : List Partition) → seek_index None n ps ≡ at_index n ps
unfolding at_index
seek-index zero [] = refl
seek-index (suc n) [] = refl
seek-index zero (p ∷ ps) = index_kept p ps
seek-index (suc n) (p ∷ ps) = seek-index n ps

index_on : (n : ℕ) (w : Walk) → on_walk (seek_index None n) Err w ≡ index_by n w
unfolding index_by
index_on n (covered ps) = seek-index n ps
index_on n (broken e) = refl

pub index-refused : (image : List ℕ) → allowed_length (length image) ≡ false → (n : ℕ) → Err ImageLength ≡ index_of image n
unfolding index_of index_by
index-refused image a n = ap (index_by n) (sym (walk_refused image a))

pub index-start : (image : List ℕ) → allowed_length (length image) ≡ true → (n : ℕ)
    → on_walk (seek_index None n) Err (rest image 0) ≡ index_of image n
unfolding index_of
index-start image a n = index_on n (rest image 0) ∙ ap (index_by n) (sym (walk-rest image a))

pub seek-here : (found : Option Partition) (n : ℕ) → n ≡ 0 → (p : Partition) (ps : List Partition)
    → seek_index found n (p ∷ ps) ≡ seek_index (option_or found (Some p)) n ps
seek-here found n z p ps = rw z

pub seek-later : (found : Option Partition) (n : ℕ) → (n ≡ 0 → ⊥) → (p : Partition) (ps : List Partition)
    → seek_index found n (p ∷ ps) ≡ seek_index found (n - 1) ps
seek-later found zero z p ps = absurd (z refl)
seek-later found (suc n) z p ps = ap (λ (k : ℕ). seek_index found k ps) (omega arith)
