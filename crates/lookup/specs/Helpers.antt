-- For the loop over the partitions: those that have matched so far, and what it answers.
use Rattle.std.specs.Prelude.{ℕ, Bool, true, false, cond, List, Result, Ok, Err}
use Rattle.errors.specs.declared.Error.{Error}
use Rattle.errors.specs.declared.Error.TheVariants.{NoPartition, RepeatedPartition}
use Rattle.partitions.specs.declared.Partition.{Partition}
use Rattle.partitions.specs.Find.{Found, find_of, only_of}
use Rattle.lookup.specs.declared.Matched.{Matched}
use Rattle.lookup.specs.declared.Matched.TheVariants.{None, One, Second}

-- whether one more match counts; only: whether only one may match
abbrev pub one_more_counts : Bool → Matched → Bool
one_more_counts only None = true
one_more_counts only (One q) = only
one_more_counts only (Second at) = false

-- with one more match
abbrev pub with_match : Matched → Partition → Matched
with_match None p = One p
with_match (One q) p = Second p.offset
with_match (Second at) p = Second at

-- what is found, after all partitions
abbrev pub matched_found : Matched → Found
matched_found None = Err NoPartition
matched_found (One p) = Ok p
matched_found (Second at) = Err (RepeatedPartition at)

-- what is found by a search
abbrev pub searched_found : Result Matched Error → Found
searched_found (Ok matched) = matched_found matched
searched_found (Err e) = Err e

-- the only partition of a signature and a name, or the first
abbrev pub seek_of : Bool → List ℕ → ℕ → List ℕ → Found
seek_of only image signature name = cond only (only_of image signature name) (find_of image signature name)
