-- The demands applied to the example image E: each premise is discharged, for a request and a list of calls of every kind; and demand 3
-- to L, which is E with a leftover byte in the name of `common`. Row 20 of the table holds of T, which has two.
use Prim.Native.Nat.{ℕ}
use mathlib.Core.Path.{◌≡◌, refl, ap}
use mathlib.Core.Bool.{Bool, true, ◌&&◌}
use mathlib.Core.List.{List, [], ◌∷◌}
use mathlib.Core.Logic.{inl, inr}
use lib.ListN.{length}
use lib.Dec.{ltb}
use borrow.Author.Tests.{ltb-true}
use Rattle.lists.specs.Bytes.{AllBytes, stands}
use Rattle.lists.proofs.Tests.{and-true}
use Rattle.header.specs.Checksum.{sum_from}
use Rattle.header.specs.Header.{header_at, name_at, validity_of, validity_at}
use Rattle.header.specs.Rules.{blocks_at}
use Rattle.partition_name.specs.Name.{same_name, padded, matches_name}
use Rattle.std.specs.Prelude.{Ok}
use Rattle.partitions.specs.Walk.{allowed_length, partition_of, past_of, step_at, walk_from, walk}
use Rattle.partitions.specs.Find.{matches, first_match, only_match, only_by, only_of}
use Rattle.partitions.specs.Cover.{area_at}
use Rattle.partitions.specs.Examples.{E}
use Rattle.names.specs.Name.{name_byte, name_check_from, name_check}
use Rattle.values.specs.Value.{decode, decode_from, run, run_byte}
use Rattle.pairs.specs.Scan.{stored_name, scan_name, scan_value, stand_at}
use Rattle.pairs.specs.Area.{pair_of, pair_bytes, parse_from, parse}
use Rattle.pairs.specs.Rules.{Entry, WellFormed}
use Rattle.variables.specs.Calls.{Call, set, remove, read, normalize, count}
use Rattle.pairs.proofs.EntryLaws.{parse-exactly}
use Rattle.nvram.specs.Common.{OnlyCommon, common_of}
use Rattle.nvram.proofs.CommonLaws.{common-exactly}
use Rattle.demands.specs.Requests.{Request, variable, refuses}
use Rattle.demands.specs.Table.{Answers}
use Rattle.demands.specs.Model.{run_model, canonical_area}
use Rattle.demands.specs.Library.{seen_call, run_image}
use Rattle.demands.specs.NameExamples.{L, first}
use Rattle.demands.specs.SecondExamples.{T, second-commons}
use Rattle.demands.specs.Demands.{RequestBytes, CallsBytes, Demand1, Demand2, Demand3}
use Rattle.demands.proofs.DemandsLaws.{demands}

-- numbers below 256, tested
abbrev below : List ℕ → Bool
below [] = true
below (b ∷ bs) = ltb b 256 && below bs

tested : (l : List ℕ) → below l ≡ true → AllBytes l
tested [] e = tt
tested (b ∷ bs) e =
    let p = and-true (ltb b 256) (below bs) e in
    (ltb-true b 256 p.0, tested bs p.1)

example-bytes : AllBytes E
example-bytes = tested E refl

-- what `common` holds on E, and on L: `a`, whose value is `1`
abbrev held : List Entry
held = record { name = 0x61 ∷ []; value = 0x31 ∷ []; size = 4 } ∷ []

-- and it is the partition of two blocks at 0
found : (common_of E ≡ Ok first) × (common_of L ≡ Ok first)
unfolding common_of only_of only_by only_match first_match matches matches_name same_name padded
    walk walk_from step_at allowed_length partition_of past_of validity_at validity_of header_at name_at sum_from
found = (refl, refl)

example-common : OnlyCommon E first
example-common = (common-exactly E example-bytes first).0 found.0

example-formed : WellFormed held (area_at E 0)
unfolding area_at blocks_at parse parse_from stand_at stored_name scan_name scan_value name_check name_check_from stands name_byte decode decode_from run run_byte pair_bytes
example-formed = (parse-exactly (area_at E 0) held (tested (area_at E 0) refl)).0 (pair_of (0x61 ∷ []) (0x31 ∷ []) ∷ [], refl, refl)

-- DEMAND 1 of every request on E
pub example-1 : (r : Request) → RequestBytes r → Demand1 r E
example-1 r b = demands.demand-1 r E example-bytes b

-- DEMAND 2 of E
pub example-2 : Demand2 E
example-2 = demands.demand-2 E example-bytes

-- DEMAND 3 of every list of calls on E
pub example-3 : (calls : List Call) → CallsBytes calls → Demand3 E first held calls
example-3 calls b = demands.demand-3 E first held calls example-bytes b example-common example-formed

-- DEMAND 3 of every list of calls on L, where a leftover byte stands after the 0x00 of `common`
leftover-bytes : AllBytes L
leftover-bytes = tested L refl

leftover-common : OnlyCommon L first
leftover-common = (common-exactly L leftover-bytes first).0 found.1

leftover-formed : WellFormed held (area_at L 0)
unfolding area_at blocks_at
leftover-formed = example-formed

pub example-leftover : (calls : List Call) → CallsBytes calls → Demand3 L first held calls
example-leftover calls b = demands.demand-3 L first held calls leftover-bytes b leftover-common leftover-formed

-- row 20 of the table holds of T, which has a second `common` at 32
pub example-second : Answers T (variable count) (refuses (variable count) T 20 32)
example-second = ((demands.demand-1 (variable count) T (tested T refl) tt).exactly _).1 (ap seen_call second-commons.counts)

-- a set, and calls of every kind, lend bytes
example-set-bytes : RequestBytes (variable (set (0x62 ∷ []) (0x00 ∷ 0xFF ∷ [])))
example-set-bytes = tested (0x00 ∷ 0xFF ∷ []) refl

abbrev every-kind : List Call
every-kind = set (0x62 ∷ []) (0x00 ∷ 0xFF ∷ []) ∷ read (0x62 ∷ []) (0x05 ∷ []) ∷ remove (0x61 ∷ []) ∷ normalize ∷ count ∷ []

every-kind-bytes : CallsBytes every-kind
every-kind-bytes = (example-set-bytes, (tt, (tt, (tt, (tt, tt)))))

-- DEMAND 1 of a set, and DEMAND 3 of calls of every kind: no premise is left
pub example-set : Demand1 (variable (set (0x62 ∷ []) (0x00 ∷ 0xFF ∷ []))) E
example-set = example-1 (variable (set (0x62 ∷ []) (0x00 ∷ 0xFF ∷ []))) example-set-bytes

pub example-calls : Demand3 E first held every-kind
example-calls = example-3 every-kind every-kind-bytes

-- and the area afterwards is canonical, since a normalizing stands among them
pub example-canonical : area_at (run_image every-kind E).image 0
    ≡ canonical_area (length (area_at E 0)) (run_model every-kind (record { room = length (area_at E 0); entries = held })).model.entries
example-canonical = example-calls.canonical (inr (inr (inr (inr (inl refl)))))
