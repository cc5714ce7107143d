-- Images in literal bytes whose partition names have bytes after their 0x00, and such whose names are nearly `common`.
use Rattle.std.specs.Prelude.{ℕ, ◌≡◌, refl, List, [], ◌∷◌, ◌++◌, drop, replicate, Ok, Err}
use Rattle.lists.specs.Bytes.{same_bytes, stands}
use Rattle.lists.specs.Pasted.{pasted}
use Rattle.header.specs.Checksum.{sum_from}
use Rattle.header.specs.Header.{header_at, name_at, validity_of, validity_at}
use Rattle.partitions.specs.declared.Partition.{Partition}
use Rattle.errors.specs.declared.HeaderFault.TheVariants.{Checksum}
use Rattle.errors.specs.declared.Error.TheVariants.{BadHeader, NoPartition}
use Rattle.partition_name.specs.Name.{same_name, padded, matches_name}
use Rattle.partition_name.specs.Examples.{leftover, twelve_bytes}
use Rattle.partitions.specs.Walk.{allowed_length, partition_of, past_of, step_at, walk_from, walk}
use Rattle.partitions.specs.Find.{checked_by, check_of, matches, first_match, find_by, find_of, only_match, only_by, only_of, area_of}
use Rattle.partitions.specs.Examples.{E, with_area}
use Rattle.names.specs.Name.{name_byte, name_check_from, name_check}
use Rattle.values.specs.Value.{run_byte, run, decode_from, decode, mark, full_escapes, rest_escape, run_bytes, encode_from, encode}
use Rattle.pairs.specs.Scan.{stored_name, scan_name, scan_value, stand_at}
use Rattle.pairs.specs.Area.{pair_bytes, pairs_bytes, parse_from, parse}
use Rattle.variables.specs.Edits.{area_bytes, set_pair, remove_pair, normalize_pairs, lookup}
use Rattle.variables.specs.Calls.{set, remove, read, normalize, count, call_check, set_in, call_pairs, call_area}
use Rattle.nvram.specs.Common.{common, common_of}
use Rattle.nvram.specs.Calls.{call_image}
use Rattle.demands.specs.Examples.{told}

-- E with another name in its first header, and that header's checksum
abbrev renamed : ℕ → List ℕ → List ℕ
renamed checksum name = 0x70 ∷ checksum ∷ 0x00 ∷ 0x02 ∷ (name ++ drop 16 E)

-- the image L: E with `common`, its 0x00 and a leftover byte as that name
abbrev pub L : List ℕ
L = renamed 0x76 leftover

-- L with another area
abbrev holding : List ℕ → List ℕ
holding = with_area L

-- the partition of two blocks at 0, and that of one block
abbrev pub first : Partition
first = record { offset = 0; blocks = record { 0 = 2 }; signature = 0x70 }

abbrev block : Partition
block = record { offset = 0; blocks = record { 0 = 1 }; signature = 0x70 }

-- headers of one block, `common` with a leftover byte and without
abbrev pub leftover_block : List ℕ
leftover_block = 0x70 ∷ 0x75 ∷ 0x00 ∷ 0x01 ∷ leftover

abbrev pub padded_block : List ℕ
padded_block = 0x70 ∷ 0xFC ∷ 0x00 ∷ 0x01 ∷ (common ++ replicate 6 0x00)

-- `comm`, 0x00, `on`
abbrev beginning_only : List ℕ
beginning_only = 0x63 ∷ 0x6F ∷ 0x6D ∷ 0x6D ∷ 0x00 ∷ 0x6F ∷ 0x6E ∷ replicate 5 0x00

pub record LeftoverNames : Type 0 where
  -- the checksum covers all twelve bytes: that of E no longer agrees
  pub accepted : check_of L ≡ Ok 2
  pub covered : check_of (renamed 0xFD leftover) ≡ Err (BadHeader Checksum 0)
  -- `common` is found, by a name with a 0x00 of its own too, and not by thirteen bytes
  pub found : find_of L 0x70 common ≡ Ok first
  pub own-zero : find_of L 0x70 (common ++ 0x00 ∷ 0x7A ∷ []) ≡ Ok first
  pub thirteen : find_of L 0x70 (common ++ replicate 7 0x00) ≡ Err NoPartition
  pub area : area_of L (find_of L 0x70 common) ≡ 0x61 ∷ 0x3D ∷ 0x31 ∷ 0x00 ∷ replicate 12 0x00
  -- of two whose names are the same, the first; the calls on variables refuse such an image (SecondCommons)
  pub leftover-first : find_of (leftover_block ++ padded_block) 0x70 common ≡ Ok block
  pub padded-first : find_of (padded_block ++ leftover_block) 0x70 common ≡ Ok block
  -- the calls on variables go by it, and leave every byte of the header
  pub counted : call_image count L ≡ record { told = told 0 0 1; image = L }
  pub reads : call_image (read (0x61 ∷ []) (0x05 ∷ 0x05 ∷ [])) L
      ≡ record { told = record { code = 0; offset = 0; amount = 1; buffer = 0x31 ∷ 0x05 ∷ [] }; image = L }
  pub sets : call_image (set (0x62 ∷ []) (0x32 ∷ [])) L
      ≡ record { told = told 0 0 0; image = holding (0x61 ∷ 0x3D ∷ 0x31 ∷ 0x00 ∷ 0x62 ∷ 0x3D ∷ 0x32 ∷ 0x00 ∷ replicate 8 0x00) }
  pub removes : call_image (remove (0x61 ∷ [])) L ≡ record { told = told 0 0 0; image = holding (replicate 16 0x00) }
  pub normalizes : call_image normalize (holding (0x61 ∷ 0x3D ∷ 0xFF ∷ 0x01 ∷ 0xFF ∷ 0x01 ∷ 0x00 ∷ 0x00 ∷ replicate 8 0xAA))
      ≡ record { told = told 0 0 0; image = holding (0x61 ∷ 0x3D ∷ 0xFF ∷ 0x02 ∷ replicate 12 0x00) }
  -- a name that ends before `common` does, and one that goes on after it
  pub beginning : (call_image count (renamed 0xFD beginning_only)).told ≡ told 6 0 0
  pub longer : (call_image count (renamed 0xCC twelve_bytes)).told ≡ told 6 0 0

-- they hold, by computing
pub leftover-names : LeftoverNames
unfolding call_image common_of call_area call_pairs set_in call_check name_check name_check_from name_byte parse parse_from stand_at
    stored_name scan_name scan_value stands same_bytes area_bytes set_pair remove_pair normalize_pairs lookup pairs_bytes pair_bytes encode encode_from
    run_bytes full_escapes rest_escape mark decode decode_from run run_byte pasted check_of checked_by walk walk_from step_at allowed_length
    partition_of past_of validity_at validity_of header_at name_at sum_from same_name padded matches_name matches first_match find_by find_of only_match only_by only_of area_of
leftover-names = record {
  accepted = refl;
  covered = refl;
  found = refl;
  own-zero = refl;
  thirteen = refl;
  area = refl;
  leftover-first = refl;
  padded-first = refl;
  counted = refl;
  reads = refl;
  sets = refl;
  removes = refl;
  normalizes = refl;
  beginning = refl;
  longer = refl;
}
