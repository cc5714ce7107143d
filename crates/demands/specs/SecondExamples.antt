-- Images in literal bytes with more than one `common`, and such with one or none beside partitions that are nearly `common`.
use Rattle.std.specs.Prelude.{ℕ, ◌≡◌, refl, List, [], ◌∷◌, ◌++◌, take, drop, replicate, Ok}
use Rattle.lists.specs.Bytes.{same_bytes, stands}
use Rattle.lists.specs.Pasted.{pasted}
use Rattle.header.specs.Checksum.{sum_from}
use Rattle.header.specs.Header.{header_at, name_at, validity_of, validity_at}
use Rattle.partition_name.specs.Name.{same_name, padded, matches_name}
use Rattle.partitions.specs.Walk.{allowed_length, partition_of, past_of, step_at, walk_from, walk}
use Rattle.partitions.specs.Find.{checked_by, check_of, at_index, index_by, index_of, matches, first_match, find_by, find_of, only_match, only_by, only_of, area_of}
use Rattle.partitions.specs.Examples.{E}
use Rattle.names.specs.Name.{name_byte, name_check_from, name_check}
use Rattle.pairs.specs.Scan.{stored_name, scan_name, scan_value, stand_at}
use Rattle.pairs.specs.Area.{parse_from, parse}
use Rattle.variables.specs.Calls.{set, remove, read, normalize, count, call_check, call_pairs, call_area}
use Rattle.nvram.specs.Common.{common, common_of}
use Rattle.nvram.specs.Calls.{Told, ImageOutcome, call_image}
use Rattle.demands.specs.Examples.{told}
use Rattle.demands.specs.NameExamples.{first, leftover_block, padded_block}

-- `common` of two blocks with a variable `a`, with another variable, and with a stored name that breaks its rule
abbrev held : List ℕ
held = take 32 E

abbrev held_other : List ℕ
held_other = take 16 E ++ 0x62 ∷ 0x3D ∷ 0x32 ∷ replicate 13 0x00

abbrev held_faulty : List ℕ
held_faulty = take 16 E ++ 0x41 ∷ 0x3D ∷ 0x32 ∷ replicate 13 0x00

-- a free partition of one block
abbrev free : List ℕ
free = drop 32 E

-- a header of one block by its signature, checksum and name, which is padded by so many 0x00
abbrev block : ℕ → ℕ → List ℕ → ℕ → List ℕ
block signature checksum name zeros = signature ∷ checksum ∷ 0x00 ∷ 0x01 ∷ (name ++ replicate zeros 0x00)

-- nearly `common`: the names `comm` and `commons`, and signature 0x71
abbrev near : List ℕ
near = block 0x70 0x1F (take 4 common) 8 ++ block 0x70 0x70 (common ++ 0x73 ∷ []) 5 ++ block 0x71 0xFD common 6

-- `common` with a wrong checksum, of no blocks, and of more blocks than there are
abbrev wrong_sum : List ℕ
wrong_sum = block 0x70 0xFB common 6

abbrev no_blocks : List ℕ
no_blocks = 0x70 ∷ 0xFB ∷ 0x00 ∷ 0x00 ∷ (common ++ replicate 6 0x00)

abbrev three_blocks : List ℕ
three_blocks = 0x70 ∷ 0xFE ∷ 0x00 ∷ 0x03 ∷ (common ++ replicate 6 0x00)

-- `common` of three blocks, whose padding has the bytes of a header of `common`
abbrev header_inside : List ℕ
header_inside = three_blocks ++ drop 16 held ++ padded_block

-- the image T: two of them side by side
abbrev pub T : List ℕ
T = held ++ held

-- refused by 20 at an offset, with a buffer; and T as it was
abbrev refused : List ℕ → ImageOutcome
refused buffer = record { told = record { code = 20; offset = 32; amount = 0; buffer = buffer }; image = T }

-- what a count of an image tells
abbrev counted : List ℕ → Told
counted image = (call_image count image).told

pub record SecondCommons : Type 0 where
  -- each call on variables is refused at the second one, whatever it would answer else; image and buffer stay
  pub counts : call_image count T ≡ refused []
  pub reads : call_image (read (0x61 ∷ []) (0x05 ∷ 0x05 ∷ [])) T ≡ refused (0x05 ∷ 0x05 ∷ [])
  pub reads_short : call_image (read (0x61 ∷ []) []) T ≡ refused []
  pub sets : call_image (set (0x61 ∷ []) (0x32 ∷ [])) T ≡ refused []
  pub sets-long : call_image (set (0x62 ∷ []) (replicate 100 0x31)) T ≡ refused []
  pub removes : call_image (remove (0x61 ∷ [])) T ≡ refused []
  pub removes-unknown : call_image (remove (0x62 ∷ [])) T ≡ refused []
  pub normalizes : call_image normalize T ≡ refused []
  -- the other calls take the image
  pub accepted : check_of T ≡ Ok 2
  pub index : index_of T 1 ≡ Ok (record { offset = 32; blocks = record { 0 = 2 }; signature = 0x70 })
  pub found : find_of T 0x70 common ≡ Ok first
  pub area : area_of T (find_of T 0x70 common) ≡ drop 16 held
  -- of three the second; it need not follow at once, nor hold the same, nor be as long
  pub three : counted (held ++ held ++ held) ≡ told 20 32 0
  pub apart : counted (held ++ free ++ held) ≡ told 20 48 0
  pub behind : counted (free ++ held ++ padded_block) ≡ told 20 48 0
  pub different : counted (held ++ held_other) ≡ told 20 32 0
  pub one_block : counted (padded_block ++ padded_block) ≡ told 20 16 0
  -- 20 comes before the faults of either area
  pub faulty-first : counted (held_faulty ++ held) ≡ told 20 32 0
  pub faulty-second : counted (held ++ held_faulty) ≡ told 20 32 0
  -- bytes after the name's 0x00 do not count
  pub leftover-second : counted (padded_block ++ leftover_block) ≡ told 20 16 0
  pub leftover-first : counted (leftover_block ++ padded_block) ≡ told 20 16 0
  -- 11, 1, and a broken header anywhere come before it
  pub misnamed : (call_image (remove (0x61 ∷ 0x41 ∷ [])) T).told ≡ told 11 1 0
  pub length : counted (T ++ replicate 8 0x00) ≡ told 1 0 0
  pub zero-after : counted (T ++ no_blocks) ≡ told 2 64 0
  pub past_after : counted (T ++ three_blocks) ≡ told 3 64 0
  pub checksum-after : counted (T ++ wrong_sum) ≡ told 4 64 0
  pub checksum-second : counted (held ++ wrong_sum) ≡ told 4 32 0
  -- one beside others that are nearly `common`, or that stand twice themselves, is the only one
  pub near-after : counted (held ++ near) ≡ told 0 0 1
  pub near_before : counted (near ++ held) ≡ told 0 0 1
  pub near-twice : counted (near ++ held ++ near) ≡ told 0 0 1
  pub free-twice : counted (free ++ free ++ held) ≡ told 0 0 1
  pub near-between : counted (padded_block ++ near ++ padded_block) ≡ told 20 64 0
  -- bytes inside an area are no partition
  pub inside : counted header_inside ≡ told 0 0 1
  pub inside-before : counted (header_inside ++ free ++ padded_block) ≡ told 20 64 0
  -- none at all
  pub near-alone : counted (near ++ near) ≡ told 6 0 0
  pub free-alone : counted (free ++ free) ≡ told 6 0 0

-- they hold, by computing
pub second-commons : SecondCommons
unfolding call_image common_of call_area call_pairs call_check name_check name_check_from name_byte parse parse_from stand_at stored_name scan_name
    scan_value stands same_bytes pasted check_of checked_by walk walk_from step_at allowed_length partition_of past_of validity_at validity_of header_at name_at
    sum_from same_name padded matches_name matches first_match find_by find_of only_match only_by only_of at_index index_by index_of area_of
second-commons = record {
  counts = refl;
  reads = refl;
  reads_short = refl;
  sets = refl;
  sets-long = refl;
  removes = refl;
  removes-unknown = refl;
  normalizes = refl;
  accepted = refl;
  index = refl;
  found = refl;
  area = refl;
  three = refl;
  apart = refl;
  behind = refl;
  different = refl;
  one_block = refl;
  faulty-first = refl;
  faulty-second = refl;
  leftover-second = refl;
  leftover-first = refl;
  misnamed = refl;
  length = refl;
  zero-after = refl;
  past_after = refl;
  checksum-after = refl;
  checksum-second = refl;
  near-after = refl;
  near_before = refl;
  near-twice = refl;
  free-twice = refl;
  near-between = refl;
  inside = refl;
  inside-before = refl;
  near-alone = refl;
  free-alone = refl;
}
