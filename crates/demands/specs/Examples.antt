-- The examples of document 01 that are marked P, as one statement, E in literal bytes.
use Rattle.std.specs.Prelude.{ℕ, ◌≡◌, refl, true, false, List, [], ◌∷◌, ◌++◌, take, drop, replicate, Ok, Err}
use Rattle.lists.specs.Bytes.{same_bytes, stands}
use Rattle.lists.specs.Pasted.{pasted}
use Rattle.header.specs.Checksum.{sum_from, sumcheck}
use Rattle.header.specs.Header.{header_at, name_at, fits_header, new_header, validity_of, validity_at}
use Rattle.errors.specs.declared.HeaderFault.TheVariants.{ZeroLength, PastEnd}
use Rattle.errors.specs.declared.Error.TheVariants.{ImageLength, BadHeader}
use Rattle.partition_name.specs.Name.{same_name, padded, matches_name}
use Rattle.partitions.specs.Walk.{allowed_length, partition_of, past_of, step_at, walk_from, walk}
use Rattle.partitions.specs.Find.{checked_by, check_of, matches, first_match, find_by, find_of, only_match, only_by, only_of, area_of}
use Rattle.partitions.specs.Examples.{E, with_area, common_covered, free_covered}
use Rattle.names.specs.Name.{good, wrong, name_byte, name_check_from, name_check}
use Rattle.values.specs.Value.{run_byte, run, decode_from, decode, mark, full_escapes, rest_escape, run_bytes, encode_from, encode}
use Rattle.pairs.specs.Scan.{stored_name, scan_name, scan_value, pair, cut, wrong_name, stand_at}
use Rattle.pairs.specs.Area.{pair_bytes, pairs_bytes, parse_from, parse}
use Rattle.variables.specs.Edits.{area_bytes, set_pair, normalize_pairs, lookup}
use Rattle.variables.specs.Calls.{set, remove, read, normalize, count, call_check, set_in, call_pairs, call_area}
use Rattle.nvram.specs.Common.{common_of}
use Rattle.nvram.specs.Calls.{Told, call_image}

-- an answer with no buffer
abbrev pub told : ℕ → ℕ → ℕ → Told
told code offset amount = record { code = code; offset = offset; amount = amount; buffer = [] }

-- E with another area of 16 bytes
abbrev holding : List ℕ → List ℕ
holding = with_area E

-- E after example 6
abbrev pub six : List ℕ
six = holding (0x61 ∷ 0x3D ∷ 0x31 ∷ 0x00 ∷ 0x62 ∷ 0x3D ∷ 0xFF ∷ 0x02 ∷ 0xFF ∷ 0x81 ∷ 0x00 ∷ replicate 5 0x00)

-- E after `c` is set too: the ending 0x00 is the area's sixteenth byte
abbrev seven : List ℕ
seven =
    holding (0x61 ∷ 0x3D ∷ 0x31 ∷ 0x00 ∷ 0x62 ∷ 0x3D ∷ 0xFF ∷ 0x02 ∷ 0xFF ∷ 0x81 ∷ 0x00 ∷ 0x63 ∷ 0x3D ∷ 0x31 ∷ 0x00 ∷ 0x00 ∷ [])

-- example 9's area, with padding
abbrev nine : List ℕ
nine = holding (0x61 ∷ 0x3D ∷ 0xFF ∷ 0x01 ∷ 0xFF ∷ 0x01 ∷ 0x00 ∷ 0x00 ∷ replicate 8 0xAA)

-- each example by its number; those that are marked P, two more of what 6 leaves, and a header of zeros
pub record Examples : Type 0 where
  pub one-2 : sumcheck (common_covered 2) ≡ 0xFD
  pub one-3 : sumcheck (common_covered 3) ≡ 0xFE
  pub one-4 : sumcheck (common_covered 4) ≡ 0xFF
  pub one-5 : sumcheck (common_covered 5) ≡ 0x01
  pub two : sumcheck free_covered ≡ 0x1A
  pub three : check_of E ≡ Ok 2
  pub four-none : check_of [] ≡ Err ImageLength
  pub four-forty : check_of (take 40 E) ≡ Err ImageLength
  pub five-first : check_of (take 32 E) ≡ Ok 1
  pub five-past : check_of (0x70 ∷ 0xFD ∷ 0x00 ∷ 0x03 ∷ drop 4 (take 32 E)) ≡ Err (BadHeader PastEnd 0)
  pub five-zero : check_of (0x70 ∷ 0xFD ∷ 0x00 ∷ 0x00 ∷ drop 4 (take 32 E)) ≡ Err (BadHeader ZeroLength 0)
  pub zeros : check_of (replicate 16 0x00) ≡ Err (BadHeader ZeroLength 0)
  pub six-set : call_image (set (0x62 ∷ []) (0x00 ∷ 0x00 ∷ 0xFF ∷ [])) E ≡ record { told = told 0 0 0; image = six }
  -- what 6 leaves is read into four bytes, and counted
  pub six-read : call_image (read (0x62 ∷ []) (replicate 4 0x05)) six
      ≡ record { told = record { code = 0; offset = 0; amount = 3; buffer = 0x00 ∷ 0x00 ∷ 0xFF ∷ 0x05 ∷ [] }; image = six }
  pub six-count : call_image count six ≡ record { told = told 0 0 2; image = six }
  pub seven-fits : call_image (set (0x63 ∷ []) (0x31 ∷ [])) six ≡ record { told = told 0 0 0; image = seven }
  pub seven-room : call_image (set (0x63 ∷ []) (0x31 ∷ 0x32 ∷ [])) six ≡ record { told = told 13 0 0; image = six }
  pub eight-127 : encode (replicate 127 0x00) ≡ 0xFF ∷ 0x7F ∷ []
  pub eight-128 : encode (replicate 128 0x00) ≡ 0xFF ∷ 0x7F ∷ 0xFF ∷ 0x01 ∷ []
  pub eight-300 : encode (replicate 300 0x00) ≡ 0xFF ∷ 0x7F ∷ 0xFF ∷ 0x7F ∷ 0xFF ∷ 0x2E ∷ []
  pub eight-ones : encode (replicate 127 0xFF) ≡ 0xFF ∷ 0xFF ∷ []
  pub eight-fe : encode (0xFE ∷ []) ≡ 0xFE ∷ []
  pub eight-empty : encode [] ≡ []
  pub nine-read : (call_image (read (0x61 ∷ []) (0x05 ∷ 0x05 ∷ 0x05 ∷ [])) nine).told
      ≡ record { code = 0; offset = 0; amount = 2; buffer = 0x00 ∷ 0x00 ∷ 0x05 ∷ [] }
  pub nine-normalized : call_image normalize nine
      ≡ record { told = told 0 0 0; image = holding (0x61 ∷ 0x3D ∷ 0xFF ∷ 0x02 ∷ 0x00 ∷ replicate 11 0x00) }
  pub ten-8 : (call_image count (holding (0x61 ∷ 0x3D ∷ 0x31 ∷ 0x00 ∷ 0x41 ∷ 0x3D ∷ 0x32 ∷ 0x00 ∷ 0x00 ∷ replicate 7 0xAA))).told
      ≡ told 8 20 0
  pub ten-9 : (call_image count (holding (0x61 ∷ 0x3D ∷ 0xFF ∷ 0x80 ∷ replicate 12 0xAA))).told ≡ told 9 19 0
  pub eleven : (call_image count (holding (0x61 ∷ 0x3D ∷ replicate 13 0x78 ++ 0x00 ∷ []))).told ≡ told 7 32 0

-- they hold, by computing
pub examples : Examples
unfolding call_image common_of call_area call_pairs set_in call_check name_check name_check_from name_byte parse parse_from stand_at
    stored_name scan_name scan_value stands same_bytes area_bytes set_pair normalize_pairs lookup pairs_bytes pair_bytes encode encode_from
    run_bytes full_escapes rest_escape mark decode decode_from run run_byte pasted check_of checked_by walk walk_from step_at allowed_length
    partition_of past_of validity_at validity_of header_at name_at sum_from same_name padded matches_name matches first_match find_by find_of only_match only_by only_of area_of
examples = record {
  one-2 = refl;
  one-3 = refl;
  one-4 = refl;
  one-5 = refl;
  two = refl;
  three = refl;
  four-none = refl;
  four-forty = refl;
  five-first = refl;
  five-past = refl;
  five-zero = refl;
  zeros = refl;
  six-set = refl;
  six-read = refl;
  six-count = refl;
  seven-fits = refl;
  seven-room = refl;
  eight-127 = refl;
  eight-128 = refl;
  eight-300 = refl;
  eight-ones = refl;
  eight-fe = refl;
  eight-empty = refl;
  nine-read = refl;
  nine-normalized = refl;
  ten-8 = refl;
  ten-9 = refl;
  eleven = refl;
}

-- wrong names: 11 answers the index of the first wrong byte, before every other code, and 8 answers it of a stored name
pub record WrongNames : Type 0 where
  pub none : (call_image (remove []) E).told ≡ told 11 0 0
  pub first : (call_image (set (0x41 ∷ 0x61 ∷ []) []) E).told ≡ told 11 0 0
  -- `a_a/`: two bytes are wrong
  pub second : (call_image (set (0x61 ∷ 0x41 ∷ 0x2F ∷ []) []) E).told ≡ told 11 1 0
  -- `aa=`
  pub equals : (call_image (read (0x61 ∷ 0x61 ∷ 0x3D ∷ []) []) E).told ≡ told 11 2 0
  pub long : (call_image (remove (replicate 32 0x61)) E).told ≡ told 11 31 0
  pub longer : (call_image (remove (replicate 32 0x61 ++ 0x41 ∷ [])) E).told ≡ told 11 31 0
  pub long-second : (call_image (remove (0x61 ∷ 0x41 ∷ replicate 32 0x61)) E).told ≡ told 11 1 0
  pub no-image : (call_image (remove (0x61 ∷ 0x41 ∷ [])) []).told ≡ told 11 1 0
  -- the stored pairs `b=` and `a_a/=`
  pub stored : (call_image count (holding (0x62 ∷ 0x3D ∷ 0x00 ∷ 0x61 ∷ 0x41 ∷ 0x2F ∷ 0x3D ∷ replicate 9 0x00))).told ≡ told 8 20 0
  -- a 0x00 stands in the stored name
  pub stored-zero : (call_image count (holding (0x62 ∷ 0x3D ∷ 0x00 ∷ 0x61 ∷ 0x00 ∷ 0x3D ∷ replicate 10 0x00))).told ≡ told 8 20 0
  -- the stored name is empty
  pub stored-none : (call_image count (holding (0x62 ∷ 0x3D ∷ 0x00 ∷ 0x3D ∷ replicate 12 0x00))).told ≡ told 8 19 0

-- they hold, by computing
pub wrong-names : WrongNames
unfolding call_image common_of call_area call_pairs call_check name_check name_check_from name_byte parse parse_from stand_at stored_name scan_name
    scan_value stands same_bytes pasted walk walk_from step_at allowed_length partition_of past_of validity_at validity_of header_at name_at sum_from
    same_name padded matches_name matches first_match find_by find_of only_match only_by only_of area_of
wrong-names = record {
  none = refl;
  first = refl;
  second = refl;
  equals = refl;
  long = refl;
  longer = refl;
  long-second = refl;
  no-image = refl;
  stored = refl;
  stored-zero = refl;
  stored-none = refl;
}

-- the limits, each at its last allowed number and one step past it
pub record Limits : Type 0 where
  pub image : allowed_length 1_048_576 ≡ true
  pub image-over : allowed_length 1_048_592 ≡ false
  pub length : fits_header (record { 0 = 65_535 }) ≡ true
  pub length-over : fits_header (record { 0 = 65_536 }) ≡ false
  pub header : new_header 0x70 (record { 0 = 65_535 }) (replicate 12 0x00)
      ≡ Ok (record { signature = 0x70; checksum = 0x70; length = record { 0 = 65_535 }; name = replicate 12 0x00 })
  pub header-over : new_header 0x70 (record { 0 = 65_536 }) (replicate 12 0x00)
      ≡ Err (record { signature = 0x70; checksum = 0x70; length = record { 0 = 65_536 }; name = replicate 12 0x00 })
  pub name : name_check (replicate 31 0x61) ≡ good
  pub name-over : name_check (replicate 32 0x61) ≡ wrong 31
  pub stored-name : stand_at (replicate 31 0x61 ++ 0x3D ∷ 0x00 ∷ []) ≡ pair (replicate 31 0x61) [] []
  pub stored-name-over : stand_at (replicate 32 0x61 ++ 0x3D ∷ 0x00 ∷ []) ≡ wrong_name 31
  pub stored-name-cut : stand_at (replicate 31 0x61) ≡ cut
  pub stored-name-cut-over : stand_at (replicate 32 0x61) ≡ wrong_name 31

-- they hold, by computing
pub limits : Limits
unfolding allowed_length fits_header new_header sum_from name_check name_check_from name_byte stand_at stored_name scan_name scan_value
limits = record {
  image = refl;
  image-over = refl;
  length = refl;
  length-over = refl;
  header = refl;
  header-over = refl;
  name = refl;
  name-over = refl;
  stored-name = refl;
  stored-name-over = refl;
  stored-name-cut = refl;
  stored-name-cut-over = refl;
}
