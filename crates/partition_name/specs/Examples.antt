-- Names in literal bytes: which are the same, and which match what a caller gives.
use Rattle.std.specs.Prelude.{ℕ, ◌≡◌, refl, true, false, List, [], ◌∷◌, ◌++◌, replicate}
use Rattle.partition_name.specs.Name.{same_name, padded, matches_name}

-- `common`
abbrev common : List ℕ
common = 0x63 ∷ 0x6F ∷ 0x6D ∷ 0x6D ∷ 0x6F ∷ 0x6E ∷ []

-- `comm`
abbrev comm : List ℕ
comm = 0x63 ∷ 0x6F ∷ 0x6D ∷ 0x6D ∷ []

-- `common` as it is stored with zeros after it, with a leftover byte right after its 0x00, and with one as the last byte
abbrev zero_padded : List ℕ
zero_padded = common ++ replicate 6 0x00

abbrev pub leftover : List ℕ
leftover = common ++ 0x00 ∷ 0x78 ∷ replicate 4 0x00

abbrev leftover_last : List ℕ
leftover_last = common ++ replicate 5 0x00 ++ 0x79 ∷ []

-- `common-log-1` and `common-log-2`, twelve bytes
abbrev pub twelve_bytes : List ℕ
twelve_bytes = common ++ 0x2D ∷ 0x6C ∷ 0x6F ∷ 0x67 ∷ 0x2D ∷ 0x31 ∷ []

abbrev other_last : List ℕ
other_last = common ++ 0x2D ∷ 0x6C ∷ 0x6F ∷ 0x67 ∷ 0x2D ∷ 0x32 ∷ []

-- names of twelve bytes
pub record SameNames : Type 0 where
  -- bytes after the first 0x00 do not count: a leftover byte of the one, of the other, a 0x00 at index 0, 3 and 9
  pub leftovers : same_name leftover leftover_last ≡ true
  pub leftover-padded : same_name leftover zero_padded ≡ true
  pub padded-leftover : same_name zero_padded leftover_last ≡ true
  pub zero-at-0 : same_name (0x00 ∷ replicate 11 0x78) (replicate 12 0x00) ≡ true
  pub zero-at-3 : same_name (replicate 3 0x61 ++ 0x00 ∷ replicate 8 0x78) (replicate 3 0x61 ++ 0x00 ∷ replicate 8 0x79) ≡ true
  pub zero-at-9 : same_name (replicate 9 0x61 ++ 0x00 ∷ 0x78 ∷ 0x78 ∷ []) (replicate 9 0x61 ++ 0x00 ∷ 0x79 ∷ 0x00 ∷ []) ≡ true
  -- where neither has a 0x00, all twelve count
  pub all-twelve : same_name twelve_bytes twelve_bytes ≡ true
  pub last-differs : same_name twelve_bytes other_last ≡ false
  pub last-differs-ff : same_name (replicate 12 0xFF) (replicate 11 0xFF ++ 0xFE ∷ []) ≡ false
  -- only one of the two has a 0x00: they differ there
  pub zero-in-second : same_name twelve_bytes zero_padded ≡ false
  pub zero-in-first : same_name leftover twelve_bytes ≡ false
  pub zero-before : same_name (comm ++ 0x00 ∷ 0x6E ∷ replicate 6 0x00) leftover ≡ false
  -- they differ before it: `Common`, and another name of six bytes
  pub capital : same_name (0x43 ∷ 0x6F ∷ 0x6D ∷ 0x6D ∷ 0x6F ∷ 0x6E ∷ replicate 6 0x00) leftover ≡ false
  pub other : same_name (0x73 ∷ 0x79 ∷ 0x73 ∷ 0x74 ∷ 0x65 ∷ 0x6D ∷ 0x00 ∷ 0x78 ∷ replicate 4 0x00) leftover ≡ false

-- a stored name, and the one that a caller gives, of 0, 4, 6, 8, 11, 12 and 13 bytes
pub record GivenNames : Type 0 where
  pub empty : matches_name (0x00 ∷ replicate 11 0x78) [] ≡ true
  pub empty-other : matches_name leftover [] ≡ false
  pub beginning : matches_name leftover comm ≡ false
  pub beginning-stored : matches_name (comm ++ 0x00 ∷ 0x6F ∷ 0x6E ∷ replicate 5 0x00) common ≡ false
  pub six : matches_name leftover common ≡ true
  pub six-last : matches_name leftover_last common ≡ true
  -- a given name has a 0x00 of its own
  pub own-zero : matches_name leftover (common ++ 0x00 ∷ 0x7A ∷ []) ≡ true
  pub own-zero-padded : matches_name zero_padded (common ++ 0x00 ∷ 0x7A ∷ []) ≡ true
  pub own-zero-twelve : matches_name leftover leftover_last ≡ true
  pub own-zero-beginning : matches_name leftover (comm ++ 0x00 ∷ 0x6E ∷ []) ≡ false
  pub eleven : matches_name (replicate 11 0x77 ++ 0x00 ∷ []) (replicate 11 0x77) ≡ true
  pub eleven-of-twelve : matches_name (replicate 12 0x77) (replicate 11 0x77) ≡ false
  pub twelve : matches_name twelve_bytes twelve_bytes ≡ true
  pub twelve-other : matches_name twelve_bytes other_last ≡ false
  pub thirteen : matches_name twelve_bytes (twelve_bytes ++ 0x00 ∷ []) ≡ false
  pub thirteen-zero : matches_name zero_padded (zero_padded ++ 0x00 ∷ []) ≡ false

-- they hold, by computing
pub same_names : SameNames
unfolding same_name
same_names = record {
  leftovers = refl;
  leftover-padded = refl;
  padded-leftover = refl;
  zero-at-0 = refl;
  zero-at-3 = refl;
  zero-at-9 = refl;
  all-twelve = refl;
  last-differs = refl;
  last-differs-ff = refl;
  zero-in-second = refl;
  zero-in-first = refl;
  zero-before = refl;
  capital = refl;
  other = refl;
}

pub given-names : GivenNames
unfolding same_name padded matches_name
given-names = record {
  empty = refl;
  empty-other = refl;
  beginning = refl;
  beginning-stored = refl;
  six = refl;
  six-last = refl;
  own-zero = refl;
  own-zero-padded = refl;
  own-zero-twelve = refl;
  own-zero-beginning = refl;
  eleven = refl;
  eleven-of-twelve = refl;
  twelve = refl;
  twelve-other = refl;
  thirteen = refl;
  thirteen-zero = refl;
}
