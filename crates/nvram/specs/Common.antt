-- The partition that holds the variables.
use Rattle.std.specs.Prelude.{ℕ, List, [], ◌∷◌}
use Rattle.errors.specs.declared.Error.{Error}
use Rattle.partitions.specs.declared.Partition.{Partition}
use Rattle.partitions.specs.Find.{Found, only_of}
use Rattle.partitions.specs.Cover.{OnlyNamed, SecondNamed, NotNamed, NotOnly}

-- its signature
abbrev pub common_signature : ℕ
common_signature = 0x70

-- its name, `common`
abbrev pub common : List ℕ
common = 0x63 ∷ 0x6F ∷ 0x6D ∷ 0x6D ∷ 0x6F ∷ 0x6E ∷ []

-- p holds the variables: the image is accepted, and p is the only partition of that signature and name
abbrev pub OnlyCommon : List ℕ → Partition → Type 0
OnlyCommon image p = OnlyNamed image common_signature common p

-- code 20: the image is accepted, and p is the second partition of that signature and name
abbrev pub SecondCommon : List ℕ → Partition → Type 0
SecondCommon image p = SecondNamed image common_signature common p

-- code 6: the image is accepted, and no partition has that signature and name
abbrev pub NoCommon : List ℕ → Type 0
NoCommon image = NotNamed image common_signature common

-- no partition holds the variables, and why: the image is rejected, or 20, or 6
abbrev pub NotOnlyCommon : List ℕ → Error → Type 0
NotOnlyCommon image e = NotOnly image common_signature common e

-- the same computed
unfoldable pub common_of : List ℕ → Found
common_of image = only_of image common_signature common
