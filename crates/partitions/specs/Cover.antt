-- The rules of an image as relations on its bytes; what computes here only reads the image's bytes.
use Rattle.std.specs.Prelude.{ℕ, ◌+◌, ◌-◌, ◌*◌, ◌%◌, ◌≤◌, ◌<◌, ◌≡◌, List, [], ◌∷◌, ◌++◌, length, take, drop, Option, Some, None}
use Rattle.errors.specs.declared.HeaderFault.{HeaderFault}
use Rattle.errors.specs.declared.HeaderFault.TheVariants.{ZeroLength, PastEnd, Checksum}
use Rattle.errors.specs.declared.Error.{Error}
use Rattle.errors.specs.declared.Error.TheVariants.{ImageLength, BadHeader, NoPartition, RepeatedPartition}
use Rattle.header.specs.Header.{byte_at, name_at}
use Rattle.header.specs.Rules.{blocks_at, Sound, Breaks}
use Rattle.partition_name.specs.Rules.{MatchesName}
use Rattle.partitions.specs.declared.Partition.{Partition}
use Rattle.partitions.specs.declared.Step.{Step}
use Rattle.errors.specs.declared.Answer.{Answer}

-- an image's length is a multiple of 16, from 16 to 1,048,576 bytes
pub record LengthRule (n : ℕ) : Type 0 where
  pub multiple : n % 16 ≡ 0
  pub least : 16 ≤ n
  pub most : n ≤ 1_048_576

-- the partition at an offset: its header's offset, blocks and signature
unfoldable pub partition_at : List ℕ → ℕ → Partition
partition_at image at =
    record { offset = at; blocks = record { 0 = blocks_at image at }; signature = byte_at image at 0 }

-- the offset just past it
unfoldable pub past_at : List ℕ → ℕ → ℕ
past_at image at = at + blocks_at image at * 16

-- sound partitions follow each other from one offset to another
pub data Cover (image : List ℕ) : ℕ → ℕ → List Partition → Type 0 where
  here : {a : ℕ} → Cover image a a []
  next : {a b : ℕ} {ps : List Partition} → Sound image a → Cover image (past_at image a) b ps
      → Cover image a b (partition_at image a ∷ ps)

-- an accepted image: partitions cover it from its first byte to its last (document 01: taken)
pub record Accepted (image : List ℕ) (ps : List Partition) : Type 0 where
  pub long : LengthRule (length image)
  pub cover : Cover image 0 (length image) ps

-- an accepted image of n partitions
pub record PartitionCount (image : List ℕ) (n : ℕ) : Type 0 where
  pub all : List Partition
  pub accepted : Accepted image all
  pub counted : length all ≡ n

-- an image refused by 1 to 4: its length breaks the rule, or a cover reaches a header that breaks one
pub data Rejected (image : List ℕ) : Error → Type 0 where
  one : ¬ (LengthRule (length image)) → Rejected image ImageLength
  header : {a : ℕ} {ps : List Partition} {f : HeaderFault} → LengthRule (length image) → Cover image 0 a ps → a < length image
      → Breaks image a f → Rejected image (BadHeader f a)

-- the header at an offset has this signature, and its twelve bytes of name match this name
pub record Named (image : List ℕ) (signature : ℕ) (name : List ℕ) (at : ℕ) : Type 0 where
  pub signed : byte_at image at 0 ≡ signature
  pub named : MatchesName (name_at image at) name

-- no partition of a list is so named
abbrev pub NoneNamed : List ℕ → ℕ → List ℕ → List Partition → Type 0
NoneNamed image signature name [] = Unit {0}
NoneNamed image signature name (p ∷ ps) = ¬ (Named image signature name p.offset) × NoneNamed image signature name ps

-- the first partition in image order of this signature and name
pub record FirstNamed (image : List ℕ) (signature : ℕ) (name : List ℕ) (p : Partition) : Type 0 where
  pub before : List Partition
  pub after : List Partition
  pub accepted : Accepted image (before ++ p ∷ after)
  pub unnamed : NoneNamed image signature name before
  pub named : Named image signature name p.offset

-- the image is accepted, and p is the only partition of this signature and name: none before it and none after it has them
pub record OnlyNamed (image : List ℕ) (signature : ℕ) (name : List ℕ) (p : Partition) : Type 0 where
  pub before : List Partition
  pub after : List Partition
  pub accepted : Accepted image (before ++ p ∷ after)
  pub unnamed-before : NoneNamed image signature name before
  pub named : Named image signature name p.offset
  pub unnamed-after : NoneNamed image signature name after

-- code 20: the image is accepted, and p is the second partition of this signature and name: exactly one before it has them
pub record SecondNamed (image : List ℕ) (signature : ℕ) (name : List ℕ) (p : Partition) : Type 0 where
  pub before : List Partition
  pub first : Partition
  pub between : List Partition
  pub after : List Partition
  pub accepted : Accepted image (before ++ first ∷ between ++ p ∷ after)
  pub unnamed-before : NoneNamed image signature name before
  pub first-named : Named image signature name first.offset
  pub unnamed-between : NoneNamed image signature name between
  pub named : Named image signature name p.offset

-- the partition of an index
pub record Indexed (image : List ℕ) (n : ℕ) (p : Partition) : Type 0 where
  pub before : List Partition
  pub after : List Partition
  pub accepted : Accepted image (before ++ p ∷ after)
  pub counted : length before ≡ n

-- code 6: the image is accepted, and no partition is so named
pub record NotNamed (image : List ℕ) (signature : ℕ) (name : List ℕ) : Type 0 where
  pub all : List Partition
  pub accepted : Accepted image all
  pub unnamed : NoneNamed image signature name all

-- there is no only partition of this signature and name, and the error that says why
pub data NotOnly (image : List ℕ) (signature : ℕ) (name : List ℕ) : Error → Type 0 where
  rejected : {e : Error} → Rejected image e → NotOnly image signature name e
  second : {p : Partition} → SecondNamed image signature name p → NotOnly image signature name (RepeatedPartition p.offset)
  absent : NotNamed image signature name → NotOnly image signature name NoPartition

-- code 6: the image is accepted, and has no more partitions than the index
pub record NotIndexed (image : List ℕ) (n : ℕ) : Type 0 where
  pub all : List Partition
  pub accepted : Accepted image all
  pub few : length all ≤ n

-- the data area: the bytes from offset + 16 to offset + 16 x blocks
unfoldable pub area_at : List ℕ → ℕ → List ℕ
area_at image at = take (blocks_at image at * 16 - 16) (drop (at + 16) image)

-- an image that has changed in the data area of the partition at an offset, and in no byte outside it
pub record OutsideKept (image : List ℕ) (at : ℕ) (changed : List ℕ) : Type 0 where
  pub long : length changed ≡ length image
  pub before : take (at + 16) changed ≡ take (at + 16) image
  pub after : drop (past_at image at) changed ≡ drop (past_at image at) image

-- what a caller sees of a step at an offset: the partition there and the next offset, the end, or the first rule that is broken
pub data StepRow (image : List ℕ) (at : ℕ) : Answer (Option Step) → Type 0 where
  shows : Sound image at
      → StepRow image at
      (record { code = 0; offset = 0; value = Some (record { here = partition_at image at; next = record { at = past_at image at } }) })
  ends : length image ≤ at → StepRow image at (record { code = 0; offset = 0; value = None })
  step-two : at < length image → Breaks image at ZeroLength → StepRow image at (record { code = 2; offset = at; value = None })
  step-three : at < length image → Breaks image at PastEnd → StepRow image at (record { code = 3; offset = at; value = None })
  step-four : at < length image → Breaks image at Checksum → StepRow image at (record { code = 4; offset = at; value = None })
