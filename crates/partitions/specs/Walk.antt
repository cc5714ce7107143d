-- The walk of an image's partitions, step by step from byte 0.
use Rattle.std.specs.Prelude.{ℕ, zero, suc, ◌+◌, ◌%◌, Bool, ◌&&◌, cond, List, [], ◌∷◌, length, leb, eqb, Option, Some, None, Result, Ok, Err}
use Rattle.errors.specs.declared.Error.{Error}
use Rattle.errors.specs.declared.HeaderFault.TheVariants.{PastEnd}
use Rattle.errors.specs.declared.Error.TheVariants.{ImageLength, BadHeader}
use Rattle.header.specs.Header.{Validity, header_at, validity_at, bytes_of}
use Rattle.partitions.specs.declared.Partition.{Partition}
use Rattle.partitions.specs.declared.Step.{Step}

-- an image's length is a multiple of 16, from 16 to 1,048,576 bytes
unfoldable pub allowed_length : ℕ → Bool
allowed_length n = eqb (n % 16) 0 && (leb 16 n && leb n 1_048_576)

-- the partition of the header at an offset
unfoldable pub partition_of : List ℕ → ℕ → Partition
partition_of image at =
    record { offset = at; blocks = (header_at image at).length; signature = (header_at image at).signature }

-- the offset just past it
unfoldable pub past_of : List ℕ → ℕ → ℕ
past_of image at = at + (bytes_of (header_at image at).length).0

-- the step from a sound header at an offset: the partition there, and the offset just past it
abbrev pub onward : List ℕ → ℕ → Step
onward image at = record { here = partition_of image at; next = record { at = past_of image at } }

-- what a step finds: a partition and the next offset, nothing at the end, or an error
abbrev pub Stepped : Type 0
Stepped = Result (Option Step) Error

-- what a step finds inside the image, by the validity of the header there
abbrev pub step_by : List ℕ → ℕ → Validity → Stepped
step_by image at (Ok _) = Ok (Some (onward image at))
step_by image at (Err e) = Err e

-- what a step at an offset finds: the partition and its next offset, the end, or the rule that its header breaks
unfoldable pub step_at : List ℕ → ℕ → Stepped
step_at image at = cond (leb (length image) at) (Ok None) (step_by image at (validity_at image at))

-- what a walk finds: the partitions up to the image's end, or the first rule that is broken
pub data Walk : Type 0 where
  covered : List Partition → Walk
  broken : Error → Walk

-- a partition put before what a walk finds
abbrev pub first : Partition → Walk → Walk
first p (covered ps) = covered (p ∷ ps)
first p (broken e) = broken e

-- what a walk finds, by its first step; go: the walk from the next offset
abbrev pub on_step : Stepped → (ℕ → Walk) → Walk
on_step (Ok (Some s)) go = first s.here (go s.next.at)
on_step (Ok None) go = covered []
on_step (Err e) go = broken e

-- the walk from an offset; the first number bounds its steps, and one more than the image's length is enough
unfoldable pub walk_from : ℕ → List ℕ → ℕ → Walk
walk_from zero image at = broken (BadHeader PastEnd at)
walk_from (suc n) image at = on_step (step_at image at) (λ past. walk_from n image past)

-- the walk of an image of an allowed length
unfoldable pub walk : List ℕ → Walk
walk image =
    cond (allowed_length (length image)) (walk_from (suc (length image)) image 0) (broken ImageLength)
