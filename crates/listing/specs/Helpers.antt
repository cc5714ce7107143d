-- For the functions behind a listing: what they answer, a piece that is written, the size of the lines, and the lines.
use Rattle.std.specs.Prelude.{ℕ, ◌+◌, ◌≤◌, ◌≡◌, List, [], length, Result, Ok, Err}
use Rattle.lists.specs.Pasted.{pasted}
use Rattle.errors.specs.declared.Error.{Error}
use Rattle.partitions.specs.declared.Partition.{Partition}
use Rattle.partitions.specs.Walk.{Walk, covered, broken, walk}
use Rattle.listing.specs.declared.Lines.{Lines}
use Rattle.listing.specs.declared.Writer.{Writer}
use Rattle.listing.specs.Text.{lines, blocks_sum}

-- a writer has room for n bytes more
abbrev pub HasRoom : Writer → ℕ → Type 0
HasRoom w n = w.at + n ≤ length w.text.now

-- writer w has written s to its buffer from its offset on, and has become v
pub record Wrote (w : Writer) (s : List ℕ) (v : Writer) : Type 0 where
  pub same : v.text.ghost_name ≡ w.text.ghost_name
  pub long : length v.text.now ≡ length w.text.now
  pub end : v.at ≡ w.at + length s
  pub room : v.at ≤ length w.text.now
  pub text : v.text.now ≡ pasted w.text.now w.at s

-- what measuring the lines of an image answers: what they take, or the rule that is broken
abbrev pub Measured : Type 0
Measured = Result Lines Error

-- the bytes of all lines and the blocks of all partitions, or the rule that is broken
unfoldable pub measured_by : List ℕ → Walk → Measured
measured_by image (covered ps) = Ok (record { bytes = length (lines image ps); blocks = blocks_sum ps })
measured_by image (broken e) = Err e

-- the same, by the walk of an image
unfoldable pub measured_of : List ℕ → Measured
measured_of image = measured_by image (walk image)

-- the lines of the partitions that a walk finds, none where it breaks
unfoldable pub lines_by : List ℕ → Walk → List ℕ
lines_by image (covered ps) = lines image ps
lines_by image (broken e) = []

-- the lines of an image, by its walk
unfoldable pub lines_of : List ℕ → List ℕ
lines_of image = lines_by image (walk image)

-- an image that is accepted
pub record Covered (image : List ℕ) : Type 0 where
  pub all : List Partition
  pub so : walk image ≡ covered all
