-- What a caller sees of each answer: code 0 and the value, or the error's code and offset, and the type's default for a value.
use Rattle.std.specs.Prelude.{ℕ, List, Option, None, Result}
use Rattle.errors.specs.declared.Error.{Error}
use Rattle.errors.specs.declared.Answer.{Answer}
use Rattle.errors.specs.Answer.{answer_of}
use Rattle.partitions.specs.declared.Partition.{Partition}
use Rattle.partitions.specs.declared.Step.{Step}
use Rattle.partitions.specs.Walk.{Stepped}
use Rattle.partitions.specs.Find.{Found, area_of}

-- a step of the walk: the partition and the next offset, none at the end
abbrev pub step_answer : Stepped → Answer (Option Step)
step_answer step = answer_of None step

-- the image check: the number of partitions
abbrev pub check_answer : Result ℕ Error → Answer ℕ
check_answer checked = answer_of 0 checked

-- no partition: all numbers 0
abbrev pub no_partition : Partition
no_partition = record { offset = 0; blocks = record { 0 = 0 }; signature = 0 }

-- a partition by its index or by its signature and name
abbrev pub find_answer : Found → Answer Partition
find_answer found = answer_of no_partition found

-- its data area: the code and the offset of the partition that is sought, and the area's bytes, none where it is refused
abbrev pub area_answer : List ℕ → Found → Answer (List ℕ)
area_answer image found = record { code = (find_answer found).code; offset = (find_answer found).offset; value = area_of image found }
