-- Every call on an image: what it answers, and the image afterwards.
use Rattle.std.specs.Prelude.{ℕ, ⊤, ◌+◌, List, [], Result, Ok, Err}
use Rattle.lists.specs.Pasted.{pasted}
use Rattle.errors.specs.declared.Error.{Error}
use Rattle.errors.specs.declared.Error.TheVariants.{BadName}
use Rattle.errors.specs.declared.Answer.{Answer}
use Rattle.errors.specs.Answer.{done_answer, refused_answer, answer_of}
use Rattle.errors.specs.Errors.{moved}
use Rattle.names.specs.Name.{on_check}
use Rattle.partitions.specs.Find.{Found, area_of}
use Rattle.variables.specs.Calls.{Call, lent, call_check, Reply, done, refused, Outcome, call_area}
use Rattle.nvram.specs.Common.{common_of}

-- what the caller is told by a call on variables: code, offset, a length or count, and the buffer afterwards
pub record Told : Type 0 where
  pub code : ℕ
  pub offset : ℕ
  pub amount : ℕ
  pub buffer : List ℕ

-- an answer with the buffer afterwards
abbrev pub with_buffer : Answer ℕ → List ℕ → Told
with_buffer a buffer = record { code = a.code; offset = a.offset; amount = a.value; buffer = buffer }

-- what a count tells
abbrev pub count_told : Result ℕ Error → Told
count_told r = with_buffer (answer_of 0 r) []

-- what a read tells
abbrev pub read_told : Result ℕ Error → List ℕ → Told
read_told r buffer = with_buffer (answer_of 0 r) buffer

-- what a set, a removal or a normalizing tells, which has no length or count
abbrev pub edit_told : Result ⊤ Error → Told
edit_told r = record { code = (answer_of tt r).code; offset = (answer_of tt r).offset; amount = 0; buffer = [] }

-- a refusal tells its code and offset, no length or count, and leaves the buffer
abbrev pub refusal : Error → List ℕ → Told
refusal e buffer = with_buffer (refused_answer 0 e) buffer

-- a reply of a call on an area that begins at n; the area's faults have offsets in the image
abbrev pub told_at : ℕ → Reply → List ℕ → Told
told_at n (done amount) buffer = with_buffer (done_answer amount) buffer
told_at n (refused e) buffer = refusal (moved n e) buffer

-- what a call tells, and the image afterwards
pub record ImageOutcome : Type 0 where
  pub told : Told
  pub image : List ℕ

-- a call that is refused leaves the image
abbrev pub refused_call : Error → Call → List ℕ → ImageOutcome
refused_call e call image = record { told = refusal e (lent call); image = image }

-- the call on the area of the partition that was found; no byte outside it changes
abbrev pub call_found : Call → List ℕ → Found → ImageOutcome
call_found call image (Ok p) =
    let o : Outcome = call_area call (area_of image (Ok p)) in
    record { told = told_at (p.offset + 16) o.reply o.buffer; image = pasted image (p.offset + 16) o.area }
call_found call image (Err e) = refused_call e call image

-- a call on an image: 11 first, then its length, its headers and that it has one `common`, then the area
unfoldable pub call_image : Call → List ℕ → ImageOutcome
call_image call image = on_check (call_check call) (call_found call image (common_of image)) (λ at. refused_call (BadName at) call image)
