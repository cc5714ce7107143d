-- What writing a listing into a lent buffer answers and leaves.
use Rattle.std.specs.Prelude.{ℕ, cond, List, length, leb, Result, Ok, Err}
use Rattle.lists.specs.Pasted.{written_in}
use Rattle.errors.specs.declared.Error.{Error}
use Rattle.errors.specs.declared.Error.TheVariants.{ShortBuffer}
use Rattle.errors.specs.declared.Answer.{Answer}
use Rattle.errors.specs.Answer.{answer_of}
use Rattle.listing.specs.Text.{listing_text}
use Rattle.listing.specs.Rules.{ListSeen}

-- what writing a listing answers: the text's length, or why it is refused
abbrev pub Listed : Type 0
Listed = Result ℕ Error

-- the text's length where the buffer has room for it; else code 14
unfoldable pub listed_of : List ℕ → ℕ → Listed
listed_of text room = cond (leb (length text) room) (Ok (length text)) (Err ShortBuffer)

-- the caller's view: code 0 and the length, or the error's code and 0
abbrev pub list_answer : Listed → Answer ℕ
list_answer listed = answer_of 0 listed

-- all that the caller sees of the listing of an image into a buffer
abbrev pub seen_listing : List ℕ → List ℕ → ListSeen
seen_listing image buffer =
    let told : Answer ℕ = list_answer (listed_of (listing_text image) (length buffer)) in
    record { code = told.code; amount = told.value; buffer = written_in (listing_text image) buffer }
