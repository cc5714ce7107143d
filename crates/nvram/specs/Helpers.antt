-- For the private functions of the calls: where the variable area stands, 11 before another error, and an answer moved into the image.
use Rattle.std.specs.Prelude.{ℕ, ◌+◌, Result, Ok, Err}
use Rattle.errors.specs.declared.Error.{Error}
use Rattle.errors.specs.declared.Error.TheVariants.{BadName}
use Rattle.errors.specs.Errors.{offset_of, moved}
use Rattle.header.specs.Header.{bytes_of}
use Rattle.names.specs.Name.{NameCheck, on_check}
use Rattle.partitions.specs.Find.{Found}
use Rattle.nvram.specs.declared.Span.{Span}

-- where the variable area stands
unfoldable pub area_span : Found → Result Span Error
area_span (Ok p) = Ok (record { start = p.offset + 16; end = p.offset + (bytes_of p.blocks).0 })
area_span (Err e) = Err e

-- 11 goes before another error
abbrev pub name_first : NameCheck → Error → Error
name_first check e = on_check check e BadName

-- where it stands for a call that takes a name: 11 goes before the error of an image that has no such area
unfoldable pub named_span : NameCheck → Found → Result Span Error
named_span check (Ok p) = area_span (Ok p)
named_span check (Err e) = Err (name_first check e)

module _ {T : Type 0} where
  -- the offset of an answer's error
  abbrev pub error_offset : Result T Error → ℕ
  error_offset (Ok value) = 0
  error_offset (Err e) = offset_of e

  -- an answer of a call on an area that begins at n, as an answer on the image
  abbrev pub answer_moved : ℕ → Result T Error → Result T Error
  answer_moved n (Ok value) = Ok value
  answer_moved n (Err e) = Err (moved n e)
