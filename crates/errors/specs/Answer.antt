-- What a caller sees of a result.
use Rattle.std.specs.Prelude.{◌≡◌, Result, Ok, Err}
use Rattle.errors.specs.declared.Error.{Error}
use Rattle.errors.specs.declared.Answer.{Answer}
use Rattle.errors.specs.Errors.{code_of, offset_of}

module _ {T : Type 0} where
  -- of a call that is done: code 0, and its value
  abbrev pub done_answer : T → Answer T
  done_answer value = record { code = 0; offset = 0; value = value }

  -- of one that is refused: the error's code and offset, and a default for the value
  abbrev pub refused_answer : T → Error → Answer T
  refused_answer default e = record { code = code_of e; offset = offset_of e; value = default }

  -- of either
  abbrev pub answer_of : T → Result T Error → Answer T
  answer_of default (Ok value) = done_answer value
  answer_of default (Err e) = refused_answer default e

  -- the same, for any default of the values' type
  abbrev pub Shows : (T → Type 0) → Result T Error → Answer T → Type 0
  Shows is_default (Ok value) answer = answer ≡ done_answer value
  Shows is_default (Err e) answer = (default : T) × is_default default × (answer ≡ refused_answer default e)
