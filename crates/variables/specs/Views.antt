-- The answers of the calls as replies.
use Rattle.std.specs.Prelude.{ℕ, ⊤, Result, Ok, Err}
use Rattle.errors.specs.declared.Error.{Error}
use Rattle.variables.specs.Calls.{Reply, done, refused}

-- the number of variables, or the length of the value that was read
abbrev pub amount_reply : Result ℕ Error → Reply
amount_reply (Ok n) = done n
amount_reply (Err e) = refused e

-- an edit, which has no length or count
abbrev pub edit_reply : Result ⊤ Error → Reply
edit_reply (Ok _) = done 0
edit_reply (Err e) = refused e
