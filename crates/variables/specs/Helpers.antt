-- For the code of each call: the scan for a name, and the offset of a reply.
use Rattle.std.specs.Prelude.{ℕ, List, Result, Err}
use Rattle.errors.specs.declared.Error.{Error}
use Rattle.errors.specs.declared.Error.TheVariants.{BadName}
use Rattle.errors.specs.Errors.{offset_of}
use Rattle.names.specs.Name.{name_check, on_check}
use Rattle.pairs.specs.declared.Scanned.{Scanned}
use Rattle.pairs.specs.Area.{parse}
use Rattle.pairs.specs.Helpers.{scanned_of, find_at}
use Rattle.variables.specs.Calls.{Reply, done, refused}

-- the scan of an area for a variable; 11 goes before the area's faults
unfoldable pub named_scan : List ℕ → List ℕ → Result Scanned Error
named_scan area name = on_check (name_check name) (scanned_of (parse area) (find_at area name)) (λ at. Err (BadName at))

-- the offset of a refused reply
abbrev pub reply_offset : Reply → ℕ
reply_offset (done amount) = 0
reply_offset (refused e) = offset_of e
