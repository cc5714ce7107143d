-- The calls on variables, and what each answers and leaves of an area.
use Rattle.std.specs.Prelude.{ℕ, ◌+◌, cond, List, [], length, ltb}
use Rattle.lists.specs.Pasted.{pasted}
use Rattle.errors.specs.declared.Error.{Error}
use Rattle.errors.specs.declared.Error.TheVariants.{BadArea, BadName, NoVariable, NoRoom, ShortBuffer}
use Rattle.names.specs.Name.{NameCheck, good, name_check, on_check}
use Rattle.pairs.specs.Area.{Pair, pairs_bytes, Parse, parsed, faulty, parse}
use Rattle.variables.specs.Edits.{area_bytes, set_pair, remove_pair, normalize_pairs, Lookup, found, missing, lookup}

-- what is done with a variable: it is set to a value, removed, or read into a buffer as it was lent
pub data Action : Type 0 where
  set_to : List ℕ → Action
  removal : Action
  read_into : List ℕ → Action

-- a call on one variable, by its name, or on all of them
pub data Call : Type 0 where
  named : List ℕ → Action → Call
  normalize : Call
  count : Call

-- a set of a name to a value
abbrev pub set : List ℕ → List ℕ → Call
set name value = named name (set_to value)

-- a removal of a name
abbrev pub remove : List ℕ → Call
remove name = named name removal

-- a read of a name into a buffer
abbrev pub read : List ℕ → List ℕ → Call
read name buffer = named name (read_into buffer)

-- the buffer that is lent for an action
abbrev pub lent_by : Action → List ℕ
lent_by (set_to value) = []
lent_by removal = []
lent_by (read_into buffer) = buffer

-- the buffer that a call lends
abbrev pub lent : Call → List ℕ
lent (named name action) = lent_by action
lent normalize = []
lent count = []

-- what the check of the caller's name finds; a call that takes none has nothing wrong
unfoldable pub call_check : Call → NameCheck
call_check (named name action) = name_check name
call_check normalize = good
call_check count = good

-- done, with the length or count that is answered; or refused
pub data Reply : Type 0 where
  done : ℕ → Reply
  refused : Error → Reply

-- the reply, and the buffer and the area afterwards
pub record Outcome : Type 0 where
  pub reply : Reply
  pub buffer : List ℕ
  pub area : List ℕ

-- a refused call leaves the buffer and the area
abbrev pub refuse : Error → Call → List ℕ → Outcome
refuse e call area = record { reply = refused e; buffer = lent call; area = area }

-- an edit that is done leaves this area
abbrev pub edited : List ℕ → Outcome
edited area = record { reply = done 0; buffer = []; area = area }

-- 13 where the pairs and the ending 0x00 exceed the area
unfoldable pub set_in : List ℕ → List ℕ → List Pair → List ℕ → Outcome
set_in name value ps area =
    cond (ltb (length area) (length (pairs_bytes (set_pair name value ps)) + 1)) (refuse NoRoom (set name value) area)
    (edited (area_bytes (length area) (set_pair name value ps)))

-- 12 where no pair has the name
abbrev pub remove_by : Lookup → List ℕ → List Pair → List ℕ → Outcome
remove_by (found value) name ps area = edited (area_bytes (length area) (remove_pair name ps))
remove_by missing name ps area = refuse NoVariable (remove name) area

-- 12 as above; 14 where the buffer is shorter than the value; else the value at its start, and the bytes after it kept
abbrev pub read_by : Lookup → List ℕ → List ℕ → List ℕ → Outcome
read_by (found value) name buffer area =
    cond (ltb (length buffer) (length value)) (refuse ShortBuffer (read name buffer) area)
    (record { reply = done (length value); buffer = pasted buffer 0 value; area = area })
read_by missing name buffer area = refuse NoVariable (read name buffer) area

-- what a call does to an area of these pairs
unfoldable pub call_pairs : Call → List Pair → List ℕ → Outcome
call_pairs (named name (set_to value)) ps area = set_in name value ps area
call_pairs (named name removal) ps area = remove_by (lookup name ps) name ps area
call_pairs (named name (read_into buffer)) ps area = read_by (lookup name ps) name buffer area
call_pairs normalize ps area = edited (area_bytes (length area) (normalize_pairs ps))
call_pairs count ps area = record { reply = done (length ps); buffer = []; area = area }

-- what a call does to an area, by its parse
abbrev pub call_by : Parse → Call → List ℕ → Outcome
call_by (parsed ps) call area = call_pairs call ps area
call_by (faulty f at) call area = refuse (BadArea f at) call area

-- a call on an area: 11 first, then the area's faults
unfoldable pub call_area : Call → List ℕ → Outcome
call_area call area = on_check (call_check call) (call_by (parse area) call area) (λ at. refuse (BadName at) call area)
