-- The reference model (document 01: the plain list): an ordered list of entries that sees only the calls.
use Rattle.std.specs.Prelude.{ℕ, ◌+◌, ◌-◌, Bool, true, false, ◌&&◌, cond, List, [], ◌∷◌, ◌++◌, length, drop, replicate, ltb, eqb}
use Rattle.names.specs.Name.{name_check, on_check}
use Rattle.values.specs.Value.{encode}
use Rattle.pairs.specs.Rules.{Entry}
use Rattle.variables.specs.Calls.{Action, set_to, removal, read_into, lent_by, Call, named, normalize, count}
use Rattle.nvram.specs.Calls.{Told}

-- the area's length, which stays, and the entries in order
pub record Model : Type 0 where
  pub room : ℕ
  pub entries : List Entry

-- two names are the same
unfoldable pub same : List ℕ → List ℕ → Bool
same [] [] = true
same [] (y ∷ ys) = false
same (x ∷ xs) [] = false
same (x ∷ xs) (y ∷ ys) = eqb x y && same xs ys

-- an entry of its new size: the bytes of its name and of its value's canonical form, and 2
abbrev pub new_entry : List ℕ → List ℕ → Entry
new_entry name value = record { name = name; value = value; size = length name + length (encode value) + 2 }

-- the sum of all sizes
unfoldable pub total : List Entry → ℕ
total [] = 0
total (e ∷ es) = e.size + total es

-- the entry of that name gets the new value and new size where it is; if there is none, one is added at the end
unfoldable pub set_entry : List ℕ → List ℕ → List Entry → List Entry
set_entry name value [] = new_entry name value ∷ []
set_entry name value (e ∷ es) =
    elim (same name e.name) [ true ↦ new_entry name value ∷ es | false ↦ e ∷ set_entry name value es ]

-- the entry of that name goes
unfoldable pub drop_entry : List ℕ → List Entry → List Entry
drop_entry name [] = []
drop_entry name (e ∷ es) = elim (same name e.name) [ true ↦ es | false ↦ e ∷ drop_entry name es ]

-- every entry gets its new size
unfoldable pub new_sizes : List Entry → List Entry
new_sizes [] = []
new_sizes (e ∷ es) = new_entry e.name e.value ∷ new_sizes es

-- a value, or none
pub data Value : Type 0 where
  some : List ℕ → Value
  none : Value

-- the value of the first entry of that name, if one has it
unfoldable pub value_of : List ℕ → List Entry → Value
value_of name [] = none
value_of name (e ∷ es) = elim (same name e.name) [ true ↦ some e.value | false ↦ value_of name es ]

-- what the caller is told, and the model afterwards
pub record ModelResult : Type 0 where
  pub told : Told
  pub model : Model

-- done, with a length or count, and the buffer
abbrev pub says : ℕ → List ℕ → Told
says amount buffer = record { code = 0; offset = 0; amount = amount; buffer = buffer }

-- refused by a code at an offset (the table's), and the buffer as it was
abbrev pub denies : ℕ → ℕ → List ℕ → Told
denies code offset buffer = record { code = code; offset = offset; amount = 0; buffer = buffer }

-- a refusal leaves the model
abbrev pub keeps : Told → Model → ModelResult
keeps t m = record { told = t; model = m }

-- done: the model gets these entries
abbrev pub becomes : List Entry → Model → ModelResult
becomes es m = record { told = says 0 []; model = record { room = m.room; entries = es } }

-- 12 if no entry has the name
abbrev pub remove_model : Value → List ℕ → Model → ModelResult
remove_model (some value) name m = becomes (drop_entry name m.entries) m
remove_model none name m = keeps (denies 12 0 []) m

-- 12 as above; 14 if the buffer is shorter than the value; else the value at its start with the bytes after it kept
abbrev pub read_model : Value → List ℕ → Model → ModelResult
read_model (some value) buffer m =
    cond (ltb (length buffer) (length value)) (keeps (denies 14 0 buffer) m)
    (keeps (says (length value) (value ++ drop (length value) buffer)) m)
read_model none buffer m = keeps (denies 12 0 buffer) m

-- 13 if the sum of all sizes, plus 1, exceeds the area's length
abbrev pub set_model : List Entry → Model → ModelResult
set_model es m = cond (ltb m.room (total es + 1)) (keeps (denies 13 0 []) m) (becomes es m)

-- what is done with an entry, by a name that keeps the rule
abbrev pub action_model : Action → List ℕ → Model → ModelResult
action_model (set_to value) name m = set_model (set_entry name value m.entries) m
action_model removal name m = remove_model (value_of name m.entries) name m
action_model (read_into buffer) name m = read_model (value_of name m.entries) buffer m

-- one call; 11 if the name breaks the name rule, at the index where it does so first
unfoldable pub call_model : Call → Model → ModelResult
call_model (named name action) m = on_check (name_check name) (action_model action name m) (λ at. keeps (denies 11 at (lent_by action)) m)
call_model normalize m = becomes (new_sizes m.entries) m
call_model count m = keeps (says (length m.entries) []) m

-- a list of calls
pub record ModelResults : Type 0 where
  pub told : List Told
  pub model : Model

-- what the calls tell, in their order, and the model after the last
unfoldable pub run_model : List Call → Model → ModelResults
run_model [] m = record { told = []; model = m }
run_model (call ∷ calls) m =
    let s : ModelResult = call_model call m in
    let r : ModelResults = run_model calls s.model in
    record { told = s.told ∷ r.told; model = r.model }

-- the canonical form of entries as an area of a length: each pair with its value in canonical form, then 0x00 to the end
unfoldable pub canonical_bytes : List Entry → List ℕ
canonical_bytes [] = []
canonical_bytes (e ∷ es) = e.name ++ 0x3D ∷ (encode e.value ++ 0x00 ∷ canonical_bytes es)

-- those bytes, the ending 0x00, and 0x00 to the length
unfoldable pub canonical_area : ℕ → List Entry → List ℕ
canonical_area room es = canonical_bytes es ++ 0x00 ∷ replicate (room - (length (canonical_bytes es) + 1)) 0x00
