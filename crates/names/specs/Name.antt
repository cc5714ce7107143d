-- The rule of a variable's name, and where a name breaks it first.
use Rattle.std.specs.Prelude.{ℕ, ◌+◌, Bool, ◌&&◌, not, cond, List, [], ◌∷◌, leb, ltb, eqb, ⊤, Result, Ok, Err}
use Rattle.names.specs.declared.NameFault.{NameFault}

-- lo ≤ b ≤ hi
abbrev pub within : ℕ → ℕ → ℕ → Bool
within lo hi b = leb lo b && leb b hi

-- 0x21 to 0x7E without A to Z, `/`, `\`, `:`, `[`, `]`, `@` and `=`
unfoldable pub name_byte : ℕ → Bool
name_byte b =
    within 0x21 0x7E b && not (within 0x41 0x5A b) && not (eqb b 0x2F) && not (eqb b 0x5C) && not (eqb b 0x3A) && not (eqb b 0x5B)
    && not (eqb b 0x5D) && not (eqb b 0x40) && not (eqb b 0x3D)

-- what a check finds: nothing, or where the name breaks the rule first
abbrev pub NameCheck : Type 0
NameCheck = Result ⊤ NameFault

-- it keeps the rule
abbrev pub good : NameCheck
good = Ok tt

-- it breaks the rule first at an index
abbrev pub wrong : ℕ → NameCheck
wrong at = Err (record { at = at })

-- a choice by what the check of a name found: the first where it is good, else the second, of the index
module _ {A : Type 0} where
  abbrev pub on_check : NameCheck → A → (ℕ → A) → A
  on_check (Ok _) a f = a
  on_check (Err fault) a f = f fault.at

-- the bytes from index i on: at most 31 in all, each allowed; none at all is wrong at 0
unfoldable pub name_check_from : ℕ → List ℕ → NameCheck
name_check_from i [] = cond (eqb i 0) (wrong 0) good
name_check_from i (b ∷ bs) = cond (ltb i 31 && name_byte b) (name_check_from (i + 1) bs) (wrong i)

-- a name has 1 to 31 bytes, each allowed; the index is that of the first byte that is not, or of the 32nd
unfoldable pub name_check : List ℕ → NameCheck
name_check name = name_check_from 0 name
