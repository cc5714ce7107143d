-- For the code: the end of a name, and the check by it.
use Rattle.std.specs.Prelude.{ℕ, Bool, not, cond, List, ltb, eqb}
use Rattle.std.specs.List.{position_or_len}
use Rattle.names.specs.Name.{name_byte, NameCheck, good, wrong}

-- how many bytes stand before the first that a name may not hold
unfoldable pub allowed_ahead : List ℕ → ℕ
allowed_ahead bs = position_or_len (λ b. not (name_byte b)) bs

-- the check of a name that begins with so many allowed bytes; whole: it has no other byte
unfoldable pub check_by_allowed : ℕ → Bool → NameCheck
check_by_allowed allowed whole = cond (ltb 31 allowed) (wrong 31) (cond (eqb allowed 0) (wrong 0) (cond whole good (wrong allowed)))
