-- For the loops: the first of two bytes in a list, and bytes moved inside a list.
use Rattle.std.specs.Prelude.{ℕ, ◌-◌, Bool, ◌&&◌, ◌||◌, cond, List, length, take, drop, eqb, leb}
use Rattle.std.specs.List.{position_or_len}
use Rattle.lists.specs.Pasted.{pasted}

-- x is b or c
abbrev pub either : ℕ → ℕ → ℕ → Bool
either b c x = eqb x b || eqb x c

-- how many bytes stand before the first that is b or c
unfoldable pub until_either : ℕ → ℕ → List ℕ → ℕ
until_either b c l = position_or_len (either b c) l

-- d with its n bytes at `from` written over it at `to`, if both lie inside it; else d
unfoldable pub moved_bytes : List ℕ → ℕ → ℕ → ℕ → List ℕ
moved_bytes d from to n =
    cond (leb n (length d) && (leb from (length d - n) && leb to (length d - n))) (pasted d to (take n (drop from d))) d
