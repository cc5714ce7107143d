-- A list with other bytes written over it.
use Rattle.std.specs.Prelude.{ℕ, ◌+◌, cond, List, ◌++◌, length, take, drop, leb}

-- d with the bytes of w written over it from the offset at
unfoldable pub pasted : List ℕ → ℕ → List ℕ → List ℕ
pasted d at w = take at d ++ w ++ drop (at + length w) d

-- a buffer with bytes at its start and those after them kept, if there is room for them; else as it was
unfoldable pub written_in : List ℕ → List ℕ → List ℕ
written_in l buffer = cond (leb (length l) (length buffer)) (pasted buffer 0 l) buffer
