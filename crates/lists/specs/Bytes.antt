-- Lists of bytes: what all elements are, the test that two lists are the same, and that one stands among others.
use Rattle.std.specs.Prelude.{ℕ, ◌<◌, Bool, true, false, ◌&&◌, ◌||◌, List, [], ◌∷◌, eqb}

-- every element is so
abbrev pub Every : (ℕ → Type 0) → List ℕ → Type 0
Every P [] = Unit {0}
Every P (b ∷ bs) = P b × Every P bs

-- every element is a byte
abbrev pub AllBytes : List ℕ → Type 0
AllBytes = Every (λ b. b < 256)

-- the same bytes in the same order
unfoldable pub same_bytes : List ℕ → List ℕ → Bool
same_bytes [] [] = true
same_bytes [] (y ∷ ys) = false
same_bytes (x ∷ xs) [] = false
same_bytes (x ∷ xs) (y ∷ ys) = eqb x y && same_bytes xs ys

-- whether a name stands among others
unfoldable pub stands : List ℕ → List (List ℕ) → Bool
stands name [] = false
stands name (n ∷ ns) = same_bytes name n || stands name ns
