-- The checksum of a header, as the chapter adds it, its closed form, and a fold of the plain sum.
use Rattle.std.specs.Prelude.{ℕ, zero, suc, ◌+◌, ◌-◌, ◌/◌, ◌%◌, cond, List, [], ◌∷◌, leb}

-- one byte more: 1 is added where a carry leaves the byte
abbrev pub add_carry : ℕ → ℕ → ℕ
add_carry c b = cond (leb 256 (c + b)) (c + b - 255) (c + b)

-- the bytes added one after the other to what is there
unfoldable pub sum_from : ℕ → List ℕ → ℕ
sum_from c [] = c
sum_from c (b ∷ bs) = sum_from (add_carry c b) bs

-- the checksum of the covered bytes
abbrev pub sumcheck : List ℕ → ℕ
sumcheck bs = sum_from 0 bs

-- the plain sum S of some bytes
unfoldable pub sum : List ℕ → ℕ
sum [] = 0
sum (b ∷ bs) = b + sum bs

-- 0 if S = 0, else ((S - 1) mod 255) + 1
unfoldable pub closed_form : ℕ → ℕ
closed_form zero = 0
closed_form (suc s) = s % 255 + 1

-- what stands above the low byte of a number, its carries, is added to that byte; a number below 256 has none
abbrev pub fold : ℕ → ℕ
fold s = s % 256 + s / 256
