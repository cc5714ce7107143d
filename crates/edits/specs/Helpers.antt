-- For the code of a set and of a removal: what it answers and leaves, by offsets of the area.
use Rattle.std.specs.Prelude.{ℕ, ◌+◌, ◌-◌, cond, List, ◌++◌, length, take, drop, replicate, ltb}
use Rattle.lists.specs.Pasted.{pasted}
use Rattle.errors.specs.declared.Error.TheVariants.{NoRoom}
use Rattle.variables.specs.Calls.{Reply, done, refused}

-- the bytes from `rest` up to `used` stand at `to`, what was before `to` stays, and 0x00 follows to the area's end
unfoldable pub tail_shifted : List ℕ → ℕ → ℕ → ℕ → List ℕ
tail_shifted d rest to used =
    take to d ++ (take (used - rest) (drop rest d) ++ replicate (length d - (to + (used - rest))) 0x00)

-- the bytes from `start` up to `rest` give way to new ones, and what stands up to `used` follows; 13 where that has no room
unfoldable pub replace_reply : List ℕ → ℕ → ℕ → ℕ → List ℕ → Reply
replace_reply area start rest used new =
    cond (ltb (length area) (start + length new + (used - rest) + 1)) (refused NoRoom) (done 0)

-- the area afterwards
unfoldable pub replace_area : List ℕ → ℕ → ℕ → ℕ → List ℕ → List ℕ
replace_area area start rest used new =
    cond (ltb (length area) (start + length new + (used - rest) + 1)) area
    (pasted (tail_shifted area rest (start + length new) used) start new)
