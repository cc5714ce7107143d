-- What two names have in common, and the hash of a name, for the contracts of the private functions.
use Rattle.std.specs.Prelude.{ℕ, ◌+◌, ◌*◌, ◌/◌, ◌%◌, ◌&&◌, not, nat_eq, List, length, take_while, zip, fold}
use Rattle.std.specs.Int.Bits.{bit_xor}
use Rattle.repeats.specs.Pieces.{ends_name}

-- a byte more in a hash: the two halves of the hash by multiply with carry, and the byte spread over them by exclusive or
unfoldable pub mixed : ℕ → ℕ → ℕ
mixed h b = bit_xor (h % 4294967296 * 4294957665 + h / 4294967296) (b * 44534042262981245)

-- the hash of a name
abbrev pub hash_of : List ℕ → ℕ
hash_of name = fold mixed 11400714819323198485 name

-- how many bytes the names of two pieces have in common
abbrev pub common : List ℕ → List ℕ → ℕ
common x y = length (take_while (λ (p : ℕ × ℕ). nat_eq p.0 p.1 && not (ends_name p.0)) (zip x y))
