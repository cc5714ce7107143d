-- How a value is stored: 0x01 to 0xFE stand for themselves, and 0xFF begins an escape, which stands for a run of 0x00 or of 0xFF.
use Rattle.std.specs.Prelude.{ℕ, zero, suc, ◌+◌, ◌/◌, ◌%◌, Bool, true, false, ◌&&◌, ◌||◌, not, cond, List, [], ◌∷◌, ◌++◌, length, replicate, leb, ltb, eqb, Option, Some, None}

-- ---- from stored bytes to the value

-- the byte that is repeated, by the top bit of an escape's second byte
unfoldable pub run_byte : ℕ → ℕ
run_byte c = cond (ltb c 128) 0x00 0xFF

-- the run that an escape stands for, by its second byte
unfoldable pub run : ℕ → List ℕ
run c = replicate (c % 128) (run_byte c)

-- after: the byte before was an escape's 0xFF
unfoldable pub decode_from : Bool → List ℕ → List ℕ
decode_from after [] = []
decode_from true (c ∷ bs) = run c ++ decode_from false bs
decode_from false (b ∷ bs) = elim (eqb b 0xFF) [ true ↦ decode_from true bs | false ↦ b ∷ decode_from false bs ]

-- the value that stored bytes stand for
unfoldable pub decode : List ℕ → List ℕ
decode s = decode_from false s

-- after: the byte before was an escape's 0xFF
unfoldable pub spelled_from : Bool → List ℕ → Bool
spelled_from true [] = false
spelled_from false [] = true
spelled_from true (c ∷ bs) = not (eqb c 0x00) && not (eqb c 0x80) && spelled_from false bs
spelled_from false (b ∷ bs) = elim (eqb b 0xFF) [ true ↦ spelled_from true bs | false ↦ not (eqb b 0x00) && spelled_from false bs ]

-- whether stored bytes stand for a value: no 0x00 of its own, and each 0xFF is followed by a byte that is neither 0x00 nor 0x80
unfoldable pub spelled : List ℕ → Bool
spelled s = spelled_from false s

-- ---- from the value to its canonical form

-- the top bit of an escape's second byte, by the byte that is repeated
unfoldable pub mark : ℕ → ℕ
mark b = cond (eqb b 0x00) 0 128

-- k escapes of 127
unfoldable pub full_escapes : ℕ → ℕ → List ℕ
full_escapes b zero = []
full_escapes b (suc k) = 0xFF ∷ (mark b + 127) ∷ full_escapes b k

-- one escape for the rest, if there is a rest
unfoldable pub rest_escape : ℕ → ℕ → List ℕ
rest_escape b n = cond (eqb n 0) [] (0xFF ∷ (mark b + n) ∷ [])

-- a run of n: escapes of 127, as many as fit, then one for the rest if there is a rest
unfoldable pub run_bytes : ℕ → ℕ → List ℕ
run_bytes b n = full_escapes b (n / 127) ++ rest_escape b (n % 127)

-- 0x00 and 0xFF do not stand for themselves
abbrev pub escaped : ℕ → Bool
escaped x = eqb x 0x00 || eqb x 0xFF

-- b: the byte of the run that is open, n: its length so far, 0 if none is open
unfoldable pub encode_from : ℕ → ℕ → List ℕ → List ℕ
encode_from b n [] = run_bytes b n
encode_from b n (x ∷ xs) =
    elim (escaped x) [
      | true ↦ elim (eqb x b) [ true ↦ encode_from b (n + 1) xs | false ↦ run_bytes b n ++ encode_from x 1 xs ]
      | false ↦ run_bytes b n ++ x ∷ encode_from 0x00 0 xs
    ]

-- the canonical form of a value: each longest run of 0x00 or of 0xFF becomes escapes
unfoldable pub encode : List ℕ → List ℕ
encode xs = encode_from 0x00 0 xs

-- ---- bytes written to a buffer

-- the answer: the length of the bytes, if there is room for them
unfoldable pub written_of : List ℕ → ℕ → Option ℕ
written_of l room = cond (leb (length l) room) (Some (length l)) None
