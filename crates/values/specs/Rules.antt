-- How a value is stored, and its canonical form, in the paper's words. Nothing here computes an answer.
use Rattle.std.specs.Prelude.{ℕ, ◌+◌, ◌≤◌, ◌<◌, ◌≡◌, List, [], ◌∷◌, ◌++◌, replicate}

-- stored bytes, and the value that they stand for: 0x01 to 0xFE stand for themselves; 0xFF is followed by a byte bnnnnnnn,
-- for n repetitions, n from 1 to 127, of 0x00 where b is 0 and of 0xFF where b is 1
pub data Spells : List ℕ → List ℕ → Type 0 where
  nothing : Spells [] []
  itself : {b : ℕ} {s v : List ℕ} → 0x01 ≤ b → b ≤ 0xFE → Spells s v → Spells (b ∷ s) (b ∷ v)
  zeros : {n : ℕ} {s v : List ℕ} → 1 ≤ n → n ≤ 127 → Spells s v → Spells (0xFF ∷ n ∷ s) (replicate n 0x00 ++ v)
  ones : {n : ℕ} {s v : List ℕ} → 1 ≤ n → n ≤ 127 → Spells s v → Spells (0xFF ∷ (128 + n) ∷ s) (replicate n 0xFF ++ v)

-- a run of n: escapes of 127, as many as fit, then one for the rest if there is a rest
pub data Escapes (top : ℕ) : ℕ → List ℕ → Type 0 where
  full : {n : ℕ} {w : List ℕ} → Escapes top n w → Escapes top (127 + n) (0xFF ∷ (top + 127) ∷ w)
  rest : {n : ℕ} → 1 ≤ n → n < 127 → Escapes top n (0xFF ∷ (top + n) ∷ [])
  none : Escapes top 0 []

-- the first byte is x
abbrev pub Begins : ℕ → List ℕ → Type 0
Begins x [] = ⊥
Begins x (y ∷ ys) = y ≡ x

-- a value, and its canonical form: each longest run of 0x00 or of 0xFF becomes escapes
pub data Canonical : List ℕ → List ℕ → Type 0 where
  nothing : Canonical [] []
  itself : {b : ℕ} {v w : List ℕ} → 0x01 ≤ b → b ≤ 0xFE → Canonical v w → Canonical (b ∷ v) (b ∷ w)
  zeros : {n : ℕ} {v w x : List ℕ} → 1 ≤ n → ¬ (Begins 0x00 v) → Escapes 0x00 n x → Canonical v w
      → Canonical (replicate n 0x00 ++ v) (x ++ w)
  ones : {n : ℕ} {v w x : List ℕ} → 1 ≤ n → ¬ (Begins 0xFF v) → Escapes 0x80 n x → Canonical v w
      → Canonical (replicate n 0xFF ++ v) (x ++ w)
