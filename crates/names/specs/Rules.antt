-- The rule of a variable's name in the paper's words. Nothing here computes an answer.
use Rattle.std.specs.Prelude.{ℕ, ◌≤◌, ◌<◌, ◌≡◌, List, [], ◌≢◌, ◌⊎◌, length, get_or}
use Rattle.lists.specs.Bytes.{Every}

-- 0x21 to 0x7E without A to Z, `/`, `\`, `:`, `[`, `]`, `@` and `=`
pub record NameByte (b : ℕ) : Type 0 where
  pub least : 0x21 ≤ b
  pub most : b ≤ 0x7E
  pub no-capital : ¬ ((0x41 ≤ b) × (b ≤ 0x5A))
  pub no_slash : b ≢ 0x2F
  pub no-backslash : b ≢ 0x5C
  pub no-colon : b ≢ 0x3A
  pub no-opening : b ≢ 0x5B
  pub no-closing : b ≢ 0x5D
  pub no-at : b ≢ 0x40
  pub no-equals : b ≢ 0x3D

-- 1 to 31 allowed bytes
pub record NameRule (name : List ℕ) : Type 0 where
  pub least : 1 ≤ length name
  pub most : length name ≤ 31
  pub each : Every NameByte name

-- the index at which a name breaks the rule: 0 if it is empty, else that of the first byte that is not allowed, or of the 32nd
pub data FirstWrong (name : List ℕ) (i : ℕ) : Type 0 where
  empty : name ≡ [] → i ≡ 0 → FirstWrong name i
  byte : i < length name → i ≤ 31 → ((k : ℕ) → k < i → NameByte (get_or name k 0)) → (¬ (NameByte (get_or name i 0))) ⊎ (i ≡ 31)
      → FirstWrong name i
