-- When two names of partitions are the same, in ticket 5's words. Nothing here computes an answer.
use Rattle.std.specs.Prelude.{ℕ, ◌-◌, ◌≤◌, ◌<◌, ◌≡◌, List, ◌++◌, ◌≢◌, ◌⊎◌, length, get_or, replicate}
use Rattle.lists.specs.Bytes.{Every}

-- i is the index of the first 0x00 of either name, and both have a byte there
pub record FirstZero (a b : List ℕ) (i : ℕ) : Type 0 where
  pub inside : (i < length a) × (i < length b)
  pub zero : (get_or a i 0 ≡ 0x00) ⊎ (get_or b i 0 ≡ 0x00)
  pub before : (k : ℕ) → k < i → (get_or a k 0 ≢ 0x00) × (get_or b k 0 ≢ 0x00)

-- two names of twelve bytes are the same: they agree up to and with the first 0x00 of either, or in all twelve where neither has one
pub data SameName (a b : List ℕ) : Type 0 where
  up_to_zero : {i : ℕ} → FirstZero a b i → ((k : ℕ) → k ≤ i → get_or a k 0 ≡ get_or b k 0) → SameName a b
  no_zero : Every (λ c. c ≢ 0x00) a → Every (λ c. c ≢ 0x00) b → a ≡ b → SameName a b

-- a stored name matches the one that a caller gives, padded with 0x00 to twelve bytes (document 01: filled); a longer one matches none
pub record MatchesName (stored given : List ℕ) : Type 0 where
  pub twelve : length stored ≡ 12
  pub at-most-twelve : length given ≤ 12
  pub same : SameName stored (given ++ replicate (12 - length given) 0x00)

-- a name with nothing but 0x00 after its first 0x00
pub record NoLeftover (name : List ℕ) : Type 0 where
  pub zeros : (i k : ℕ) → i ≤ k → get_or name i 0 ≡ 0x00 → get_or name k 0 ≡ 0x00
