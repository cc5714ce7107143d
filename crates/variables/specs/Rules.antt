-- The value of a name and the edits of an area as relations on bytes; nothing here computes an answer.
use Rattle.std.specs.Prelude.{ℕ, ◌+◌, ◌≤◌, ◌≡◌, List, [], ◌∷◌, ◌++◌, ◌≢◌, length, replicate}
use Rattle.values.specs.Rules.{Spells, Canonical}
use Rattle.pairs.specs.Rules.{Entry, In, sizes, Pairs, WellFormed}

-- the value of the entry of that name
pub data Holds (name : List ℕ) : List Entry → List ℕ → Type 0 where
  this : {e : Entry} {es : List Entry} → name ≡ e.name → Holds name (e ∷ es) e.value
  other : {e : Entry} {es : List Entry} {value : List ℕ} → name ≢ e.name → Holds name es value → Holds name (e ∷ es) value

-- k bytes are the fewest that stand for a value
pub record Shortest (value : List ℕ) (k : ℕ) : Type 0 where
  pub stored : List ℕ
  pub spells : Spells stored value
  pub long : length stored ≡ k
  pub least : (s : List ℕ) → Spells s value → k ≤ length s

-- the bytes of all pairs once the name's pair is replaced where it is, or added at the end
pub data SetSize (name value : List ℕ) : List Entry → ℕ → Type 0 where
  added : {k : ℕ} → Shortest value k → SetSize name value [] (length name + k + 2)
  replaced : {e : Entry} {es : List Entry} {k : ℕ} → name ≡ e.name → Shortest value k
      → SetSize name value (e ∷ es) (length name + k + 2 + sizes es)
  kept : {e : Entry} {es : List Entry} {n : ℕ} → name ≢ e.name → SetSize name value es n → SetSize name value (e ∷ es) (e.size + n)

-- an area of n bytes: what is kept, then 0x00 to its end
pub data Zeroed (n : ℕ) : List ℕ → List ℕ → Type 0 where
  zeroed : {kept area : List ℕ} (k : ℕ) → area ≡ kept ++ 0x00 ∷ replicate k 0x00 → length area ≡ n → Zeroed n kept area

-- a pair's bytes: name, `=`, stored value, 0x00
abbrev pub pair_by : List ℕ → List ℕ → List ℕ
pair_by name stored = name ++ 0x3D ∷ (stored ++ 0x00 ∷ [])

-- what a set leaves: the other pairs keep their bytes, the new one is in canonical form, then 0x00 to the end
pub data SetLeaves (name value : List ℕ) : List ℕ → List ℕ → Type 0 where
  replaces : {before old after new area area' : List ℕ} {es fs : List Entry} {value' : List ℕ} (padding : List ℕ)
      → Pairs es before [] → ¬ (In name es) → Spells old value' → Pairs fs after [] → Canonical value new
      → area ≡ before ++ (pair_by name old ++ (after ++ 0x00 ∷ padding)) → Zeroed (length area) (before ++ (pair_by name new ++ after)) area'
      → SetLeaves name value area area'
  adds : {before new area area' : List ℕ} {es : List Entry} (padding : List ℕ) → Pairs es before [] → ¬ (In name es) → Canonical value new
      → area ≡ before ++ 0x00 ∷ padding → Zeroed (length area) (before ++ pair_by name new) area' → SetLeaves name value area area'

-- what a removal leaves: the pair is gone, the others keep their bytes, then 0x00 to the end
pub data RemoveLeaves (name : List ℕ) : List ℕ → List ℕ → Type 0 where
  removes : {before old after area area' : List ℕ} {es fs : List Entry} {value : List ℕ} (padding : List ℕ)
      → Pairs es before [] → ¬ (In name es) → Spells old value → Pairs fs after []
      → area ≡ before ++ (pair_by name old ++ (after ++ 0x00 ∷ padding)) → Zeroed (length area) (before ++ after) area'
      → RemoveLeaves name area area'

-- the canonical form of entries, one pair after the other
pub data CanonicalPairs : List Entry → List ℕ → Type 0 where
  none : CanonicalPairs [] []
  more : {e : Entry} {es : List Entry} {stored s : List ℕ} → Canonical e.value stored → CanonicalPairs es s
      → CanonicalPairs (e ∷ es) (pair_by e.name stored ++ s)

-- what normalizing leaves: every pair in canonical form, then 0x00 to the end
pub data NormalizeLeaves (area area' : List ℕ) : Type 0 where
  normalizes : {es : List Entry} {s : List ℕ} → WellFormed es area → CanonicalPairs es s → Zeroed (length area) s area' → NormalizeLeaves area area'
