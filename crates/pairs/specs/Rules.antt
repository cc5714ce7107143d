-- The area's grammar and its faults as relations on bytes; nothing here computes an answer.
use Rattle.std.specs.Prelude.{ℕ, ◌+◌, ◌≤◌, ◌≡◌, List, [], ◌∷◌, ◌++◌, ◌≢◌, ◌⊎◌, length}
use Rattle.lists.specs.Bytes.{Every}
use Rattle.errors.specs.declared.AreaFault.{AreaFault}
use Rattle.errors.specs.declared.AreaFault.TheVariants.{AreaEnd, StoredName, Escape, Repeated}
use Rattle.names.specs.Rules.{NameByte, NameRule, FirstWrong}
use Rattle.values.specs.Rules.{Spells}

-- a variable: its name, its value as decoded, and the bytes of its pair from its name through its 0x00
pub record Entry : Type 0 where
  pub name : List ℕ
  pub value : List ℕ
  pub size : ℕ

-- a name stands in a list of entries
abbrev pub In : List ℕ → List Entry → Type 0
In name [] = ⊥
In name (e ∷ es) = (name ≡ e.name) ⊎ In name es

-- the bytes of the entries' pairs
abbrev pub sizes : List Entry → ℕ
sizes [] = 0
sizes (e ∷ es) = e.size + sizes es

-- s is complete pairs, name, `=`, value, 0x00, with these entries, and then rest
pub data Pairs : List Entry → List ℕ → List ℕ → Type 0 where
  none : {rest : List ℕ} → Pairs [] rest rest
  pair : {name stored value s rest : List ℕ} {es : List Entry} → NameRule name → Spells stored value → Pairs es s rest
      → Pairs (record { name = name; value = value; size = length name + length stored + 2 } ∷ es)
      (name ++ 0x3D ∷ (stored ++ 0x00 ∷ s)) rest

-- no name stands twice
pub data Once : List Entry → Type 0 where
  none : Once []
  more : {e : Entry} {es : List Entry} → ¬ (In e.name es) → Once es → Once (e ∷ es)

-- a well-formed area with these entries: pairs, no name twice, the ending 0x00, padding
pub record WellFormed (es : List Entry) (area : List ℕ) : Type 0 where
  pub padding : List ℕ
  pub pairs : Pairs es area (0x00 ∷ padding)
  pub once : Once es

-- the stored name at the start of these bytes: those before the first `=`, or all where there is none
pub data UpToEquals : List ℕ → List ℕ → Type 0 where
  by-equals : {name : List ℕ} (rest : List ℕ) → Every (λ b. b ≢ 0x3D) name → UpToEquals name (name ++ 0x3D ∷ rest)
  by_end : {name : List ℕ} → Every (λ b. b ≢ 0x3D) name → UpToEquals name name

-- what the area's end cuts off: nothing of a pair, or part of its name, of its value, or 0xFF without its second byte
pub data CutOff : List ℕ → Type 0 where
  in-name : {begun : List ℕ} → Every NameByte begun → length begun ≤ 31 → CutOff begun
  in-value : {name stored value : List ℕ} → NameRule name → Spells stored value → CutOff (name ++ 0x3D ∷ stored)
  in-escape : {name stored value : List ℕ} → NameRule name → Spells stored value → CutOff (name ++ 0x3D ∷ (stored ++ 0xFF ∷ []))

-- the fault at what is left of an area after good pairs with these entries; its offset counts from the area's first byte
pub data FaultAt (past : ℕ) (es : List Entry) : List ℕ → AreaFault → ℕ → Type 0 where
  seven : {rest : List ℕ} → CutOff rest → FaultAt past es rest AreaEnd past
  eight : {b i : ℕ} {name bs : List ℕ} → b ≢ 0x00 → UpToEquals name (b ∷ bs) → FirstWrong name i
      → FaultAt past es (b ∷ bs) StoredName (sizes es + i)
  nine : {c : ℕ} {name stored value : List ℕ} (rest : List ℕ) → NameRule name → Spells stored value → (c ≡ 0x00) ⊎ (c ≡ 0x80)
      → FaultAt past es (name ++ 0x3D ∷ (stored ++ 0xFF ∷ c ∷ rest)) Escape (sizes es + (length name + 1 + (length stored + 1)))
  ten : {name stored value : List ℕ} (rest : List ℕ) → NameRule name → Spells stored value → In name es
      → FaultAt past es (name ++ 0x3D ∷ (stored ++ 0x00 ∷ rest)) Repeated (sizes es)

-- what the case `eight` says, in document 01's words: a byte of a stored name that decides it, after k bytes that are allowed
pub data Decides (k b : ℕ) : Type 0 where
  not-allowed : b ≢ 0x3D → ¬ (NameByte b) → Decides k b
  equals-at-once : b ≡ 0x3D → k ≡ 0 → Decides k b
  thirty-second : b ≢ 0x3D → k ≡ 31 → Decides k b

-- the first of these bytes that decides it has the index i; no 0x00 ends the pairs at once
pub record DecidedAt (bs : List ℕ) (i : ℕ) : Type 0 where
  pub begun : List ℕ
  pub decider : ℕ
  pub rest : List ℕ
  pub bytes : bs ≡ begun ++ decider ∷ rest
  pub allowed : Every NameByte begun
  pub index : length begun ≡ i
  pub most : i ≤ 31
  pub why : Decides i decider
  pub no_end : begun ≡ [] → decider ≢ 0x00

-- an area with a fault: good pairs, no name twice, and then what decides it
pub record Faulty (area : List ℕ) (f : AreaFault) (at : ℕ) : Type 0 where
  pub before : List Entry
  pub rest : List ℕ
  pub pairs : Pairs before area rest
  pub once : Once before
  pub fault : FaultAt (length area) before rest f at
