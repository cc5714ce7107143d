-- Document 01's sentence on code 8 says the same as the row: the first byte of a stored name that is not allowed and not `=`, an `=` at
-- once, or a 32nd byte that is not `=`.
use Prim.Native.Nat.{ℕ, ◌+◌, ◌<◌, ◌≤◌}
use mathlib.Core.Path.{◌≡◌, refl, sym, ap, ◌∙◌}
use mathlib.Core.List.{List, [], ◌∷◌, ◌++◌, append_assoc}
use mathlib.Core.Logic.{◌≢◌, ◌⊎◌, inl, inr, ⊎_elim, ◌↔◌}
use native.Mathlib.Omega.{arith}
use lib.ListN.{length, get_or, take, drop, length-append, length-take, take-append-drop, get_or-append}
use lib.Seq.{get_or-append-add}
use Rattle.lists.specs.Bytes.{Every}
use Rattle.lists.proofs.ListLaws.{drop-next}
use Rattle.lists.proofs.ByteLaws.{every-at, every-before}
use Rattle.errors.specs.declared.AreaFault.TheVariants.{StoredName}
use Rattle.names.specs.Rules.{NameByte, FirstWrong, empty, byte}
use Rattle.names.proofs.NameLaws.{name-not-zero}
use Rattle.pairs.specs.Scan.{stored_name}
use Rattle.pairs.specs.Rules.{Entry, sizes, UpToEquals, by-equals, FaultAt, eight, Decides, not-allowed, equals-at-once, thirty-second, DecidedAt}
use Rattle.pairs.proofs.NameScans.{up_next, stored-exactly, up_start, up-clean, up-after}
use Rattle.pairs.proofs.ScanLaws.{Begun}

-- ---- from the relation of a caller's name

-- a list at one of its bytes
cut_at : (l : List ℕ) (i : ℕ) → i < length l → l ≡ take i l ++ get_or l i 0 ∷ drop (i + 1) l
cut_at l i h = sym (take-append-drop i l) ∙ ap (λ (t : List ℕ). take i l ++ t) (drop-next l i h)

why-decides : (i b : ℕ) → b ≢ 0x3D → (¬ (NameByte b)) ⊎ (i ≡ 31) → Decides i b
why-decides i b z (inl n) = not-allowed z n
why-decides i b z (inr e) = thirty-second z e

-- bytes that begin with no 0x00 do so too where they are split
first-not-zero : (c : ℕ) (bs begun : List ℕ) (b : ℕ) (rest : List ℕ) → c ≢ 0x00 → c ∷ bs ≡ begun ++ b ∷ rest → begun ≡ [] → b ≢ 0x00
first-not-zero c bs begun b rest h e y =
    λ z. let m : c ≡ b = cc in
    h (m ∙ z)

first-at : (c : ℕ) (bs name t : List ℕ) {i : ℕ} → c ≢ 0x00 → c ∷ bs ≡ name ++ t → Every (λ b. b ≢ 0x3D) name → i < length name → i ≤ 31
    → ((k : ℕ) → k < i → NameByte (get_or name k 0)) → (¬ (NameByte (get_or name i 0))) ⊎ (i ≡ 31) → DecidedAt (c ∷ bs) i
first-at c bs name t {i} z e a h l before q =
    let whole : c ∷ bs ≡ take i name ++ get_or name i 0 ∷ (drop (i + 1) name ++ t) =
    e ∙ ap (λ (s : List ℕ). s ++ t) (cut_at name i h) ∙ append_assoc (take i name) (get_or name i 0 ∷ drop (i + 1) name) t in
    record {
      begun = take i name;
      decider = get_or name i 0;
      rest = drop (i + 1) name ++ t;
      bytes = whole;
      allowed = every-before NameByte name i (omega arith) before;
      index = omega (arith, length-take i name);
      most = l;
      why = why-decides i (get_or name i 0) (every-at (λ b. b ≢ 0x3D) name i h a) q;
      no_end = first-not-zero c bs (take i name) (get_or name i 0) (drop (i + 1) name ++ t) z whole;
    }

empty-decides : (c : ℕ) (bs : List ℕ) (i : ℕ) → UpToEquals [] (c ∷ bs) → i ≡ 0 → DecidedAt (c ∷ bs) i
empty-decides c bs i u f =
    let z : c ≡ 0x3D = ⊎_elim (λ q. q) (λ q. absurd (omega arith)) (up-after u) in
    record {
      begun = [];
      decider = c;
      rest = bs;
      bytes = refl;
      allowed = tt;
      index = sym f;
      most = omega arith;
      why = equals-at-once z f;
      no_end = λ y q. omega arith;
    }

wrong-decides : {c i : ℕ} {name bs : List ℕ} → c ≢ 0x00 → UpToEquals name (c ∷ bs) → FirstWrong name i → DecidedAt (c ∷ bs) i
wrong-decides {c} {i} {name} {bs} z u (empty e f) = empty-decides c bs i (rw e at u) f
wrong-decides {c} {i} {name} {bs} z u (byte h l before q) =
    let s = up_start u in
    first-at c bs name s.0 z s.1 (up-clean u) h l before q

-- ---- and to it

up-append : {name bs : List ℕ} (begun : List ℕ) → Every NameByte begun → UpToEquals name bs → UpToEquals (begun ++ name) (begun ++ bs)
up-append [] a u = u
up-append (b ∷ begun) a u = up_next b a.0.no-equals (up-append begun a.1 u)

first-after : (begun : List ℕ) (b : ℕ) (t : List ℕ) → Every NameByte begun → length begun ≤ 31 → (¬ (NameByte b)) ⊎ (length begun ≡ 31)
    → FirstWrong (begun ++ b ∷ t) (length begun)
first-after begun b t a h w =
    let z : length begun ≡ length begun + 0 = omega arith in
    let there : get_or (begun ++ b ∷ t) (length begun) 0 ≡ b =
    ap (λ (k : ℕ). get_or (begun ++ b ∷ t) k 0) z ∙ get_or-append-add begun (b ∷ t) 0 0 in
    byte (omega (arith, length-append begun (b ∷ t))) h
    (λ k i. rw (get_or-append begun (b ∷ t) 0 k i) (every-at NameByte begun k i a)) (rw there w)

begins : (begun : List ℕ) (b : ℕ) (rest : List ℕ) → Every NameByte begun → (begun ≡ [] → b ≢ 0x00) → Begun (begun ++ b ∷ rest)
begins [] b rest a n = n refl
begins (c ∷ begun) b rest a n = name-not-zero a.0

-- row 8 at what is left of an area, by the byte that decides it
module _ (past : ℕ) (es : List Entry) where
  eight-by : {name rest : List ℕ} {i : ℕ} → Begun rest → UpToEquals name rest → FirstWrong name i → FaultAt past es rest StoredName (sizes es + i)
  eight-by {rest = []} h u w = absurd h
  eight-by {rest = b ∷ bs} h u w = eight h u w

  wrong-after : (begun : List ℕ) (b : ℕ) (rest : List ℕ) → Begun (begun ++ b ∷ rest) → Every NameByte begun → length begun ≤ 31 → b ≢ 0x3D
      → (¬ (NameByte b)) ⊎ (length begun ≡ 31) → FaultAt past es (begun ++ b ∷ rest) StoredName (sizes es + length begun)
  wrong-after begun b rest y a h z w =
      let u = (stored-exactly rest (stored_name rest)).0 refl in
      eight-by y (up-append begun a (up_next b z u)) (first-after begun b (stored_name rest) a h w)

  decides-eight : (begun : List ℕ) (b : ℕ) (rest : List ℕ) → Begun (begun ++ b ∷ rest) → Every NameByte begun → length begun ≤ 31
      → Decides (length begun) b → FaultAt past es (begun ++ b ∷ rest) StoredName (sizes es + length begun)
  decides-eight begun b rest y a h (not-allowed z n) = wrong-after begun b rest y a h z (inl n)
  decides-eight begun b rest y a h (thirty-second z n) = wrong-after begun b rest y a h z (inr n)
  decides-eight [] b rest y a h (equals-at-once z n) =
      eight-by y (rw z (by-equals {name = []} rest tt)) (empty refl refl)
  decides-eight (c ∷ begun) b rest y a h (equals-at-once z n) = absurd (omega arith)

  decided-eight : {rest : List ℕ} {i : ℕ} → DecidedAt rest i → FaultAt past es rest StoredName (sizes es + i)
  decided-eight d =
      rw d.bytes
      (rw d.index at
      (decides-eight d.begun d.decider d.rest (begins d.begun d.decider d.rest d.allowed d.no_end) d.allowed
      (omega (arith, d.index, d.most)) (rw (← d.index) at d.why)))

  eight-decided : {rest : List ℕ} {k : ℕ} → FaultAt past es rest StoredName k → (i : ℕ) × (k ≡ sizes es + i) × DecidedAt rest i
  eight-decided (eight {i = i} z u w) = (i, refl, wrong-decides z u w)

  -- DOCUMENT 01'S SENTENCE ON 8 says the same as the row
  pub eight-exactly : (rest : List ℕ) (k : ℕ) → FaultAt past es rest StoredName k ↔ ((i : ℕ) × (k ≡ sizes es + i) × DecidedAt rest i)
  eight-exactly rest k = (eight-decided, λ d. rw d.1 (decided-eight d.2))
