-- What a scan of a stored value finds, and what stands where a pair would begin: each outcome, exactly when.
use Prim.Native.Nat.{ℕ, ◌+◌, ◌≤◌}
use mathlib.Core.Path.{◌≡◌, refl, sym, ap, ◌∙◌}
use mathlib.Core.Bool.{Bool, true, false}
use mathlib.Core.List.{List, [], ◌∷◌, ◌++◌, append-nil}
use mathlib.Core.Logic.{◌≢◌, ◌⊎◌, inl, inr}
use native.Mathlib.Omega.{arith}
use lib.ListN.{length}
use lib.Dec.{eqb}
use borrow.Author.Tests.{eqb-true, eqb-false, ne_eqb}
use Rattle.lists.specs.Bytes.{Every}
use Rattle.lists.proofs.Tests.{split, clash}
use Rattle.names.specs.Rules.{NameByte, NameRule, FirstWrong}
use Rattle.names.proofs.NameLaws.{name-not-zero}
use Rattle.values.specs.Value.{spelled, spelled_from}
use Rattle.pairs.specs.Scan.{Scan, ends, bad, short, and, scan_name, scan_value, Stand, pair, finish, cut, wrong_name, wrong_escape, on_value, on_name, stand_at}
use Rattle.pairs.specs.Rules.{UpToEquals}
use Rattle.pairs.proofs.NameScans.{and-ends, and-short, and-bad, bad-is, scan-name, cut-scan, wrong-scan, ScannedName, a-name, a-wrong, a-cut, scanned-name}

-- ---- a stored value, byte by byte; after: the byte before was an escape's 0xFF

pub value_none : (after : Bool) (k : ℕ) → scan_value after k [] ≡ short
unfolding scan_value
value_none true k = refl
value_none false k = refl

pub value-ends : (k : ℕ) (bs : List ℕ) → scan_value false k (0x00 ∷ bs) ≡ ends [] bs
unfolding scan_value
value-ends k bs = refl

pub value-opens : (k : ℕ) (bs : List ℕ) → scan_value false k (0xFF ∷ bs) ≡ and 0xFF (scan_value true (k + 1) bs)
unfolding scan_value
value-opens k bs = refl

pub value-plain : (k b : ℕ) (bs : List ℕ) → b ≢ 0x00 → b ≢ 0xFF → scan_value false k (b ∷ bs) ≡ and b (scan_value false (k + 1) bs)
unfolding scan_value
value-plain k b bs h₀ h₁ = rw (ne_eqb b 0x00 h₀, ne_eqb b 0xFF h₁, scan_value)

pub value-second : (k c : ℕ) (bs : List ℕ) → c ≢ 0x00 → c ≢ 0x80 → scan_value true k (c ∷ bs) ≡ and c (scan_value false (k + 1) bs)
unfolding scan_value
value-second k c bs h₀ h₁ = rw (ne_eqb c 0x00 h₀, ne_eqb c 0x80 h₁, scan_value)

pub value-wrong : (k c : ℕ) (bs : List ℕ) → (c ≡ 0x00) ⊎ (c ≡ 0x80) → scan_value true k (c ∷ bs) ≡ bad k
unfolding scan_value
value-wrong k c bs (inl e) = rw e
value-wrong k c bs (inr e) = rw e

-- what a byte of a stored value does that is not an escape's second
pub data First (b : ℕ) : Type 0 where
  ending : b ≡ 0x00 → First b
  opening : b ≡ 0xFF → First b
  plain : b ≢ 0x00 → b ≢ 0xFF → First b

pub first_byte : (b : ℕ) → First b
first_byte b =
    split (eqb b 0x00) (λ t. ending (eqb-true b 0x00 t))
    (λ t. split (eqb b 0xFF) (λ u. opening (eqb-true b 0xFF u)) (λ u. plain (eqb-false b 0x00 t) (eqb-false b 0xFF u)))

-- and an escape's second
pub data Second (c : ℕ) : Type 0 where
  wrong : (c ≡ 0x00) ⊎ (c ≡ 0x80) → Second c
  right : c ≢ 0x00 → c ≢ 0x80 → Second c

pub second-byte : (c : ℕ) → Second c
second-byte c =
    split (eqb c 0x00) (λ t. wrong (inl (eqb-true c 0x00 t)))
    (λ t. split (eqb c 0x80) (λ u. wrong (inr (eqb-true c 0x80 u))) (λ u. right (eqb-false c 0x00 t) (eqb-false c 0x80 u)))

-- ---- the same of `spelled_from`

spelled-plain-from : (b : ℕ) (s : List ℕ) → b ≢ 0x00 → b ≢ 0xFF → spelled_from false (b ∷ s) ≡ spelled_from false s
unfolding spelled_from
spelled-plain-from b s h₀ h₁ = rw (ne_eqb b 0xFF h₁, ne_eqb b 0x00 h₀, spelled_from)

spelled-second : (c : ℕ) (s : List ℕ) → c ≢ 0x00 → c ≢ 0x80 → spelled_from true (c ∷ s) ≡ spelled_from false s
unfolding spelled_from
spelled-second c s h₀ h₁ = rw (ne_eqb c 0x00 h₀, ne_eqb c 0x80 h₁)

spelled-opens : (s : List ℕ) → spelled_from false (0xFF ∷ s) ≡ spelled_from true s
unfolding spelled_from
spelled-opens s = refl

spelled-zero : (s : List ℕ) → spelled_from false (0x00 ∷ s) ≡ false
unfolding spelled_from
spelled-zero s = refl

spelled-wrong : (c : ℕ) (s : List ℕ) → (c ≡ 0x00) ⊎ (c ≡ 0x80) → spelled_from true (c ∷ s) ≡ false
unfolding spelled_from
spelled-wrong c s (inl e) = rw e
spelled-wrong c s (inr e) = rw e

spelled-cut : spelled_from true [] ≡ false
unfolding spelled_from
spelled-cut = refl

spelled_none : spelled_from false [] ≡ true
unfolding spelled_from
spelled_none = refl

-- ---- a whole stored value, k bytes of which were read before

pub scan-value-from : (after : Bool) (k : ℕ) (s rest : List ℕ) → spelled_from after s ≡ true → scan_value after k (s ++ 0x00 ∷ rest) ≡ ends s rest
scan-value-from true k [] rest e = clash (cc (spelled-cut))
scan-value-from false k [] rest e = value-ends k rest
scan-value-from true k (c ∷ s) rest e =
    elim (second-byte c) [
      | wrong w ↦ clash (cc (spelled-wrong c s w))
      | right h₀ h₁ ↦
          value-second k c (s ++ 0x00 ∷ rest) h₀ h₁ ∙ ap (and c) (scan-value-from false (k + 1) s rest (sym (spelled-second c s h₀ h₁) ∙ e))
    ]
scan-value-from false k (b ∷ s) rest e =
    elim (first_byte b) [
      | ending z ↦ clash (cc (spelled-zero s))
      | opening z ↦
          let f : spelled_from true s ≡ true = cc (spelled-opens s) in
          ap (λ (x : ℕ). scan_value false k (x ∷ (s ++ 0x00 ∷ rest))) z ∙ value-opens k (s ++ 0x00 ∷ rest)
          ∙ (λ i. and (sym z i) (scan-value-from true (k + 1) s rest f i))
      | plain h₀ h₁ ↦
          value-plain k b (s ++ 0x00 ∷ rest) h₀ h₁ ∙ ap (and b) (scan-value-from false (k + 1) s rest (sym (spelled-plain-from b s h₀ h₁) ∙ e))
    ]

-- the value that a scan found
pub record Valued (after : Bool) (bs stored rest : List ℕ) : Type 0 where
  pub bytes : bs ≡ stored ++ 0x00 ∷ rest
  pub valid : spelled_from after stored ≡ true

valued-end : (b : ℕ) (bs stored rest : List ℕ) → b ≡ 0x00 → ends [] bs ≡ ends stored rest → Valued false (b ∷ bs) stored rest
valued-end b bs stored rest z e =
    let q : stored ≡ [] = cc in
    record { bytes = cc; valid = rw q spelled_none }

valued-more : (after on : Bool) (b : ℕ) (bs stored t rest : List ℕ) → spelled_from after (b ∷ t) ≡ spelled_from on t → stored ≡ b ∷ t
    → Valued on bs t rest → Valued after (b ∷ bs) stored rest
valued-more after on b bs stored t rest s q r = record { bytes = cc r.bytes; valid = rw q (s ∙ r.valid) }

-- only a value that is spelled is found
pub value-scan-from : (after : Bool) (k : ℕ) (bs stored rest : List ℕ) → scan_value after k bs ≡ ends stored rest → Valued after bs stored rest
value-scan-from after k [] stored rest e = clash (cc (value_none after k))
value-scan-from true k (c ∷ bs) stored rest e =
    elim (second-byte c) [
      | wrong w ↦ clash (cc (value-wrong k c bs w))
      | right h₀ h₁ ↦
          let a = and-ends c (scan_value false (k + 1) bs) stored rest (sym (value-second k c bs h₀ h₁) ∙ e) in
          valued-more true false c bs stored a.0 rest (spelled-second c a.0 h₀ h₁) a.1 (value-scan-from false (k + 1) bs a.0 rest a.2)
    ]
value-scan-from false k (b ∷ bs) stored rest e =
    elim (first_byte b) [
      | ending z ↦ valued-end b bs stored rest z (sym (value-ends k bs) ∙ sym (ap (λ (x : ℕ). scan_value false k (x ∷ bs)) z) ∙ e)
      | opening z ↦
          let a = and-ends b (scan_value true (k + 1) bs) stored rest (cc (value-opens k bs)) in
          valued-more false true b bs stored a.0 rest (ap (λ (x : ℕ). spelled_from false (x ∷ a.0)) z ∙ spelled-opens a.0) a.1
          (value-scan-from true (k + 1) bs a.0 rest a.2)
      | plain h₀ h₁ ↦
          let a = and-ends b (scan_value false (k + 1) bs) stored rest (sym (value-plain k b bs h₀ h₁) ∙ e) in
          valued-more false false b bs stored a.0 rest (spelled-plain-from b a.0 h₀ h₁) a.1 (value-scan-from false (k + 1) bs a.0 rest a.2)
    ]

-- A VALUE THAT IS SPELLED IS FOUND WHOLE
pub scan-value : {stored : List ℕ} (k : ℕ) (rest : List ℕ) → spelled stored ≡ true → scan_value false k (stored ++ 0x00 ∷ rest) ≡ ends stored rest
unfolding spelled
scan-value {stored} k rest e = scan-value-from false k stored rest e

-- AND ONLY SUCH A VALUE IS
pub value-scan : (k : ℕ) (bs stored rest : List ℕ) → scan_value false k bs ≡ ends stored rest → (bs ≡ stored ++ 0x00 ∷ rest) × (spelled stored ≡ true)
unfolding spelled
value-scan k bs stored rest e = let v = value-scan-from false k bs stored rest e in (v.bytes, v.valid)

-- ---- a stored value that the area's end cuts off

pub data CutValue (after : Bool) (bs : List ℕ) : Type 0 where
  whole : spelled_from after bs ≡ true → CutValue after bs
  half : (s : List ℕ) → bs ≡ s ++ 0xFF ∷ [] → spelled_from after s ≡ true → CutValue after bs
  second : after ≡ true → bs ≡ [] → CutValue after bs

cut-more : (after on : Bool) (b : ℕ) (bs : List ℕ) → ((s : List ℕ) → spelled_from after (b ∷ s) ≡ spelled_from on s) → (on ≡ true → (b ≡ 0xFF) × (after ≡ false))
    → CutValue on bs → CutValue after (b ∷ bs)
cut-more after on b bs f g (whole v) = whole (f bs ∙ v)
cut-more after on b bs f g (half s e v) = half (b ∷ s) (cc) (f s ∙ v)
cut-more after on b bs f g (second t e) =
    let h = g t in
    half [] (cc h.0) (ap (λ (a : Bool). spelled_from a []) h.1 ∙ spelled_none)

pub value-short-from : (after : Bool) (k : ℕ) (bs : List ℕ) → scan_value after k bs ≡ short → CutValue after bs
value-short-from true k [] e = second refl refl
value-short-from false k [] e = whole spelled_none
value-short-from true k (c ∷ bs) e =
    elim (second-byte c) [
      | wrong w ↦ clash (cc (value-wrong k c bs w))
      | right h₀ h₁ ↦
          cut-more true false c bs (λ s. spelled-second c s h₀ h₁) (λ t. clash (cc))
          (value-short-from false (k + 1) bs (and-short c (scan_value false (k + 1) bs) (sym (value-second k c bs h₀ h₁) ∙ e)))
    ]
value-short-from false k (b ∷ bs) e =
    elim (first_byte b) [
      | ending z ↦ clash (cc (value-ends k bs))
      | opening z ↦
          cut-more false true b bs (λ s. ap (λ (x : ℕ). spelled_from false (x ∷ s)) z ∙ spelled-opens s) (λ t. (z, refl))
          (value-short-from true (k + 1) bs (and-short b (scan_value true (k + 1) bs) (cc (value-opens k bs))))
      | plain h₀ h₁ ↦
          cut-more false false b bs (λ s. spelled-plain-from b s h₀ h₁) (λ t. clash (cc))
          (value-short-from false (k + 1) bs (and-short b (scan_value false (k + 1) bs) (sym (value-plain k b bs h₀ h₁) ∙ e)))
    ]

-- ---- bytes before a fault are stepped over

-- what a scan finds after bytes that are spelled
past_value : (after : Bool) (k : ℕ) (s t : List ℕ) (x : Scan) → spelled_from after s ≡ true → ((b : ℕ) → and b x ≡ x) → scan_value false (k + length s) t ≡ x
    → scan_value after k (s ++ t) ≡ x
past_value true k [] t x v f e = clash (cc (spelled-cut))
past_value false k [] t x v f e =
    let q : k ≡ k + 0 = omega arith in
    ap (λ (n : ℕ). scan_value false n t) q ∙ e
past_value true k (c ∷ s) t x v f e =
    let q : k + 1 + length s ≡ k + length (c ∷ s) = omega arith in
    elim (second-byte c) [
      | wrong w ↦ clash (cc (spelled-wrong c s w))
      | right h₀ h₁ ↦
          value-second k c (s ++ t) h₀ h₁
          ∙ ap (and c) (past_value false (k + 1) s t x (sym (spelled-second c s h₀ h₁) ∙ v) f (ap (λ (n : ℕ). scan_value false n t) q ∙ e)) ∙ f c
    ]
past_value false k (b ∷ s) t x v f e =
    let q : k + 1 + length s ≡ k + length (b ∷ s) = omega arith in
    elim (first_byte b) [
      | ending z ↦ clash (cc (spelled-zero s))
      | opening z ↦
          let w : spelled_from true s ≡ true = cc (spelled-opens s) in
          ap (λ (y : ℕ). scan_value false k (y ∷ (s ++ t))) z ∙ value-opens k (s ++ t)
          ∙ ap (and 0xFF) (past_value true (k + 1) s t x w f (ap (λ (n : ℕ). scan_value false n t) q ∙ e)) ∙ f 0xFF
      | plain h₀ h₁ ↦
          value-plain k b (s ++ t) h₀ h₁
          ∙ ap (and b) (past_value false (k + 1) s t x (sym (spelled-plain-from b s h₀ h₁) ∙ v) f (ap (λ (n : ℕ). scan_value false n t) q ∙ e)) ∙ f b
    ]

-- ---- an escape that must not be

pub data BadValue (after : Bool) (k : ℕ) (bs : List ℕ) (j : ℕ) : Type 0 where
  at_once : (c : ℕ) (rest : List ℕ) → after ≡ true → bs ≡ c ∷ rest → (c ≡ 0x00) ⊎ (c ≡ 0x80) → j ≡ k → BadValue after k bs j
  later : (stored : List ℕ) (c : ℕ) (rest : List ℕ) → bs ≡ stored ++ 0xFF ∷ c ∷ rest → spelled_from after stored ≡ true → (c ≡ 0x00) ⊎ (c ≡ 0x80)
      → j ≡ k + length stored + 1 → BadValue after k bs j

bad-value-more : (after on : Bool) (k b : ℕ) (bs : List ℕ) (j : ℕ) → ((s : List ℕ) → spelled_from after (b ∷ s) ≡ spelled_from on s)
    → (on ≡ true → (b ≡ 0xFF) × (after ≡ false)) → BadValue on (k + 1) bs j → BadValue after k (b ∷ bs) j
bad-value-more after on k b bs j f g (at_once c rest t e w p) =
    let h = g t in
    later [] c rest (cc h.0) (ap (λ (a : Bool). spelled_from a []) h.1 ∙ spelled_none) w (omega arith)
bad-value-more after on k b bs j f g (later s c rest e v w p) = later (b ∷ s) c rest (cc) (f s ∙ v) w (omega arith)

pub value-bad-from : (after : Bool) (k : ℕ) (bs : List ℕ) (j : ℕ) → scan_value after k bs ≡ bad j → BadValue after k bs j
value-bad-from after k [] j e = clash (cc (value_none after k))
value-bad-from true k (c ∷ bs) j e =
    elim (second-byte c) [
      | wrong w ↦ at_once c bs refl refl w (bad-is (sym (value-wrong k c bs w) ∙ e))
      | right h₀ h₁ ↦
          bad-value-more true false k c bs j (λ s. spelled-second c s h₀ h₁) (λ t. clash (cc))
          (value-bad-from false (k + 1) bs j (and-bad c (scan_value false (k + 1) bs) j (sym (value-second k c bs h₀ h₁) ∙ e)))
    ]
value-bad-from false k (b ∷ bs) j e =
    elim (first_byte b) [
      | ending z ↦ clash (cc (value-ends k bs))
      | opening z ↦
          bad-value-more false true k b bs j (λ s. ap (λ (x : ℕ). spelled_from false (x ∷ s)) z ∙ spelled-opens s) (λ t. (z, refl))
          (value-bad-from true (k + 1) bs j (and-bad b (scan_value true (k + 1) bs) j (cc (value-opens k bs))))
      | plain h₀ h₁ ↦
          bad-value-more false false k b bs j (λ s. spelled-plain-from b s h₀ h₁) (λ t. clash (cc))
          (value-bad-from false (k + 1) bs j (and-bad b (scan_value false (k + 1) bs) j (sym (value-plain k b bs h₀ h₁) ∙ e)))
    ]

-- the other way: `short` and `bad`
pub whole-short : (k : ℕ) (s : List ℕ) → spelled s ≡ true → scan_value false k s ≡ short
unfolding spelled
whole-short k s v = ap (scan_value false k) (sym (append-nil s)) ∙ past_value false k s [] short v (λ b. refl) (value_none false (k + length s))

pub half-short : (k : ℕ) (s : List ℕ) → spelled s ≡ true → scan_value false k (s ++ 0xFF ∷ []) ≡ short
unfolding spelled
half-short k s v =
    past_value false k s (0xFF ∷ []) short v (λ b. refl) (value-opens (k + length s) [] ∙ ap (and 0xFF) (value_none true (k + length s + 1)))

pub bad-value : (k : ℕ) (s : List ℕ) (c : ℕ) (rest : List ℕ) → spelled s ≡ true → (c ≡ 0x00) ⊎ (c ≡ 0x80)
    → scan_value false k (s ++ 0xFF ∷ c ∷ rest) ≡ bad (k + length s + 1)
unfolding spelled
bad-value k s c rest v w =
    past_value false k s (0xFF ∷ c ∷ rest) (bad (k + length s + 1)) v (λ b. refl)
    (value-opens (k + length s) (c ∷ rest) ∙ ap (and 0xFF) (value-wrong (k + length s + 1) c rest w))

-- ---- what stands where a pair would begin

-- what stands, exactly when; the pieces are those of the rules, and `spelled` says that bytes stand for a value
pub data Standing : List ℕ → Stand → Type 0 where
  a_pair : {name stored : List ℕ} (rest : List ℕ) → NameRule name → spelled stored ≡ true
      → Standing (name ++ 0x3D ∷ (stored ++ 0x00 ∷ rest)) (pair name stored rest)
  the_end : (rest : List ℕ) → Standing (0x00 ∷ rest) finish
  cut-name : {begun : List ℕ} → Every NameByte begun → length begun ≤ 31 → Standing begun cut
  cut-value : {name : List ℕ} (stored : List ℕ) → NameRule name → spelled stored ≡ true → Standing (name ++ 0x3D ∷ stored) cut
  cut-escape : {name : List ℕ} (stored : List ℕ) → NameRule name → spelled stored ≡ true → Standing (name ++ 0x3D ∷ (stored ++ 0xFF ∷ [])) cut
  a-wrong-name : {b i : ℕ} {name bs : List ℕ} → b ≢ 0x00 → UpToEquals name (b ∷ bs) → FirstWrong name i → Standing (b ∷ bs) (wrong_name i)
  a-wrong-escape : {c : ℕ} {name : List ℕ} (stored rest : List ℕ) → NameRule name → spelled stored ≡ true → (c ≡ 0x00) ⊎ (c ≡ 0x80)
      → Standing (name ++ 0x3D ∷ (stored ++ 0xFF ∷ c ∷ rest)) (wrong_escape (length name + 1 + (length stored + 1)))

-- bytes that do not begin with 0x00
abbrev pub Begun : List ℕ → Type 0
Begun [] = ⊥
Begun (b ∷ bs) = b ≢ 0x00

begun-name : {name : List ℕ} (t : List ℕ) → NameRule name → Begun (name ++ t)
begun-name {name = []} t r = absurd (omega (arith, r.least))
begun-name {name = b ∷ bs} t r = name-not-zero r.each.0

pub stand-begun : (bs : List ℕ) → Begun bs → stand_at bs ≡ on_name (scan_name bs)
unfolding stand_at
stand-begun [] h = absurd h
stand-begun (b ∷ bs) h = rw (ne_eqb b 0x00 h, stand_at)

pub stand-none : stand_at [] ≡ cut
unfolding stand_at
stand-none = refl

pub stand-end : (rest : List ℕ) → stand_at (0x00 ∷ rest) ≡ finish
unfolding stand_at
stand-end rest = refl

stand-named : {name : List ℕ} (t : List ℕ) → NameRule name → stand_at (name ++ 0x3D ∷ t) ≡ on_value name (scan_value false 0 t)
stand-named {name} t r = stand-begun (name ++ 0x3D ∷ t) (begun-name (0x3D ∷ t) r) ∙ ap on_name (scan-name t r)

-- WHAT STANDS IS FOUND
pub standing-stand : {bs : List ℕ} {x : Stand} → Standing bs x → stand_at bs ≡ x
standing-stand (a_pair {name = name} {stored = stored} rest r v) = stand-named (stored ++ 0x00 ∷ rest) r ∙ ap (on_value name) (scan-value 0 rest v)
standing-stand (the_end rest) = stand-end rest
standing-stand (cut-name {begun = []} a h) = stand-none
standing-stand (cut-name {begun = b ∷ bs} a h) =
    stand-begun (b ∷ bs) (name-not-zero a.0) ∙ ap on_name (cut-scan (record { least = omega arith; most = h; each = a }))
standing-stand (cut-value {name = name} stored r v) = stand-named stored r ∙ ap (on_value name) (whole-short 0 stored v)
standing-stand (cut-escape {name = name} stored r v) = stand-named (stored ++ 0xFF ∷ []) r ∙ ap (on_value name) (half-short 0 stored v)
standing-stand (a-wrong-name {b = b} {bs = bs} z u w) = stand-begun (b ∷ bs) z ∙ ap on_name (wrong-scan u w)
standing-stand (a-wrong-escape {c = c} {name = name} stored rest r v w) =
    let q : 0 + length stored + 1 ≡ length stored + 1 = omega arith in
    stand-named (stored ++ 0xFF ∷ c ∷ rest) r ∙ ap (on_value name) (bad-value 0 stored c rest v w) ∙ (λ i. wrong_escape (length name + 1 + q i))

split_scan : {A : Type 0} (s : Scan) → ((t r : List ℕ) → s ≡ ends t r → A) → ((k : ℕ) → s ≡ bad k → A) → (s ≡ short → A) → A
split_scan (ends t r) f g h = f t r refl
split_scan (bad k) f g h = g k refl
split_scan short f g h = h refl

standing-escape : (name t : List ℕ) (k : ℕ) → NameRule name → BadValue false 0 t k → Standing (name ++ 0x3D ∷ t) (wrong_escape (length name + 1 + k))
unfolding spelled
standing-escape name t k r (at_once c rest e f w p) = clash (cc)
standing-escape name t k r (later s c rest e v w p) =
    let q : k ≡ length s + 1 = omega arith in
    rw (e, q) (a-wrong-escape s rest r v w)

standing-cut : (name t : List ℕ) → NameRule name → CutValue false t → Standing (name ++ 0x3D ∷ t) cut
unfolding spelled
standing-cut name t r (whole v) = cut-value t r v
standing-cut name t r (half s e v) = rw e (cut-escape s r v)
standing-cut name t r (second e f) = clash (cc)

standing-value : (name t : List ℕ) → NameRule name → Standing (name ++ 0x3D ∷ t) (on_value name (scan_value false 0 t))
standing-value name t r =
    split_scan (scan_value false 0 t)
    (λ stored rest e. let v = value-scan 0 t stored rest e in rw e (rw v.0 (a_pair rest r v.1)))
    (λ k e. rw e (standing-escape name t k r (value-bad-from false 0 t k e)))
    (λ e. rw e (standing-cut name t r (value-short-from false 0 t e)))

standing-name : (bs : List ℕ) → Begun bs → Standing bs (on_name (scan_name bs))
standing-name bs h = go (scanned-name bs) h
  where
    go : {s : List ℕ} {x : Scan} → ScannedName s x → Begun s → Standing s (on_name x)
    go (a-name {name = name} rest r) h = standing-value name rest r
    go (a-wrong {bs = []} u w) h = absurd h
    go (a-wrong {bs = b ∷ bs} u w) h = a-wrong-name h u w
    go (a-cut r) h = cut-name r.each r.most

-- AND ONLY THAT IS
pub standing : (bs : List ℕ) → Standing bs (stand_at bs)
standing [] = rw stand-none (cut-name {begun = []} tt (omega arith))
standing (b ∷ bs) =
    split (eqb b 0x00)
    (λ t. let z = eqb-true b 0x00 t in rw (z, stand-end) (the_end bs))
    (λ t. let h = eqb-false b 0x00 t in rw (stand-begun (b ∷ bs) h) (standing-name (b ∷ bs) h))
