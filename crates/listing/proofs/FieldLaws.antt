-- A signature's two hex digits, and a name as it is shown: what is computed, and the rule, each exactly when the other.
use Prim.Native.Nat.{ℕ, ◌+◌, ◌-◌, ◌*◌, ◌/◌, ◌%◌, ◌≤◌, ◌<◌}
use mathlib.Core.Path.{◌≡◌, refl, sym, subst, ◌∙◌}
use mathlib.Core.Logic.{◌≢◌, ◌↔◌}
use mathlib.Core.List.{List, [], ◌∷◌, ◌++◌}
use native.Mathlib.Omega.{arith}
use native.Mathlib.Decide.{dec_le, dec_lt}
use lib.Dec.{eqb}
use borrow.Author.Tests.{ne_eqb, eqb-true, eqb-false}
use Rattle.lists.specs.Bytes.{Every}
use Rattle.lists.proofs.Tests.{split}
use Rattle.listing.specs.Text.{hex_digit, hex_byte, visible, shown_name}
use Rattle.listing.specs.Rules.{HexDigit, digit, capital, HexByte, halves, ShownByte, itself, below, above, Shown, Ends, at_zero, at_last, ShownName}
use Rattle.listing.proofs.WordLaws.{hex-low, hex-high, visible-below, visible-above, visible-between}

-- ---- hex

digit-holds : (n : ℕ) → n < 16 → HexDigit (hex_digit n) n
digit-holds n h = go (dec_lt n 10)
  where
    go : Dec (n < 10) → HexDigit (hex_digit n) n
    go (yes l) = rw (← hex-low n l) (digit {n = n} (omega arith))
    go (no l) =
        let e : 10 + (n - 10) ≡ n = omega arith in
        let g : hex_digit n ≡ 0x41 + (n - 10) = omega (arith, hex-high n (omega arith)) in
        rw g (subst (HexDigit (0x41 + (n - 10))) e (capital {n = n - 10} (omega arith)))

holds-digit : {x n : ℕ} → HexDigit x n → (hex_digit n ≡ x) × (n < 16)
holds-digit (digit {n = n} h) = (sym (hex-low n (omega arith)), omega arith)
holds-digit (capital {n = n} h) = (omega (arith, hex-high (10 + n) (omega arith)), omega arith)

pub hex-holds : (b : ℕ) → b < 256 → HexByte b (hex_byte b)
unfolding hex_byte
hex-holds b h =
    let e : b / 16 * 16 + b % 16 ≡ b = omega arith in
    subst (λ (k : ℕ). HexByte k (hex_digit (b / 16) ∷ hex_digit (b % 16) ∷ [])) e
    (halves (digit-holds (b / 16) (omega arith)) (digit-holds (b % 16) (omega arith)))

pub holds-hex : {b : ℕ} {w : List ℕ} → HexByte b w → hex_byte b ≡ w
unfolding hex_byte
holds-hex (halves {high = h} {low = l} a c) =
    let x = holds-digit a in
    let y = holds-digit c in
    let q : (h * 16 + l) / 16 ≡ h = omega arith in
    let r : (h * 16 + l) % 16 ≡ l = omega arith in
    (λ i. hex_digit (q i) ∷ hex_digit (r i) ∷ []) ∙ (λ i. x.0 i ∷ y.0 i ∷ [])

-- TWO HEX DIGITS exactly
pub hex-exactly : (b : ℕ) (w : List ℕ) → b < 256 → (hex_byte b ≡ w) ↔ HexByte b w
hex-exactly b w h = (λ e. subst (HexByte b) e (hex-holds b h), holds-hex)

-- ---- names

visible_holds : (b : ℕ) → ShownByte b (visible b)
visible_holds b = go (dec_le 0x21 b) (dec_le b 0x7E)
  where
    go : Dec (0x21 ≤ b) → Dec (b ≤ 0x7E) → ShownByte b (visible b)
    go (no l) h = subst (ShownByte b) (visible-below b (omega arith)) (below (omega arith))
    go (yes l) (no h) = subst (ShownByte b) (visible-above b (omega arith) (omega arith)) (above (omega arith))
    go (yes l) (yes h) = subst (ShownByte b) (visible-between b (omega arith) (omega arith)) (itself (omega arith) (omega arith))

holds-visible : {b c : ℕ} → ShownByte b c → visible b ≡ c
holds-visible (itself {b = b} l h) = sym (visible-between b (omega arith) (omega arith))
holds-visible (below {b = b} l) = sym (visible-below b (omega arith))
holds-visible (above {b = b} h) = sym (visible-above b (omega arith) (omega arith))

-- A SHOWN BYTE exactly
pub visible-exactly : (b c : ℕ) → (visible b ≡ c) ↔ ShownByte b c
visible-exactly b c = (λ e. subst (ShownByte b) e (visible_holds b), holds-visible)

name-next : (b : ℕ) (bs : List ℕ) → b ≢ 0x00 → shown_name (b ∷ bs) ≡ visible b ∷ shown_name bs
unfolding shown_name
name-next b bs n = rw (ne_eqb _ _ n, shown_name)

ends_next : {b : ℕ} {field name : List ℕ} → b ≢ 0x00 → Ends field name → Ends (b ∷ field) (b ∷ name)
ends_next {b = b} n (at_zero {name = name} padding e) = at_zero {name = b ∷ name} padding (n, e)
ends_next {b = b} n (at_last {name = name} e) = at_last {name = b ∷ name} (n, e)

pub name-holds : (field : List ℕ) → ShownName field (shown_name field)
unfolding shown_name
name-holds [] = record { name = []; ends = at_last tt; shown = Shown.none }
name-holds (b ∷ bs) =
    split (eqb b 0)
    (λ t. let z : b ≡ 0 = eqb-true b 0 t in rw (t, shown_name) (rw z (record { name = []; ends = at_zero bs tt; shown = Shown.none })))
    (λ t. let n : b ≢ 0 = eqb-false b 0 t in
    let s = name-holds bs in
    rw (t, shown_name) (record { name = b ∷ s.name; ends = ends_next n s.ends; shown = Shown.byte (visible_holds b) s.shown }))

-- a name that ends at its first 0x00, or at its last byte
zero-shown : (padding : List ℕ) {name text : List ℕ} → Every (λ b. b ≢ 0x00) name → Shown name text → shown_name (name ++ 0x00 ∷ padding) ≡ text
unfolding shown_name
zero-shown padding e Shown.none = refl
zero-shown padding e (Shown.byte {b = b} {bs = bs} v s) =
    name-next b (bs ++ 0x00 ∷ padding) e.0 ∙ (λ i. holds-visible v i ∷ zero-shown padding e.1 s i)

last-shown : {name text : List ℕ} → Every (λ b. b ≢ 0x00) name → Shown name text → shown_name name ≡ text
unfolding shown_name
last-shown e Shown.none = refl
last-shown e (Shown.byte {b = b} {bs = bs} v s) = name-next b bs e.0 ∙ (λ i. holds-visible v i ∷ last-shown e.1 s i)

ends-shown : {field name text : List ℕ} → Ends field name → Shown name text → shown_name field ≡ text
ends-shown (at_zero padding e) s = zero-shown padding e s
ends-shown (at_last e) s = last-shown e s

pub holds-name : {field text : List ℕ} → ShownName field text → shown_name field ≡ text
holds-name n = ends-shown n.ends n.shown

-- A SHOWN NAME exactly
pub name-exactly : (field text : List ℕ) → (shown_name field ≡ text) ↔ ShownName field text
name-exactly field text = (λ e. subst (ShownName field) e (name-holds field), holds-name)
