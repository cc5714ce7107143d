-- Laws of what a writer answers and leaves, and of a text that is written piece by piece.
use Prim.Native.Nat.{ℕ, ◌+◌, ◌-◌, ◌/◌, ◌%◌, ◌≤◌, ◌<◌}
use mathlib.Core.Path.{◌≡◌, sym, ap, ◌∙◌}
use mathlib.Core.List.{List, [], ◌∷◌}
use native.Mathlib.Omega.{arith}
use lib.ListN.{length, set}
use lib.Dec.{leb, ltb}
use borrow.Author.Tests.{le-leb, lt-leb, leb-true, leb-false, ltb-true, ltb-false}
use Rattle.lists.specs.Pasted.{pasted, written_in}
use Rattle.lists.proofs.Tests.{split, clash}
use Rattle.lists.proofs.PastedLaws.{set-pasted, pasted-under}
use Rattle.lists.proofs.WrittenLaws.{written-kept}
use Rattle.errors.specs.declared.Error.TheVariants.{ShortBuffer}
use Rattle.std.specs.Prelude.{Ok, Err}
use Rattle.listing.specs.Text.{decimal}
use Rattle.listing.specs.Listed.{Listed, listed_of}
use Rattle.listing.proofs.WordLaws.{decimal_digit, decimal-more, decimal-some, length-digit, length_more}

-- what is answered, where the text has room and where it has none
module _ (t : List ℕ) (room : ℕ) where
  pub listed-fits : length t ≤ room → listed_of t room ≡ Ok (length t)
  unfolding listed_of
  listed-fits h = rw (le-leb _ _ h)

  pub listed-not : room < length t → listed_of t room ≡ Err ShortBuffer
  unfolding listed_of
  listed-not h = rw (lt-leb _ _ h)

-- what is promised of the answer r, and of b, which a buffer d becomes, where the text t is written
abbrev pub Lists : List ℕ → List ℕ → Listed → List ℕ → Type 0
Lists t d r b = record { value : r ≡ listed_of t (length d); text_after : b ≡ written_in t d }

pub listed-short : (t d : List ℕ) → length d < length t → Lists t d (Err ShortBuffer) d
listed-short t d h = record { value = sym (listed-not t (length d) h); text_after = sym (written-kept t d h) }

pub listed-as : (t d : List ℕ) {u : List ℕ} {r : Listed} {b : List ℕ} → t ≡ u → Lists t d r b → Lists u d r b
listed-as t d e q = rw e at q

-- a text that is written lies inside the buffer
pub written-inside : (t : List ℕ) (room n : ℕ) → listed_of t room ≡ Ok n → n ≤ room
written-inside t room n e =
    split (leb (length t) room)
    (λ u. let h = leb-true (length t) room u in
    let q : length t ≡ n = cc (listed-fits t room h) in
    omega arith)
    (λ u. clash (cc (listed-not t room (leb-false (length t) room u))))

-- the last digit, before those of the tenth are written
pub last-digit-put : (d : List ℕ) (at m i : ℕ) → 10 ≤ m → at + length (decimal m) ≡ i → i ≤ length d
    → pasted (set d (i - 1) (48 + m % 10)) at (decimal (m / 10)) ≡ pasted d at (decimal m)
last-digit-put d at m i h e f =
    let w : List ℕ = decimal (m / 10) in
    let v : ℕ = 48 + m % 10 in
    let n : length (decimal m) ≡ length w + 1 = length_more m h in
    let k : i - 1 ≡ at + length w = omega arith in
    ap (λ (j : ℕ). pasted (set d j v) at w) k
    ∙ ap (λ (l : List ℕ). pasted l at w) (set-pasted d (at + length w) v (omega arith))
    ∙ pasted-under d at w (v ∷ []) (omega arith) ∙ ap (pasted d at) (sym (decimal-more m h))

pub first-digit-put : (d : List ℕ) (at m : ℕ) → m < 10 → at < length d → set d at (48 + m) ≡ pasted d at (decimal m)
first-digit-put d at m h f = set-pasted d at (48 + m) f ∙ ap (pasted d at) (sym (decimal_digit m h))

-- the digits of m are to be written before the offset i, or none are left: then those of n are written
pub data Digits (d : List ℕ) (at n i m : ℕ) (b : List ℕ) : Type 0 where
  left : at + length (decimal m) ≡ i → pasted b at (decimal m) ≡ pasted d at (decimal n) → Digits d at n i m b
  none : i ≡ at → b ≡ pasted d at (decimal n) → Digits d at n i m b

pub next-digit : {d b : List ℕ} {at n i m : ℕ} → Digits d at n i m b → at < i → i ≤ length b
    → Digits d at n (i - 1) (m / 10) (set b (i - 1) (48 + m % 10))
next-digit {d} {b} {at} {n} {i} {m} (left e f) h k =
    split (ltb m 10)
    (λ t. let l : m < 10 = ltb-true m 10 t in
    let z : i - 1 ≡ at = omega (arith, length-digit m l) in
    let r : m % 10 ≡ m = omega arith in
    none z ((λ j. set b (z j) (48 + r j)) ∙ first-digit-put b at m l (omega arith) ∙ f))
    (λ t. let l : 10 ≤ m = ltb-false m 10 t in
    left (omega (arith, length_more m l)) (last-digit-put b at m i l e k ∙ f))
next-digit (none e f) h k = absurd (omega arith)

pub no-digit : {d b : List ℕ} {at n i m : ℕ} → Digits d at n i m b → i ≤ at → b ≡ pasted d at (decimal n)
no-digit {m = m} (left e f) h = absurd (omega (arith, decimal-some m))
no-digit (none e f) h = f
