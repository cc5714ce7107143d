-- Laws of lists of bytes: of the test that two are the same, and of what all elements are.
use Prim.Native.Nat.{ℕ, zero, suc, ◌+◌, ◌≤◌, ◌<◌}
use mathlib.Core.Path.{◌≡◌, refl}
use mathlib.Core.Bool.{true, false, ◌&&◌}
use mathlib.Core.List.{List, [], ◌∷◌}
use mathlib.Core.Logic.{◌≢◌}
use native.Mathlib.Numerals.{add-one}
use native.Mathlib.Omega.{arith}
use lib.Dec.{eqb}
use lib.ListN.{length, get_or, take, drop}
use lib.Seq.{drop-cons}
use borrow.Author.Tests.{eqb-true, eq-eqb}
use Rattle.lists.specs.Bytes.{Every, AllBytes, same_bytes}
use Rattle.lists.proofs.Tests.{split, clash, and-true}

pub same_refl : (xs : List ℕ) → same_bytes xs xs ≡ true
unfolding same_bytes
same_refl [] = refl
same_refl (x ∷ xs) = rw (eq-eqb x x refl) (same_refl xs)

pub same_true : (xs ys : List ℕ) → same_bytes xs ys ≡ true → xs ≡ ys
unfolding same_bytes
same_true [] [] e = refl
same_true [] (y ∷ ys) e = cc
same_true (x ∷ xs) [] e = cc
same_true (x ∷ xs) (y ∷ ys) e =
    let h = and-true (eqb x y) (same_bytes xs ys) e in
    cc (eqb-true x y h.0, same_true xs ys h.1)

pub same_false : (xs ys : List ℕ) → xs ≢ ys → same_bytes xs ys ≡ false
same_false xs ys d = split (same_bytes xs ys) (λ t. absurd (d (same_true xs ys t))) (λ t. t)

pub same_not : (xs ys : List ℕ) → same_bytes xs ys ≡ false → xs ≢ ys
same_not xs ys e q = clash (cc (same_refl ys))

-- one comparison and the rest
pub same_step : (xs ys : List ℕ) (i : ℕ) → i < length xs → i < length ys
    → same_bytes (drop i xs) (drop i ys) ≡ (eqb (get_or xs i 0) (get_or ys i 0) && same_bytes (drop (i + 1) xs) (drop (i + 1) ys))
unfolding same_bytes
same_step xs ys i hx hy = rw (add-one, drop-cons xs i 0 hx, drop-cons ys i 0 hy)

pub every_drop : (P : ℕ → Type 0) (n : ℕ) (l : List ℕ) → Every P l → Every P (drop n l)
every_drop P zero l h = h
every_drop P (suc n) [] h = tt
every_drop P (suc n) (x ∷ l) h = every_drop P n l h.1

pub every_take : (P : ℕ → Type 0) (n : ℕ) (l : List ℕ) → Every P l → Every P (take n l)
every_take P zero l h = tt
every_take P (suc n) [] h = tt
every_take P (suc n) (x ∷ l) h = (h.0, every_take P n l h.1)

pub every_get : (P : ℕ → Type 0) → P 0 → (l : List ℕ) (k : ℕ) → Every P l → P (get_or l k 0)
every_get P z [] k h = z
every_get P z (x ∷ l) zero h = h.0
every_get P z (x ∷ l) (suc k) h = every_get P z l k h.1

pub every-at : (P : ℕ → Type 0) (l : List ℕ) (k : ℕ) → k < length l → Every P l → P (get_or l k 0)
every-at P [] k h a = absurd (omega arith)
every-at P (x ∷ l) zero h a = a.0
every-at P (x ∷ l) (suc k) h a = every-at P l k (omega arith) a.1

pub every-before : (P : ℕ → Type 0) (l : List ℕ) (i : ℕ) → i ≤ length l → ((k : ℕ) → k < i → P (get_or l k 0)) → Every P (take i l)
every-before P l zero h f = tt
every-before P [] (suc i) h f = absurd (omega arith)
every-before P (x ∷ l) (suc i) h f = (f 0 (omega arith), every-before P l i (omega arith) (λ k q. f (suc k) (omega arith)))

pub all-bytes : (l : List ℕ) → ((i : ℕ) → get_or l i 0 < 256) → AllBytes l
all-bytes [] h = tt
all-bytes (x ∷ l) h = (h 0, all-bytes l (λ i. h (suc i)))
