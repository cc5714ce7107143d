-- The laws of `first_stop` and `next_stop`.
use Prim.Native.Nat.{ℕ, ◌+◌, ◌-◌, ◌≤◌, ◌<◌}
use mathlib.Core.Path.{◌≡◌, sym, ◌∙◌}
use mathlib.Core.Logic.{◌⊎◌, inl, inr}
use native.Mathlib.Omega.{arith}
use lib.Dec.{ltb}
use borrow.Author.Tests.{lt-ltb, le-ltb, ltb-true, ltb-false}
use Rattle.lists.proofs.Tests.{split}
use Rattle.values.specs.Helpers.{first_stop, next_stop}

pub first-few : (len : ℕ) → len < 16 → len ≡ first_stop len
unfolding first_stop
first-few len h = rw (lt-ltb len 16 h)

pub first-many : (len : ℕ) → 16 ≤ len → 0 ≡ first_stop len
unfolding first_stop
first-many len h = rw (le-ltb len 16 h)

-- it is not past the end
pub first-inside : (len : ℕ) {r : ℕ} → r ≡ first_stop len → r ≤ len
first-inside len e =
    split (ltb len 16)
    (λ t. omega (arith, first-few len (ltb-true len 16 t)))
    (λ t. omega (arith, first-many len (ltb-false len 16 t)))

module _ (from len : ℕ) where
  pub next-few : len - from < 128 → len ≡ next_stop from len
  unfolding next_stop
  next-few h = rw (lt-ltb (len - from) 128 h)

  pub next-many : 128 ≤ len - from → from + 128 ≡ next_stop from len
  unfolding next_stop
  next-many h = rw (le-ltb (len - from) 128 h)

  -- it is not past the end
  pub next-inside : {r : ℕ} → r ≡ next_stop from len → r ≤ len
  next-inside e =
      split (ltb (len - from) 128)
      (λ t. omega (arith, next-few (ltb-true (len - from) 128 t)))
      (λ t. omega (arith, next-many (ltb-false (len - from) 128 t), ltb-false (len - from) 128 t))

  pub next-cases : {r : ℕ} → r ≡ next_stop from len → (r ≡ len) ⊎ (r ≡ from + 128)
  next-cases e =
      split (ltb (len - from) 128)
      (λ t. inl (e ∙ sym (next-few (ltb-true (len - from) 128 t))))
      (λ t. inr (e ∙ sym (next-many (ltb-false (len - from) 128 t))))

-- some of the bytes that are left, and no more than 128
pub record Few (len r : ℕ) : Type 0 where
  pub inside : r ≤ len
  pub few : r ≤ 128
  pub some : 1 ≤ r + (1 - len)

pub few-next : (len : ℕ) {r : ℕ} → r ≡ next_stop 0 len → Few len r
few-next len e =
    split (ltb (len - 0) 128)
    (λ t. let h = ltb-true (len - 0) 128 t in
    let q = next-few 0 len h in
    record { inside = omega arith; few = omega arith; some = omega arith })
    (λ t. let h = ltb-false (len - 0) 128 t in
    let q = next-many 0 len h in
    record { inside = omega arith; few = omega arith; some = omega arith })

-- where bytes are left, a plain piece or a few bytes are taken
pub fewer-left : (rest plain tail few left : ℕ) → 0 < rest → rest ≡ plain + tail → Few tail few → left + few ≡ tail → left < rest
fewer-left rest plain tail few left h e f q = omega (arith, f.some)
