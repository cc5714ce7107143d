-- Laws of the offsets where pieces begin, and of the next one.
use Prim.Native.Nat.{ℕ, ◌+◌, ◌-◌, ◌<◌, ◌≤◌}
use mathlib.Core.Path.{◌≡◌, ap, ◌∙◌}
use mathlib.Core.List.{List}
use mathlib.Core.Logic.{⊎_elim}
use native.Mathlib.Omega.{arith}
use lib.Dec.{ltb}
use lib.ListN.{length, get_or, drop}
use borrow.Author.Tests.{ltb-true, ltb-false}
use Rattle.lists.specs.Helpers.{until_either}
use Rattle.lists.proofs.Tests.{split}
use Rattle.lists.proofs.FindLaws.{either-ahead, either-inside, either-there, either-before}
use Rattle.repeats.specs.Helpers.Places.{Start, Next, Best}

-- the next start, by the first 0x00 from `at` on
module _ {l : List ℕ} {at z : ℕ} (e : z ≡ at + until_either 0 0 (drop at l)) (g : at < length l) where
  no_start : (s : ℕ) → at < s → s ≤ z → Start l s → ⊥
  no_start s a b st = (either-before l at 0 0 e (s - 1) (omega arith) (omega arith)).0 (st.after (omega arith))

  pub next-found : z < length l → Next l at (z + 1)
  next-found h = record {
    falls = omega (arith, either-ahead l at 0 0 e);
    inside = omega arith;
    none = λ s a b st. no_start s a (omega arith) st;
    start = λ k. record {
      inside = k;
      after = λ _.
          let q : z + 1 - 1 ≡ z = omega arith in
          ap (λ (k : ℕ). get_or l k 0) q ∙ ⊎_elim (λ y. y) (λ y. y) (either-there l at 0 0 e h);
    };
  }

  pub next-end : length l ≤ z → Next l at z
  next-end h = record {
    falls = omega arith;
    inside = either-inside l at 0 0 e (omega arith);
    none = λ s a b st. no_start s a (omega arith) st;
    start = λ k. absurd (omega arith);
  }

-- a start before best is not jumped over
pub next_low : {l : List ℕ} {at r best : ℕ} → Next l at r → at < best → best ≤ length l → (best < length l → Start l best) → r ≤ best
next_low {l} {at} {r} {best} n h b s = split (ltb best r)
    (λ t. absurd (n.none best h (ltb-true best r t) (s (omega (arith, ltb-true best r t, n.inside)))))
    (λ t. ltb-false best r t)

pub best-start : {l : List ℕ} {best : ℕ} → Best l best → best < length l → Start l best
best-start b h = (b.hit h).second
