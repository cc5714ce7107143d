-- The first 0x00 or 0xFF of some bytes, by the byte in front.
use Rattle.std.specs.Prelude.{ℕ, zero, suc, ◌+◌, ◌≤◌, ◌≡◌, Bool, true, not, cond, List, [], ◌∷◌, drop}
use mathlib.Core.Path.{ap, refl}
use native.Mathlib.Omega.{arith}
use Rattle.lists.specs.Helpers.{either, until_either}
use Rattle.lists.proofs.Tests.{split}
use Rattle.lists.proofs.FindLaws.{until-next}

module _ (b c : ℕ) where
  pub until_none : until_either b c [] ≡ 0
  unfolding until_either
  until_none = refl

  pub until-here : (x : ℕ) (xs : List ℕ) → either b c x ≡ true → until_either b c (x ∷ xs) ≡ 0
  unfolding until_either
  until-here x xs e = ap (λ (t : Bool). cond (not t) (1 + until_either b c xs) 0) e

  pub until_skip : (l : List ℕ) (k : ℕ) → k ≤ until_either b c l → until_either b c l ≡ k + until_either b c (drop k l)
  until_skip l zero h = omega arith
  until_skip [] (suc k) h = absurd (omega (arith, until_none))
  until_skip (x ∷ l) (suc k) h =
      split (either b c x)
      (λ t. absurd (omega (arith, until-here x l t)))
      (λ t. omega (arith, until-next b c x l t, until_skip l k (omega (arith, until-next b c x l t))))
