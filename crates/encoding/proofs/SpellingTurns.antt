-- The turns of the loop that tests the spelling: at the bytes r that are left.
use Prim.Native.Nat.{ℕ, ◌+◌, ◌%◌, ◌<◌}
use mathlib.Core.Path.{◌≡◌, refl, sym, ap, ◌∙◌}
use mathlib.Core.Bool.{true, false}
use mathlib.Core.List.{List, [], ◌∷◌}
use mathlib.Core.Logic.{◌≢◌, ◌⊎◌, inl, inr}
use native.Mathlib.Omega.{arith}
use lib.ListN.{length, take, drop, take-append-drop}
use lib.Dec.{eqb}
use borrow.Author.Tests.{eqb-true, eqb-false}
use Rattle.lists.specs.Helpers.{until_either}
use Rattle.lists.proofs.Tests.{split}
use Rattle.lists.proofs.FindLaws.{either-none, until-before, until-next}
use Rattle.values.specs.Value.{spelled_from, spelled}
use Rattle.values.proofs.DecodeTurns.{none-left}
use Rattle.values.proofs.DecodeLaws.{spelled-piece, spelled-escape, empty-spelled}

spelled-zero : (s : List ℕ) → spelled (0 ∷ s) ≡ false
unfolding spelled spelled_from
spelled-zero s = refl

spelled-cut : spelled (255 ∷ []) ≡ false
unfolding spelled spelled_from
spelled-cut = refl

spelled-bad : (c : ℕ) (s : List ℕ) → (c ≡ 0) ⊎ (c ≡ 128) → spelled (255 ∷ c ∷ s) ≡ false
unfolding spelled spelled_from
spelled-bad c s (inl e) = rw e
spelled-bad c s (inr e) = rw e

-- at the first byte b of what is left
module _ {r : List ℕ} {b : ℕ} {l : List ℕ} (e : r ≡ b ∷ l) where
  pub spelling-zero : b ≡ 0 → false ≡ spelled r
  spelling-zero z = rw (e, z) (sym (spelled-zero l))

  module _ (f : b ≡ 255) where
    pub spelling-cut : length l ≡ 0 → false ≡ spelled r
    spelling-cut h = rw (e, f, none-left l h) (sym spelled-cut)

    module _ {c : ℕ} {m : List ℕ} (g : l ≡ c ∷ m) where
      pub spelling-bad : c < 256 → c % 128 ≡ 0 → false ≡ spelled r
      spelling-bad h z = rw (e, f, g) (sym (spelled-bad c m (split (eqb c 0) (λ t. inl (eqb-true c 0 t)) (λ t. inr (omega (arith, eqb-false c 0 t))))))

      pub spelling-run : c % 128 ≢ 0 → spelled r ≡ spelled m
      spelling-run z = rw (e, f, g) (spelled-escape c m (λ q. omega arith) (λ q. omega arith))

  pub spelling-smaller : b ≢ 0 → b ≢ 255 → {k : ℕ} (w : List ℕ) → k ≡ until_either 0 255 r → length w + k ≡ length r → length w < length r
  spelling-smaller z f w q h = omega (arith, ap (until_either 0 255) e ∙ until-next 0 255 b l (either-none 0 255 b z f))

-- a piece without 0x00 and 0xFF
pub spelling-piece : (r : List ℕ) {k : ℕ} {w : List ℕ} → k ≡ until_either 0 255 r → w ≡ drop k r → spelled r ≡ spelled w
spelling-piece r {k} q g =
    rw (g, q)
    (ap spelled (sym (take-append-drop (until_either 0 255 r) r))
    ∙ spelled-piece (take (until_either 0 255 r) r) (drop (until_either 0 255 r) r) (until-before 0 255 r))

pub spelling-all : (r : List ℕ) → length r ≡ 0 → true ≡ spelled r
spelling-all r h = rw (none-left r h) (sym empty-spelled)
