-- The laws of the search for the first byte that does not stand for itself: in the nearest bytes, and after them.
use Prim.Native.Nat.{ℕ, zero, suc, ◌+◌, ◌-◌, ◌≤◌, ◌<◌}
use mathlib.Core.Path.{◌≡◌, sym, ap, ◌∙◌}
use mathlib.Core.Bool.{true, false}
use mathlib.Core.List.{List, [], ◌∷◌}
use native.Mathlib.Omega.{arith}
use lib.Dec.{ltb}
use lib.ListN.{length, get_or, take, drop, length-take, length-drop, drop_of_length-le}
use lib.Seq.{length-take-le, take_all, take-add}
use borrow.Author.Tests.{ltb-true, ltb-false}
use Rattle.lists.specs.Helpers.{until_either}
use Rattle.lists.proofs.Tests.{split}
use Rattle.lists.specs.Pasted.{pasted}
use Rattle.lists.proofs.ListLaws.{drop-next}
use Rattle.lists.proofs.PastedLaws.{pasted-more}
use Rattle.lists.proofs.FindLaws.{until-next, until-short}
use Rattle.encoding.proofs.UntilLaws.{until_none, until-here, until_skip}
use Rattle.values.specs.Value.{escaped}

-- in the first k bytes
until-near : (k : ℕ) (l : List ℕ) → until_either 0 255 (take k l) < length (take k l) → until_either 0 255 (take k l) ≡ until_either 0 255 l
until-near zero l h = absurd (omega arith)
until-near (suc k) [] h = absurd (omega arith)
until-near (suc k) (x ∷ l) h =
    split (escaped x)
    (λ t. until-here 0 255 x (take k l) t ∙ sym (until-here 0 255 x l t))
    (λ t. omega (arith, until-next 0 255 x (take k l) t, until-next 0 255 x l t, until-near k l (omega (arith, until-next 0 255 x (take k l) t))))

-- after them
until-far : (k : ℕ) (l : List ℕ) → k ≤ length l → length (take k l) ≤ until_either 0 255 (take k l) → k ≤ until_either 0 255 l
until-far zero l h e = omega arith
until-far (suc k) [] h e = absurd (omega arith)
until-far (suc k) (x ∷ l) h e =
    split (escaped x)
    (λ t. absurd (omega (arith, until-here 0 255 x (take k l) t)))
    (λ t. omega (arith, until-next 0 255 x l t, until-far k l (omega arith) (omega (arith, until-next 0 255 x (take k l) t))))

-- no more bytes than before the first in all
pub until-less : (k : ℕ) (l : List ℕ) → k ≤ length l → until_either 0 255 (take k l) ≤ until_either 0 255 l
until-less k l h =
    split (ltb (until_either 0 255 (take k l)) (length (take k l)))
    (λ t. omega (arith, until-near k l (ltb-true _ _ t)))
    (λ t. omega (arith, until-far k l h (ltb-false _ _ t), length-take-le k l h, until-short 0 255 (take k l)))

-- ---- the nearest bytes, one by one
module _ (s : List ℕ) (i : ℕ) (e : until_either 0 255 s ≡ i + until_either 0 255 (drop i s)) where
  pub near-here : i < length s → escaped (get_or s i 0) ≡ true → i ≡ until_either 0 255 s
  near-here h t = omega (arith, ap (until_either 0 255) (drop-next s i h) ∙ until-here 0 255 (get_or s i 0) (drop (i + 1) s) t)

  pub near-next : i < length s → escaped (get_or s i 0) ≡ false → until_either 0 255 s ≡ i + 1 + until_either 0 255 (drop (i + 1) s)
  near-next h t = omega (arith, ap (until_either 0 255) (drop-next s i h) ∙ until-next 0 255 (get_or s i 0) (drop (i + 1) s) t)

  pub near-room : i < length s → escaped (get_or s i 0) ≡ false → i < until_either 0 255 s
  near-room h t = omega (arith, near-next h t)

  pub near-all : length s ≤ i → i ≡ until_either 0 255 s
  near-all h = omega (arith, ap (until_either 0 255) (drop_of_length-le s h) ∙ until_none 0 255)

-- ---- the nearest bytes, and the others at once
module _ (k : ℕ) (l : List ℕ) (h : k ≤ length l) {n : ℕ} (q : n ≡ until_either 0 255 (take k l)) where
  pub found-near : n < k → n ≡ until_either 0 255 l
  found-near m = q ∙ until-near k l (omega (arith, length-take-le k l h))

  pub found-far : k ≤ n → {e : ℕ} → e ≡ k + until_either 0 255 (drop k l) → e ≡ until_either 0 255 l
  found-far m {e} p = omega (arith, until_skip 0 255 l k (until-far k l h (omega (arith, length-take-le k l h))))

  -- the same where they are written to d
  module _ (d : List ℕ) {b : List ℕ} (w : b ≡ pasted d 0 (take n (take k l))) (m : k ≤ n) {e : ℕ} (p : e ≡ k + until_either 0 255 (drop k l)) where
    near-put : b ≡ pasted d 0 (take k l)
    near-put = w ∙ ap (pasted d 0) (take_all n (take k l) (omega (arith, length-take-le k l h)))

    pub many-put : until_either 0 255 l ≤ length d → {b' : List ℕ} → b' ≡ pasted b k (take (e - k) (drop k l)) → b' ≡ pasted d 0 (take e l)
    many-put r v =
        let t : length (take k l) ≡ k = length-take-le k l h in
        let u : 0 + length (take k l) ≡ k = omega arith in
        let z : k + (e - k) ≡ e = omega arith in
        v ∙ ap (λ (c : List ℕ). pasted c k (take (e - k) (drop k l))) near-put
        ∙ ap (λ (j : ℕ). pasted (pasted d 0 (take k l)) j (take (e - k) (drop k l))) (sym u)
        ∙ pasted-more d 0 (take k l) (omega (arith, found-far m p)) (take (e - k) (drop k l))
        (omega (arith, found-far m p, length-take (e - k) (drop k l), length-drop k l, until-short 0 255 l))
        ∙ ap (pasted d 0) (sym (take-add k (e - k) l) ∙ ap (λ (j : ℕ). take j l) z)
