-- Laws of a name: it is the bytes of its piece up to the first that ends one.
use Rattle.std.proofs.Common.{◌≡◌, ℕ, ◌-◌, ◌≤◌, suc, Bool, true, false, not, cond, List, [], ◌∷◌, ◌&&◌, refl, ap, ap₂, sym, ◌∙◌, nat_eq, drop, take, length, get_or}
use Rattle.std.specs.List.{take_while, zip}
use Rattle.repeats.specs.Helpers.Names.{common}
use Rattle.std.proofs.lemmas.List.{take_rest, get_or_past}
use Rattle.std.proofs.lemmas.List.Sums.{take_while-cons}
use Rattle.lists.specs.Bytes.{same_bytes}
use Rattle.lists.proofs.Tests.{split}
use borrow.Author.Tests.{eqb-true, eq-eqb}
use Rattle.lists.proofs.ByteLaws.{same_true, same_not}
use Rattle.repeats.specs.Pieces.{ends_name, name_of, piece_name}

-- the name at the start of these bytes
name-while : (l : List ℕ) → take_while (λ b. not (ends_name b)) l ≡ name_of l
unfolding name_of
name-while [] = refl
name-while (b ∷ l) = take_while-cons (λ b. not (ends_name b)) b l
    ∙ elim (ends_name b) as (λ e. cond (not e) (b ∷ take_while (λ b. not (ends_name b)) l) [] ≡ elim e as (λ _. List ℕ) [ true ↦ [] | false ↦ b ∷ name_of l ]) [ true ↦ refl | false ↦ ap (λ z. b ∷ z) (name-while l) ]

-- the name of a piece, as the rest of the pairs from there on is lent
piece-rest : (l : List ℕ) (at : ℕ) → name_of (take (length l - at) (drop at l)) ≡ piece_name l at
unfolding piece_name
piece-rest l at = ap name_of (take_rest l at)

pub piece-while : (l : List ℕ) (at : ℕ) → take_while (λ b. not (ends_name b)) (take (length l - at) (drop at l)) ≡ piece_name l at
piece-while l at = name-while _ ∙ piece-rest l at

-- two names that are compared
module _ (l : List ℕ) (p q : ℕ) {r : Bool} (e : r ≡ same_bytes (name_of (take (length l - p) (drop p l))) (name_of (take (length l - q) (drop q l)))) where
  same : r ≡ same_bytes (piece_name l p) (piece_name l q)
  same = e ∙ ap₂ same_bytes (piece-rest l p) (piece-rest l q)

  pub names-same : r ≡ true → piece_name l p ≡ piece_name l q
  names-same t = same_true _ _ (sym same ∙ t)

  pub names-differ : r ≡ false → piece_name l p ≡ piece_name l q → ⊥
  names-differ f = same_not _ _ (sym same ∙ f)

-- a name has ended past the bytes
ends-zero : ends_name 0 ≡ true
unfolding ends_name
ends-zero = refl

pub ended-past : (l : List ℕ) (at : ℕ) → length l ≤ at → true ≡ ends_name (get_or l at 0)
ended-past l at h = sym (ap ends_name (get_or_past l at 0 h) ∙ ends-zero)

-- a byte more in both pieces
abbrev agree : ℕ × ℕ → Bool
agree p = nat_eq p.0 p.1 && not (ends_name p.0)

abbrev end-in : ℕ → ℕ → ℕ → ℕ
end-in a b n = cond (nat_eq a b && not (ends_name a)) (suc n) 0

common-cons : (a b : ℕ) (x y : List ℕ) → common (a ∷ x) (b ∷ y) ≡ end-in a b (common x y)
common-cons a b x y = ap length (take_while-cons agree (a, b) (zip x y))
    ∙ elim (nat_eq a b && not (ends_name a)) as (λ e. length (cond e ((a, b) ∷ take_while agree (zip x y)) []) ≡ cond e (suc (common x y)) 0) [ true ↦ refl | false ↦ refl ]

name-ended : (a : ℕ) (x : List ℕ) → ends_name a ≡ true → name_of (a ∷ x) ≡ []
unfolding name_of
name-ended a x e = ap (λ (t : Bool). elim t as (λ _. List ℕ) [ true ↦ [] | false ↦ a ∷ name_of x ]) e

name-goes : (a : ℕ) (x : List ℕ) → ends_name a ≡ false → name_of (a ∷ x) ≡ a ∷ name_of x
unfolding name_of
name-goes a x e = ap (λ (t : Bool). elim t as (λ _. List ℕ) [ true ↦ [] | false ↦ a ∷ name_of x ]) e

module _ (x y : List ℕ) (n : ℕ) (same : (ends_name (get_or x n 0) && ends_name (get_or y n 0)) ≡ same_bytes (name_of x) (name_of y)) where
  same-byte : (a : ℕ) → nat_eq a a ≡ true → (ends_name (get_or (a ∷ x) (end-in a a n) 0) && ends_name (get_or (a ∷ y) (end-in a a n) 0)) ≡ same_bytes (name_of (a ∷ x)) (name_of (a ∷ y))
  unfolding same_bytes
  same-byte a q = split (ends_name a)
      (λ e. rw (q, e, name-ended a x e, name-ended a y e, e) refl)
      (λ e. rw (q, e, name-goes a x e, name-goes a y e) (same ∙ sym (ap (λ (t : Bool). t && same_bytes (name_of x) (name_of y)) q)))

  other-byte : (a b : ℕ) → nat_eq a b ≡ false → (ends_name (get_or (a ∷ x) (end-in a b n) 0) && ends_name (get_or (b ∷ y) (end-in a b n) 0)) ≡ same_bytes (name_of (a ∷ x)) (name_of (b ∷ y))
  unfolding same_bytes
  other-byte a b q = rw q (split (ends_name a)
      (λ e. split (ends_name b)
      (λ f. rw (e, f, name-ended a x e, name-ended b y f) refl)
      (λ f. rw (e, f, name-ended a x e, name-goes b y f) refl))
      (λ e. split (ends_name b)
      (λ f. rw (e, name-goes a x e, name-ended b y f) refl)
      (λ f. rw (e, name-goes a x e, name-goes b y f) (sym (ap (λ (t : Bool). t && same_bytes (name_of x) (name_of y)) q)))))

-- two names are the same if both end behind what they have in common
ended-same : (x y : List ℕ) → (ends_name (get_or x (common x y) 0) && ends_name (get_or y (common x y) 0)) ≡ same_bytes (name_of x) (name_of y)
unfolding name_of same_bytes
ended-same [] [] = rw ends-zero refl
ended-same [] (b ∷ y) = rw ends-zero (elim (ends_name b) as (λ e. e ≡ same_bytes [] (elim e as (λ _. List ℕ) [ true ↦ [] | false ↦ b ∷ name_of y ])) [ true ↦ refl | false ↦ refl ])
ended-same (a ∷ x) [] = rw ends-zero (elim (ends_name a) as (λ e. (e && true) ≡ same_bytes (elim e as (λ _. List ℕ) [ true ↦ [] | false ↦ a ∷ name_of x ]) []) [ true ↦ refl | false ↦ refl ])
ended-same (a ∷ x) (b ∷ y) = rw (common-cons a b x y) (split (nat_eq a b)
    (λ q. let e : b ≡ a = sym (eqb-true a b q) in rw e (same-byte x y (common x y) (ended-same x y) a (eq-eqb a a refl)))
    (λ q. other-byte x y (common x y) (ended-same x y) a b q))

pub ended-both : (x y : List ℕ) (n : ℕ) (s t : Bool) → n ≡ common x y → s ≡ ends_name (get_or x n 0) → t ≡ ends_name (get_or y n 0) → s && t ≡ same_bytes (name_of x) (name_of y)
ended-both x y n s t e f g = ap₂ (λ a b. a && b) f g ∙ ap (λ n. ends_name (get_or x n 0) && ends_name (get_or y n 0)) e ∙ ended-same x y
