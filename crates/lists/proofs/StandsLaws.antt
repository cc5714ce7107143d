-- Whether a name stands among others.
use Prim.Native.Nat.{ℕ}
use mathlib.Core.Path.{◌≡◌, refl, ◌∙◌}
use mathlib.Core.Bool.{Bool, true, false, ◌||◌}
use mathlib.Core.List.{List, [], ◌∷◌}
use Rattle.lists.specs.Bytes.{same_bytes, stands}
use Rattle.lists.proofs.Tests.{split, clash}

or-false : (a b : Bool) → a || b ≡ false → (a ≡ false) × (b ≡ false)
or-false true b e = clash (cc)
or-false false b e = (refl, e)

pub stands-none : (name : List ℕ) → stands name [] ≡ false
unfolding stands
stands-none name = refl

pub stands-not : (name n : List ℕ) (ns : List (List ℕ)) → stands name (n ∷ ns) ≡ false → (same_bytes name n ≡ false) × (stands name ns ≡ false)
unfolding stands
stands-not name n ns e = or-false (same_bytes name n) (stands name ns) e

pub not-stands : (name n : List ℕ) (ns : List (List ℕ)) → same_bytes name n ≡ false → stands name ns ≡ false → stands name (n ∷ ns) ≡ false
unfolding stands
not-stands name n ns e f = rw (e, f)

pub stands-first : (name n : List ℕ) (ns : List (List ℕ)) → same_bytes name n ≡ true → stands name (n ∷ ns) ≡ true
unfolding stands
stands-first name n ns e = rw e

pub stands-other : (name n : List ℕ) (ns : List (List ℕ)) → same_bytes name n ≡ false → stands name (n ∷ ns) ≡ stands name ns
unfolding stands
stands-other name n ns e = rw e

pub stands-more : (name n : List ℕ) (ns : List (List ℕ)) → stands name ns ≡ true → stands name (n ∷ ns) ≡ true
stands-more name n ns e = split (same_bytes name n) (λ t. stands-first name n ns t) (λ t. stands-other name n ns t ∙ e)
