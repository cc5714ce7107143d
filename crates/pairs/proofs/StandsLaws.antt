-- Whether a name stands among those of pairs.
use Prim.Native.Nat.{ℕ}
use mathlib.Core.Path.{◌≡◌, sym, ap, ◌∙◌}
use mathlib.Core.Bool.{true, false}
use mathlib.Core.List.{List, [], ◌∷◌, ◌++◌}
use Rattle.lists.specs.Bytes.{same_bytes, stands}
use Rattle.lists.proofs.Tests.{split, clash}
use Rattle.lists.proofs.ByteLaws.{same_refl, same_true}
use Rattle.lists.proofs.StandsLaws.{stands-none, not-stands, stands-first, stands-more}
use Rattle.pairs.specs.Area.{Pair}
use Rattle.pairs.proofs.ParseLaws.{Good, none, more}

-- the names of pairs, in order
abbrev pub names : List Pair → List (List ℕ)
names [] = []
names (p ∷ ps) = p.name ∷ names ps

pub stands-between : (name : List ℕ) (before : List Pair) (p : Pair) (after : List Pair) → name ≡ p.name → stands name (names (before ++ p ∷ after)) ≡ true
stands-between name [] p after e = stands-first name p.name (names after) (ap (same_bytes name) (sym e) ∙ same_refl name)
stands-between name (q ∷ before) p after e = stands-more name q.name (names (before ++ p ∷ after)) (stands-between name before p after e)

-- a name that was seen does not stand again
pub good-unseen : {seen : List (List ℕ)} {ps : List Pair} (name : List ℕ) → Good seen ps → stands name seen ≡ true → stands name (names ps) ≡ false
good-unseen name none h = stands-none name
good-unseen name (more {seen = seen} {p = p} {ps = ps} n v s g) h =
    split (same_bytes name p.name)
    (λ t. clash (cc (same_true name p.name t)))
    (λ t. not-stands name p.name (names ps) t (good-unseen name g (stands-more name p.name seen h)))
