-- A stored name and the one that a caller gives: what is computed holds exactly when the rule does.
use Prim.Native.Nat.{ℕ, zero, suc, ◌-◌, ◌≤◌}
use mathlib.Core.Path.{◌≡◌, ap, refl, sym, subst, ◌∙◌}
use mathlib.Core.Bool.{true}
use mathlib.Core.List.{List, [], ◌∷◌, ◌++◌, append-nil}
use mathlib.Core.Logic.{◌↔◌}
use native.Mathlib.Omega.{arith}
use lib.ListN.{length, get_or, replicate, length-append, length-replicate}
use lib.Dec.{leb, eqb}
use borrow.Author.Tests.{eqb-true, eq-eqb, leb-true, le-leb}
use Rattle.lists.proofs.Tests.{split, clash}
use Rattle.lists.proofs.ListLaws.{zeros-at}
use Rattle.partition_name.specs.Rules.{SameName, MatchesName, NoLeftover}
use Rattle.partition_name.specs.Name.{padded, matches_name}
use Rattle.partition_name.proofs.SameLaws.{same-exactly, same-reflexive, same-symmetric, same-transitive, same-no-leftover}

-- past its end a name reads as zeros
zeros-after : (name : List ℕ) (k i : ℕ) → get_or (name ++ replicate k 0) i 0 ≡ get_or name i 0
zeros-after [] k i = zeros-at k i
zeros-after (x ∷ xs) k zero = refl
zeros-after (x ∷ xs) k (suc i) = zeros-after xs k i

pub padded-at : (name : List ℕ) (i : ℕ) → get_or (padded name) i 0 ≡ get_or name i 0
unfolding padded
padded-at name i = zeros-after name (12 - length name) i

pub length-padded : (name : List ℕ) → length name ≤ 12 → length (padded name) ≡ 12
unfolding padded
length-padded name h = simp (length-append, length-replicate) (omega arith)

padded-twelve : (name : List ℕ) → length name ≡ 12 → padded name ≡ name
unfolding padded
padded-twelve name e = let z : 12 - length name ≡ 0 = omega arith in rw z (append-nil name)

-- A NAME THAT IS STORED PADDED matches
pub matches-padded : (given : List ℕ) → length given ≤ 12 → MatchesName (padded given) given
unfolding padded
matches-padded given h = record { twelve = length-padded given h; at-most-twelve = omega arith; same = same-reflexive (padded given) }

module _ (stored given : List ℕ) where
  -- A MATCH exactly when the rule says so
  pub matches-exactly : (matches_name stored given ≡ true) ↔ MatchesName stored given
  unfolding matches_name padded
  matches-exactly = (
    λ e.
        split (eqb (length stored) 12)
        (λ n. split (leb (length given) 12)
        (λ t. record {
          twelve = eqb-true (length stored) 12 n;
          at-most-twelve = omega (arith, leb-true (length given) 12 t);
          same = (same-exactly stored (padded given)).0 (simp (n, t) at e);
        })
        (λ t. clash (cc (simp (n, t) at e))))
        (λ n. clash (cc (simp n at e))),
    λ m.
        simp (eq-eqb (length stored) 12 m.twelve, le-leb (length given) 12 m.at-most-twelve)
        ((same-exactly stored (padded given)).1 m.same),
  )

  -- OF TWELVE BYTES EACH, names match exactly when they are the same
  pub matches-twelve : length stored ≡ 12 → length given ≡ 12 → MatchesName stored given ↔ SameName stored given
  unfolding padded
  matches-twelve s t = (
    λ m. subst (SameName stored) (padded-twelve given t) m.same,
    λ n. record { twelve = s; at-most-twelve = omega arith; same = subst (SameName stored) (sym (padded-twelve given t)) n },
  )

  -- STORED NAMES THAT ARE THE SAME match the same names
  pub matches-same : (other : List ℕ) → length other ≡ 12 → SameName stored other → MatchesName stored given → MatchesName other given
  unfolding padded
  matches-same other t s m =
      record {
        twelve = t;
        at-most-twelve = m.at-most-twelve;
        same = same-transitive other stored (padded given) (same-symmetric stored other s) m.same;
      }

  -- WITHOUT LEFTOVER BYTES the rule is document 01's: all twelve bytes are those of the padded name
  pub matches-no-leftover : NoLeftover stored → NoLeftover given
      → MatchesName stored given ↔ ((length given ≤ 12) × (stored ≡ given ++ replicate (12 - length given) 0x00))
  unfolding padded
  matches-no-leftover p q = (
    λ m.
        let l = m.twelve ∙ sym (length-padded given m.at-most-twelve) in
        (m.at-most-twelve, (same-no-leftover stored (padded given) p padded-zeros l).0 m.same),
    λ h.
        let l = ap length h.1 in
        record {
          twelve = l ∙ length-padded given h.0;
          at-most-twelve = h.0;
          same = (same-no-leftover stored (padded given) p padded-zeros l).1 h.1;
        },
  )
    where
      padded-zeros : NoLeftover (padded given)
      padded-zeros = record { zeros = λ i k h z. padded-at given k ∙ q.zeros i k h (sym (padded-at given i) ∙ z) }
