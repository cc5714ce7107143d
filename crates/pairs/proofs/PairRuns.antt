-- Pairs that stand one after the other: their bytes, and a walk over them.
use Prim.Native.Nat.{ℕ, ◌+◌, ◌≤◌}
use mathlib.Core.Path.{◌≡◌, refl, sym, ap, ◌∙◌, subst}
use mathlib.Core.List.{List, [], ◌∷◌, ◌++◌, append_assoc}
use native.Mathlib.Omega.{arith}
use lib.ListN.{length, take, drop, length-append, length-drop}
use lib.Seq.{take_at}
use Rattle.lists.specs.Bytes.{Every}
use Rattle.pairs.specs.declared.Place.{Place}
use Rattle.pairs.specs.Scan.{pair, stand_at}
use Rattle.pairs.specs.Area.{Pair, pair_of, pair_bytes, pairs_bytes}
use Rattle.pairs.proofs.PairPlaces.{Goes, NotZero, pair-here, PairSeen}

-- l is these pairs and then rest
pub data PairRun : List Pair → List ℕ → List ℕ → Type 0 where
  none : {rest : List ℕ} → PairRun [] rest rest
  more : {name stored l next rest : List ℕ} {ps : List Pair} → stand_at l ≡ pair name stored next → PairRun ps next rest
      → PairRun (pair_of name stored ∷ ps) l rest

pub pair-bytes : (name stored rest : List ℕ) → pair_bytes (pair_of name stored) ++ rest ≡ name ++ 0x3D ∷ (stored ++ 0x00 ∷ rest)
unfolding pair_bytes
pair-bytes name stored rest = simp append_assoc

pub run-bytes : {ps : List Pair} {l rest : List ℕ} → PairRun ps l rest → l ≡ pairs_bytes ps ++ rest
unfolding pairs_bytes
run-bytes none = refl
run-bytes {rest = rest} (more {name} {stored} {l} {next} {ps = ps} e r) =
    (pair-here l name stored next e).is ∙ sym (pair-bytes name stored next) ∙ ap (λ (m : List ℕ). pair_bytes (pair_of name stored) ++ m) (run-bytes r)
    ∙ sym (append_assoc (pair_bytes (pair_of name stored)) (pairs_bytes ps) rest)

pub run_length : {ps : List Pair} {l rest : List ℕ} → PairRun ps l rest → length l ≡ length (pairs_bytes ps) + length rest
run_length {ps} {l} {rest} r = ap length (run-bytes r) ∙ length-append (pairs_bytes ps) rest

pub run-snoc : {ps : List Pair} {l rest : List ℕ} (name stored next : List ℕ) → PairRun ps l rest → stand_at rest ≡ pair name stored next
    → PairRun (ps ++ pair_of name stored ∷ []) l next
run-snoc name stored next none e = more e none
run-snoc name stored next (more h r) e = more h (run-snoc name stored next r e)

-- the names and the stored values hold no byte that ends them
pub data CleanPairs : List Pair → Type 0 where
  none : CleanPairs []
  more : {name stored : List ℕ} {ps : List Pair} → Every Goes name → Every NotZero stored → CleanPairs ps → CleanPairs (pair_of name stored ∷ ps)

pub run-clean : {ps : List Pair} {l rest : List ℕ} → PairRun ps l rest → CleanPairs ps
run-clean none = none
run-clean (more {name} {stored} {l} {next} e r) = let p = pair-here l name stored next e in more p.name-clean p.stored-clean (run-clean r)

-- a walk over the pairs has come to `at`, past so many pairs
pub record Walked (area : List ℕ) (at count : ℕ) : Type 0 where
  pub pairs : List Pair
  pub run : PairRun pairs area (drop at area)
  pub counted : length pairs ≡ count
  pub few : count ≤ at
  pub inside : at ≤ length area

pub walked_none : (area : List ℕ) → Walked area 0 0
walked_none area = record { pairs = []; run = none; counted = refl; few = omega arith; inside = omega arith }

module _ {area : List ℕ} {at count : ℕ} (w : Walked area at count) where
  pub walked_more : {p : Place} → PairSeen area at p → Walked area (p.end + 1) (count + 1)
  walked_more {p} s = record {
    pairs = w.pairs ++ pair_of s.name s.stored ∷ [];
    run = subst (PairRun (w.pairs ++ pair_of s.name s.stored ∷ []) area) s.follows (run-snoc s.name s.stored s.rest w.run s.stand);
    counted = length-append w.pairs (pair_of s.name s.stored ∷ []) ∙ omega (arith, w.counted);
    few = omega (arith, w.few, s.equals, s.end);
    inside = omega (arith, s.inside);
  }

  pub walked-length : length (pairs_bytes w.pairs) ≡ at
  walked-length = omega (arith, run_length w.run, length-drop at area, w.inside)

  pub walked-take : take at area ≡ pairs_bytes w.pairs
  walked-take = ap (take at) (run-bytes w.run) ∙ take_at (pairs_bytes w.pairs) (drop at area) at walked-length
