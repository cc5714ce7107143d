-- The laws of a part of a list.
use Prim.Native.Nat.{ℕ, suc, ◌+◌, ◌-◌, ◌≤◌, ◌<◌}
use mathlib.Core.Path.{◌≡◌, ap, ◌∙◌}
use mathlib.Core.List.{List, [], ◌∷◌, ◌++◌}
use native.Mathlib.Omega.{arith}
use lib.ListN.{length, get_or, take, drop}
use lib.Seq.{take-add, drop-drop}
use Rattle.lists.proofs.ListLaws.{drop-next}
use Rattle.values.specs.Helpers.{part}

pub part-next : (l : List ℕ) (i e : ℕ) → i < e → e ≤ length l → part l i e ≡ get_or l i 0 ∷ part l (i + 1) e
unfolding part
part-next l i e h k =
    let n : e - i ≡ suc (e - (i + 1)) = omega arith in
    rw (drop-next l i (omega arith), n)

pub part_none : (l : List ℕ) (i e : ℕ) → e ≤ i → part l i e ≡ []
unfolding part
part_none l i e h = let n : e - i ≡ 0 = omega arith in rw n

-- the first k bytes, and the rest
pub part_cut : (l : List ℕ) (i k e : ℕ) → i + k ≤ e → part l i e ≡ take k (drop i l) ++ part l (i + k) e
unfolding part
part_cut l i k e h =
    let n : e - i ≡ k + (e - (i + k)) = omega arith in
    ap (λ (m : ℕ). take m (drop i l)) n ∙ take-add k (e - (i + k)) (drop i l)
    ∙ ap (λ (r : List ℕ). take k (drop i l) ++ take (e - (i + k)) r) (drop-drop k i l)
