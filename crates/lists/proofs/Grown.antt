-- A list is written to d from the offset at, piece by piece; that there is room is shown at each piece. The list is `all`, and rest is to come.
use mathlib.Core.Path.{◌≡◌, refl, sym, ap, ◌∙◌}
use mathlib.Core.List.{List, [], ◌∷◌, ◌++◌, append_assoc, append-nil}
use Prim.Native.Nat.{ℕ, ◌+◌, ◌≤◌}
use native.Mathlib.Omega.{arith}
use lib.ListN.{length, set, get_or, length-append}
use Rattle.lists.specs.Pasted.{pasted}
use Rattle.lists.proofs.PastedLaws.{pasted-none, pasted-more, set-pasted, length-pasted, get_d_after}

pub record Grown (all d : List ℕ) (at o : ℕ) (rest b : List ℕ) : Type 0 where
  pub done : List ℕ
  pub joined : done ++ rest ≡ all
  pub upto : at + length done ≡ o
  pub room : o ≤ length d
  pub so_far : b ≡ pasted d at done

pub grown-none : (all d : List ℕ) (at : ℕ) → at ≤ length d → Grown all d at at all d
grown-none all d at h = record { done = []; joined = refl; upto = omega arith; room = h; so_far = pasted-none d at }

module _ {all d : List ℕ} {at o : ℕ} {r b : List ℕ} (s : Grown all d at o r b) where
  fitting : at + length s.done ≤ length d
  fitting = omega (arith, s.upto, s.room)

  pub grown-same : length b ≡ length d
  grown-same = ap length s.so_far ∙ length-pasted d at s.done fitting

  pub grown-after : (j : ℕ) → o ≤ j → get_or b j 0 ≡ get_or d j 0
  grown-after j h =
      let u : at + length s.done ≡ o = s.upto in
      ap (λ (l : List ℕ). get_or l j 0) s.so_far ∙ get_d_after d at s.done fitting j (omega arith)

  pub grown-as : {r' : List ℕ} → r ≡ r' → Grown all d at o r' b
  grown-as e = record { done = s.done; joined = ap (λ (l : List ℕ). s.done ++ l) (sym e) ∙ s.joined; upto = s.upto; room = s.room; so_far = s.so_far }

  pub grown-piece : (w rest : List ℕ) {o' : ℕ} {b' : List ℕ} → r ≡ w ++ rest → o + length w ≤ length d → o' ≡ o + length w → b' ≡ pasted b o w
      → Grown all d at o' rest b'
  grown-piece w rest e h f q =
      let u : at + length s.done ≡ o = s.upto in
      record {
        done = s.done ++ w;
        joined = append_assoc s.done w rest ∙ ap (λ (l : List ℕ). s.done ++ l) (sym e) ∙ s.joined;
        upto = omega (arith, length-append s.done w);
        room = omega arith;
        so_far =
            q ∙ ap (λ (l : List ℕ). pasted l o w) s.so_far ∙ ap (λ (k : ℕ). pasted (pasted d at s.done) k w) (sym u)
            ∙ pasted-more d at s.done fitting w (omega arith);
      }

  pub grown-byte : (x : ℕ) (rest : List ℕ) → r ≡ x ∷ rest → o + 1 ≤ length d → Grown all d at (o + 1) rest (set b o x)
  grown-byte x rest e h = grown-piece (x ∷ []) rest e h refl (set-pasted b o x (omega (arith, grown-same)))

  none_left : r ≡ [] → s.done ≡ all
  none_left e = sym (append-nil s.done) ∙ ap (λ (l : List ℕ). s.done ++ l) (sym e) ∙ s.joined

  pub grown-all : r ≡ [] → b ≡ pasted d at all
  grown-all e = s.so_far ∙ ap (pasted d at) (none_left e)

  pub grown-end : r ≡ [] → o ≡ at + length all
  grown-end e = sym s.upto ∙ ap (λ (l : List ℕ). at + length l) (none_left e)

-- what is still to come of a list that has room in all
pub grown-left : {all d : List ℕ} {at o : ℕ} {r b : List ℕ} → Grown all d at o r b → at + length all ≤ length d → o + length r ≤ length d
grown-left {r = r} s h = omega (arith, s.upto, length-append s.done r, ap length s.joined)
