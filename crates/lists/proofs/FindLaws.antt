-- Laws of `until_either`: what stands at the first b or c, and before it; and the search by chunks.
use Prim.Native.Nat.{ℕ, suc, ◌+◌, ◌-◌, ◌<◌, ◌≤◌}
use mathlib.Core.Path.{◌≡◌, refl, sym, ap, ◌∙◌}
use mathlib.Core.Bool.{Bool, true, false, cond, not, ◌||◌}
use mathlib.Core.List.{List, [], ◌∷◌, ◌++◌}
use mathlib.Core.Logic.{◌≢◌, ◌⊎◌, inl, inr}
use native.Mathlib.Omega.{arith}
use lib.Dec.{ltb, eqb}
use lib.ListN.{length, get_or, take, drop, length-drop}
use lib.Seq.{get_or-drop, drop-drop, drop_at}
use Rattle.std.specs.Prelude.{position, unwrap_or, fold}
use Rattle.std.specs.List.{position_or_len}
use Rattle.std.proofs.lemmas.List.Sums.{prefix_len-le-length, prefix_len-drop_all, fails_before_first, passes_at_first}
use borrow.Author.Tests.{eqb-true, eq-eqb, ne_eqb, ltb-true, ltb-false}
use Rattle.lists.specs.Bytes.{Every}
use Rattle.lists.specs.Helpers.{either, until_either}
use Rattle.lists.proofs.Tests.{split, clash}
use Rattle.lists.proofs.ByteLaws.{every-before}

-- ---- the test of a byte

pub either_true : (b c x : ℕ) → either b c x ≡ true → (x ≡ b) ⊎ (x ≡ c)
either_true b c x e =
    split (eqb x b) (λ t. inl (eqb-true x b t)) (λ t. inr (eqb-true x c (sym (cc (t, e)))))

pub either-not : (b c x : ℕ) → either b c x ≡ false → (x ≢ b) × (x ≢ c)
either-not b c x e = ((λ q. clash (cc (eq-eqb x b q, e))), (λ q. clash (cc (eq-eqb x c q, e, or-true (eqb x b)))))
  where
    or-true : (t : Bool) → (t || true) ≡ true
    or-true true = refl
    or-true false = refl

pub either-none : (b c x : ℕ) → x ≢ b → x ≢ c → either b c x ≡ false
either-none b c x h k = cc (ne_eqb x b h, ne_eqb x c k)

-- ---- one byte further

module _ (b c : ℕ) where
  pub until-next : (x : ℕ) (xs : List ℕ) → either b c x ≡ false → until_either b c (x ∷ xs) ≡ suc (until_either b c xs)
  unfolding until_either
  until-next x xs e =
      let g : until_either b c (x ∷ xs) ≡ 1 + until_either b c xs = ap (λ (t : Bool). cond (not t) (1 + until_either b c xs) 0) e in
      omega (arith, g)

  pub until-short : (l : List ℕ) → until_either b c l ≤ length l
  unfolding until_either
  until-short l = prefix_len-le-length _ l

  -- no byte stands past the end
  pub until-end : (l : List ℕ) (i : ℕ) → length l ≤ i → until_either b c (drop i l) ≡ 0
  unfolding until_either
  until-end l i h = prefix_len-drop_all _ l i h

  -- no b or c before it
  before-it : (l : List ℕ) (k : ℕ) → k < until_either b c l → either b c (get_or l k 0) ≡ false
  unfolding until_either
  before-it l k h = fails_before_first (either b c) l k 0 h

  pub until-before : (l : List ℕ) → Every (λ x. either b c x ≡ false) (take (until_either b c l) l)
  until-before l = every-before (λ x. either b c x ≡ false) l (until_either b c l) (until-short l) (λ k h. before-it l k h)

  -- b or c stands there
  pub until-there : (l : List ℕ) → until_either b c l < length l → either b c (get_or l (until_either b c l) 0) ≡ true
  unfolding until_either
  until-there l h = passes_at_first (either b c) l 0 h

  -- it is the first
  pub until-first : (l : List ℕ) (k : ℕ) → either b c (get_or l k 0) ≡ true → until_either b c l ≤ k
  until-first l k e =
      split (ltb k (until_either b c l)) (λ t. clash (cc (before-it l k (ltb-true k (until_either b c l) t), e))) (λ t. ltb-false k (until_either b c l) t)

  -- the index of the first, or the length where there is none
  pub until_found : (l : List ℕ) → unwrap_or (position (either b c) l) (length l) ≡ until_either b c l
  unfolding until_either
  until_found l =
      let n = position_or_len (either b c) l in
      split (ltb n (length l)) (λ t. rw t) (λ t. rw t (omega (arith, ltb-false n (length l) t, until-short l)))

-- ---- at the offset r of the first b or c from `from` on

module _ (s : List ℕ) (from b c : ℕ) {r : ℕ} (e : r ≡ from + until_either b c (drop from s)) where
  pub either-ahead : from ≤ r
  either-ahead = omega arith

  pub either-inside : from ≤ length s → r ≤ length s
  either-inside h = omega (arith, until-short b c (drop from s), length-drop from s)

  pub either-there : r < length s → (get_or s r 0 ≡ b) ⊎ (get_or s r 0 ≡ c)
  either-there h =
      either_true b c (get_or s r 0)
      (ap (λ (k : ℕ). either b c (get_or s k 0)) e
      ∙ ap (either b c) (sym (get_or-drop from s (until_either b c (drop from s)) 0))
      ∙ until-there b c (drop from s) (omega (arith, length-drop from s)))

  pub either-before : (j : ℕ) → from ≤ j → j < r → (get_or s j 0 ≢ b) × (get_or s j 0 ≢ c)
  either-before j h k =
      let n : ℕ = j - from in
      let q : from + n ≡ j = omega arith in
      let w : length (drop from s) ≡ length s - from = length-drop from s in
      let o : until_either b c (drop from s) ≤ length (drop from s) = until-short b c (drop from s) in
      either-not b c (get_or s j 0)
      (split (either b c (get_or s j 0))
      (λ t. absurd (omega (
        arith,
        until-first b c (drop from s) n
            (ap (either b c) (get_or-drop from s n 0) ∙ ap (λ (m : ℕ). either b c (get_or s m 0)) q ∙ t),
      )))
      (λ t. t))

-- ---- the search by chunks

or-false : (t u : Bool) → (t || u) ≡ false → (t ≡ false) × (u ≡ false)
or-false true u e = clash (cc e)
or-false false u e = (refl, e)

module _ (b c : ℕ) where
  -- a chunk that has neither, before other bytes
  none-in : (l m : List ℕ) (hit : Bool) → fold (λ t x. t || either b c x) hit l ≡ false
      → (hit ≡ false) × (until_either b c (l ++ m) ≡ length l + until_either b c m)
  none-in [] m hit e = (e, omega arith)
  none-in (x ∷ xs) m hit e =
      let rest = none-in xs m (hit || either b c x) e in
      let here = or-false hit (either b c x) rest.0 in
      (here.0, omega (arith, until-next b c x (xs ++ m) here.1, rest.1))

  -- past a chunk that has neither
  pub chunk-skipped : (s chunk rest : List ℕ) (skipped : ℕ) → until_either b c s ≡ skipped + until_either b c (drop skipped s)
      → drop skipped s ≡ chunk ++ rest → fold (λ t x. t || either b c x) false chunk ≡ false
      → (until_either b c s ≡ skipped + length chunk + until_either b c (drop (skipped + length chunk) s)) × (drop (skipped + length chunk) s ≡ rest)
  chunk-skipped s chunk rest skipped e q t =
      let after : drop (skipped + length chunk) s ≡ rest =
      sym (drop-drop (length chunk) skipped s) ∙ ap (drop (length chunk)) q ∙ drop_at chunk rest (length chunk) refl in
      (omega (arith, e, ap (until_either b c) q ∙ (none-in chunk rest false t).1, ap (until_either b c) after), after)
