-- When two names are the same: what is computed holds exactly when the rule does, and the rule is an equivalence.
use Prim.Native.Nat.{ℕ, zero, suc, ◌≤◌, ◌<◌}
use mathlib.Core.Path.{◌≡◌, ap, refl, sym, ◌∙◌}
use mathlib.Core.Bool.{true}
use mathlib.Core.List.{List, [], ◌∷◌, ◌++◌}
use mathlib.Core.Logic.{◌≢◌, ◌⊎◌, inl, inr, ◌↔◌}
use native.Mathlib.Omega.{arith}
use native.Mathlib.Decide.{dec_le}
use lib.ListN.{length, get_or}
use lib.Seq.{ext_get_or}
use lib.Dec.{eqb}
use borrow.Author.Tests.{eqb-true, eqb-false, eq-eqb}
use Rattle.lists.proofs.Tests.{split, clash}
use Rattle.partition_name.specs.Rules.{SameName, up_to_zero, no_zero, NoLeftover}
use Rattle.partition_name.specs.Name.{same_name}

-- one byte more in front of both names
module _ (x y : ℕ) (xs ys : List ℕ) where
  same_head : SameName (x ∷ xs) (y ∷ ys) → x ≡ y
  same_head (up_to_zero f e) = e 0 (omega arith)
  same_head (no_zero p q e) = cc

  same-tail : x ≢ 0 → SameName (x ∷ xs) (y ∷ ys) → SameName xs ys
  same-tail n (no_zero p q e) = no_zero p.1 q.1 (cc)
  same-tail n (up_to_zero {i = zero} f e) = absurd (at_once f.zero)
    where
      at_once : (x ≡ 0) ⊎ (y ≡ 0) → ⊥
      at_once (inl z) = n z
      at_once (inr z) = n (e 0 (omega arith) ∙ z)
  same-tail n (up_to_zero {i = suc i} f e) =
      up_to_zero {i = i}
      (record {
        inside = (omega (arith, f.inside.0), omega (arith, f.inside.1));
        zero = f.zero;
        before = λ k h. f.before (suc k) (omega arith);
      })
      (λ k h. e (suc k) (omega arith))

  same-zero : x ≡ y → x ≡ 0 → SameName (x ∷ xs) (y ∷ ys)
  same-zero e z =
      up_to_zero {i = 0}
      (record { inside = (omega arith, omega arith); zero = inl z; before = λ k h. absurd (omega arith) })
      (λ k h. only k h)
    where
      only : (k : ℕ) → k ≤ 0 → get_or (x ∷ xs) k 0 ≡ get_or (y ∷ ys) k 0
      only zero h = e
      only (suc k) h = absurd (omega arith)

  same_more : x ≡ y → x ≢ 0 → SameName xs ys → SameName (x ∷ xs) (y ∷ ys)
  same_more e n (no_zero p q t) = no_zero (n, p) ((λ z. n (e ∙ z)), q) (cc)
  same_more e n (up_to_zero {i = i} f t) =
      up_to_zero {i = suc i}
      (record { inside = (omega (arith, f.inside.0), omega (arith, f.inside.1)); zero = f.zero; before = λ k h. before k h })
      (λ k h. agree k h)
    where
      before : (k : ℕ) → k < suc i → (get_or (x ∷ xs) k 0 ≢ 0) × (get_or (y ∷ ys) k 0 ≢ 0)
      before zero h = (n, λ z. n (e ∙ z))
      before (suc k) h = f.before k (omega arith)

      agree : (k : ℕ) → k ≤ suc i → get_or (x ∷ xs) k 0 ≡ get_or (y ∷ ys) k 0
      agree zero h = e
      agree (suc k) h = t k (omega arith)

first-agrees : (x y : ℕ) (xs ys : List ℕ) → same_name (x ∷ xs) (y ∷ ys) ≡ true → x ≡ y
unfolding same_name
first-agrees x y xs ys e = split (eqb x y) (λ q. eqb-true x y q) (λ q. clash (cc (simp q at e)))

there : (a b : List ℕ) → same_name a b ≡ true → SameName a b
unfolding same_name
there [] [] e = no_zero tt tt refl
there [] (y ∷ ys) e = clash (cc)
there (x ∷ xs) [] e = clash (cc)
there (x ∷ xs) (y ∷ ys) e = go (there xs ys)
  where
    go : (same_name xs ys ≡ true → SameName xs ys) → SameName (x ∷ xs) (y ∷ ys)
    go ih =
        let q = first-agrees x y xs ys e in
        split (eqb x 0)
        (λ z. same-zero x y xs ys q (eqb-true x 0 z))
        (λ z. same_more x y xs ys q (eqb-false x 0 z) (ih (simp (eq-eqb x y q, z) at e)))

back : (a b : List ℕ) → SameName a b → same_name a b ≡ true
unfolding same_name
back [] [] s = refl
back [] (y ∷ ys) (up_to_zero f e) = absurd (omega (arith, f.inside.0))
back [] (y ∷ ys) (no_zero p q e) = clash (cc)
back (x ∷ xs) [] (up_to_zero f e) = absurd (omega (arith, f.inside.1))
back (x ∷ xs) [] (no_zero p q e) = clash (cc)
back (x ∷ xs) (y ∷ ys) s = go (back xs ys)
  where
    go : (SameName xs ys → same_name xs ys ≡ true) → same_name (x ∷ xs) (y ∷ ys) ≡ true
    go ih =
        let q = eq-eqb x y (same_head x y xs ys s) in
        split (eqb x 0)
        (λ z. simp (q, z))
        (λ z. simp (q, z) (ih (same-tail x y xs ys (eqb-false x 0 z) s)))

-- THE SAME exactly when the rule says so
pub same-exactly : (a b : List ℕ) → (same_name a b ≡ true) ↔ SameName a b
same-exactly a b = (there a b, back a b)

-- AN EQUIVALENCE
pub same-reflexive : (a : List ℕ) → SameName a a
unfolding same_name
same-reflexive a = there a a (go a)
  where
    go : (l : List ℕ) → same_name l l ≡ true
    go [] = refl
    go (x ∷ xs) = split (eqb x 0) (λ z. simp (eq-eqb x x refl, z)) (λ z. simp (eq-eqb x x refl, z) (go xs))

pub same-symmetric : (a b : List ℕ) → SameName a b → SameName b a
same-symmetric a b (no_zero p q e) = no_zero q p (sym e)
same-symmetric a b (up_to_zero f e) =
    up_to_zero
    (record {
      inside = (f.inside.1, f.inside.0);
      zero = swap f.zero;
      before = λ k h. ((f.before k h).1, (f.before k h).0);
    })
    (λ k h. sym (e k h))
  where
    swap : {P Q : Type 0} → P ⊎ Q → Q ⊎ P
    swap (inl p) = inr p
    swap (inr q) = inl q

pub same-transitive : (a b c : List ℕ) → SameName a b → SameName b c → SameName a c
unfolding same_name
same-transitive a b c s t = there a c (go a b c (back a b s) (back b c t))
  where
    go : (l m n : List ℕ) → same_name l m ≡ true → same_name m n ≡ true → same_name l n ≡ true
    go [] [] n e f = f
    go [] (y ∷ ys) n e f = clash (cc)
    go (x ∷ xs) [] n e f = clash (cc)
    go (x ∷ xs) (y ∷ ys) [] e f = clash (cc)
    go (x ∷ xs) (y ∷ ys) (z ∷ zs) e f = step (go xs ys zs)
      where
        step : (same_name xs ys ≡ true → same_name ys zs ≡ true → same_name xs zs ≡ true) → same_name (x ∷ xs) (z ∷ zs) ≡ true
        step ih =
            let xy = first-agrees x y xs ys e in
            let yz = first-agrees y z ys zs f in
            let xz = eq-eqb x z (xy ∙ yz) in
            split (eqb x 0)
            (λ o. simp (xz, o))
            (λ o. simp (xz, o) (ih (simp (eq-eqb x y xy, o) at e) (simp (eq-eqb y z yz, ap (λ (k : ℕ). eqb k 0) (sym xy) ∙ o) at f)))

-- WHAT STANDS AFTER A 0x00 does not count, whatever stands before it
pub after-zero : (before s t : List ℕ) → SameName (before ++ 0x00 ∷ s) (before ++ 0x00 ∷ t)
after-zero [] s t = same-zero 0x00 0x00 s t refl refl
after-zero (x ∷ before) s t =
    split (eqb x 0)
    (λ z. same-zero x x (before ++ 0x00 ∷ s) (before ++ 0x00 ∷ t) refl (eqb-true x 0 z))
    (λ z. same_more x x (before ++ 0x00 ∷ s) (before ++ 0x00 ∷ t) refl (eqb-false x 0 z) (after-zero before s t))

-- NAMES WITHOUT LEFTOVER BYTES, of one length, are the same exactly when all their bytes are: document 01's rule
module _ (a b : List ℕ) where
  pub same-no-leftover : NoLeftover a → NoLeftover b → length a ≡ length b → SameName a b ↔ (a ≡ b)
  same-no-leftover p q l = (equal, λ e. rw (← e) (same-reflexive a))
    where
      zero-both : (i : ℕ) → (get_or a i 0 ≡ 0) ⊎ (get_or b i 0 ≡ 0) → get_or a i 0 ≡ get_or b i 0 → (get_or a i 0 ≡ 0) × (get_or b i 0 ≡ 0)
      zero-both i (inl z) e = (z, sym e ∙ z)
      zero-both i (inr z) e = (e ∙ z, z)

      equal : SameName a b → a ≡ b
      equal (no_zero _ _ e) = e
      equal (up_to_zero {i = i} f e) = ext_get_or 0 a b l (λ k h. at k (dec_le k i))
        where
          at : (k : ℕ) → Dec (k ≤ i) → get_or a k 0 ≡ get_or b k 0
          at k (yes h) = e k h
          at k (no h) =
              let z = zero-both i f.zero (e i (omega arith)) in
              p.zeros i k (omega arith) z.0 ∙ sym (q.zeros i k (omega arith) z.1)
