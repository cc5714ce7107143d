-- The walk without its bound on steps: `rest` is what a walk from an offset finds, and `rest-step` is its one law.
use Prim.Native.Nat.{ℕ, suc, zero, ◌+◌, ◌-◌, ◌*◌, ◌≤◌, ◌<◌}
use mathlib.Core.Path.{◌≡◌, ap, subst, refl, sym, ◌∙◌}
use mathlib.Core.Bool.{true, false}
use mathlib.Core.List.{List, [], ◌∷◌}
use native.Mathlib.Omega.{arith}
use native.Mathlib.Decide.{dec_lt}
use native.Mathlib.Nat.{sub-zero}
use lib.ListN.{length}
use Rattle.lists.proofs.Tests.{clash}
use Rattle.errors.specs.declared.Error.{Error}
use Rattle.errors.specs.declared.Error.TheVariants.{ImageLength}
use Rattle.header.specs.Header.{Validity, header_at, validity_at}
use Rattle.header.proofs.ValidityLaws.{valid-nonzero, valid-fits}
use Rattle.partitions.specs.declared.Partition.{Partition}
use Rattle.partitions.specs.Walk.{Stepped, onward, step_at, partition_of, past_of, Walk, covered, broken, first, on_step, walk_from, walk, allowed_length}
use Rattle.std.specs.Prelude.{Ok, Err, Some, None}
use Rattle.partitions.specs.declared.Step.{Step}
use Rattle.partitions.proofs.StepLaws.{step_end, step-next, step-broken}

-- the three outcomes of a step, with what holds at each
pub data View (image : List ℕ) (at : ℕ) : Stepped → Type 0 where
  ends : length image ≤ at → View image at (Ok None)
  goes : at < length image → validity_at image at ≡ Ok tt → View image at (Ok (Some (onward image at)))
  breaks : {e : Error} → at < length image → validity_at image at ≡ Err e → View image at (Err e)

pub view : (image : List ℕ) (at : ℕ) → View image at (step_at image at)
view image at = go (dec_lt at (length image)) (validity_at image at) refl
  where
    go : Dec (at < length image) → (v : Validity) → validity_at image at ≡ v → View image at (step_at image at)
    go (no n) v e = let l : length image ≤ at = omega arith in rw (step_end image at l) (ends l)
    go (yes l) (Ok _) e = rw (step-next image at l e) (goes l e)
    go (yes l) (Err x) e = rw (step-broken image at l x e) (breaks l e)

-- a partition that breaks no rule takes at least its header, and ends inside the image
pub past-bounds : (image : List ℕ) (at : ℕ) → at < length image → validity_at image at ≡ Ok tt
    → (at + 16 ≤ past_of image at) × (past_of image at ≤ length image)
unfolding past_of
past-bounds image at l e =
    let n : (header_at image at).length.0 ≡ 0 → ⊥ = valid-nonzero image at e in
    let fits : (header_at image at).length.0 * 16 ≤ length image - at = valid-fits image at e in
    omega arith

-- any two bounds that suffice find the same
fuel : (image : List ℕ) (n m at : ℕ) → length image - at < n → length image - at < m → walk_from n image at ≡ walk_from m image at
unfolding walk_from
fuel image zero m at hn hm = absurd (omega arith)
fuel image (suc n) zero at hn hm = absurd (omega arith)
fuel image (suc n) (suc m) at hn hm = go (step_at image at) (view image at) (fuel image n m (past_of image at))
  where
    go : (s : Stepped) → View image at s
        → (length image - past_of image at < n → length image - past_of image at < m
        → walk_from n image (past_of image at) ≡ walk_from m image (past_of image at))
        → on_step s (λ past. walk_from n image past) ≡ on_step s (λ past. walk_from m image past)
    go (Ok None) (ends l) ih = refl
    go (Ok (Some s)) (goes l e) ih =
        let b = past-bounds image at l e in
        ap (first (partition_of image at)) (ih (omega arith) (omega arith))
    go (Err x) (breaks l e) ih = refl

-- what the walk from an offset finds
unfoldable pub rest : List ℕ → ℕ → Walk
rest image at = walk_from (suc (length image - at)) image at

pub rest-step : (image : List ℕ) (at : ℕ) → rest image at ≡ on_step (step_at image at) (rest image)
unfolding rest walk_from
rest-step image at = go (step_at image at) (view image at)
  where
    go : (s : Stepped) → View image at s → on_step s (λ past. walk_from (length image - at) image past) ≡ on_step s (rest image)
    go (Ok None) (ends l) = refl
    go (Ok (Some s)) (goes l e) =
        let b = past-bounds image at l e in
        ap (first (partition_of image at)) (fuel image (length image - at) (suc (length image - past_of image at)) (past_of image at) (omega arith) (omega arith))
    go (Err x) (breaks l e) = refl

pub walk-rest : (image : List ℕ) → allowed_length (length image) ≡ true → walk image ≡ rest image 0
unfolding walk rest
walk-rest image a = rw (a, sub-zero)

pub walk_refused : (image : List ℕ) → allowed_length (length image) ≡ false → walk image ≡ broken ImageLength
unfolding walk
walk_refused image a = rw a

module _ (image : List ℕ) (at : ℕ) where
  pub rest-next : (s : Step) → step_at image at ≡ Ok (Some s) → rest image at ≡ first s.here (rest image s.next.at)
  rest-next s e = rest-step image at ∙ ap (λ (s : Stepped). on_step s (rest image)) e

  pub rest_end : step_at image at ≡ Ok None → rest image at ≡ covered []
  rest_end e = rest-step image at ∙ ap (λ (s : Stepped). on_step s (rest image)) e

  pub rest-broken : (x : Error) → step_at image at ≡ Err x → rest image at ≡ broken x
  rest-broken x e = rest-step image at ∙ ap (λ (s : Stepped). on_step s (rest image)) e

-- INDUCTION over the walk: what holds at the image's end and at a header that breaks a rule, and before a partition where it
-- holds after it, holds of what the walk finds
module _ (image : List ℕ) (P : ℕ → Walk → Type 0) (last : P (length image) (covered []))
    (step : (at : ℕ) → at < length image → validity_at image at ≡ Ok tt → (w : Walk) → P (past_of image at) w
    → P at (first (partition_of image at) w))
    (stop : (at : ℕ) → at < length image → (e : Error) → validity_at image at ≡ Err e → P at (broken e)) where
  by-steps : (n at : ℕ) → at ≤ length image → length image - at < n → P at (walk_from n image at)
  unfolding walk_from
  by-steps zero at l f = absurd (omega arith)
  by-steps (suc n) at l f = go (step_at image at) (view image at) (by-steps n (past_of image at))
    where
      go : (s : Stepped) → View image at s
          → (past_of image at ≤ length image → length image - past_of image at < n → P (past_of image at) (walk_from n image (past_of image at)))
          → P at (on_step s (λ past. walk_from n image past))
      go (Ok None) (ends e) ih = let z : at ≡ length image = omega arith in rw z last
      go (Ok (Some s)) (goes i v) ih =
          let b = past-bounds image at i v in
          step at i v (walk_from n image (past_of image at)) (ih b.1 (omega (arith, b.0)))
      go (Err x) (breaks i v) ih = stop at i x v

  pub rest-by-steps : P 0 (rest image 0)
  unfolding rest
  rest-by-steps = by-steps (suc (length image - 0)) 0 (omega arith) (omega arith)

-- a step that goes on, goes on inside the image
pub next-bounds : (image : List ℕ) (at : ℕ) (s : Step) → step_at image at ≡ Ok (Some s) → (at < s.next.at) × (s.next.at ≤ length image)
next-bounds image at s e = go (step_at image at) (view image at) e
  where
    go : (t : Stepped) → View image at t → t ≡ Ok (Some s) → (at < s.next.at) × (s.next.at ≤ length image)
    go (Ok None) (ends l) q = clash (cc)
    go (Ok (Some t)) (goes l v) q =
        let b = past-bounds image at l v in
        let e : t ≡ s = cc in
        subst (λ (x : Step). (at < x.next.at) × (x.next.at ≤ length image)) e (omega arith)
    go (Err x) (breaks l v) q = clash (cc)

-- an answer by cases on what a walk finds
abbrev pub on_walk : {R : Type 0} → (List Partition → R) → (Error → R) → Walk → R
on_walk f g (covered ps) = f ps
on_walk f g (broken e) = g e

on-first : {R : Type 0} (f h : List Partition → R) (g : Error → R) (p : Partition) → ((ps : List Partition) → f (p ∷ ps) ≡ h ps)
    → (w : Walk) → on_walk h g w ≡ on_walk f g (first p w)
on-first f h g p e (covered ps) = sym (e ps)
on-first f h g p e (broken x) = refl

-- a loop over the walk: f says what the turns so far make of the partitions that are left
module _ {R : Type 0} (image : List ℕ) (at : ℕ) (f : List Partition → R) (g : Error → R) (answer : R)
    (inv : on_walk f g (rest image at) ≡ answer)
  where
    pub loop-next : (s : Step) → step_at image at ≡ Ok (Some s) → (h : List Partition → R)
        → ((ps : List Partition) → f (s.here ∷ ps) ≡ h ps) → on_walk h g (rest image s.next.at) ≡ answer
    loop-next s e h same = on-first f h g s.here same (rest image s.next.at) ∙ ap (on_walk f g) (sym (rest-next image at s e)) ∙ inv

    pub loop-end : step_at image at ≡ Ok None → f [] ≡ answer
    loop-end e = ap (on_walk f g) (sym (rest_end image at e)) ∙ inv

    pub loop-broken : (x : Error) → step_at image at ≡ Err x → g x ≡ answer
    loop-broken x e = ap (on_walk f g) (sym (rest-broken image at x e)) ∙ inv
