-- A pair replaced, added or taken out: the bytes before it, the new pair, the pairs after it, and 0x00 to the end.
use Prim.Native.Nat.{ℕ, ◌+◌, ◌-◌, ◌≤◌}
use mathlib.Core.Path.{◌≡◌, refl, sym, ap, ◌∙◌}
use mathlib.Core.List.{List, ◌++◌, append_assoc}
use native.Mathlib.Omega.{arith}
use lib.ListN.{length, take, drop, replicate, length-append}
use lib.Seq.{take_at, drop_at, take-append-le, take-take, length-take-le}
use Rattle.lists.specs.Pasted.{pasted}
use Rattle.pairs.specs.Area.{Pair, pairs_bytes}
use Rattle.variables.specs.Edits.{area_bytes}
use Rattle.edits.specs.Helpers.{tail_shifted}
use Rattle.pairs.proofs.ParseLaws.{pairs-append}
use Rattle.variables.proofs.EditLaws.{area-zeros}

-- b: the bytes before, o: the old pair, t: the pairs after it, z: the ending 0x00 and the padding; w: the new pair
module _ (b o t z : List ℕ) (d : List ℕ) (e : d ≡ b ++ (o ++ (t ++ z))) (w : List ℕ) (room : length b + length w + length t ≤ length d) where
  before : take (length b) d ≡ b
  before = ap (take (length b)) e ∙ take_at b (o ++ (t ++ z)) (length b) refl

  tail : take (length b + length o + length t - (length b + length o)) (drop (length b + length o) d) ≡ t
  tail =
      let n : length b + length o + length t - (length b + length o) ≡ length t = omega arith in
      ap (λ (l : List ℕ). take (length b + length o + length t - (length b + length o)) (drop (length b + length o) l)) (e ∙ sym (append_assoc b o (t ++ z)))
      ∙ ap (take (length b + length o + length t - (length b + length o))) (drop_at (b ++ o) (t ++ z) (length b + length o) (length-append b o))
      ∙ take_at t z (length b + length o + length t - (length b + length o)) (sym n)

  pub spliced : pasted (tail_shifted d (length b + length o) (length b + length w) (length b + length o + length t)) (length b) w
      ≡ b ++ (w ++ (t ++ replicate (length d - (length b + length w + length t)) 0x00))
  unfolding pasted tail_shifted
  spliced =
      let k : ℕ = length b + length w in
      let n : k + (length b + length o + length t - (length b + length o)) ≡ k + length t = omega arith in
      let y : List ℕ = t ++ replicate (length d - (k + length t)) 0x00 in
      let x : List ℕ = take k d ++ y in
      let s : take k d ++ (take (length b + length o + length t - (length b + length o)) (drop (length b + length o) d)
      ++ replicate (length d - (k + (length b + length o + length t - (length b + length o)))) 0x00) ≡ x =
      λ i. take k d ++ (tail i ++ replicate (length d - n i) 0x00) in
      let l : length (take k d) ≡ k = length-take-le k d (omega arith) in
      let p : take (length b) x ≡ b =
      take-append-le (length b) (take k d) y (omega arith) ∙ take-take (length b) k d (omega arith) ∙ before in
      let q : drop k x ≡ y = drop_at (take k d) y k l in
      ap (λ (u : List ℕ). take (length b) u ++ w ++ drop k u) s ∙ (λ i. p i ++ w ++ q i) ∙ append_assoc b w y

-- one pair for another, or none for it, among the pairs before and after
module _ (before : List Pair) (old : List ℕ) (after : List Pair) (z d : List ℕ) (e : d ≡ pairs_bytes before ++ (old ++ (pairs_bytes after ++ z)))
    (new : List Pair) (room : length (pairs_bytes (before ++ (new ++ after))) + 1 ≤ length d) where
  whole : pairs_bytes (before ++ (new ++ after)) ≡ pairs_bytes before ++ (pairs_bytes new ++ pairs_bytes after)
  whole = pairs-append before (new ++ after) ∙ ap (λ (l : List ℕ). pairs_bytes before ++ l) (pairs-append new after)

  long : length (pairs_bytes (before ++ (new ++ after))) ≡ length (pairs_bytes before) + length (pairs_bytes new) + length (pairs_bytes after)
  long =
      omega
      (arith, ap length whole, length-append (pairs_bytes before) (pairs_bytes new ++ pairs_bytes after), length-append (pairs_bytes new) (pairs_bytes after))

  pub pairs-spliced : pasted (tail_shifted d (length (pairs_bytes before) + length old) (length (pairs_bytes before) + length (pairs_bytes new))
      (length (pairs_bytes before) + length old + length (pairs_bytes after))) (length (pairs_bytes before)) (pairs_bytes new)
      ≡ area_bytes (length d) (before ++ (new ++ after))
  pairs-spliced =
      spliced (pairs_bytes before) old (pairs_bytes after) z d e (pairs_bytes new) (omega (arith, long))
      ∙ ap (λ (l : List ℕ). pairs_bytes before ++ l) (sym (append_assoc (pairs_bytes new) (pairs_bytes after) _))
      ∙ sym (append_assoc (pairs_bytes before) (pairs_bytes new ++ pairs_bytes after) _)
      ∙ (λ i. sym whole i ++ replicate (length d - sym long i) 0x00)
      ∙ area-zeros (length d) (before ++ (new ++ after)) room
