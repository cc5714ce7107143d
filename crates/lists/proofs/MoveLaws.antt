-- What a move leaves, and what filling a lent part does.
use mathlib.Core.Path.{◌≡◌, sym, ap, ◌∙◌}
use mathlib.Core.List.{List, ◌++◌, append_assoc}
use Prim.Native.Nat.{ℕ, ◌+◌, ◌-◌, ◌<◌, ◌≤◌}
use native.Mathlib.Omega.{arith}
use borrow.Author.Tests.{le-leb, lt-leb}
use lib.ListN.{length, take, drop, replicate, length-drop, length-replicate, take-append-drop}
use lib.Seq.{length-take-le, drop-drop}
use borrow.Rule.Slice.PartMut.{put_mid, mid_of, mid_len}
use Rattle.std.specs.List.{copy_within}
use Rattle.lists.specs.Pasted.{pasted}
use Rattle.lists.specs.Helpers.{moved_bytes}
use Rattle.lists.proofs.PastedLaws.{part-pasted}

-- a lent part `&mut d[a..e]` that was filled
pub part_filled : (d : List ℕ) (a e b : ℕ) (last : List ℕ) → a ≤ e → e ≤ length d → last ≡ replicate (length (mid_of a (e - a) d)) b
    → put_mid a (e - a) d last ≡ pasted d a (replicate (e - a) b)
part_filled d a e b last h k q =
    let f : last ≡ replicate (e - a) b = q ∙ ap (λ (n : ℕ). replicate n b) (mid_len a e d k) in
    part-pasted d a e last h k (ap length f ∙ length-replicate (e - a) b) ∙ ap (pasted d a) f

module _ (d : List ℕ) (from to n : ℕ) where
  pub moved-long : length d < n → d ≡ moved_bytes d from to n
  unfolding moved_bytes
  moved-long h = rw (lt-leb n (length d) h)

  pub moved-from : n ≤ length d → length d - n < from → d ≡ moved_bytes d from to n
  unfolding moved_bytes
  moved-from h k = rw (le-leb n (length d) h, lt-leb from (length d - n) k)

  pub moved_to : n ≤ length d → from ≤ length d - n → length d - n < to → d ≡ moved_bytes d from to n
  unfolding moved_bytes
  moved_to h k l = rw (le-leb n (length d) h, le-leb from (length d - n) k, lt-leb to (length d - n) l)

  pub moved_inside : n ≤ length d → from ≤ length d - n → to ≤ length d - n → pasted d to (take n (drop from d)) ≡ moved_bytes d from to n
  unfolding moved_bytes
  moved_inside h k l = rw (le-leb n (length d) h, le-leb from (length d - n) k, le-leb to (length d - n) l)

  pub moved_pasted : n ≤ length d → from ≤ length d - n → to ≤ length d - n → copy_within d from (from + n) to ≡ moved_bytes d from to n
  unfolding pasted
  moved_pasted h k l =
      let m : from + n - from ≡ n = omega arith in
      let w : length (take n (drop from d)) ≡ n = length-take-le n (drop from d) (omega (arith, length-drop from d)) in
      ap (λ (j : ℕ). take to d ++ take j (drop from d) ++ drop (to + j) d) m
      ∙ ap (λ (j : ℕ). take to d ++ take n (drop from d) ++ drop (to + j) d) (sym w) ∙ moved_inside h k l

  -- bytes that stay where they are
  pub moved_same : n ≤ length d → from ≤ length d - n → to ≤ length d - n → from ≡ to → d ≡ moved_bytes d from to n
  unfolding pasted
  moved_same h k l e =
      let w = take n (drop from d) in
      let m : length w ≡ n = length-take-le n (drop from d) (omega (arith, length-drop from d)) in
      sym (ap (λ (j : ℕ). take to d ++ w ++ drop (to + j) d) m ∙ append_assoc (take to d) w (drop (to + n) d)
      ∙ ap (λ (r : List ℕ). take to d ++ r)
      (ap (λ (r : List ℕ). w ++ r) (sym (drop-drop n to d)) ∙ ap (λ (j : ℕ). take n (drop j d) ++ drop n (drop to d)) e ∙ take-append-drop n (drop to d))
      ∙ take-append-drop to d)
      ∙ moved_inside h k l
