-- The laws of `written_of` and `written_in`: bytes that fit, and bytes that do not.
use Prim.Native.Nat.{ℕ, ◌+◌, ◌-◌, ◌≤◌, ◌<◌}
use mathlib.Core.Path.{◌≡◌, sym, ap, ◌∙◌}
use mathlib.Core.List.{List}
use native.Mathlib.Omega.{arith}
use lib.ListN.{length, take}
use lib.Dec.{leb}
use borrow.Author.Tests.{le-leb, lt-leb, leb-true, leb-false}
use borrow.Rule.Slice.PartMut.{put_mid, mid_of, mid_len}
use lib.Seq.{take_all}
use Rattle.lists.specs.Pasted.{pasted, written_in}
use Rattle.lists.proofs.PastedLaws.{part-copied}
use Rattle.lists.proofs.Tests.{split, clash}
use Rattle.std.specs.Prelude.{Some, None}
use Rattle.values.specs.Value.{written_of}

module _ (l : List ℕ) (room : ℕ) where
  pub written-fits : length l ≤ room → written_of l room ≡ Some (length l)
  unfolding written_of
  written-fits h = rw (le-leb (length l) room h)

  pub written-not : room < length l → written_of l room ≡ None
  unfolding written_of
  written-not h = rw (lt-leb (length l) room h)

  -- what the answers tell
  pub length-told : (n : ℕ) → written_of l room ≡ Some n → (n ≡ length l) × (n ≤ room)
  length-told n e =
      split (leb (length l) room)
      (λ t. let h = leb-true (length l) room t in
      let q : Some (length l) ≡ Some n = sym (written-fits h) ∙ e in
      let k : length l ≡ n = cc in
      (sym k, omega arith))
      (λ t. let q : None ≡ Some n = sym (written-not (leb-false (length l) room t)) ∙ e in clash (cc))

  pub fits_told : (n : ℕ) → written_of l room ≡ Some n → length l ≤ room
  fits_told n e = let t = length-told n e in omega arith

  pub none-told : written_of l room ≡ None → room < length l
  none-told e =
      split (leb (length l) room)
      (λ t. let q : Some (length l) ≡ None = sym (written-fits (leb-true (length l) room t)) ∙ e in clash (cc))
      (λ t. leb-false (length l) room t)

module _ (l buffer : List ℕ) where
  pub pasted-in : length l ≤ length buffer → written_in l buffer ≡ pasted buffer 0 l
  unfolding written_in
  pasted-in h = rw (le-leb (length l) (length buffer) h)

  pub kept_in : length buffer < length l → written_in l buffer ≡ buffer
  unfolding written_in
  kept_in h = rw (lt-leb (length l) (length buffer) h)

-- the same of a count
pub count_fits : (l : List ℕ) (room n : ℕ) → n ≡ length l → n ≤ room → Some n ≡ written_of l room
count_fits l room n e h = ap Some e ∙ sym (written-fits l room (omega arith))

-- a lent part `&mut d[a..e]` of the bytes' own length, to which they were written
pub part-written : (d : List ℕ) (a e : ℕ) (w last : List ℕ) → a ≤ e → e ≤ length d → length w ≡ e - a
    → last ≡ written_in w (mid_of a (e - a) d) → put_mid a (e - a) d last ≡ pasted d a w
part-written d a e w last h k n q =
    let m : length (mid_of a (e - a) d) ≡ e - a = mid_len a e d k in
    part-copied d a e w last h k (omega arith)
    (q ∙ pasted-in w (mid_of a (e - a) d) (omega arith)
    ∙ ap (pasted (mid_of a (e - a) d) 0) (sym (take_all (length (mid_of a (e - a) d)) w (omega arith))))

-- a lent part `&mut d[a..]`, to which bytes were copied
pub tail-copied : (d : List ℕ) (a : ℕ) (w last : List ℕ) → a + length w ≤ length d
    → last ≡ pasted (mid_of a (length d - a) d) 0 (take (length (mid_of a (length d - a) d)) w) → put_mid a (length d - a) d last ≡ pasted d a w
tail-copied d a w last h q = part-copied d a (length d) w last (omega arith) (omega arith) (omega arith) q

-- a lent part `&mut d[a..]`, at whose start bytes were written
pub tail-put : (d : List ℕ) (a : ℕ) (w last : List ℕ) → a + length w ≤ length d → last ≡ pasted (mid_of a (length d - a) d) 0 w
    → put_mid a (length d - a) d last ≡ pasted d a w
tail-put d a w last h q =
    let m : length (mid_of a (length d - a) d) ≡ length d - a = mid_len a (length d) d (omega arith) in
    tail-copied d a w last h
    (q ∙ ap (pasted (mid_of a (length d - a) d) 0) (sym (take_all (length (mid_of a (length d - a) d)) w (omega arith))))
