-- A pair written piece by piece, and the tail of the pairs moved.
use Prim.Native.Nat.{ℕ, ◌+◌, ◌-◌, ◌≤◌, ◌<◌}
use mathlib.Core.Path.{◌≡◌, sym, ap, ◌∙◌}
use mathlib.Core.List.{List, [], ◌∷◌, ◌++◌, append_assoc}
use native.Mathlib.Omega.{arith}
use borrow.Rule.Slice.PartMut.{put_mid, mid_of}
use lib.ListN.{length, set, take, drop, replicate, length-append, length-drop, length-replicate}
use lib.Seq.{length-take-le}
use Rattle.lists.specs.Pasted.{pasted, written_in}
use Rattle.lists.specs.Helpers.{moved_bytes}
use Rattle.lists.proofs.PastedLaws.{length-pasted, pasted-more, pasted-last, set_after}
use Rattle.lists.proofs.MoveLaws.{moved_inside, part_filled}
use Rattle.values.proofs.WrittenLaws.{part-written}
use Rattle.pairs.specs.Area.{pair_of, pair_bytes}
use Rattle.pairs.proofs.ParseLaws.{length-pair}
use Rattle.edits.specs.Helpers.{tail_shifted}

-- a piece, and one byte right after it
module _ (d : List ℕ) (at : ℕ) (w : List ℕ) (room : at + length w + 1 ≤ length d) (d₁ : List ℕ) (e₁ : d₁ ≡ pasted d at w) where
  pub piece_byte : (b i : ℕ) → i ≡ at + length w → set d₁ i b ≡ pasted d at (w ++ b ∷ [])
  piece_byte b i e = ap (λ (l : List ℕ). set l i b) e₁ ∙ set_after d at w i b (sym e) (omega arith)

-- name and `=`, then value and 0x00
pub pair_put : (d : List ℕ) (at : ℕ) (name v : List ℕ) → at + length name + length v + 2 ≤ length d
    → (d₁ : List ℕ) → d₁ ≡ pasted d at (name ++ 0x3D ∷ []) → (d₂ : List ℕ) → d₂ ≡ pasted d₁ (at + length name + 1) (v ++ 0x00 ∷ [])
    → d₂ ≡ pasted d at (pair_bytes (pair_of name v))
unfolding pair_bytes
pair_put d at name v room d₁ e₁ d₂ e₂ =
    let n : length (name ++ 0x3D ∷ []) ≡ length name + 1 = length-append name (0x3D ∷ []) in
    let m : length (v ++ 0x00 ∷ []) ≡ length v + 1 = length-append v (0x00 ∷ []) in
    let p : at + length name + 1 ≡ at + length (name ++ 0x3D ∷ []) = omega arith in
    e₂ ∙ (λ i. pasted (e₁ i) (p i) (v ++ 0x00 ∷ []))
    ∙ pasted-more d at (name ++ 0x3D ∷ []) (omega arith) (v ++ 0x00 ∷ []) (omega arith)
    ∙ ap (pasted d at) (append_assoc name (0x3D ∷ []) (v ++ 0x00 ∷ []))

-- a pair written over a part that is just as long: the name, `=`, the value as it is written to a buffer, 0x00
module _ (d name v : List ℕ) (long : length d ≡ length name + length v + 2) where
  -- after the name
  named : (c : List ℕ) → c ≡ name → c ++ drop (length name) d ≡ pasted d 0 name
  unfolding pasted
  named c e = (λ i. e i ++ drop (length name) d) ∙ ap (λ (k : ℕ). name ++ drop k d) (omega arith)

  module _ (c : List ℕ) (ec : c ≡ name) where
    -- after the `=`
    abbrev with_equals : List ℕ
    with_equals = set (c ++ drop (length name) d) (length name) 0x3D

    pub equals-room : length name < length (c ++ drop (length name) d)
    equals-room = omega (arith, ap length (named c ec), length-pasted d 0 name (omega arith))

    pub equals_put : with_equals ≡ pasted d 0 (name ++ 0x3D ∷ [])
    equals_put = piece_byte d 0 name (omega arith) (c ++ drop (length name) d) (named c ec) 0x3D (length name) (omega arith)

    pub equals-long : length with_equals ≡ length d
    equals-long =
        let n : length (name ++ 0x3D ∷ []) ≡ length name + 1 = length-append name (0x3D ∷ []) in
        ap length equals_put ∙ length-pasted d 0 (name ++ 0x3D ∷ []) (omega arith)

    module _ (w : List ℕ) (ew : w ≡ written_in v (mid_of (length name + 1) (length d - 1 - (length name + 1)) with_equals)) where
      -- after the value
      abbrev with_value : List ℕ
      with_value = put_mid (length name + 1) (length d - 1 - (length name + 1)) with_equals w

      value_put : with_value ≡ pasted with_equals (length name + 1) v
      value_put =
          part-written with_equals (length name + 1) (length d - 1) v w (omega arith) (omega (arith, equals-long)) (omega arith) ew

      pub end-room : length d - 1 < length with_value
      end-room = omega (arith, ap length value_put, length-pasted with_equals (length name + 1) v (omega (arith, equals-long)), equals-long)

      pub pair-over : set with_value (length d - 1) 0x00 ≡ pair_bytes (pair_of name v)
      unfolding pasted
      pair-over =
          let e = piece_byte with_equals (length name + 1) v (omega (arith, equals-long)) with_value value_put 0x00 (length d - 1) (omega arith) in
          let n : length name + 1 ≡ 0 + length name + 1 = omega arith in
          pair_put d 0 name v (omega arith) with_equals equals_put (set with_value (length d - 1) 0x00)
          (e ∙ (λ i. pasted with_equals (n i) (v ++ 0x00 ∷ [])))
          ∙ pasted-last d 0 (pair_bytes (pair_of name v)) (omega (arith, length-pair (pair_of name v)))

-- the tail moved, and what follows it zeroed
module _ (d : List ℕ) (rest to used : ℕ) (h : rest ≤ used) (k : used ≤ length d) (l : to + (used - rest) ≤ length d) where
  tail-long : length (take (used - rest) (drop rest d)) ≡ used - rest
  tail-long = length-take-le (used - rest) (drop rest d) (omega (arith, length-drop rest d))

  moved-tail : moved_bytes d rest to (used - rest) ≡ pasted d to (take (used - rest) (drop rest d))
  moved-tail = sym (moved_inside d rest to (used - rest) (omega arith) (omega arith) (omega arith))

  moved-long : (d₁ : List ℕ) → d₁ ≡ moved_bytes d rest to (used - rest) → length d₁ ≡ length d
  moved-long d₁ e = ap length (e ∙ moved-tail) ∙ length-pasted d to (take (used - rest) (drop rest d)) (omega (arith, tail-long))

  pub tail-shifted : (d₁ : List ℕ) → d₁ ≡ moved_bytes d rest to (used - rest) → (last : List ℕ)
      → last ≡ replicate (length (mid_of (to + (used - rest)) (length d₁ - (to + (used - rest))) d₁)) 0x00
      → put_mid (to + (used - rest)) (length d₁ - (to + (used - rest))) d₁ last ≡ tail_shifted d rest to used
  unfolding tail_shifted
  tail-shifted d₁ e last q =
      let t : List ℕ = take (used - rest) (drop rest d) in
      let m : length d₁ ≡ length d = moved-long d₁ e in
      let lt : length t ≡ used - rest = tail-long in
      let z : List ℕ = replicate (length d - (to + (used - rest))) 0x00 in
      let lz : length z ≡ length d - (to + (used - rest)) = length-replicate (length d - (to + (used - rest))) 0x00 in
      let e₁ : d₁ ≡ pasted d to t = e ∙ moved-tail in
      let p : to + (used - rest) ≡ to + length t = omega arith in
      part_filled d₁ (to + (used - rest)) (length d₁) 0x00 last (omega arith) (omega arith) q
      ∙ (λ i. pasted (e₁ i) (p i) (replicate (m i - (to + (used - rest))) 0x00))
      ∙ pasted-more d to t (omega arith) z (omega arith)
      ∙ pasted-last d to (t ++ z) (omega (arith, length-append t z))
