-- The laws of a stored value made canonical in place.
use Prim.Native.Nat.{ℕ, ◌+◌, ◌-◌, ◌≤◌, ◌<◌}
use mathlib.Core.Path.{◌≡◌, refl, sym, ap, ◌∙◌}
use mathlib.Core.Bool.{true, false, ◌&&◌}
use mathlib.Core.List.{List, [], ◌∷◌, ◌++◌}
use native.Mathlib.Omega.{arith}
use lib.ListN.{length, take, drop, length-drop}
use lib.Dec.{leb}
use lib.Seq.{length-take-le}
use borrow.Author.Tests.{le-leb, leb-true}
use Rattle.lists.specs.Pasted.{pasted}
use Rattle.lists.specs.Helpers.{moved_bytes}
use Rattle.lists.proofs.MoveLaws.{moved_inside}
use Rattle.lists.specs.Bytes.{AllBytes}
use Rattle.lists.proofs.Tests.{split, clash, and-true}
use Rattle.lists.proofs.ByteLaws.{every_take, every_drop}
use Rattle.std.specs.Prelude.{Some, None}
use Rattle.values.specs.Value.{decode, spelled, mark, encode_from}
use Rattle.values.specs.Helpers.{part, recodable, recoded, recoded_of, recoded_in}
use Rattle.values.specs.Rules.{Spells}
use Rattle.values.proofs.DecodeLaws.{spells-exactly}
use Rattle.values.proofs.EncodeLaws.{encode-none, encode-plain, encode-more, encode-other, encode-cases, encode-shortest}
use Rattle.values.proofs.CanonicalLaws.{full-step}

-- bytes moved down
pub piece-moved : (d : List ℕ) (from to n : ℕ) → to ≤ from → from + n ≤ length d → moved_bytes d from to n ≡ pasted d to (take n (drop from d))
piece-moved d from to n h k = sym (moved_inside d from to n (omega arith) (omega arith) (omega arith))

-- ---- what a test has shown

pub record Recodable (area : List ℕ) (from to at : ℕ) : Type 0 where
  pub before : at ≤ from
  pub order : from ≤ to
  pub inside : to ≤ length area
  pub valid : spelled (part area from to) ≡ true

pub recodable-true : {area : List ℕ} {from to at : ℕ} → Recodable area from to at → recodable area from to at ≡ true
unfolding recodable
recodable-true {area} {from} {to} {at} r =
    rw (le-leb at from r.before, le-leb from to r.order, le-leb to (length area) r.inside, r.valid)

module _ (area : List ℕ) (from to at : ℕ) where
  pub recodable-told : recodable area from to at ≡ true → Recodable area from to at
  unfolding recodable
  recodable-told e =
      let g = and-true (leb at from && leb from to && leb to (length area)) (spelled (part area from to)) e in
      let h = and-true (leb at from && leb from to) (leb to (length area)) g.0 in
      let k = and-true (leb at from) (leb from to) h.0 in
      record { before = leb-true at from k.0; order = leb-true from to k.1; inside = leb-true to (length area) h.1; valid = g.1 }

  not-recodable : ¬ (Recodable area from to at) → recodable area from to at ≡ false
  not-recodable n = split (recodable area from to at) (λ t. absurd (n (recodable-told t))) (λ t. t)

  pub recoded-refused : ¬ (Recodable area from to at) → (None ≡ recoded_of area from to at) × (area ≡ recoded_in area from to at)
  unfolding recoded_of recoded_in
  recoded-refused n = (rw (not-recodable n), rw (not-recodable n))

  -- from the test of the part that was lent
  pub recoded-unspelled : spelled (take (to - from) (drop from area)) ≡ false → (None ≡ recoded_of area from to at) × (area ≡ recoded_in area from to at)
  unfolding part
  recoded-unspelled e = recoded-refused (λ r. clash (cc (r.valid, e)))

  pub recodable-now : at ≤ from → from ≤ to → to ≤ length area → spelled (take (to - from) (drop from area)) ≡ true → Recodable area from to at
  unfolding part
  recodable-now h k l e = record { before = h; order = k; inside = l; valid = e }

  pub recoded-taken : Recodable area from to at → {e : ℕ} {b : List ℕ} → e ≡ at + length (recoded area from to) → b ≡ pasted area at (recoded area from to)
      → (Some (e - at) ≡ recoded_of area from to at) × (b ≡ recoded_in area from to at)
  unfolding recoded_of recoded_in
  recoded-taken r {e} q f =
      let k : e - at ≡ length (recoded area from to) = omega arith in
      (rw (recodable-true r) (ap Some k), rw (recodable-true r) f)

-- an open run of more than 127 has a full escape
pub encode-full : (b k : ℕ) (t : List ℕ) → encode_from b (127 + k) t ≡ (255 ∷ (mark b + 127) ∷ []) ++ encode_from b k t
encode-full b k [] = encode-none b (127 + k) ∙ full-step b k ∙ ap (λ (w : List ℕ). 255 ∷ (mark b + 127) ∷ w) (sym (encode-none b k))
encode-full b k (x ∷ xs) =
    encode-cases (λ w. encode_from b (127 + k) (x ∷ xs) ≡ (255 ∷ (mark b + 127) ∷ []) ++ w) b k x xs
    (λ t u. let q : 127 + k + 1 ≡ 127 + (k + 1) = omega arith in
    encode-more b (127 + k) x xs t u ∙ ap (λ (m : ℕ). encode_from b m xs) q ∙ encode-full b (k + 1) xs)
    (λ t u. encode-other b (127 + k) x xs t u ∙ ap (λ (w : List ℕ). w ++ encode_from x 1 xs) (full-step b k))
    (λ t. encode-plain b (127 + k) x xs t ∙ ap (λ (w : List ℕ). w ++ x ∷ encode_from 0 0 xs) (full-step b k))

-- ---- what the canonical form of a stored value is

-- it takes no more room than the stored bytes
pub recoded-short : (area : List ℕ) (from to at : ℕ) → AllBytes area → Recodable area from to at → length (recoded area from to) ≤ to - from
unfolding recoded part
recoded-short area from to at h r =
    let s : List ℕ = take (to - from) (drop from area) in
    let b : AllBytes s = every_take (λ x. x < 256) (to - from) (drop from area) (every_drop (λ x. x < 256) from area h) in
    let k : Spells s (decode s) = (spells-exactly s (decode s) b).1 (r.valid, refl) in
    omega (arith, encode-shortest k, length-take-le (to - from) (drop from area) (omega (arith, length-drop from area, r.order, r.inside)))
