-- Laws of the plain sum, and of the 16 bytes of a whole header.
use Prim.Native.Nat.{ℕ, zero, suc, ◌+◌, ◌-◌, ◌≤◌}
use mathlib.Core.Path.{◌≡◌, ap, refl, sym, ◌∙◌}
use mathlib.Core.List.{List, [], ◌∷◌}
use native.Mathlib.Omega.{arith}
use lib.ListN.{length, take, drop}
use lib.Seq.{drop-cons, take_all}
use Rattle.std.specs.Prelude.{sum as total}
use Rattle.std.proofs.lemmas.List.Recursion.{is_sum_by}
use Rattle.header.specs.Checksum.{sum}
use Rattle.header.specs.Header.{byte_at, name_at}

-- the library's sum is the plain sum
pub sum-plain : (bs : List ℕ) → total bs ≡ sum bs
unfolding sum
sum-plain bs = sym (is_sum_by sum (λ b. b) refl (λ b l. refl) bs)

-- the n bytes from k places after an offset
abbrev bytes_from : List ℕ → ℕ → ℕ → ℕ → List ℕ
bytes_from image at k zero = []
bytes_from image at k (suc n) = byte_at image at k ∷ bytes_from image at (suc k) n

part_bytes : (image : List ℕ) (at k n : ℕ) → at + k + n ≤ length image → take n (drop (at + k) image) ≡ bytes_from image at k n
part_bytes image at k zero h = refl
part_bytes image at k (suc n) h =
    let e : suc (at + k) ≡ at + suc k = omega arith in
    ap (take (suc n)) (drop-cons image (at + k) 0 (omega arith))
    ∙ ap (λ (l : List ℕ). byte_at image at k ∷ l) (ap (λ (m : ℕ). take n (drop m image)) e ∙ part_bytes image at (suc k) n (omega arith))

-- A WHOLE HEADER is its 16 bytes in their order: signature, checksum, the length's two bytes, name
pub header-bytes : (image : List ℕ) (at : ℕ) → at + 16 ≤ length image
    → take 16 (drop at image) ≡ byte_at image at 0 ∷ byte_at image at 1 ∷ byte_at image at 2 ∷ byte_at image at 3 ∷ name_at image at
unfolding name_at
header-bytes image at h =
    let e : at ≡ at + 0 = omega arith in
    ap (λ (n : ℕ). take 16 (drop n image)) e ∙ part_bytes image at 0 16 (omega arith)

-- their plain sum, of 16 bytes that stand alone
pub header-sum : (bytes : List ℕ) → length bytes ≡ 16
    → sum bytes ≡ byte_at bytes 0 0 + (byte_at bytes 0 1 + (byte_at bytes 0 2 + (byte_at bytes 0 3 + sum (name_at bytes 0))))
unfolding sum
header-sum bytes n = ap sum (sym (take_all 16 bytes (omega arith)) ∙ header-bytes bytes 0 (omega arith))

-- the name in 16 bytes that stand alone is the last twelve
pub name-last : (bytes : List ℕ) → length bytes ≡ 16 → drop (length bytes - 12) bytes ≡ name_at bytes 0
name-last bytes n =
    let e : length bytes - 12 ≡ 4 = omega arith in
    ap (λ (k : ℕ). drop k bytes) e ∙ ap (drop 4) (sym (take_all 16 bytes (omega arith)) ∙ header-bytes bytes 0 (omega arith))

-- the twelve bytes of the name in a whole header, where they stand in the image
pub name-part : (image : List ℕ) (at : ℕ) → at + 16 ≤ length image → take (at + 16 - (at + 4)) (drop (at + 4) image) ≡ name_at image at
unfolding name_at
name-part image at h =
    let n : at + 16 - (at + 4) ≡ 12 = omega arith in
    (λ i. take (n i) (drop (at + 4) image)) ∙ part_bytes image at 4 12 (omega arith)
