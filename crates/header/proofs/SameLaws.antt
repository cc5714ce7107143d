-- Two images with the same bytes at an offset have the same header there, and the same rule is broken.
use Prim.Native.Nat.{ℕ, ◌+◌, ◌-◌, ◌*◌, ◌≤◌, ◌<◌}
use mathlib.Core.Path.{◌≡◌, sym, ap, ◌∙◌}
use mathlib.Core.List.{List, [], ◌∷◌}
use native.Mathlib.Omega.{arith}
use lib.ListN.{length, get_or, take, drop}
use lib.Seq.{get_or-take, get_or-drop}
use Rattle.header.specs.declared.Header.{Header}
use Rattle.header.specs.Header.{byte_at, name_at, header_at, validity_of, validity_at}
use Rattle.header.specs.Rules.{blocks_at}
use Rattle.header.proofs.RuleLaws.{blocks-read}

-- the header at an offset is sixteen bytes
pub header-alike : (I J : List ℕ) (a b : ℕ) → ((k : ℕ) → k < 16 → byte_at I a k ≡ byte_at J b k) → header_at I a ≡ header_at J b
unfolding header_at name_at
header-alike I J a b h = λ i. record {
  signature = h 0 (omega arith) i;
  checksum = h 1 (omega arith) i;
  length = record { 0 = h 2 (omega arith) i * 256 + h 3 (omega arith) i };
  name =
      h 4 (omega arith) i ∷ h 5 (omega arith) i ∷ h 6 (omega arith) i ∷ h 7 (omega arith) i ∷ h 8 (omega arith) i ∷ h 9 (omega arith) i
      ∷ h 10 (omega arith) i ∷ h 11 (omega arith) i ∷ h 12 (omega arith) i ∷ h 13 (omega arith) i
      ∷ h 14 (omega arith) i ∷ h 15 (omega arith) i ∷ [];
}

module _ (I J : List ℕ) where
  -- images that agree before an offset, and images that agree from an offset on
  pub header-before : (n b : ℕ) → take n J ≡ take n I → b + 16 ≤ n → header_at I b ≡ header_at J b
  header-before n b e h = header-alike I J b b (λ k l.
      let i : b + k < n = omega arith in
      sym (get_or-take n I (b + k) 0 i) ∙ ap (λ (x : List ℕ). get_or x (b + k) 0) (sym e) ∙ get_or-take n J (b + k) 0 i)

  pub header-after : (n b : ℕ) → drop n J ≡ drop n I → n ≤ b → header_at I b ≡ header_at J b
  header-after n b e h = header-alike I J b b (λ k l.
      let q : n + (b + k - n) ≡ b + k = omega arith in
      ap (λ (m : ℕ). get_or I m 0) (sym q) ∙ sym (get_or-drop n I (b + k - n) 0) ∙ ap (λ (x : List ℕ). get_or x (b + k - n) 0) (sym e)
      ∙ get_or-drop n J (b + k - n) 0 ∙ ap (λ (m : ℕ). get_or J m 0) q)

  pub blocks-same : (a : ℕ) → header_at I a ≡ header_at J a → blocks_at J a ≡ blocks_at I a
  blocks-same a h = sym (blocks-read J a) ∙ ap (λ (x : Header). x.length.0) (sym h) ∙ blocks-read I a

  pub validity-same : length I ≡ length J → (a : ℕ) → header_at I a ≡ header_at J a → validity_at I a ≡ validity_at J a
  unfolding validity_at
  validity-same l a h = λ i. validity_of (h i) a (l i - a)

-- a whole header is read from its sixteen bytes
pub header-whole : (image : List ℕ) (at : ℕ) → header_at (take 16 (drop at image)) 0 ≡ header_at image at
header-whole image at = header-alike (take 16 (drop at image)) image 0 at (λ k h.
    ap (λ (n : ℕ). get_or (take 16 (drop at image)) n 0) (omega arith) ∙ get_or-take 16 (drop at image) k 0 h ∙ get_or-drop at image k 0)
