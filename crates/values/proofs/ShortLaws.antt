-- The canonical form never takes more room than the bytes that stood for the value.
use Prim.Native.Nat.{ℕ, ◌+◌, ◌%◌, ◌≤◌}
use mathlib.Core.Path.{◌≡◌, refl, ap, ◌∙◌}
use mathlib.Core.Logic.{◌≢◌}
use mathlib.Core.Bool.{true, false}
use mathlib.Core.List.{List, [], ◌∷◌, ◌++◌}
use native.Mathlib.Omega.{arith}
use lib.ListN.{length, length-append}
use lib.Dec.{eqb}
use borrow.Author.Tests.{eqb-true, eqb-false, ne_eqb}
use Rattle.lists.proofs.Tests.{split}
use Rattle.values.specs.Value.{run, run_byte, decode, spelled, run_bytes, escaped, encode_from, encode}
use Rattle.values.proofs.DecodeLaws.{length_run, decode-none, decode-plain, decode-escape, plain-spelled, escape-spelled, cut-spelled}
use Rattle.values.proofs.EncodeLaws.{cost, length-run-bytes, encode-none, encode-plain, run-same, run-other}

nothing_run : (c : ℕ) (l : List ℕ) → c % 128 ≡ 0 → run c ++ l ≡ l
nothing_run c l z = empty (run c) (length_run c ∙ z)
  where
    empty : (r : List ℕ) → length r ≡ 0 → r ++ l ≡ l
    empty [] e = refl
    empty (x ∷ r) e = absurd (omega arith)

-- an escape's run takes at most two bytes more
run_short : (b n c k : ℕ) (l : List ℕ) → ((b n : ℕ) → length (encode_from b n l) ≤ cost n + k) → length (encode_from b n (run c ++ l)) ≤ cost n + (k + 2)
run_short b n c k l ih =
    split (eqb (run_byte c) b)
    (λ t. omega (arith, ap length (run-same b n c l (eqb-true (run_byte c) b t)), ih b (n + c % 128)))
    (λ t. split (eqb (c % 128) 0)
    (λ z. omega (arith, ap (λ (w : List ℕ). length (encode_from b n w)) (nothing_run c l (eqb-true (c % 128) 0 z)), ih b n))
    (λ z. omega (
      arith,
      ap length (run-other b n c l (eqb-false (run_byte c) b t) (eqb-false (c % 128) 0 z)),
      length-append (run_bytes b n) (encode_from (run_byte c) (c % 128) l),
      length-run-bytes b n,
      ih (run_byte c) (c % 128),
    )))

-- stored bytes that never take more room
abbrev Short : List ℕ → Type 0
Short s = (b n : ℕ) → length (encode_from b n (decode s)) ≤ cost n + length s

plain-short : (x : ℕ) (s : List ℕ) → x ≢ 0xFF → spelled (x ∷ s) ≡ true → (spelled s ≡ true → Short s) → Short (x ∷ s)
plain-short x s h v ih b n =
    let k = plain-spelled x s h v in
    let e : escaped x ≡ false = cc (ne_eqb x 0 k.some, ne_eqb x 255 h) in
    omega (
      arith,
      ap (λ (w : List ℕ). length (encode_from b n w)) (decode-plain x s h),
      ap length (encode-plain b n x (decode s) e),
      length-append (run_bytes b n) (x ∷ encode_from 0 0 (decode s)),
      length-run-bytes b n,
      ih k.left 0 0,
    )

escape-short : (x c : ℕ) (s : List ℕ) → x ≡ 0xFF → spelled (x ∷ c ∷ s) ≡ true → (spelled s ≡ true → Short s) → Short (x ∷ c ∷ s)
escape-short x c s e v ih b n =
    let k = escape-spelled c s (rw e at v) in
    omega (
      arith,
      ap (λ (y : ℕ). length (encode_from b n (decode (y ∷ c ∷ s)))) e,
      ap (λ (w : List ℕ). length (encode_from b n w)) (decode-escape c s),
      run_short b n c (length s) (decode s) (ih k.left),
    )

short : (s : List ℕ) → spelled s ≡ true → Short s
short [] v = λ b n.
    omega (arith, ap (λ (w : List ℕ). length (encode_from b n w)) decode-none, ap length (encode-none b n), length-run-bytes b n)
short (x ∷ []) v =
    split (eqb x 0xFF) (λ t. absurd (cut-spelled (rw (eqb-true x 0xFF t) at v))) (λ t. plain-short x [] (eqb-false x 0xFF t) v (short []))
short (x ∷ c ∷ s) v =
    split (eqb x 0xFF) (λ t. escape-short x c s (eqb-true x 0xFF t) v (short s)) (λ t. plain-short x (c ∷ s) (eqb-false x 0xFF t) v (short (c ∷ s)))

pub recode-short : (s : List ℕ) → spelled s ≡ true → length (encode (decode s)) ≤ length s
unfolding encode
recode-short s v = omega (arith, short s v 0 0)
