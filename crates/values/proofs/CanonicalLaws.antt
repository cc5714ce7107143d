-- `encode` gives the canonical form of the paper, and nothing else is canonical.
use Prim.Native.Nat.{ℕ, zero, suc, ◌+◌, ◌*◌, ◌/◌, ◌%◌, ◌<◌}
use mathlib.Core.Path.{◌≡◌, refl, sym, ap, ◌∙◌}
use mathlib.Core.Bool.{true, false}
use mathlib.Core.List.{List, [], ◌∷◌, ◌++◌, append-nil}
use mathlib.Core.Logic.{◌≢◌, ◌⊎◌, inl, inr, ◌↔◌}
use native.Mathlib.Omega.{arith}
use lib.ListN.{length, replicate}
use lib.Dec.{eqb}
use borrow.Author.Tests.{eqb-true, eqb-false, ne_eqb}
use Rattle.lists.specs.Bytes.{Every, AllBytes}
use Rattle.lists.proofs.Tests.{split, clash}
use Rattle.values.specs.Value.{mark, full_escapes, rest_escape, run_bytes, escaped, encode_from, encode}
use Rattle.values.specs.Rules.{Escapes, full, rest, none, Begins, Canonical, nothing, itself, zeros, ones}
use Rattle.lists.proofs.ListLaws.{replicate-snoc}
use Rattle.values.proofs.EncodeLaws.{escaped-cases, escaped-zero, escaped-ff, rest-none, rest_some, encode-none, encode-more, encode-other, encode-plain, encode-cases, encode_same, encode-run}

-- ---- a run

pub full-step : (b n : ℕ) → run_bytes b (127 + n) ≡ 255 ∷ (mark b + 127) ∷ run_bytes b n
unfolding run_bytes full_escapes
full-step b n =
    let q : (127 + n) / 127 ≡ suc (n / 127) = omega arith in
    let r : (127 + n) % 127 ≡ n % 127 = omega arith in
    rw (q, r)

run_short : (b n : ℕ) → n < 127 → run_bytes b n ≡ rest_escape b n
unfolding run_bytes full_escapes
run_short b n h =
    let q : n / 127 ≡ 0 = omega arith in
    let r : n % 127 ≡ n = omega arith in
    rw (q, r)

escapes-run : (b : ℕ) {n : ℕ} {x : List ℕ} → Escapes (mark b) n x → run_bytes b n ≡ x
escapes-run b none = run_short b 0 (omega arith) ∙ rest-none b 0 refl
escapes-run b (rest {n = n} lo hi) = run_short b n hi ∙ rest_some b n (omega arith)
escapes-run b (full {n = n} e) = full-step b n ∙ ap (λ (w : List ℕ). 255 ∷ (mark b + 127) ∷ w) (escapes-run b e)

escapes-from : (b k r : ℕ) → r < 127 → Escapes (mark b) (k * 127 + r) (full_escapes b k ++ rest_escape b r)
unfolding full_escapes
escapes-from b zero r h =
    let q : 0 * 127 + r ≡ r = omega arith in
    rw q (split (eqb r 0)
    (λ t. let z = eqb-true r 0 t in rw (rest-none b r z, z) none)
    (λ t. let z = eqb-false r 0 t in rw (rest_some b r z) (rest {n = r} (omega arith) h)))
escapes-from b (suc k) r h =
    let q : suc k * 127 + r ≡ 127 + (k * 127 + r) = omega arith in
    rw q (full (escapes-from b k r h))

run-escapes : (b n : ℕ) → Escapes (mark b) n (run_bytes b n)
unfolding run_bytes
run-escapes b n = let q : n / 127 * 127 + n % 127 ≡ n = omega arith in rw q at (escapes-from b (n / 127) (n % 127) (omega arith))

-- ---- a value

-- an open run ends where another byte comes
pub encode-stop : (b n : ℕ) (v : List ℕ) → ¬ (Begins b v) → encode_from b n v ≡ run_bytes b n ++ encode_from 0 0 v
encode-stop b n [] q =
    encode-none b n ∙ sym (append-nil (run_bytes b n))
    ∙ ap (λ (w : List ℕ). run_bytes b n ++ w) (sym (encode-none 0 0 ∙ run_short 0 0 (omega arith) ∙ rest-none 0 0 refl))
encode-stop b n (x ∷ xs) q =
    split (escaped x)
    (λ t. encode-other b n x xs t q ∙ ap (λ (w : List ℕ). run_bytes b n ++ w) (sym (first x t (escaped-cases x t))))
    (λ t. encode-plain b n x xs t ∙ ap (λ (w : List ℕ). run_bytes b n ++ w) (sym (encode-plain 0 0 x xs t ∙ none_open (x ∷ encode_from 0 0 xs))))
  where
    none_open : (w : List ℕ) → run_bytes 0 0 ++ w ≡ w
    none_open w = ap (λ (r : List ℕ). r ++ w) (run_short 0 0 (omega arith) ∙ rest-none 0 0 refl)

    first : (x : ℕ) → escaped x ≡ true → (x ≡ 0) ⊎ (x ≡ 255) → encode_from 0 0 (x ∷ xs) ≡ encode_from x 1 xs
    first x t (inl e) = encode-more 0 0 x xs t e ∙ ap (λ (y : ℕ). encode_from y 1 xs) (sym e)
    first x t (inr e) = encode-other 0 0 x xs t (omega arith) ∙ none_open (encode_from x 1 xs)

-- a longest run at the start
pub encode-longest : (b n : ℕ) (v : List ℕ) → escaped b ≡ true → n ≢ 0 → ¬ (Begins b v) → encode (replicate n b ++ v) ≡ run_bytes b n ++ encode v
unfolding encode
encode-longest b n v t z q = first (escaped-cases b t) ∙ encode-stop b n v q
  where
    first : (b ≡ 0) ⊎ (b ≡ 255) → encode_from 0 0 (replicate n b ++ v) ≡ encode_from b n v
    first (inl e) =
        let k : 0 + n ≡ n = omega arith in
        ap (λ (y : ℕ). encode_from 0 0 (replicate n y ++ v)) e ∙ encode_same 0 0 n v refl ∙ ap (λ (m : ℕ). encode_from 0 m v) k
        ∙ ap (λ (y : ℕ). encode_from y n v) (sym e)
    first (inr e) = encode-run 0 0 b n v t (omega arith) z ∙ ap (λ (r : List ℕ). r ++ encode_from b n v) (run_short 0 0 (omega arith) ∙ rest-none 0 0 refl)

-- a byte that stands for itself
pub encode-itself : (x : ℕ) (v : List ℕ) → escaped x ≡ false → encode (x ∷ v) ≡ x ∷ encode v
unfolding encode
encode-itself x v t = encode-plain 0 0 x v t ∙ ap (λ (r : List ℕ). r ++ x ∷ encode_from 0 0 v) (run_short 0 0 (omega arith) ∙ rest-none 0 0 refl)

-- a piece without 0x00 and 0xFF
pub encode-piece : (p v : List ℕ) → Every (λ x. escaped x ≡ false) p → encode (p ++ v) ≡ p ++ encode v
encode-piece [] v h = refl
encode-piece (x ∷ p) v h = encode-itself x (p ++ v) h.0 ∙ ap (λ (w : List ℕ). x ∷ w) (encode-piece p v h.1)

-- and after an open run
pub encode-after : (b n : ℕ) (p v : List ℕ) → Every (λ x. escaped x ≡ false) p → 0 < length p
    → encode_from b n (p ++ v) ≡ run_bytes b n ++ (p ++ encode_from 0 0 v)
unfolding encode
encode-after b n [] v h k = absurd (omega arith)
encode-after b n (x ∷ p) v h k = encode-plain b n x (p ++ v) h.0 ∙ ap (λ (w : List ℕ). run_bytes b n ++ x ∷ w) (encode-piece p v h.1)

pub encode-empty : encode [] ≡ []
unfolding encode
encode-empty = encode-none 0 0 ∙ run_short 0 0 (omega arith) ∙ rest-none 0 0 refl

zeros-run : {n : ℕ} {x : List ℕ} → Escapes 0 n x → run_bytes 0 n ≡ x
unfolding mark
zeros-run e = escapes-run 0 e

ones-run : {n : ℕ} {x : List ℕ} → Escapes 128 n x → run_bytes 255 n ≡ x
unfolding mark
ones-run e = escapes-run 255 e

pub canonical-encode : {v w : List ℕ} → Canonical v w → encode v ≡ w
canonical-encode nothing = encode-empty
canonical-encode (itself {b = b} {v = v} lo hi r) =
    encode-itself b v (cc (ne_eqb b 0 (omega arith), ne_eqb b 255 (omega arith))) ∙ ap (λ (w : List ℕ). b ∷ w) (canonical-encode r)
canonical-encode (zeros {n = n} {v = v} l q e r) = cc (encode-longest 0 n v refl (omega arith) q, zeros-run e, canonical-encode r)
canonical-encode (ones {n = n} {v = v} l q e r) = cc (encode-longest 255 n v refl (omega arith) q, ones-run e, canonical-encode r)

-- a run put before
put-run : (b n : ℕ) (v w : List ℕ) → (b ≡ 0) ⊎ (b ≡ 255) → ¬ (Begins b v) → Canonical v w → Canonical (replicate n b ++ v) (run_bytes b n ++ w)
unfolding mark
put-run b zero v w e q r = rw (run_short b 0 (omega arith) ∙ rest-none b 0 refl) r
put-run b (suc n) v w (inl z) q r = rw z (zeros {n = suc n} (omega arith) (rw z at q) (run-escapes 0 (suc n)) r)
put-run b (suc n) v w (inr z) q r = rw z (ones {n = suc n} (omega arith) (rw z at q) (run-escapes 255 (suc n)) r)

canonical-from : (b n : ℕ) (xs : List ℕ) → escaped b ≡ true → AllBytes xs → Canonical (replicate n b ++ xs) (encode_from b n xs)
canonical-from b n [] e h = rw (encode-none b n) (rw (append-nil (run_bytes b n)) at (put-run b n [] [] (escaped-cases b e) (λ k. k) nothing))
canonical-from b n (x ∷ xs) e h =
    encode-cases (Canonical (replicate n b ++ x ∷ xs)) b n x xs
    (λ t z. let k : replicate (n + 1) b ++ xs ≡ replicate n b ++ x ∷ xs = replicate-snoc n b xs ∙ ap (λ (y : ℕ). replicate n b ++ y ∷ xs) (sym z) in
    rw k at (canonical-from b (n + 1) xs e h.1))
    (λ t z. put-run b n (x ∷ xs) (encode_from x 1 xs) (escaped-cases b e) z (canonical-from x 1 xs t h.1))
    (λ t. let lo = escaped-zero x t in
    let hi = escaped-ff x t in
    let q : x ≢ b = λ z. clash (cc) in
    put-run b n (x ∷ xs) (x ∷ encode_from 0 0 xs) (escaped-cases b e) q
    (itself (omega arith) (omega (arith, h.0)) (canonical-from 0 0 xs refl h.1)))

-- THE CANONICAL FORM exactly
pub canonical-exactly : (v w : List ℕ) → AllBytes v → Canonical v w ↔ (encode v ≡ w)
unfolding encode
canonical-exactly v w h = (canonical-encode, λ e. rw e at (canonical-from 0 0 v refl h))
