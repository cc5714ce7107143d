-- The laws of `encode`: it is read back, it is short, and it is spelled.
use Prim.Native.Nat.{ℕ, zero, suc, ◌+◌, ◌*◌, ◌/◌, ◌%◌, ◌≤◌, ◌<◌}
use mathlib.Core.Path.{◌≡◌, refl, sym, ap, ◌∙◌}
use mathlib.Core.Bool.{true, false}
use mathlib.Core.List.{List, [], ◌∷◌, ◌++◌, append_assoc, append-nil}
use mathlib.Core.Logic.{◌≢◌, ◌⊎◌, inl, inr}
use native.Mathlib.Omega.{arith}
use native.Mathlib.Nat.{add-zero}
use lib.ListN.{length, replicate, length-append}
use lib.Dec.{eqb, ltb}
use borrow.Author.Tests.{eqb-true, eqb-false, eq-eqb, ne_eqb, ltb-true, ltb-false}
use Rattle.lists.specs.Bytes.{AllBytes}
use Rattle.lists.proofs.Tests.{split, clash}
use Rattle.values.specs.Value.{run_byte, run, decode, spelled, mark, full_escapes, rest_escape, run_bytes, escaped, encode_from, encode}
use Rattle.values.specs.Rules.{Spells, nothing, itself, zeros, ones}
use Rattle.lists.proofs.ListLaws.{replicate-two, replicate-snoc, every_append}
use Rattle.values.proofs.DecodeLaws.{run-low, run-high, decode-none, decode-plain, decode-escape, run-zeros, run-ones, spelled-plain, spelled-escape, empty-spelled, spells-exactly}

-- ---- a byte that is escaped

pub escaped-true : (b : ℕ) → escaped b ≡ true → b ≢ 0 → b ≡ 255
escaped-true b e h = eqb-true b 255 (sym (cc (ne_eqb b 0 h, e)))

pub escaped-zero : (x : ℕ) → escaped x ≡ false → x ≢ 0
escaped-zero x e h = clash (cc)

pub escaped-ff : (x : ℕ) → escaped x ≡ false → x ≢ 255
escaped-ff x e h = clash (cc)

pub escaped-cases : (b : ℕ) → escaped b ≡ true → (b ≡ 0) ⊎ (b ≡ 255)
escaped-cases b e = split (eqb b 0) (λ t. inl (eqb-true b 0 t)) (λ t. inr (escaped-true b e (eqb-false b 0 t)))

pub mark-zero : (b : ℕ) → b ≡ 0 → 0 ≡ mark b
unfolding mark
mark-zero b e = rw (eq-eqb b 0 e)

pub mark-high : (b : ℕ) → b ≢ 0 → 128 ≡ mark b
unfolding mark
mark-high b e = rw (ne_eqb b 0 e)

mark-cases : (b : ℕ) → (mark b ≡ 0) ⊎ (mark b ≡ 128)
mark-cases b = split (eqb b 0) (λ t. inl (sym (mark-zero b (eqb-true b 0 t)))) (λ t. inr (sym (mark-high b (eqb-false b 0 t))))

run-mark : (b n : ℕ) → escaped b ≡ true → n < 128 → run (mark b + n) ≡ replicate n b
run-mark b n e h = go (escaped-cases b e)
  where
    go : (b ≡ 0) ⊎ (b ≡ 255) → run (mark b + n) ≡ replicate n b
    go (inl q) = rw (sym (mark-zero b q)) (let z : 0 + n ≡ n = omega arith in ap run z ∙ run-zeros n (omega arith) ∙ ap (replicate n) (sym q))
    go (inr q) = rw (sym (mark-high b (λ z. omega arith))) (run-ones n (omega arith) ∙ ap (replicate n) (sym q))

mark-good : (b n : ℕ) → n ≢ 0 → n < 128 → (mark b + n ≢ 0) × (mark b + n ≢ 128) × (mark b + n < 256)
mark-good b n h k = elim (mark-cases b) [ inl e ↦ omega arith | inr e ↦ omega arith ]

-- ---- a run's escapes

pub rest-none : (b n : ℕ) → n ≡ 0 → rest_escape b n ≡ []
unfolding rest_escape
rest-none b n e = rw (eq-eqb n 0 e)

pub rest_some : (b n : ℕ) → n ≢ 0 → rest_escape b n ≡ 255 ∷ (mark b + n) ∷ []
unfolding rest_escape
rest_some b n e = rw (ne_eqb n 0 e)

-- what they stand for
decode-full : (b k : ℕ) (s : List ℕ) → escaped b ≡ true → decode (full_escapes b k ++ s) ≡ replicate (k * 127) b ++ decode s
unfolding full_escapes
decode-full b zero s e = refl
decode-full b (suc k) s e =
    let q : 127 + k * 127 ≡ suc k * 127 = omega arith in
    decode-escape (mark b + 127) (full_escapes b k ++ s)
    ∙ ap (λ (r : List ℕ). r ++ decode (full_escapes b k ++ s)) (run-mark b 127 e (omega arith))
    ∙ ap (λ (r : List ℕ). replicate 127 b ++ r) (decode-full b k s e)
    ∙ replicate-two 127 (k * 127) b (decode s)
    ∙ ap (λ (n : ℕ). replicate n b ++ decode s) q

decode-rest : (b n : ℕ) (s : List ℕ) → escaped b ≡ true → n < 128 → decode (rest_escape b n ++ s) ≡ replicate n b ++ decode s
decode-rest b n s e h =
    split (eqb n 0)
    (λ t. let q = eqb-true n 0 t in rw (rest-none b n q, q))
    (λ t. rw (rest_some b n (eqb-false n 0 t)) (decode-escape (mark b + n) s ∙ ap (λ (r : List ℕ). r ++ decode s) (run-mark b n e h)))

pub decode-run : (b n : ℕ) (s : List ℕ) → escaped b ≡ true → decode (run_bytes b n ++ s) ≡ replicate n b ++ decode s
unfolding run_bytes
decode-run b n s e =
    let q : n / 127 * 127 + n % 127 ≡ n = omega arith in
    ap decode (append_assoc (full_escapes b (n / 127)) (rest_escape b (n % 127)) s)
    ∙ decode-full b (n / 127) (rest_escape b (n % 127) ++ s) e
    ∙ ap (λ (r : List ℕ). replicate (n / 127 * 127) b ++ r) (decode-rest b (n % 127) s e (omega arith))
    ∙ replicate-two (n / 127 * 127) (n % 127) b (decode s)
    ∙ ap (λ (m : ℕ). replicate m b ++ decode s) q

spelled-full : (b k : ℕ) (s : List ℕ) → spelled (full_escapes b k ++ s) ≡ spelled s
unfolding full_escapes
spelled-full b zero s = refl
spelled-full b (suc k) s =
    let g = mark-good b 127 (omega arith) (omega arith) in
    spelled-escape (mark b + 127) (full_escapes b k ++ s) g.0 g.1 ∙ spelled-full b k s

spelled-rest : (b n : ℕ) (s : List ℕ) → n < 128 → spelled (rest_escape b n ++ s) ≡ spelled s
spelled-rest b n s h =
    split (eqb n 0)
    (λ t. rw (rest-none b n (eqb-true n 0 t)))
    (λ t. let q = eqb-false n 0 t in
    let g = mark-good b n q h in
    rw (rest_some b n q) (spelled-escape (mark b + n) s g.0 g.1))

pub spelled-run : (b n : ℕ) (s : List ℕ) → spelled (run_bytes b n ++ s) ≡ spelled s
unfolding run_bytes
spelled-run b n s =
    ap spelled (append_assoc (full_escapes b (n / 127)) (rest_escape b (n % 127)) s)
    ∙ spelled-full b (n / 127) (rest_escape b (n % 127) ++ s) ∙ spelled-rest b (n % 127) s (omega arith)

bytes-full : (b k : ℕ) → AllBytes (full_escapes b k)
unfolding full_escapes
bytes-full b zero = tt
bytes-full b (suc k) = ((omega arith), ((mark-good b 127 (omega arith) (omega arith)).2, bytes-full b k))

bytes_rest : (b n : ℕ) → n < 128 → AllBytes (rest_escape b n)
bytes_rest b n h =
    split (eqb n 0)
    (λ t. rw (rest-none b n (eqb-true n 0 t)) tt)
    (λ t. let q = eqb-false n 0 t in rw (rest_some b n q) ((omega arith), ((mark-good b n q h).2, tt)))

pub bytes_run : (b n : ℕ) → AllBytes (run_bytes b n)
unfolding run_bytes
bytes_run b n = every_append (λ x. x < 256) (full_escapes b (n / 127)) (rest_escape b (n % 127)) (bytes-full b (n / 127)) (bytes_rest b (n % 127) (omega arith))

length-full : (b k : ℕ) → length (full_escapes b k) ≡ 2 * k
unfolding full_escapes
length-full b zero = refl
length-full b (suc k) = omega (arith, length-full b k)

pub run-even : (b n : ℕ) → n % 127 ≡ 0 → 2 * (n / 127) ≡ length (run_bytes b n)
unfolding run_bytes
run-even b n e =
    omega (arith, length-append (full_escapes b (n / 127)) (rest_escape b (n % 127)), length-full b (n / 127), ap length (rest-none b (n % 127) e))

pub run_more : (b n : ℕ) → n % 127 ≢ 0 → 2 * (n / 127) + 2 ≡ length (run_bytes b n)
unfolding run_bytes
run_more b n e =
    omega (arith, length-append (full_escapes b (n / 127)) (rest_escape b (n % 127)), length-full b (n / 127), ap length (rest_some b (n % 127) e))

-- the bytes that a run of n takes: two for each 127, or begun
abbrev pub cost : ℕ → ℕ
cost n = 2 * ((n + 126) / 127)

pub length-run-bytes : (b n : ℕ) → length (run_bytes b n) ≡ cost n
length-run-bytes b n =
    split (eqb (n % 127) 0)
    (λ t. omega (arith, run-even b n (eqb-true (n % 127) 0 t), eqb-true (n % 127) 0 t))
    (λ t. omega (arith, run_more b n (eqb-false (n % 127) 0 t), eqb-false (n % 127) 0 t))

-- ---- one step of `encode_from`

pub encode-none : (b n : ℕ) → encode_from b n [] ≡ run_bytes b n
unfolding encode_from
encode-none b n = refl

pub encode-more : (b n x : ℕ) (xs : List ℕ) → escaped x ≡ true → x ≡ b → encode_from b n (x ∷ xs) ≡ encode_from b (n + 1) xs
unfolding encode_from
encode-more b n x xs e f = rw (e, eq-eqb x b f, encode_from)

pub encode-other : (b n x : ℕ) (xs : List ℕ) → escaped x ≡ true → x ≢ b → encode_from b n (x ∷ xs) ≡ run_bytes b n ++ encode_from x 1 xs
unfolding encode_from
encode-other b n x xs e f = rw (e, ne_eqb x b f, encode_from)

pub encode-plain : (b n x : ℕ) (xs : List ℕ) → escaped x ≡ false → encode_from b n (x ∷ xs) ≡ run_bytes b n ++ x ∷ encode_from 0 0 xs
unfolding encode_from
encode-plain b n x xs e = rw (e, encode_from)

-- a case for each step: what holds of the three ways on holds of the whole
pub encode-cases : (P : List ℕ → Type 0) (b n x : ℕ) (xs : List ℕ)
    → (escaped x ≡ true → x ≡ b → P (encode_from b (n + 1) xs))
    → (escaped x ≡ true → x ≢ b → P (run_bytes b n ++ encode_from x 1 xs))
    → (escaped x ≡ false → P (run_bytes b n ++ x ∷ encode_from 0 0 xs))
    → P (encode_from b n (x ∷ xs))
encode-cases P b n x xs f g h =
    split (escaped x)
    (λ t. split (eqb x b)
    (λ u. rw (encode-more b n x xs t (eqb-true x b u)) (f t (eqb-true x b u)))
    (λ u. rw (encode-other b n x xs t (eqb-false x b u)) (g t (eqb-false x b u))))
    (λ t. rw (encode-plain b n x xs t) (h t))

-- ---- it is read back

decode-from : (b n : ℕ) (xs : List ℕ) → escaped b ≡ true → decode (encode_from b n xs) ≡ replicate n b ++ xs
decode-from b n [] e =
    ap decode (encode-none b n ∙ sym (append-nil (run_bytes b n))) ∙ decode-run b n [] e ∙ ap (λ (r : List ℕ). replicate n b ++ r) decode-none
decode-from b n (x ∷ xs) e =
    encode-cases (λ w. decode w ≡ replicate n b ++ x ∷ xs) b n x xs
    (λ t u. decode-from b (n + 1) xs e ∙ replicate-snoc n b xs ∙ ap (λ (y : ℕ). replicate n b ++ y ∷ xs) (sym u))
    (λ t u. decode-run b n (encode_from x 1 xs) e ∙ ap (λ (r : List ℕ). replicate n b ++ r) (decode-from x 1 xs t))
    (λ t. decode-run b n (x ∷ encode_from 0 0 xs) e
    ∙ ap (λ (r : List ℕ). replicate n b ++ r) (decode-plain x (encode_from 0 0 xs) (escaped-ff x t) ∙ ap (λ (r : List ℕ). x ∷ r) (decode-from 0 0 xs refl)))

-- THE CANONICAL FORM STANDS FOR THE VALUE
pub decode-encode : (v : List ℕ) → decode (encode v) ≡ v
unfolding encode
decode-encode v = decode-from 0 0 v refl

-- AND IS ITS OWN canonical form
pub encode-again : (v : List ℕ) → encode (decode (encode v)) ≡ encode v
encode-again v = ap encode (decode-encode v)

spelled-from : (b n : ℕ) (xs : List ℕ) → spelled (encode_from b n xs) ≡ true
spelled-from b n [] = ap spelled (encode-none b n ∙ sym (append-nil (run_bytes b n))) ∙ spelled-run b n [] ∙ empty-spelled
spelled-from b n (x ∷ xs) =
    encode-cases (λ w. spelled w ≡ true) b n x xs
    (λ t u. spelled-from b (n + 1) xs)
    (λ t u. spelled-run b n (encode_from x 1 xs) ∙ spelled-from x 1 xs)
    (λ t. spelled-run b n (x ∷ encode_from 0 0 xs) ∙ spelled-plain x (encode_from 0 0 xs) (escaped-zero x t) (escaped-ff x t) ∙ spelled-from 0 0 xs)

pub spelled-encode : (v : List ℕ) → spelled (encode v) ≡ true
unfolding encode
spelled-encode v = spelled-from 0 0 v

bytes-from : (b n : ℕ) (xs : List ℕ) → AllBytes xs → AllBytes (encode_from b n xs)
bytes-from b n [] h = rw (encode-none b n) (bytes_run b n)
bytes-from b n (x ∷ xs) h =
    encode-cases AllBytes b n x xs
    (λ t u. bytes-from b (n + 1) xs h.1)
    (λ t u. every_append (λ y. y < 256) (run_bytes b n) (encode_from x 1 xs) (bytes_run b n) (bytes-from x 1 xs h.1))
    (λ t. every_append (λ y. y < 256) (run_bytes b n) (x ∷ encode_from 0 0 xs) (bytes_run b n) (h.0, bytes-from 0 0 xs h.1))

pub bytes-encode : (v : List ℕ) → AllBytes v → AllBytes (encode v)
unfolding encode
bytes-encode v h = bytes-from 0 0 v h

-- and by the rule
pub spells-encode : (v : List ℕ) → AllBytes v → Spells (encode v) v
spells-encode v h = (spells-exactly (encode v) v (bytes-encode v h)).1 (spelled-encode v, decode-encode v)

-- ---- it is short

length_from : (b n : ℕ) (xs : List ℕ) → length (encode_from b n xs) ≤ 2 * (n + length xs)
length_from b n [] = omega (arith, ap length (encode-none b n), length-run-bytes b n)
length_from b n (x ∷ xs) =
    encode-cases (λ w. length w ≤ 2 * (n + length (x ∷ xs))) b n x xs
    (λ t u. omega (arith, length_from b (n + 1) xs))
    (λ t u. omega (arith, length-append (run_bytes b n) (encode_from x 1 xs), length-run-bytes b n, length_from x 1 xs))
    (λ t. omega (arith, length-append (run_bytes b n) (x ∷ encode_from 0 0 xs), length-run-bytes b n, length_from 0 0 xs))

-- AT MOST TWICE THE VALUE'S BYTES
pub length-encode : (v : List ℕ) → length (encode v) ≤ 2 * length v
unfolding encode
length-encode v = omega (arith, length_from 0 0 v)

-- a run met by the open run
pub encode_same : (b n m : ℕ) (t : List ℕ) → escaped b ≡ true → encode_from b n (replicate m b ++ t) ≡ encode_from b (n + m) t
encode_same b n zero t e = ap (λ (k : ℕ). encode_from b k t) (sym (add-zero n))
encode_same b n (suc m) t e =
    let q : n + 1 + m ≡ n + suc m = omega arith in
    encode-more b n b (replicate m b ++ t) e refl ∙ encode_same b (n + 1) m t e ∙ ap (λ (k : ℕ). encode_from b k t) q

pub encode-run : (b n r m : ℕ) (t : List ℕ) → escaped r ≡ true → r ≢ b → m ≢ 0
    → encode_from b n (replicate m r ++ t) ≡ run_bytes b n ++ encode_from r m t
encode-run b n r zero t e h z = absurd (z refl)
encode-run b n r (suc m) t e h z =
    let q : 1 + m ≡ suc m = omega arith in
    encode-other b n r (replicate m r ++ t) e h
    ∙ ap (λ (w : List ℕ). run_bytes b n ++ w) (encode_same r 1 m t e ∙ ap (λ (k : ℕ). encode_from r k t) q)

-- and the run that an escape stands for
pub run-escaped : (c : ℕ) → escaped (run_byte c) ≡ true
run-escaped c =
    split (ltb c 128)
    (λ t. ap escaped (sym (run-low c (ltb-true c 128 t))))
    (λ t. ap escaped (sym (run-high c (ltb-false c 128 t))))

pub run-same : (b n c : ℕ) (l : List ℕ) → run_byte c ≡ b → encode_from b n (run c ++ l) ≡ encode_from b (n + c % 128) l
unfolding run
run-same b n c l e =
    ap (λ (y : ℕ). encode_from b n (replicate (c % 128) y ++ l)) e ∙ encode_same b n (c % 128) l (ap escaped (sym e) ∙ run-escaped c)

pub run-other : (b n c : ℕ) (l : List ℕ) → run_byte c ≢ b → c % 128 ≢ 0
    → encode_from b n (run c ++ l) ≡ run_bytes b n ++ encode_from (run_byte c) (c % 128) l
unfolding run
run-other b n c l e z = encode-run b n (run_byte c) (c % 128) l (run-escaped c) e z

run-least : (b n r m k : ℕ) (t : List ℕ) → escaped r ≡ true → m ≢ 0 → m < 128
    → ((b n : ℕ) → length (encode_from b n t) ≤ cost n + k)
    → length (encode_from b n (replicate m r ++ t)) ≤ cost n + (k + 2)
run-least b n r m k t e z h ih =
    split (eqb r b)
    (λ u. let q = eqb-true r b u in
    omega (arith, ap length (ap (λ (y : ℕ). encode_from b n (replicate m y ++ t)) q ∙ encode_same b n m t (ap escaped (sym q) ∙ e)), ih b (n + m)))
    (λ u. omega (arith, ap length (encode-run b n r m t e (eqb-false r b u) z), length-append (run_bytes b n) (encode_from r m t), length-run-bytes b n, ih r m))

least : {s v : List ℕ} → Spells s v → (b n : ℕ) → length (encode_from b n v) ≤ cost n + length s
least nothing b n = omega (arith, ap length (encode-none b n), length-run-bytes b n)
least (itself {b = x} {v = v} lo hi r) b n =
    let t : escaped x ≡ false = cc (ne_eqb x 0 (omega arith), ne_eqb x 255 (omega arith)) in
    omega (arith, ap length (encode-plain b n x v t), length-append (run_bytes b n) (x ∷ encode_from 0 0 v), length-run-bytes b n, least r 0 0)
least (zeros {n = m} {s = s} {v = v} lo hi r) b n =
    omega (arith, run-least b n 0 m (length s) v refl (omega arith) (omega arith) (λ b n. least r b n))
least (ones {n = m} {s = s} {v = v} lo hi r) b n =
    omega (arith, run-least b n 255 m (length s) v refl (omega arith) (omega arith) (λ b n. least r b n))

-- NO OTHER WRITING OF THE VALUE IS SHORTER
pub encode-shortest : {s v : List ℕ} → Spells s v → length (encode v) ≤ length s
unfolding encode
encode-shortest r = omega (arith, least r 0 0)
