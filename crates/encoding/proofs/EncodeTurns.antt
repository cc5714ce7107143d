-- The turns of the loops that encode: at the bytes that are left of the value, and at the escape k of a run.
use Prim.Native.Nat.{ℕ, suc, ◌+◌, ◌-◌, ◌*◌, ◌/◌, ◌%◌, ◌≤◌, ◌<◌}
use mathlib.Core.Path.{◌≡◌, refl, sym, ap, ◌∙◌}
use mathlib.Core.Bool.{true, false}
use mathlib.Core.List.{List, [], ◌∷◌, ◌++◌}
use mathlib.Core.Logic.{◌≢◌}
use native.Mathlib.Omega.{arith}
use lib.ListN.{length, set, take, drop, replicate, length-append, length-drop, length-replicate, take-append-drop}
use lib.Dec.{eqb}
use lib.Seq.{length-take-le}
use borrow.Author.Tests.{eqb-true, eqb-false, eq-eqb, ne_eqb}
use Rattle.lists.specs.Pasted.{pasted}
use Rattle.lists.proofs.Tests.{split}
use Rattle.lists.specs.Helpers.{until_either}
use Rattle.lists.proofs.FindLaws.{until-short, until-before, until-next}
use Rattle.lists.proofs.PastedLaws.{set-pasted, set_after}
use Rattle.lists.proofs.Grown.{Grown, grown-none, grown-as, grown-same, grown-piece, grown-all, grown-end, grown-left}
use Rattle.values.specs.Value.{mark, full_escapes, rest_escape, run_bytes, escaped, encode}
use Rattle.encoding.specs.Helpers.{leading}
use Rattle.values.specs.Rules.{Begins}
use Rattle.values.proofs.EncodeLaws.{rest-none, rest_some, length-run-bytes, length-encode}
use Rattle.values.proofs.DecodeTurns.{none-left}
use Rattle.values.proofs.CanonicalLaws.{encode-longest, encode-piece, encode-empty}

-- ---- the bytes at the start that are b

pub leading-none : (b : ℕ) → leading b [] ≡ 0
unfolding leading
leading-none b = refl

pub leading-same : (b x : ℕ) (xs : List ℕ) → x ≡ b → leading b (x ∷ xs) ≡ suc (leading b xs)
unfolding leading
leading-same b x xs e = rw (eq-eqb x b e) (omega arith)

pub leading-other : (b x : ℕ) (xs : List ℕ) → x ≢ b → leading b (x ∷ xs) ≡ 0
unfolding leading
leading-other b x xs e = rw (ne_eqb x b e)

pub leading-run : (b : ℕ) (l : List ℕ) → l ≡ replicate (leading b l) b ++ drop (leading b l) l
leading-run b [] = rw (leading-none b)
leading-run b (x ∷ xs) =
    split (eqb x b)
    (λ t. let e = eqb-true x b t in
    rw (leading-same b x xs e) (ap (λ (y : ℕ). y ∷ xs) e ∙ ap (λ (r : List ℕ). b ∷ r) (leading-run b xs)))
    (λ t. rw (leading-other b x xs (eqb-false x b t)))

pub leading-longest : (b : ℕ) (l : List ℕ) → ¬ (Begins b (drop (leading b l) l))
leading-longest b [] = rw (leading-none b) (λ q. q)
leading-longest b (x ∷ xs) =
    split (eqb x b)
    (λ t. rw (leading-same b x xs (eqb-true x b t)) (leading-longest b xs))
    (λ t. rw (leading-other b x xs (eqb-false x b t)) (eqb-false x b t))

pub leading_length : (b : ℕ) (l : List ℕ) → leading b l ≤ length l
leading_length b l =
    omega (arith, ap length (leading-run b l), length-append (replicate (leading b l) b) (drop (leading b l) l), length-replicate (leading b l) b)

-- ---- one turn of `encode`, at the first byte x of what is left of the value

module _ {r : List ℕ} {x : ℕ} {l : List ℕ} (e : r ≡ x ∷ l) where
  some : leading x r ≢ 0
  some z = omega (arith, ap (leading x) e, leading-same x x l refl)

  -- a run p, and the bytes s after it
  module _ {k : ℕ} {p s : List ℕ} (q : k ≡ leading x r) (f : p ≡ take k r) (g : s ≡ drop k r) where
    run-long : length p ≡ k
    run-long = ap length f ∙ length-take-le k r (omega (arith, leading_length x r))

    pub run-smaller : length s < length r
    run-smaller = omega (arith, some, ap length g, length-drop k r, leading_length x r)

    encode-run : escaped x ≡ true → encode r ≡ run_bytes x (length p) ++ encode s
    encode-run t =
        ap encode (leading-run x r) ∙ encode-longest x (leading x r) (drop (leading x r) r) t some (leading-longest x r)
        ∙ (let n : leading x r ≡ length p = omega (arith, run-long) in ap (λ (m : ℕ). run_bytes x m ++ encode (drop (leading x r) r)) n)
        ∙ (let c : drop (leading x r) r ≡ s = ap (λ (m : ℕ). drop m r) (sym q) ∙ sym g in ap (λ (w : List ℕ). run_bytes x (length p) ++ encode w) c)

-- a piece p without 0x00 and 0xFF, and the bytes s after it
module _ (r : List ℕ) {k : ℕ} {p s : List ℕ} (q : k ≡ until_either 0 255 r) (f : p ≡ take k r) (g : s ≡ drop k r) where
  encode-plain : encode r ≡ p ++ encode s
  encode-plain =
      rw (f, g) (ap encode (sym (take-append-drop k r)) ∙ encode-piece (take k r) (drop k r) (rw (sym q) at (until-before 0 255 r)))

  pub piece-inside : k ≤ length r
  piece-inside = omega (arith, until-short 0 255 r)

  pub piece-smaller : {x : ℕ} {l : List ℕ} → r ≡ x ∷ l → escaped x ≡ false → length s < length r
  piece-smaller {x} {l} e t = omega (arith, ap (until_either 0 255) e ∙ until-next 0 255 x l t, piece-inside, ap length g, length-drop k r, ap length e)

-- ---- the loop that counts: n bytes, and the canonical form of the bytes r that are left, are the whole length

pub record Counted (v r : List ℕ) (n : ℕ) : Type 0 where
  pub sum : n + length (encode r) ≡ length (encode v)
  pub left : length r ≤ length v

pub counted_none : (v : List ℕ) → Counted v v 0
counted_none v = record { sum = omega arith; left = omega arith }

module _ {v r : List ℕ} {n : ℕ} (s : Counted v r n) where
  pub counted-bound : n ≤ 2 * length v
  counted-bound = omega (arith, s.sum, length-encode v)

  pub counted-run : {x : ℕ} {l : List ℕ} → r ≡ x ∷ l → escaped x ≡ true → {k : ℕ} {p w : List ℕ} → k ≡ leading x r → p ≡ take k r → w ≡ drop k r
      → {m : ℕ} → m ≡ length (run_bytes 0 (length p)) → Counted v w (n + m)
  counted-run {x} e t {k} {p} {w} q f g h = record {
    sum =
        omega (
          arith,
          s.sum,
          ap length (encode-run e q f g t),
          length-append (run_bytes x (length p)) (encode w),
          length-run-bytes x (length p),
          length-run-bytes 0 (length p),
        );
    left = omega (arith, s.left, run-smaller e q f g);
  }

  pub counted-piece : {k : ℕ} {p w : List ℕ} → k ≡ until_either 0 255 r → p ≡ take k r → w ≡ drop k r → Counted v w (n + length p)
  counted-piece {k} {p} {w} q f g = record {
    sum = omega (arith, s.sum, ap length (encode-plain r q f g), length-append p (encode w));
    left = omega (arith, s.left, ap length g, length-drop k r);
  }

  pub counted-all : length r ≡ 0 → n ≡ length (encode v)
  counted-all h = omega (arith, s.sum, ap length (ap encode (none-left r h) ∙ encode-empty))

-- ---- the loop that writes: the first o bytes are in the buffer, which was d and is b

pub record Encoding (v d r : List ℕ) (o : ℕ) (b : List ℕ) : Type 0 where
  pub grown : Grown (encode v) d 0 o (encode r) b
  pub fits : length (encode v) ≤ length d
  pub left : length r ≤ length v

pub encoding-none : (v d : List ℕ) → length (encode v) ≤ length d → Encoding v d v 0 d
encoding-none v d h = record { grown = grown-none (encode v) d 0 (omega arith); fits = h; left = omega arith }

module _ {v d r : List ℕ} {o : ℕ} {b : List ℕ} (s : Encoding v d r o b) where
  pub encoding-same : length b ≡ length d
  encoding-same = grown-same s.grown

  left-fits : o + length (encode r) ≤ length d
  left-fits = grown-left s.grown (omega (arith, s.fits))

  module _ {x : ℕ} {l : List ℕ} (e : r ≡ x ∷ l) where
    module _ (t : escaped x ≡ true) {k : ℕ} {p w : List ℕ} (q : k ≡ leading x r) (f : p ≡ take k r) (g : w ≡ drop k r) where
      pub run_fits : o + length (run_bytes x (length p)) ≤ length b
      run_fits = omega (arith, encoding-same, left-fits, ap length (encode-run e q f g t), length-append (run_bytes x (length p)) (encode w))

      pub run-turn : {m : ℕ} {b' : List ℕ} → m ≡ length (run_bytes x (length p)) → b' ≡ pasted b o (run_bytes x (length p)) → Encoding v d w (o + m) b'
      run-turn h u = record {
        grown =
            grown-piece s.grown (run_bytes x (length p)) (encode w) (encode-run e q f g t) (omega (arith, run_fits, encoding-same))
            (ap (λ (n : ℕ). o + n) h) u;
        fits = s.fits;
        left = omega (arith, s.left, run-smaller e q f g);
      }

  module _ {k : ℕ} {p w : List ℕ} (q : k ≡ until_either 0 255 r) (f : p ≡ take k r) (g : w ≡ drop k r) where
    pub piece-room : o + length p ≤ length b
    piece-room = omega (arith, encoding-same, left-fits, ap length (encode-plain r q f g), length-append p (encode w))

    pub piece-turn : {b' : List ℕ} → b' ≡ pasted b o p → Encoding v d w (o + length p) b'
    piece-turn u = record {
      grown = grown-piece s.grown p (encode w) (encode-plain r q f g) (omega (arith, piece-room, encoding-same)) refl u;
      fits = s.fits;
      left = omega (arith, s.left, ap length g, length-drop k r);
    }

  pub encoding-all : length r ≡ 0 → b ≡ pasted d 0 (encode v)
  encoding-all h = grown-all s.grown (ap encode (none-left r h) ∙ encode-empty)

-- ---- the loop that writes a run's escapes of 127: k of them are in the buffer

pub two_bytes : (d : List ℕ) (at c : ℕ) → at + 2 ≤ length d → set (set d at 255) (at + 1) c ≡ pasted d at (255 ∷ c ∷ [])
two_bytes d at c h =
    ap (λ (l : List ℕ). set l (at + 1) c) (set-pasted d at 255 (omega arith))
    ∙ set_after d at (255 ∷ []) (at + 1) c refl (omega arith)

full-next : (q k b : ℕ) (rest : List ℕ) → k < q
    → full_escapes b (q - k) ++ rest ≡ (255 ∷ (mark b + 127) ∷ []) ++ (full_escapes b (q - (k + 1)) ++ rest)
unfolding full_escapes
full-next q k b rest h =
    let e : q - k ≡ suc (q - (k + 1)) = omega arith in
    rw e

full-none : (q k b : ℕ) (rest : List ℕ) → q ≤ k → full_escapes b (q - k) ++ rest ≡ rest
unfolding full_escapes
full-none q k b rest h =
    let e : q - k ≡ 0 = omega arith in
    rw e

pub record Escaping (b n : ℕ) (d : List ℕ) (at k o : ℕ) (l : List ℕ) : Type 0 where
  pub grown : Grown (run_bytes b n) d at o (full_escapes b (n / 127 - k) ++ rest_escape b (n % 127)) l
  pub fits : at + length (run_bytes b n) ≤ length d

pub escaping-none : (b n : ℕ) (d : List ℕ) (at : ℕ) → at + length (run_bytes b n) ≤ length d → Escaping b n d at 0 at d
unfolding run_bytes
escaping-none b n d at h =
    let e : n / 127 ≡ n / 127 - 0 = omega arith in
    record {
      grown = grown-as (grown-none (run_bytes b n) d at (omega arith)) (ap (λ (q : ℕ). full_escapes b q ++ rest_escape b (n % 127)) e);
      fits = h;
    }

module _ {b n : ℕ} {d : List ℕ} {at k o : ℕ} {l : List ℕ} (s : Escaping b n d at k o l) where
  pub escaping-same : length l ≡ length d
  escaping-same = grown-same s.grown

  to-come : o + length (full_escapes b (n / 127 - k) ++ rest_escape b (n % 127)) ≤ length d
  to-come = grown-left s.grown s.fits

  module _ (h : k < n / 127) where
    pub full-fits : o + 2 ≤ length l
    full-fits = omega (arith, to-come, escaping-same, ap length (full-next (n / 127) k b (rest_escape b (n % 127)) h))

    pub full-turn : {m : ℕ} {l' : List ℕ} → m ≡ mark b → l' ≡ pasted l o (255 ∷ (m + 127) ∷ []) → Escaping b n d at (k + 1) (o + 2) l'
    full-turn e p = record {
      grown =
          grown-piece s.grown (255 ∷ (mark b + 127) ∷ []) (full_escapes b (n / 127 - (k + 1)) ++ rest_escape b (n % 127))
          (full-next (n / 127) k b (rest_escape b (n % 127)) h) (omega (arith, full-fits, escaping-same)) refl
          (p ∙ ap (λ (m : ℕ). pasted l o (255 ∷ (m + 127) ∷ [])) e);
      fits = s.fits;
    }

  module _ (h : n / 127 ≤ k) where
    even-left : n % 127 ≡ 0 → full_escapes b (n / 127 - k) ++ rest_escape b (n % 127) ≡ []
    even-left e = full-none (n / 127) k b (rest_escape b (n % 127)) h ∙ rest-none b (n % 127) e

    pub even_place : n % 127 ≡ 0 → o ≡ at + length (run_bytes b n)
    even_place e = grown-end s.grown (even-left e)

    pub even-all : n % 127 ≡ 0 → l ≡ pasted d at (run_bytes b n)
    even-all e = grown-all s.grown (even-left e)

    module _ (e : n % 127 ≢ 0) where
      rest-left : full_escapes b (n / 127 - k) ++ rest_escape b (n % 127) ≡ (255 ∷ (mark b + n % 127) ∷ []) ++ []
      rest-left = full-none (n / 127) k b (rest_escape b (n % 127)) h ∙ rest_some b (n % 127) e

      pub rest-fits : o + 2 ≤ length l
      rest-fits = omega (arith, to-come, escaping-same, ap length rest-left)

      module _ {m : ℕ} {l' : List ℕ} (f : m ≡ mark b) (p : l' ≡ pasted l o (255 ∷ (m + n % 127) ∷ [])) where
        rest-grown : Grown (run_bytes b n) d at (o + 2) [] l'
        rest-grown =
            grown-piece s.grown (255 ∷ (mark b + n % 127) ∷ []) [] rest-left (omega (arith, rest-fits, escaping-same)) refl
            (p ∙ ap (λ (m : ℕ). pasted l o (255 ∷ (m + n % 127) ∷ [])) f)

        pub rest-place : o + 2 ≡ at + length (run_bytes b n)
        rest-place = grown-end rest-grown refl

        pub rest_all : l' ≡ pasted d at (run_bytes b n)
        rest_all = grown-all rest-grown refl
