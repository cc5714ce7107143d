-- The turns of the loops that decode: some of the bytes are read, and the bytes r are left.
use Prim.Native.Nat.{ℕ, ◌+◌, ◌-◌, ◌%◌, ◌≤◌, ◌<◌}
use mathlib.Core.Path.{◌≡◌, refl, sym, ap, ◌∙◌}
use mathlib.Core.Bool.{Bool, true, false}
use mathlib.Core.List.{List, [], ◌∷◌, ◌++◌, append_assoc}
use mathlib.Core.Logic.{◌≢◌}
use native.Mathlib.Omega.{arith}
use lib.Dec.{eqb}
use lib.ListN.{length, set, take, drop, replicate, length-append, take-append-drop}
use borrow.Author.Tests.{eq-eqb, ne_eqb, eqb-true, eqb-false}
use Rattle.lists.specs.Bytes.{Every}
use Rattle.lists.specs.Helpers.{either, until_either}
use Rattle.lists.specs.Pasted.{pasted}
use Rattle.lists.proofs.Tests.{split}
use Rattle.lists.proofs.FindLaws.{either-not, until-before}
use Rattle.lists.proofs.Grown.{Grown, grown-none, grown-as, grown-same, grown-piece, grown-byte, grown-all, grown-end, grown-left}
use Rattle.values.specs.Value.{run_byte, run, decode_from, decode}
use Rattle.values.specs.Helpers.{opened}
use Rattle.values.proofs.DecodeLaws.{length_run, decode-piece}

-- ---- the first byte

decode-ran : (c : ℕ) (s : List ℕ) → decode_from true (c ∷ s) ≡ run c ++ decode_from false s
unfolding decode_from
decode-ran c s = refl

decode-opens : (b : ℕ) (s : List ℕ) → b ≡ 255 → decode_from false (b ∷ s) ≡ decode_from true s
unfolding decode_from
decode-opens b s e = rw (eq-eqb b 255 e, decode_from)

decode-itself : (b : ℕ) (s : List ℕ) → b ≢ 255 → decode_from false (b ∷ s) ≡ b ∷ decode_from false s
unfolding decode_from
decode-itself b s e = rw (ne_eqb b 255 e, decode_from)

decode-nothing : (t : Bool) → decode_from t [] ≡ []
unfolding decode_from
decode-nothing true = refl
decode-nothing false = refl

opened-ran : (c : ℕ) (s : List ℕ) → opened true (c ∷ s) ≡ opened false s
unfolding opened
opened-ran c s = refl

opened-opens : (b : ℕ) (s : List ℕ) → b ≡ 255 → opened false (b ∷ s) ≡ opened true s
unfolding opened
opened-opens b s e = rw (eq-eqb b 255 e)

opened-itself : (b : ℕ) (s : List ℕ) → b ≢ 255 → opened false (b ∷ s) ≡ opened false s
unfolding opened
opened-itself b s e = rw (ne_eqb b 255 e)

opened-nothing : (t : Bool) → opened t [] ≡ t
unfolding opened
opened-nothing true = refl
opened-nothing false = refl

-- ---- bytes and those after them

pub decode-both : (t : Bool) (s r : List ℕ) → decode_from t (s ++ r) ≡ decode_from t s ++ decode_from (opened t s) r
decode-both t [] r = rw (decode-nothing t, opened-nothing t)
decode-both true (c ∷ s) r =
    decode-ran c (s ++ r) ∙ ap (λ (l : List ℕ). run c ++ l) (decode-both false s r)
    ∙ sym (append_assoc (run c) (decode_from false s) (decode_from (opened false s) r))
    ∙ (λ i. sym (decode-ran c s) i ++ decode_from (sym (opened-ran c s) i) r)
decode-both false (b ∷ s) r =
    split (eqb b 255)
    (λ t. let e = eqb-true b 255 t in
    decode-opens b (s ++ r) e ∙ decode-both true s r
    ∙ (λ i. sym (decode-opens b s e) i ++ decode_from (sym (opened-opens b s e) i) r))
    (λ t. let e = eqb-false b 255 t in
    decode-itself b (s ++ r) e ∙ ap (λ (l : List ℕ). b ∷ l) (decode-both false s r)
    ∙ (λ i. sym (decode-itself b s e) i ++ decode_from (sym (opened-itself b s e) i) r))

pub opened-both : (t : Bool) (s r : List ℕ) → opened t (s ++ r) ≡ opened (opened t s) r
opened-both t [] r = rw (opened-nothing t)
opened-both true (c ∷ s) r = opened-ran c (s ++ r) ∙ opened-both false s r ∙ ap (λ (t : Bool). opened t r) (sym (opened-ran c s))
opened-both false (b ∷ s) r =
    split (eqb b 255)
    (λ t. let e = eqb-true b 255 t in
    opened-opens b (s ++ r) e ∙ opened-both true s r ∙ ap (λ (t : Bool). opened t r) (sym (opened-opens b s e)))
    (λ t. let e = eqb-false b 255 t in
    opened-itself b (s ++ r) e ∙ opened-both false s r ∙ ap (λ (t : Bool). opened t r) (sym (opened-itself b s e)))

-- the piece up to the first 0xFF, and the bytes after it
module _ (s p r : List ℕ) {n : ℕ} (q : n ≡ 0 + until_either 255 255 (drop 0 s)) (e : p ≡ take n s) (f : r ≡ drop n s) where
  cut : s ≡ p ++ r
  cut = rw (e, f) (sym (take-append-drop n s))

  plain : Every (λ x. either 255 255 x ≡ false) p
  plain = let k : until_either 255 255 s ≡ n = omega arith in rw e (rw k at (until-before 255 255 s))

  pub decode-plain-piece : decode_from false s ≡ p ++ decode_from false r
  unfolding decode
  decode-plain-piece = ap (decode_from false) cut ∙ decode-piece 255 p r plain

  pub opened-plain-piece : opened false s ≡ opened false r
  opened-plain-piece = ap (opened false) cut ∙ go p plain
    where
      go : (p : List ℕ) → Every (λ x. either 255 255 x ≡ false) p → opened false (p ++ r) ≡ opened false r
      go [] h = refl
      go (x ∷ p) h = opened-itself x (p ++ r) (either-not 255 255 x h.0).0 ∙ go p h.1

-- a few bytes, and those after them
module _ (t : Bool) (s : List ℕ) (k : ℕ) {f r : List ℕ} {u : Bool} (g : f ≡ take k s) (h : r ≡ drop k s) (q : u ≡ opened t f) where
  few-next : decode_from t s ≡ decode_from t f ++ decode_from u r
  few-next = rw (q, g, h) (ap (decode_from t) (sym (take-append-drop k s)) ∙ decode-both t (take k s) (drop k s))

  few-opened : opened t s ≡ opened u r
  few-opened = rw (q, g, h) (ap (opened t) (sym (take-append-drop k s)) ∙ opened-both t (take k s) (drop k s))

-- ---- the loops that count: n bytes, and those that r stands for, are the length of what a stands for

pub record Measured (t : Bool) (a : List ℕ) (u : Bool) (r : List ℕ) (n : ℕ) : Type 0 where
  pub sum : n + length (decode_from u r) ≡ length (decode_from t a)
  pub ends : opened u r ≡ opened t a

pub measured-none : (t : Bool) (a : List ℕ) → Measured t a t a 0
measured-none t a = record { sum = omega arith; ends = refl }

module _ {t : Bool} {a : List ℕ} {u : Bool} {r : List ℕ} {n : ℕ} (s : Measured t a u r n) where
  pub measured-ran : {c : ℕ} {l : List ℕ} → r ≡ c ∷ l → u ≡ true → Measured t a false l (n + c % 128)
  measured-ran {c} {l} e f =
      let g : decode_from u r ≡ run c ++ decode_from false l = rw (e, f) (decode-ran c l) in
      let h : opened u r ≡ opened false l = rw (e, f) (opened-ran c l) in
      record { sum = omega (arith, s.sum, ap length g, length-append (run c) (decode_from false l), length_run c); ends = sym h ∙ s.ends }

  pub measured-opens : {b : ℕ} {l : List ℕ} → r ≡ b ∷ l → u ≡ false → b ≡ 255 → Measured t a true l n
  measured-opens {b} {l} e f q =
      let g : decode_from u r ≡ decode_from true l = rw (e, f) (decode-opens b l q) in
      let h : opened u r ≡ opened true l = rw (e, f) (opened-opens b l q) in
      record { sum = omega (arith, s.sum, ap length g); ends = sym h ∙ s.ends }

  pub measured-itself : {b : ℕ} {l : List ℕ} → r ≡ b ∷ l → u ≡ false → b ≢ 255 → Measured t a u l (n + 1)
  measured-itself {b} {l} e f q =
      let g : decode_from u r ≡ b ∷ decode_from u l = rw (e, f) (decode-itself b l q) in
      let h : opened u r ≡ opened u l = rw (e, f) (opened-itself b l q) in
      record { sum = omega (arith, s.sum, ap length g); ends = sym h ∙ s.ends }

  pub measured-piece : (p l : List ℕ) → decode_from u r ≡ p ++ decode_from u l → opened u r ≡ opened u l → Measured t a u l (n + length p)
  measured-piece p l e f = record { sum = omega (arith, s.sum, ap length e, length-append p (decode_from u l)); ends = sym f ∙ s.ends }

  pub measured-few : (k : ℕ) {m : ℕ} {f l : List ℕ} {v : Bool} → f ≡ take k r → l ≡ drop k r → m ≡ length (decode_from u f) → v ≡ opened u f → Measured t a v l (n + m)
  measured-few k {f = f} {l = l} {v = v} g h e q = record {
    sum = omega (arith, s.sum, ap length (few-next u r k g h q), length-append (decode_from u f) (decode_from v l));
    ends = sym (few-opened u r k g h q) ∙ s.ends;
  }

  pub measured-len : r ≡ [] → n ≡ length (decode_from t a)
  measured-len e = let g : decode_from u r ≡ [] = rw e (decode-nothing u) in omega (arith, s.sum, ap length g)

  pub measured-end : r ≡ [] → u ≡ opened t a
  measured-end e = sym (opened-nothing u) ∙ ap (opened u) (sym e) ∙ s.ends

-- ---- the loops that write: what is read stands in the buffer, which was d and is b, up to o
pub record Decoding (t : Bool) (a d : List ℕ) (u : Bool) (r : List ℕ) (o : ℕ) (b : List ℕ) : Type 0 where
  pub grown : Grown (decode_from t a) d 0 o (decode_from u r) b
  pub fits : length (decode_from t a) ≤ length d
  pub ends : opened u r ≡ opened t a

pub decoding-none : (t : Bool) (a d : List ℕ) → length (decode_from t a) ≤ length d → Decoding t a d t a 0 d
decoding-none t a d h = record { grown = grown-none (decode_from t a) d 0 (omega arith); fits = h; ends = refl }

run-as : (o c x : ℕ) → x ≡ run_byte c → replicate (o + c % 128 - o) x ≡ run c
unfolding run
run-as o c x e =
    let n : o + c % 128 - o ≡ c % 128 = omega arith in
    rw (n, e)

module _ {t : Bool} {a d : List ℕ} {u : Bool} {r : List ℕ} {o : ℕ} {b : List ℕ} (s : Decoding t a d u r o b) where
  pub decoding-same : length b ≡ length d
  decoding-same = grown-same s.grown

  pub rest-fits : o + length (decode_from u r) ≤ length b
  rest-fits = omega (arith, decoding-same, grown-left s.grown (omega (arith, s.fits)))

  module _ {c : ℕ} {l : List ℕ} (e : r ≡ c ∷ l) (f : u ≡ true) where
    ran : decode_from u r ≡ run c ++ decode_from false l
    ran = rw (e, f) (decode-ran c l)

    pub run_room : o + c % 128 ≤ length b
    run_room = omega (arith, rest-fits, ap length ran, length-append (run c) (decode_from false l), length_run c)

    pub run-turn : {x : ℕ} {b' : List ℕ} → x ≡ run_byte c → b' ≡ pasted b o (replicate (o + c % 128 - o) x)
        → Decoding t a d false l (o + c % 128) b'
    run-turn {x} q v = record {
      grown =
          grown-piece s.grown (run c) (decode_from false l) ran (omega (arith, run_room, decoding-same, length_run c))
          (ap (λ (n : ℕ). o + n) (sym (length_run c))) (v ∙ ap (pasted b o) (run-as o c x q));
      fits = s.fits;
      ends = (let h : opened u r ≡ opened false l = rw (e, f) (opened-ran c l) in sym h ∙ s.ends);
    }

  pub open-turn : {x : ℕ} {l : List ℕ} → r ≡ x ∷ l → u ≡ false → x ≡ 255 → Decoding t a d true l o b
  open-turn {x} {l} e f q =
      let g : decode_from u r ≡ decode_from true l = rw (e, f) (decode-opens x l q) in
      let h : opened u r ≡ opened true l = rw (e, f) (opened-opens x l q) in
      record { grown = grown-as s.grown g; fits = s.fits; ends = sym h ∙ s.ends }

  module _ {x : ℕ} {l : List ℕ} (e : r ≡ x ∷ l) (f : u ≡ false) (q : x ≢ 255) where
    itself : decode_from u r ≡ x ∷ decode_from u l
    itself = rw (e, f) (decode-itself x l q)

    pub byte-room : o < length b
    byte-room = omega (arith, rest-fits, ap length itself)

    pub byte-turn : Decoding t a d u l (o + 1) (set b o x)
    byte-turn = record {
      grown = grown-byte s.grown x (decode_from u l) itself (omega (arith, byte-room, decoding-same));
      fits = s.fits;
      ends = (let h : opened u r ≡ opened u l = rw (e, f) (opened-itself x l q) in sym h ∙ s.ends);
    }

  module _ (p l : List ℕ) (e : decode_from u r ≡ p ++ decode_from u l) (f : opened u r ≡ opened u l) where
    pub piece-room : o + length p ≤ length b
    piece-room = omega (arith, rest-fits, ap length e, length-append p (decode_from u l))

    pub piece-turn : {b' : List ℕ} → b' ≡ pasted b o p → Decoding t a d u l (o + length p) b'
    piece-turn v = record {
      grown = grown-piece s.grown p (decode_from u l) e (omega (arith, piece-room, decoding-same)) refl v;
      fits = s.fits;
      ends = sym f ∙ s.ends;
    }

  module _ (k : ℕ) {f l : List ℕ} {v : Bool} (g : f ≡ take k r) (h : l ≡ drop k r) (q : v ≡ opened u f) where
    pub few-room : o + length (decode_from u f) ≤ length b
    few-room = omega (arith, rest-fits, ap length (few-next u r k g h q), length-append (decode_from u f) (decode_from v l))

    pub few-turn : {m : ℕ} {b' : List ℕ} → m ≡ length (decode_from u f) → b' ≡ pasted b o (decode_from u f) → Decoding t a d v l (o + m) b'
    few-turn e w = record {
      grown =
          grown-piece s.grown (decode_from u f) (decode_from v l) (few-next u r k g h q) (omega (arith, few-room, decoding-same))
          (ap (λ (n : ℕ). o + n) e) w;
      fits = s.fits;
      ends = sym (few-opened u r k g h q) ∙ s.ends;
    }

  pub decoding-all : r ≡ [] → b ≡ pasted d 0 (decode_from t a)
  decoding-all e = grown-all s.grown (rw e (decode-nothing u))

  pub decoding-len : r ≡ [] → o ≡ length (decode_from t a)
  decoding-len e = let g = grown-end s.grown (rw e (decode-nothing u)) in omega arith

  pub decoding-end : r ≡ [] → u ≡ opened t a
  decoding-end e = sym (opened-nothing u) ∙ ap (opened u) (sym e) ∙ s.ends

-- ---- the loops over all of the stored bytes

pub decode-begins : (s : List ℕ) → decode s ≡ decode_from false s
unfolding decode
decode-begins s = refl

pub none-left : (l : List ℕ) → length l ≡ 0 → l ≡ []
none-left [] h = refl
none-left (x ∷ l) h = absurd (omega arith)
