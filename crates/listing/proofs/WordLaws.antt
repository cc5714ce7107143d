-- Laws of the text's words: numbers in decimal and hex, names, lines, and the text of a refused image.
use Prim.Native.Nat.{ℕ, zero, suc, ◌+◌, ◌*◌, ◌/◌, ◌%◌, ◌^◌, ◌≤◌, ◌<◌}
use mathlib.Core.Path.{◌≡◌, refl, sym, ap, ◌∙◌}
use mathlib.Core.Bool.{◌&&◌, cond, not}
use mathlib.Core.List.{List, [], ◌∷◌, ◌++◌, append_assoc}
use native.Mathlib.Nat.{one-le-pow}
use native.Mathlib.Numerals.{add-one}
use native.Mathlib.Omega.{arith}
use lib.Dec.{eqb, leb, ltb}
use lib.ListN.{length, get_or, drop, length-append, drop_of_length-le}
use lib.Seq.{drop-cons}
use borrow.Author.Tests.{eq-eqb, ne_eqb, ltb-true, ltb-false, lt-ltb, le-ltb, le-leb, lt-leb}
use Rattle.std.specs.List.{prefix_len}
use Rattle.lists.proofs.Tests.{split}
use Rattle.header.specs.declared.Header.{Header}
use Rattle.header.specs.Header.{name_at, header_at}
use Rattle.header.proofs.RuleLaws.{name-read, name-length}
use Rattle.errors.specs.declared.Error.{Error}
use Rattle.errors.specs.Errors.{code_of, offset_of}
use Rattle.partitions.specs.declared.Partition.{Partition}
use Rattle.partitions.specs.Walk.{broken}
use Rattle.listing.specs.Words.{refused_word, at_word}
use Rattle.listing.specs.Text.{decimal_from, decimal, hex_digit, hex_byte, visible, shown_name, line, text_by}

-- any two bounds that suffice give the same digits
enough : (f g n : ℕ) → n ≤ f → n ≤ g → decimal_from f n ≡ decimal_from g n
unfolding decimal_from
enough zero zero n hf hg = refl
enough zero (suc g) n hf hg = let z : n ≡ 0 = omega arith in rw z
enough (suc f) zero n hf hg = let z : n ≡ 0 = omega arith in rw z
enough (suc f) (suc g) n hf hg =
    split (ltb n 10) (λ t. rw (t, decimal_from))
    (λ t. rw (t, decimal_from) (rw (enough f g (n / 10) (omega (arith, ltb-false n 10 t)) (omega (arith, ltb-false n 10 t)))))

pub decimal_digit : (n : ℕ) → n < 10 → decimal n ≡ (48 + n) ∷ []
unfolding decimal decimal_from
decimal_digit zero h = refl
decimal_digit (suc n) h = rw (lt-ltb (suc n) 10 h, decimal_from)

pub decimal-more : (n : ℕ) → 10 ≤ n → decimal n ≡ decimal (n / 10) ++ (48 + n % 10) ∷ []
unfolding decimal decimal_from
decimal-more zero h = absurd (omega arith)
decimal-more (suc n) h =
    rw (le-ltb (suc n) 10 h, decimal_from) (rw (enough n (suc n / 10) (suc n / 10) (omega arith) (omega arith)))

pub length-digit : (n : ℕ) → n < 10 → length (decimal n) ≡ 1
length-digit n h = ap length (decimal_digit n h)

pub length_more : (n : ℕ) → 10 ≤ n → length (decimal n) ≡ length (decimal (n / 10)) + 1
length_more n h = ap length (decimal-more n h) ∙ length-append (decimal (n / 10)) ((48 + n % 10) ∷ [])

-- what holds of one digit, and of a number where it holds of its tenth, holds of every number
pub by_digits : (P : ℕ → Type 0) → ((n : ℕ) → n < 10 → P n) → ((n : ℕ) → 10 ≤ n → P (n / 10) → P n) → (n : ℕ) → P n
by_digits P one more n = go n n (omega arith)
  where
    go : (f m : ℕ) → m ≤ f → P m
    go zero m h = one m (omega arith)
    go (suc f) m h =
        split (ltb m 10) (λ t. one m (ltb-true m 10 t))
        (λ t. let l : 10 ≤ m = ltb-false m 10 t in more m l (go f (m / 10) (omega arith)))

-- it has a digit
pub decimal-some : (n : ℕ) → 1 ≤ length (decimal n)
decimal-some =
    by_digits (λ n. 1 ≤ length (decimal n)) (λ n h. rw (decimal_digit n h) (omega arith))
    (λ n h e. rw (decimal-more n h, length-append) (omega arith))

-- a number from 10 ^ k to below 10 ^ (k + 1) has k + 1 digits
pub decimal-power : (k n : ℕ) → 10 ^ k ≤ n → n < 10 * 10 ^ k → length (decimal n) ≡ k + 1
decimal-power zero n l h = length-digit n (omega arith)
decimal-power (suc k) n l h =
    let p = one-le-pow k 10 (omega arith) in
    omega (arith, length_more n (omega arith), decimal-power k (n / 10) (omega arith) (omega arith))

-- a number below 10 ^ k has at most k digits
pub decimal-within : (k n : ℕ) → n < 10 ^ suc k → length (decimal n) ≤ suc k
decimal-within zero n h = rw (decimal_digit n (omega arith)) (omega arith)
decimal-within (suc k) n h =
    split (ltb n 10) (λ t. rw (decimal_digit n (ltb-true n 10 t)) (omega arith))
    (λ t. let l : 10 ≤ n = ltb-false n 10 t in
    rw (decimal-more n l, length-append) (omega (arith, decimal-within k (n / 10) (omega arith))))

pub hex-low : (n : ℕ) → n < 10 → 48 + n ≡ hex_digit n
unfolding hex_digit
hex-low n h = rw (lt-ltb n 10 h)

pub hex-high : (n : ℕ) → 10 ≤ n → 55 + n ≡ hex_digit n
unfolding hex_digit
hex-high n h = rw (le-ltb n 10 h)

-- a byte between two bounds, below them and above them
between : (lo hi b other : ℕ) → lo ≤ b → b ≤ hi → b ≡ cond (leb lo b && leb b hi) b other
between lo hi b other h k = rw (le-leb lo b h, le-leb b hi k)

under : (lo hi b other : ℕ) → b < lo → other ≡ cond (leb lo b && leb b hi) b other
under lo hi b other h = rw (lt-leb lo b h)

over : (lo hi b other : ℕ) → lo ≤ b → hi < b → other ≡ cond (leb lo b && leb b hi) b other
over lo hi b other h k = rw (le-leb lo b h, lt-leb b hi k)

pub visible-below : (b : ℕ) → b < 0x21 → 0x3F ≡ visible b
unfolding visible
visible-below b h = under _ _ b 0x3F (omega arith)

pub visible-above : (b : ℕ) → 0x21 ≤ b → 0x7E < b → 0x3F ≡ visible b
unfolding visible
visible-above b h k = over _ _ b 0x3F (omega arith) (omega arith)

pub visible-between : (b : ℕ) → 0x21 ≤ b → b ≤ 0x7E → b ≡ visible b
unfolding visible
visible-between b h k = between _ _ b 0x3F (omega arith) (omega arith)

module _ (name : List ℕ) (i : ℕ) where
  pub name-byte : i < length name → (get_or name i 0 ≡ 0 → ⊥) → shown_name (drop i name) ≡ visible (get_or name i 0) ∷ shown_name (drop (i + 1) name)
  unfolding shown_name
  name-byte h n = rw (add-one, drop-cons name i 0 h, ne_eqb _ _ n, shown_name)

  pub name-zero : i < length name → get_or name i 0 ≡ 0 → shown_name (drop i name) ≡ []
  unfolding shown_name
  name-zero h z = rw (drop-cons name i 0 h, eq-eqb _ _ z, shown_name)

  pub name-end : length name ≤ i → shown_name (drop i name) ≡ []
  unfolding shown_name
  name-end h = rw (drop_of_length-le name h)

-- as many bytes are shown as stand before the first 0x00
pub shown_length : (name : List ℕ) → prefix_len (λ b. not (eqb b 0)) name ≡ length (shown_name name)
unfolding shown_name
shown_length [] = refl
shown_length (b ∷ bs) =
    split (eqb b 0) (λ t. rw (t, shown_name)) (λ t. rw (t, shown_name) (ap (λ n. 1 + n) (shown_length bs) ∙ omega arith))

pub name-within : (name : List ℕ) → length (shown_name name) ≤ length name
unfolding shown_name
name-within [] = omega arith
name-within (b ∷ bs) =
    split (eqb b 0) (λ t. rw (t, shown_name) (omega arith)) (λ t. rw (t, shown_name) (omega (arith, name-within bs)))

-- each byte that is shown is that of the name
pub name-shown : (name : List ℕ) (i : ℕ) → i < length (shown_name name) → visible (get_or name i 0) ≡ get_or (shown_name name) i 0
unfolding shown_name
name-shown [] i h = absurd (omega arith)
name-shown (b ∷ bs) zero h =
    split (eqb b 0) (λ t. let q = rw (t, shown_name) at h in absurd (omega arith)) (λ t. rw (t, shown_name))
name-shown (b ∷ bs) (suc i) h =
    split (eqb b 0) (λ t. let q = rw (t, shown_name) at h in absurd (omega arith))
    (λ t. let q = rw (t, shown_name) at h in rw (t, shown_name) (name-shown bs i (omega arith)))

-- the name of a header that is read
read_name : (image : List ℕ) (at : ℕ) (h : Header) → h ≡ header_at image at → h.name ≡ name_at image at
read_name image at h e = (λ i. (e i).name) ∙ name-read image at

pub name_twelve : (image : List ℕ) (at : ℕ) → length (shown_name (header_at image at).name) ≤ 12
name_twelve image at = rw (name-read image at) (omega (arith, name-within (name_at image at), name-length image at))

-- the bytes of a line
pub line_length : (image : List ℕ) (p : Partition)
    → length (line image p) ≡ length (decimal p.offset) + length (decimal p.blocks.0) + length (shown_name (header_at image p.offset).name) + 6
unfolding line hex_byte
line_length image p = rw (name-read image p.offset) (simp length-append (omega arith))

-- what a line takes, and its pieces
pub ruleset line_lengths = (line_length, length-append)

-- with at most five digits in each number a line has at most 28 bytes
pub line-within : (image : List ℕ) (p : Partition) → p.offset < 100_000 → p.blocks.0 < 100_000 → length (line image p) ≤ 28
line-within image p o b =
    omega (arith, line_length image p, decimal-within 4 p.offset o, decimal-within 4 p.blocks.0 b, name_twelve image p.offset)

-- a line without its end, piece by piece
abbrev pub line_words : Partition → List ℕ → List ℕ
line_words p name =
    (decimal p.offset ++ 0x20 ∷ []) ++ (decimal p.blocks.0 ++ 0x20 ∷ []) ++ hex_byte p.signature ++ 0x20 ∷ [] ++ name

pub line-words : (image : List ℕ) (p : Partition) (h : Header) → h ≡ header_at image p.offset → line_words p (shown_name h.name) ++ 0x0A ∷ [] ≡ line image p
unfolding line
line-words image p h e = rw (read_name image p.offset h e) (simp append_assoc)

-- the text of a refused image
module _ (e : Error) (c o : ℕ) (ec : c ≡ code_of e) (eo : o ≡ offset_of e) where
  pub refused-pieces : refused_word ++ decimal c ++ at_word ++ decimal o ++ 0x0A ∷ [] ≡ text_by [] (broken e)
  unfolding text_by
  refused-pieces = rw (ec, eo)

  pub refused-length : length (text_by [] (broken e)) ≡ length (decimal c) + length (decimal o) + 13
  refused-length = sym (ap length refused-pieces) ∙ simp length-append (omega arith)
