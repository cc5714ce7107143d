-- Laws of `pasted`: what is written byte by byte or piece by piece, one piece after the other, is one piece.
use mathlib.Core.Path.{◌≡◌, sym, ap, ◌∙◌, subst}
use mathlib.Core.List.{List, [], ◌∷◌, ◌++◌, append_assoc, append-nil}
use Prim.Native.Nat.{ℕ, suc, ◌+◌, ◌-◌, ◌<◌, ◌≤◌, min}
use native.Mathlib.Nat.{add-zero, zero-add}
use native.Mathlib.Numerals.{add-one}
use native.Mathlib.Omega.{arith}
use lib.ListN.{length, get_or, set, take, drop, length-append, length-drop, take-append-drop, drop_of_length-le}
use lib.Seq.{drop-append-le, drop-drop, take_at, drop_at, set_split, length-take-le, get_or-drop, take-suc, take_all, append_snoc, take-take}
use borrow.Rule.Slice.PartMut.{put_mid, mid_of, mid_len, Post-is}
use Rattle.lists.specs.Bytes.{AllBytes}
use Rattle.lists.specs.Pasted.{pasted}
use lib.Dec.{leb}
use borrow.Author.Tests.{leb-true, leb-false}
use Rattle.lists.proofs.Tests.{split}
use Rattle.lists.proofs.ListLaws.{every_append}
use Rattle.lists.proofs.ByteLaws.{every_take, every_drop}

pub pasted-none : (d : List ℕ) (at : ℕ) → d ≡ pasted d at []
unfolding pasted
pasted-none d at = sym (rw (add-zero at, append-nil (take at d)) (take-append-drop at d))

-- from the first byte
pub pasted-first : (d w : List ℕ) → pasted d 0 w ≡ w ++ drop (length w) d
unfolding pasted
pasted-first d w = rw (zero-add (length w))

module _ (d : List ℕ) (at : ℕ) (w : List ℕ) (room : at + length w ≤ length d) where
  pub head-length : length (take at d ++ w) ≡ at + length w
  head-length = length-append (take at d) w ∙ ap (λ (k : ℕ). k + length w) (length-take-le at d (omega arith))

  pub length-pasted : length (pasted d at w) ≡ length d
  unfolding pasted
  length-pasted = simp (length-append, length-drop, length-take-le at d (omega arith)) (omega arith)

  pub take-pasted : take (at + length w) (pasted d at w) ≡ take at d ++ w
  unfolding pasted
  take-pasted = take_at (take at d ++ w) (drop (at + length w) d) (at + length w) head-length

  pub drop-pasted : drop (at + length w) (pasted d at w) ≡ drop (at + length w) d
  unfolding pasted
  drop-pasted = drop_at (take at d ++ w) (drop (at + length w) d) (at + length w) head-length

  pub take-pasted-before : take at (pasted d at w) ≡ take at d
  unfolding pasted
  take-pasted-before = rw append_assoc (take_at (take at d) (w ++ drop (at + length w) d) at (length-take-le at d (omega arith)))

  pub drop-pasted-after : (j : ℕ) → at + length w ≤ j → drop j (pasted d at w) ≡ drop j d
  drop-pasted-after j h =
      let e : at + length w + (j - (at + length w)) ≡ j = omega arith in
      subst (λ (k : ℕ). drop k (pasted d at w) ≡ drop k d) e
      (sym (drop-drop (j - (at + length w)) (at + length w) (pasted d at w)) ∙ ap (drop (j - (at + length w))) drop-pasted
      ∙ drop-drop (j - (at + length w)) (at + length w) d)

  pub get_d_after : (j : ℕ) → at + length w ≤ j → get_or (pasted d at w) j 0 ≡ get_or d j 0
  get_d_after j h =
      ap (λ (k : ℕ). get_or (pasted d at w) k 0) (sym (add-zero j)) ∙ sym (get_or-drop j (pasted d at w) 0 0)
      ∙ ap (λ (l : List ℕ). get_or l 0 0) (drop-pasted-after j h) ∙ get_or-drop j d 0 0 ∙ ap (λ (k : ℕ). get_or d k 0) (add-zero j)

  -- a piece right after it
  pub pasted-more : (v : List ℕ) → at + length w + length v ≤ length d → pasted (pasted d at w) (at + length w) v ≡ pasted d at (w ++ v)
  unfolding pasted
  pasted-more v more =
      let e : at + length w + length v ≡ at + length (w ++ v) = omega (arith, length-append w v) in
      ap (λ (l : List ℕ). l ++ v ++ drop (at + length w + length v) (pasted d at w)) take-pasted
      ∙ ap (λ (l : List ℕ). take at d ++ w ++ v ++ l) (drop-pasted-after (at + length w + length v) (omega arith))
      ∙ ap (λ (k : ℕ). take at d ++ w ++ v ++ drop k d) e
      ∙ ap (λ (l : List ℕ). l ++ drop (at + length (w ++ v)) d) (append_assoc (take at d) w v)

  pub drop-pasted-at : drop at (pasted d at w) ≡ w ++ drop (at + length w) d
  unfolding pasted
  drop-pasted-at = rw append_assoc (drop_at (take at d) (w ++ drop (at + length w) d) at (length-take-le at d (omega arith)))

-- bytes written over bytes
pub bytes-pasted : (d : List ℕ) (at : ℕ) (w : List ℕ) → AllBytes d → AllBytes w → AllBytes (pasted d at w)
unfolding pasted
bytes-pasted d at w f g =
    every_append (λ b. b < 256) (take at d ++ w) (drop (at + length w) d)
    (every_append (λ b. b < 256) (take at d) w (every_take (λ b. b < 256) at d f) g) (every_drop (λ b. b < 256) (at + length w) d f)

-- one byte is a piece
pub set-pasted : (d : List ℕ) (i v : ℕ) → i < length d → set d i v ≡ pasted d i (v ∷ [])
unfolding pasted
set-pasted d i v h = set_split d i v h ∙ rw (add-one i) (sym (append_snoc (take i d) v (drop (suc i) d)))

-- one byte right after a piece
pub set_after : (d : List ℕ) (at : ℕ) (w : List ℕ) (i v : ℕ) → at + length w ≡ i → i < length d
    → set (pasted d at w) i v ≡ pasted d at (w ++ v ∷ [])
set_after d at w i v e h =
    let room : at + length w ≤ length d = omega arith in
    set-pasted (pasted d at w) i v (omega (arith, length-pasted d at w room))
    ∙ ap (λ (k : ℕ). pasted (pasted d at w) k (v ∷ [])) (sym e) ∙ pasted-more d at w room (v ∷ []) (omega arith)

-- a piece right before a piece
pub pasted-under : (d : List ℕ) (at : ℕ) (w v : List ℕ) → at + length w + length v ≤ length d → pasted (pasted d (at + length w) v) at w ≡ pasted d at (w ++ v)
unfolding pasted
pasted-under d at w v h =
    let e : at + length w + length v ≡ at + length (w ++ v) = omega (arith, length-append w v) in
    ap (λ (l : List ℕ). l ++ w ++ drop (at + length w) (pasted d (at + length w) v))
    (sym (take-take at (at + length w) (pasted d (at + length w) v) (omega arith)) ∙ ap (take at) (take-pasted-before d (at + length w) v h)
    ∙ take-take at (at + length w) d (omega arith))
    ∙ ap (λ (l : List ℕ). take at d ++ w ++ l) (drop-pasted-at d (at + length w) v h)
    ∙ sym (append_assoc (take at d ++ w) v (drop (at + length w + length v) d))
    ∙ ap (λ (k : ℕ). take at d ++ w ++ v ++ drop k d) e
    ∙ ap (λ (l : List ℕ). l ++ drop (at + length (w ++ v)) d) (append_assoc (take at d) w v)

-- a piece that reaches to the end
pub pasted-last : (d : List ℕ) (at : ℕ) (w : List ℕ) → length d ≤ at + length w → pasted d at w ≡ take at d ++ w
unfolding pasted
pasted-last d at w h = rw (drop_of_length-le d h) (append-nil (take at d ++ w))

-- what a lent part `&mut d[a..e]` leaves, where last is what the callee left in it
pub part-pasted : (d : List ℕ) (a e : ℕ) (last : List ℕ) → a ≤ e → e ≤ length d → length last ≡ e - a → put_mid a (e - a) d last ≡ pasted d a last
unfolding pasted
part-pasted d a e last h k n =
    let s : e ≡ a + length last = omega arith in
    ap (λ (l : List ℕ). take a d ++ (last ++ l)) (Post-is a e d h ∙ ap (λ (m : ℕ). drop m d) s)
    ∙ sym (append_assoc (take a d) last (drop (a + length last) d))

-- the byte of w at j, written to its offset i, after those before it
pub copy_step : (d : List ℕ) (at : ℕ) (w : List ℕ) (j i : ℕ) → at + j ≡ i → j < length w → i < length d
    → set (pasted d at (take j w)) i (get_or w j 0) ≡ pasted d at (take (j + 1) w)
copy_step d at w j i e h k =
    set_after d at (take j w) i (get_or w j 0) (omega (arith, length-take-le j w (omega arith))) k
    ∙ ap (pasted d at) (sym (take-suc w j 0 h) ∙ ap (λ (n : ℕ). take n w) (sym (add-one j)))

-- n bytes are as many as d and w both have
pub copied : (d w : List ℕ) (n : ℕ) → n ≡ min (length w) (length d) → take n w ++ drop n d ≡ pasted d 0 (take (length d) w)
copied d w n e =
    let m : length (take n w) ≡ n = length-take-le n w (omega arith) in
    let same : take n w ≡ take (length d) w =
    split (leb (length d) (length w))
    (λ t. ap (λ (k : ℕ). take k w) (omega (arith, leb-true (length d) (length w) t)))
    (λ t. let h = leb-false (length d) (length w) t in take_all n w (omega arith) ∙ sym (take_all (length d) w (omega arith))) in
    ap (λ (k : ℕ). take n w ++ drop k d) (sym m) ∙ sym (pasted-first d (take n w)) ∙ ap (pasted d 0) same

-- bytes over a slice that is just as long
pub copied-whole : (d w : List ℕ) → length d ≡ length w → pasted d 0 (take (length d) w) ≡ w
copied-whole d w e =
    sym (copied d w (length d) (omega arith)) ∙ ap (λ (l : List ℕ). l ++ drop (length d) d) (take_all (length d) w (omega arith))
    ∙ ap (λ (l : List ℕ). w ++ l) (drop_of_length-le d (omega arith)) ∙ append-nil w

-- w copied to the start of a lent part `&mut d[a..e]`
pub part-copied : (d : List ℕ) (a e : ℕ) (w last : List ℕ) → a ≤ e → e ≤ length d → length w ≤ e - a
    → last ≡ pasted (mid_of a (e - a) d) 0 (take (length (mid_of a (e - a) d)) w) → put_mid a (e - a) d last ≡ pasted d a w
unfolding pasted
part-copied d a e w last h k n q =
    let mid : List ℕ = mid_of a (e - a) d in
    let after : List ℕ = drop (e - a) (drop a d) in
    let m : length mid ≡ e - a = mid_len a e d k in
    let f : last ≡ w ++ drop (length w) mid = q ∙ ap (pasted mid 0) (take_all (length mid) w (omega arith)) ∙ pasted-first mid w in
    let g : drop (length w) mid ++ after ≡ drop (a + length w) d =
    sym (drop-append-le (length w) mid after (omega arith)) ∙ ap (drop (length w)) (take-append-drop (e - a) (drop a d)) ∙ drop-drop (length w) a d in
    ap (λ (l : List ℕ). take a d ++ (l ++ after)) f
    ∙ ap (λ (l : List ℕ). take a d ++ l) (append_assoc w (drop (length w) mid) after ∙ ap (λ (l : List ℕ). w ++ l) g)
    ∙ sym (append_assoc (take a d) w (drop (a + length w) d))
