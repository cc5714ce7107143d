-- Laws of `allowed_ahead`: the bytes before the first that a name may not hold, and that byte; the loop that looks for it; the check by it.
use Prim.Native.Nat.{ℕ, suc, ◌+◌, ◌<◌, ◌≤◌}
use mathlib.Core.Path.{◌≡◌, refl, sym, ap, ◌∙◌}
use mathlib.Core.Bool.{Bool, true, false, not, cond}
use mathlib.Core.List.{List, [], ◌∷◌}
use mathlib.Core.Logic.{◌≢◌, inl, inr}
use native.Mathlib.Omega.{arith}
use lib.Dec.{leb, ltb, eqb}
use Rattle.std.specs.Prelude.{position, unwrap_or}
use Rattle.std.specs.List.{position_or_len}
use Rattle.std.proofs.lemmas.List.Sums.{prefix_len-le-length, fails_before_first, passes_at_first}
use lib.ListN.{length, get_or}
use lib.Seq.{take_all}
use borrow.Author.Tests.{eq-eqb, ne_eqb, eqb-true, eqb-false, lt-ltb, le-ltb, ltb-true, ltb-false, leb-true, leb-false}
use Rattle.lists.proofs.Tests.{split, clash}
use Rattle.lists.proofs.ByteLaws.{every-before}
use Rattle.names.specs.Name.{name_byte, good, wrong, name_check}
use Rattle.names.specs.Rules.{NameByte, empty, byte}
use Rattle.names.specs.Helpers.{allowed_ahead, check_by_allowed}
use Rattle.names.proofs.NameLaws.{same_at, name-byte-exactly, check-good-exactly, check-wrong-exactly}

pub ahead_none : allowed_ahead [] ≡ 0
unfolding allowed_ahead
ahead_none = refl

pub ahead-here : (b : ℕ) (bs : List ℕ) → name_byte b ≡ false → allowed_ahead (b ∷ bs) ≡ 0
unfolding allowed_ahead
ahead-here b bs e = ap (λ (t : Bool). cond (not (not t)) (1 + allowed_ahead bs) 0) e

pub ahead-next : (b : ℕ) (bs : List ℕ) → name_byte b ≡ true → allowed_ahead (b ∷ bs) ≡ suc (allowed_ahead bs)
unfolding allowed_ahead
ahead-next b bs e =
    let g : allowed_ahead (b ∷ bs) ≡ 1 + allowed_ahead bs = ap (λ (t : Bool). cond (not (not t)) (1 + allowed_ahead bs) 0) e in
    omega (arith, g)

pub ahead-short : (l : List ℕ) → allowed_ahead l ≤ length l
unfolding allowed_ahead
ahead-short l = prefix_len-le-length _ l

not_true : (t : Bool) → not t ≡ false → t ≡ true
not_true true e = refl
not_true false e = cc

not_false : (t : Bool) → not t ≡ true → t ≡ false
not_false true e = cc
not_false false e = refl

-- the bytes before it are allowed
pub ahead_before : (l : List ℕ) (k : ℕ) → k < allowed_ahead l → name_byte (get_or l k 0) ≡ true
unfolding allowed_ahead
ahead_before l k h = not_true _ (fails_before_first (λ b. not (name_byte b)) l k 0 h)

-- the byte there is not
pub ahead-there : (l : List ℕ) → allowed_ahead l < length l → name_byte (get_or l (allowed_ahead l) 0) ≡ false
unfolding allowed_ahead
ahead-there l h = not_false _ (passes_at_first (λ b. not (name_byte b)) l 0 h)

-- the index of the first byte that is not allowed, or the length where there is none
pub ahead_found : (l : List ℕ) → unwrap_or (position (λ b. not (name_byte b)) l) (length l) ≡ allowed_ahead l
unfolding allowed_ahead
ahead_found l =
    let n = position_or_len (λ b. not (name_byte b)) l in
    split (ltb n (length l)) (λ t. rw t) (λ t. rw t (omega (arith, ltb-false n (length l) t, ahead-short l)))

-- ---- the check of a name, by the relations

none : (l : List ℕ) → length l ≤ 0 → l ≡ []
none [] h = refl
none (b ∷ bs) h = absurd (omega arith)

module _ (name : List ℕ) (n : ℕ) (e : n ≡ allowed_ahead name) where
  before : (k : ℕ) → k < n → NameByte (get_or name k 0)
  before k h = (name-byte-exactly (get_or name k 0)).0 (ahead_before name k (omega arith))

  there : n < length name → ¬ (NameByte (get_or name n 0))
  there l r = clash (cc ((name-byte-exactly (get_or name n 0)).1 r, ap (λ (m : ℕ). name_byte (get_or name m 0)) e, ahead-there name (omega arith)))

  check-31 : 31 < n → wrong 31 ≡ name_check name
  check-31 h = sym ((check-wrong-exactly name 31).1 (byte (omega (arith, ahead-short name)) (omega arith) (λ k l. before k (omega arith)) (inr refl)))

  check-there : n ≤ 31 → n < length name → wrong n ≡ name_check name
  check-there h l = sym ((check-wrong-exactly name n).1 (byte l h before (inl (there l))))

  check-empty : length name ≤ n → n ≡ 0 → wrong 0 ≡ name_check name
  check-empty l z = sym ((check-wrong-exactly name 0).1 (empty (none name (omega arith)) refl))

  check-kept : n ≤ 31 → length name ≤ n → n ≢ 0 → good ≡ name_check name
  check-kept h l z =
      let all = every-before NameByte name (length name) (omega arith) (λ k q. before k (omega arith)) in
      sym ((check-good-exactly name).1
      (record { least = omega (arith, ahead-short name); most = omega arith; each = rw (take_all (length name) name (omega arith)) at all }))

-- ---- the check by the allowed bytes at a name's start

module _ (n : ℕ) (whole : Bool) where
  pub allowed-long : 31 < n → wrong 31 ≡ check_by_allowed n whole
  unfolding check_by_allowed
  allowed-long h = rw (lt-ltb 31 n h)

  module _ (h : n ≤ 31) where
    pub allowed-none : n ≡ 0 → wrong 0 ≡ check_by_allowed n whole
    unfolding check_by_allowed
    allowed-none z = rw (le-ltb 31 n h, eq-eqb n 0 z)

    pub allowed-whole : n ≢ 0 → whole ≡ true → good ≡ check_by_allowed n whole
    unfolding check_by_allowed
    allowed-whole z t = rw (le-ltb 31 n h, ne_eqb n 0 z, t)

    pub allowed-part : n ≢ 0 → whole ≡ false → wrong n ≡ check_by_allowed n whole
    unfolding check_by_allowed
    allowed-part z t = rw (le-ltb 31 n h, ne_eqb n 0 z, t)

-- THE CHECK OF A NAME by the allowed bytes at its start, and whether it has others
pub check-by-allowed : (name : List ℕ) (n : ℕ) (whole : Bool) → n ≡ allowed_ahead name
    → (whole ≡ true → length name ≤ n) → (whole ≡ false → n < length name) → check_by_allowed n whole ≡ name_check name
check-by-allowed name n whole e f g =
    split (ltb 31 n)
    (λ t. sym (allowed-long n whole (ltb-true 31 n t)) ∙ check-31 name n e (ltb-true 31 n t))
    (λ t. let h = ltb-false 31 n t in
    split (eqb n 0) (λ u. sym (allowed-none n whole h (eqb-true n 0 u)) ∙ nothing h (eqb-true n 0 u)) (λ u. some h (eqb-false n 0 u)))
  where
    nothing : n ≤ 31 → n ≡ 0 → wrong 0 ≡ name_check name
    nothing h z =
        split whole
        (λ t. check-empty name n e (f t) z)
        (λ t. ap wrong (sym z) ∙ check-there name n e h (g t))

    some : n ≤ 31 → n ≢ 0 → check_by_allowed n whole ≡ name_check name
    some h z =
        split whole
        (λ t. sym (allowed-whole n whole h z t) ∙ check-kept name n e h (f t) z)
        (λ t. sym (allowed-part n whole h z t) ∙ check-there name n e h (g t))

-- so of a name whose bytes are looked at from the first
pub check-whole : (name : List ℕ) (n : ℕ) → n ≡ 0 + allowed_ahead name → check_by_allowed n (leb (length name) n) ≡ name_check name
check-whole name n e = check-by-allowed name n (leb (length name) n) (omega arith) (leb-true (length name) n) (leb-false (length name) n)

-- only a name that has no other byte is good
pub allowed-good : (n : ℕ) (whole : Bool) → good ≡ check_by_allowed n whole → whole ≡ true
unfolding check_by_allowed
allowed-good n true e = refl
allowed-good n false e = split (ltb 31 n) (λ t. clash (cc)) (λ t. split (eqb n 0) (λ u. clash (cc)) (λ u. clash (cc)))

-- an index that is answered is that of an allowed byte or of the one after them
pub allowed-index : (n : ℕ) (whole : Bool) (at : ℕ) → wrong at ≡ check_by_allowed n whole → at ≤ n
allowed-index n whole at e =
    split (ltb 31 n)
    (λ t. let q = e ∙ sym (allowed-long n whole (ltb-true 31 n t)) in let p : at ≡ 31 = same_at q in omega (arith, ltb-true 31 n t))
    (λ t. let h = ltb-false 31 n t in
    split (eqb n 0)
    (λ u. let q = e ∙ sym (allowed-none n whole h (eqb-true n 0 u)) in let p : at ≡ 0 = same_at q in omega arith)
    (λ u. split whole
    (λ v. let q = e ∙ sym (allowed-whole n whole h (eqb-false n 0 u) v) in clash (cc))
    (λ v. let q = e ∙ sym (allowed-part n whole h (eqb-false n 0 u) v) in let p : at ≡ n = same_at q in omega arith)))
