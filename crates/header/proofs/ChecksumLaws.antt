-- The checksum for all bytes: its closed form, and two folds of the plain sum.
use Prim.Native.Nat.{ℕ, zero, suc, ◌+◌, ◌-◌, ◌*◌, ◌/◌, ◌%◌, ◌≤◌, ◌<◌}
use mathlib.Core.Path.{◌≡◌, ap, refl, sym, ◌∙◌}
use mathlib.Core.List.{List, [], ◌∷◌}
use mathlib.Core.Logic.{◌≢◌, ◌↔◌}
use native.Mathlib.Omega.{arith}
use native.Mathlib.Decide.{dec_le}
use lib.ListN.{length, replicate}
use borrow.Author.Tests.{le-leb, lt-leb}
use Rattle.lists.specs.Bytes.{Every, AllBytes}
use Rattle.lists.proofs.ListLaws.{every-replicate}
use Rattle.header.specs.declared.Header.{Header}
use Rattle.header.specs.Header.{covered_bytes}
use Rattle.header.specs.Checksum.{add_carry, sum_from, sumcheck, sum, closed_form, fold}

-- one byte more, by whether a carry leaves the byte
carry : (c b : ℕ) (d : Dec (256 ≤ c + b)) (n : ℕ) → (256 ≤ c + b → c + b - 255 ≡ n) → (c + b < 256 → c + b ≡ n) → add_carry c b ≡ n
carry c b (yes h) n f g = rw (le-leb _ _ h) (f h)
carry c b (no h) n f g = let l : c + b < 256 = omega arith in rw (lt-leb _ _ l) (g l)

closed-add : (s b : ℕ) → b < 256 → add_carry (closed_form s) b ≡ closed_form (s + b)
unfolding closed_form
closed-add zero zero h = refl
closed-add zero (suc k) h =
    let e : 0 + suc k ≡ suc k = omega arith in
    carry 0 (suc k) (dec_le _ _) _ (λ g. absurd (omega arith)) (λ l. omega arith) ∙ ap closed_form (sym e)
closed-add (suc m) b h =
    let e : suc (m + b) ≡ suc m + b = omega arith in
    carry (m % 255 + 1) b (dec_le _ _) ((m + b) % 255 + 1) (λ g. omega arith) (λ l. omega arith) ∙ ap closed_form e

sum-closed : (s : ℕ) (bs : List ℕ) → AllBytes bs → sum_from (closed_form s) bs ≡ closed_form (s + sum bs)
unfolding sum_from sum
sum-closed s [] a = let e : s ≡ s + 0 = omega arith in ap closed_form e
sum-closed s (b ∷ bs) a =
    let e : s + b + sum bs ≡ s + (b + sum bs) = omega arith in
    ap (λ (c : ℕ). sum_from c bs) (closed-add s b a.0) ∙ sum-closed (s + b) bs a.1 ∙ ap closed_form e

-- 0 where the sum is 0, else one more than the sum less 1 modulo 255
pub closed-form : (bs : List ℕ) → AllBytes bs → sumcheck bs ≡ closed_form (sum bs)
unfolding closed_form
closed-form bs a = let e : 0 + sum bs ≡ sum bs = omega arith in sum-closed 0 bs a ∙ ap closed_form e

sum-of-zeros : (bs : List ℕ) → Every (λ b. b ≡ 0) bs → sum bs ≡ 0
unfolding sum
sum-of-zeros [] z = refl
sum-of-zeros (b ∷ bs) z = omega (arith, z.0, sum-of-zeros bs z.1)

zeros-of-sum : (bs : List ℕ) → sum bs ≡ 0 → Every (λ b. b ≡ 0) bs
unfolding sum
zeros-of-sum [] e = tt
zeros-of-sum (b ∷ bs) e = (omega arith, zeros-of-sum bs (omega arith))

closed_none : (s : ℕ) → closed_form s ≡ 0 → s ≡ 0
unfolding closed_form
closed_none zero e = refl
closed_none (suc m) e = absurd (omega arith)

-- the closed form is 0 only where every byte is zero
pub closed-zeros : (bs : List ℕ) → closed_form (sum bs) ≡ 0 → Every (λ b. b ≡ 0) bs
closed-zeros bs e = zeros-of-sum bs (closed_none (sum bs) e)

-- 0 comes out exactly where every covered byte is zero
pub zero-exactly : (bs : List ℕ) → AllBytes bs → (sumcheck bs ≡ 0) ↔ Every (λ b. b ≡ 0) bs
unfolding closed_form
zero-exactly bs a = (
  λ e. closed-zeros bs (sym (closed-form bs a) ∙ e),
  λ z. closed-form bs a ∙ ap closed_form (sum-of-zeros bs z),
)

-- the checksum of a header of 1 to 65,535 blocks is not zero, since a byte of the length is covered and is not zero
pub header-nonzero : (h : Header) → h.signature < 256 → AllBytes h.name → h.length.0 ≢ 0 → h.length.0 ≤ 65535
    → sumcheck (covered_bytes h) ≢ 0
header-nonzero h l a n m e =
    let z = (zero-exactly (covered_bytes h) (l, (omega arith, (omega arith, a)))).0 e in
    n (omega (arith, z.1.0, z.1.1.0))

-- a fold leaves a number without a carry as it is
pub fold-no-carry : (s : ℕ) → s < 256 → fold s ≡ s
fold-no-carry s h = omega arith

-- two folds of a number of 16 bits leave no carry
pub folds-byte : (s : ℕ) → s < 65536 → fold (fold s) < 256
folds-byte s h = omega arith

-- two folds of a number of 16 bits are its closed form
folds-closed : (s : ℕ) → s < 65536 → fold (fold s) ≡ closed_form s
unfolding closed_form
folds-closed zero h = refl
folds-closed (suc m) h = omega arith

pub sum_bound : (bs : List ℕ) → AllBytes bs → sum bs ≤ 255 * length bs
unfolding sum
sum_bound [] a = omega arith
sum_bound (b ∷ bs) a = omega (arith, a.0, sum_bound bs a.1)

-- TWO FOLDS of the plain sum of any fifteen bytes leave no carry, and are their checksum
pub two-folds : (bs : List ℕ) → AllBytes bs → length bs ≡ 15 → (fold (fold (sum bs)) < 256) × (fold (fold (sum bs)) ≡ sumcheck bs)
two-folds bs a n =
    let l : sum bs < 65536 = omega (arith, sum_bound bs a) in
    (folds-byte (sum bs) l, folds-closed (sum bs) l ∙ sym (closed-form bs a))

-- fifteen bytes with the plain sum 511
abbrev pub carry_left : List ℕ
carry_left = 0xFF ∷ 0xFF ∷ 0x01 ∷ replicate 12 0x00

-- ONE FOLD IS NOT ENOUGH for them: it leaves a carry, and their checksum is 1
pub one-fold-not-enough : AllBytes carry_left × (length carry_left ≡ 15) × (fold (sum carry_left) ≡ 256) × (sumcheck carry_left ≡ 1)
unfolding sum sum_from
one-fold-not-enough =
    ((omega arith, (omega arith, (omega arith, every-replicate (λ b. b < 256) 12 0x00 (omega arith)))), refl, refl, refl)

-- two folds of the plain sum of a header's fields
pub sum-covered : (h : Header) → h.signature < 256 → AllBytes h.name → length h.name ≡ 12 → (n s r : ℕ)
    → n ≡ sum h.name → s ≡ h.signature → r ≡ fold (fold (n + s + h.length.0 / 256 % 256 + h.length.0 % 256))
    → r ≡ sumcheck (covered_bytes h)
unfolding sum
sum-covered h l a t n s r en es er =
    let e : n + s + h.length.0 / 256 % 256 + h.length.0 % 256 ≡ sum (covered_bytes h) = omega arith in
    er ∙ ap (λ (m : ℕ). fold (fold m)) e ∙ (two-folds (covered_bytes h) (l, (omega arith, (omega arith, a))) (omega arith)).1
