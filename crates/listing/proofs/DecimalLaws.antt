-- The digits of a number spell it, and no others without a leading zero do.
use Prim.Native.Nat.{ℕ, ◌+◌, ◌-◌, ◌*◌, ◌/◌, ◌%◌, ◌≤◌, ◌<◌}
use mathlib.Core.Path.{◌≡◌, sym, ap, subst, refl, ◌∙◌}
use mathlib.Core.Logic.{◌≢◌, ◌↔◌}
use mathlib.Core.List.{List, [], ◌∷◌, ◌++◌, append_assoc, append-nil}
use native.Mathlib.Nat.{zero-add}
use native.Mathlib.Omega.{arith}
use lib.Dec.{ltb}
use lib.ListN.{length, get_or, get_or-append}
use borrow.Author.Tests.{ltb-true, ltb-false}
use Rattle.lists.specs.Bytes.{Every}
use Rattle.lists.proofs.Tests.{split}
use Rattle.lists.proofs.ListLaws.{every_append}
use Rattle.listing.specs.Text.{decimal}
use Rattle.listing.specs.Rules.{Digit, number_from, number, Decimal}
use Rattle.listing.proofs.WordLaws.{by_digits, decimal_digit, decimal-more, length-digit, decimal-some}

number-last : (n : ℕ) (ds : List ℕ) (d : ℕ) → number_from n (ds ++ d ∷ []) ≡ number_from n ds * 10 + (d - 48)
unfolding number_from
number-last n [] d = refl
number-last n (x ∷ ds) d = number-last (n * 10 + (x - 48)) ds d

-- the digits, read back, give the number
pub decimal-value : (n : ℕ) → number (decimal n) ≡ n
unfolding number number_from
decimal-value =
    by_digits (λ n. number (decimal n) ≡ n) (λ n h. rw (decimal_digit n h) (omega arith))
    (λ n h e. rw (decimal-more n h) (number-last 0 (decimal (n / 10)) (48 + n % 10) ∙ rw e (omega arith)))

-- every byte is a digit
pub decimal-digits : (n : ℕ) → Every Digit (decimal n)
decimal-digits =
    by_digits (λ n. Every Digit (decimal n)) (λ n h. rw (decimal_digit n h) (record { least = omega arith; most = omega arith }, tt))
    (λ n h e. rw (decimal-more n h) (every_append Digit (decimal (n / 10)) ((48 + n % 10) ∷ []) e (record { least = omega arith; most = omega arith }, tt)))

-- no leading zero
pub decimal-first : (n : ℕ) → 0 < n → get_or (decimal n) 0 0 ≢ 0x30
decimal-first =
    by_digits (λ n. 0 < n → get_or (decimal n) 0 0 ≢ 0x30) (λ n h p. rw (decimal_digit n h) (λ e. omega arith))
    (λ n h ih p e. ih (omega arith) (sym (get_or-append (decimal (n / 10)) ((48 + n % 10) ∷ []) 0 0 (decimal-some (n / 10)))
    ∙ sym (ap (λ (l : List ℕ). get_or l 0 0) (decimal-more n h)) ∙ e))

pub decimal-spells : (n : ℕ) → Decimal n (decimal n)
decimal-spells n =
    record {
      some = decimal-some n;
      digits = decimal-digits n;
      first = λ l. decimal-first n (split (ltb n 10) (λ t. absurd (omega (arith, length-digit n (ltb-true n 10 t)))) (λ t. omega (arith, ltb-false n 10 t)));
      value = decimal-value n;
    }

-- digits after those of a number that is not 0 are the digits of the number that both spell
decimal-after : (m : ℕ) → 1 ≤ m → (ds : List ℕ) → Every Digit ds → decimal m ++ ds ≡ decimal (number_from m ds)
unfolding number_from
decimal-after m h [] e = append-nil (decimal m)
decimal-after m h (d ∷ ds) e =
    let k : ℕ = m * 10 + (d - 48) in
    let lo = e.0.least in
    let hi = e.0.most in
    let q : k / 10 ≡ m = omega arith in
    let r : 48 + k % 10 ≡ d = omega arith in
    let more : decimal k ≡ decimal m ++ d ∷ [] = decimal-more k (omega arith) ∙ (λ i. decimal (q i) ++ r i ∷ []) in
    sym (append_assoc (decimal m) (d ∷ []) ds) ∙ ap (λ (l : List ℕ). l ++ ds) (sym more) ∙ decimal-after k (omega arith) ds e.1

-- one digit is that of its value
digit_value : (d : ℕ) → Digit d → decimal (d - 48) ≡ d ∷ []
digit_value d g =
    let lo = g.least in
    let hi = g.most in
    let e : 48 + (d - 48) ≡ d = omega arith in
    decimal_digit (d - 48) (omega arith) ∙ ap (λ (x : ℕ). x ∷ []) e

spells-number : (ds : List ℕ) → 1 ≤ length ds → Every Digit ds → (2 ≤ length ds → get_or ds 0 0 ≢ 0x30) → decimal (number ds) ≡ ds
unfolding number number_from
spells-number [] l e f = absurd (omega arith)
spells-number (d ∷ []) l e f = rw (zero-add (d - 48)) (digit_value d e.0)
spells-number (d ∷ x ∷ xs) l e f =
    let lo = e.0.least in
    let n = f (omega arith) in
    rw (zero-add (d - 48)) (sym (decimal-after (d - 48) (omega arith) (x ∷ xs) e.1) ∙ ap (λ (w : List ℕ). w ++ x ∷ xs) (digit_value d e.0))

pub spells-decimal : {n : ℕ} {ds : List ℕ} → Decimal n ds → decimal n ≡ ds
spells-decimal {ds = ds} s = ap decimal (sym s.value) ∙ spells-number ds s.some s.digits s.first

-- A NUMBER IN DECIMAL exactly
pub decimal-exactly : (n : ℕ) (ds : List ℕ) → (decimal n ≡ ds) ↔ Decimal n ds
decimal-exactly n ds = (λ e. subst (Decimal n) e (decimal-spells n), spells-decimal)
