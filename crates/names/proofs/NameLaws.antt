-- The laws of a variable's name: the definitions that compute, against the rules.
use Prim.Native.Nat.{ℕ, zero, suc, ◌+◌, ◌≤◌, ◌<◌}
use mathlib.Core.Path.{◌≡◌, refl, sym, ap, ◌∙◌, subst}
use mathlib.Core.Bool.{true, false, cond, ◌&&◌}
use mathlib.Core.List.{List, [], ◌∷◌}
use mathlib.Core.Logic.{◌≢◌, ◌⊎◌, inl, inr, ◌↔◌}
use native.Mathlib.Omega.{arith}
use lib.ListN.{length, get_or}
use lib.Dec.{leb, ltb, eqb}
use borrow.Author.Tests.{eqb-true, eqb-false, ne_eqb, ltb-true, ltb-false, lt-ltb, le-ltb, leb-true, le-leb}
use Rattle.lists.specs.Bytes.{Every}
use Rattle.lists.proofs.Tests.{split, clash}
use Rattle.std.specs.Prelude.{Ok, Err}
use Rattle.names.specs.Name.{within, name_byte, NameCheck, good, wrong, on_check, name_check_from, name_check}
use Rattle.names.specs.Rules.{NameByte, NameRule, FirstWrong, empty, byte}

-- two checks that find a fault at an index find it at the same one
pub same_at : {i j : ℕ} → wrong i ≡ wrong j → i ≡ j
same_at e = ap (λ (c : NameCheck). on_check c 0 (λ at. at)) e

not_so : {A : Type 0} → false ≡ true → A
not_so e = clash (cc)

-- ---- a byte

byte-rule : (b : ℕ) → name_byte b ≡ true → NameByte b
unfolding name_byte
byte-rule b h = record {
  least = split (leb 33 b) (λ t. leb-true 33 b t) (λ t. clash (cc));
  most = split (leb b 126) (λ t. leb-true b 126 t) (λ t. split (leb 33 b) (λ u. clash (cc)) (λ u. clash (cc)));
  no-capital = λ k. split (leb 33 b && leb b 126) (λ u. clash (cc (le-leb 65 b k.0, le-leb b 90 k.1))) (λ u. clash (cc));
  no_slash = λ q. not_so (rw q at h);
  no-backslash = λ q. not_so (rw q at h);
  no-colon = λ q. not_so (rw q at h);
  no-opening = λ q. not_so (rw q at h);
  no-closing = λ q. not_so (rw q at h);
  no-at = λ q. not_so (rw q at h);
  no-equals = λ q. not_so (rw q at h);
}

no-capital-false : (b : ℕ) → NameByte b → within 65 90 b ≡ false
no-capital-false b r =
    split (leb 65 b) (λ t. split (leb b 90) (λ u. absurd (r.no-capital (leb-true 65 b t, leb-true b 90 u))) (λ u. cc)) (λ t. cc)

rule-byte : (b : ℕ) → NameByte b → name_byte b ≡ true
unfolding name_byte
rule-byte b r =
    rw (
      le-leb 33 b r.least,
      le-leb b 126 r.most,
      no-capital-false b r,
      ne_eqb b 47 r.no_slash,
      ne_eqb b 92 r.no-backslash,
      ne_eqb b 58 r.no-colon,
      ne_eqb b 91 r.no-opening,
      ne_eqb b 93 r.no-closing,
      ne_eqb b 64 r.no-at,
      ne_eqb b 61 r.no-equals,
    )

-- THE RULE OF A BYTE
pub name-byte-exactly : (b : ℕ) → (name_byte b ≡ true) ↔ NameByte b
name-byte-exactly b = (byte-rule b, rule-byte b)

pub name-not-zero : {b : ℕ} → NameByte b → b ≢ 0x00
name-not-zero n = λ e. omega (arith, n.least)

pub not_byte : (b : ℕ) → ¬ (NameByte b) → name_byte b ≡ false
not_byte b h = split (name_byte b) (λ t. absurd (h (byte-rule b t))) (λ t. t)

-- how many bytes below b are allowed
abbrev pub allowed_below : ℕ → ℕ
allowed_below zero = 0
allowed_below (suc b) = cond (name_byte b) 1 0 + allowed_below b

-- THE COUNT: exactly 61 of the 256 bytes
pub sixty-one : allowed_below 256 ≡ 61
unfolding name_byte
sixty-one = refl

-- ---- one step of a check

check-none : (i : ℕ) → i ≢ 0 → name_check_from i [] ≡ good
unfolding name_check_from
check-none i h = rw (ne_eqb i 0 h)

check-long : (i b : ℕ) (bs : List ℕ) → 31 ≤ i → name_check_from i (b ∷ bs) ≡ wrong i
unfolding name_check_from
check-long i b bs h = rw (le-ltb i 31 h)

check-next : (i b : ℕ) (bs : List ℕ) → i < 31 → name_byte b ≡ true → name_check_from i (b ∷ bs) ≡ name_check_from (i + 1) bs
unfolding name_check_from
check-next i b bs h e = rw (lt-ltb i 31 h, e)

check-refused : (i b : ℕ) (bs : List ℕ) → name_byte b ≡ false → name_check_from i (b ∷ bs) ≡ wrong i
unfolding name_check_from
check-refused i b bs e = split (ltb i 31) (λ t. rw (t, e)) (λ t. rw t)

-- ---- the name that is good

good-from : (i : ℕ) (bs : List ℕ) → i ≤ 31 → 1 ≤ i + length bs → i + length bs ≤ 31 → Every NameByte bs → name_check_from i bs ≡ good
good-from i [] h lo hi r = check-none i (omega arith)
good-from i (b ∷ bs) h lo hi r =
    check-next i b bs (omega arith) (rule-byte b r.0) ∙ good-from (i + 1) bs (omega arith) (omega arith) (omega arith) r.1

-- what a check that found nothing wrong has shown
record Kept (i : ℕ) (bs : List ℕ) : Type 0 where
  some : 1 ≤ i + length bs
  fits : i + length bs ≤ 31
  all : Every NameByte bs

kept_from : (i : ℕ) (bs : List ℕ) → i ≤ 31 → name_check_from i bs ≡ good → Kept i bs
unfolding name_check_from
kept_from i [] h e = split (eqb i 0) (λ t. clash (cc)) (λ t. record { some = omega (arith, eqb-false i 0 t); fits = omega arith; all = tt })
kept_from i (b ∷ bs) h e =
    split (ltb i 31)
    (λ t. split (name_byte b)
    (λ u. let k = kept_from (i + 1) bs (omega (arith, ltb-true i 31 t)) (sym (check-next i b bs (ltb-true i 31 t) u) ∙ e) in
    record { some = omega arith; fits = omega (arith, k.fits); all = (byte-rule b u, k.all) })
    (λ u. clash (cc)))
    (λ t. clash (cc))

-- A NAME IS GOOD exactly when it keeps the rule
pub check-good-exactly : (name : List ℕ) → (name_check name ≡ good) ↔ NameRule name
unfolding name_check
check-good-exactly name = (
  λ e. let k = kept_from 0 name (omega arith) e in record { least = omega (arith, k.some); most = omega (arith, k.fits); each = k.all },
  λ r. good-from 0 name (omega arith) (omega (arith, r.least)) (omega (arith, r.most)) r.each,
)

-- a case split on a check that keeps the equation
pub split-check : {A : Type 0} (c : NameCheck) → (c ≡ good → A) → ((at : ℕ) → c ≡ wrong at → A) → A
split-check (Ok _) f g = f refl
split-check (Err fault) f g = g fault.at refl

-- a check that finds something wrong is of a name that breaks the rule
check-wrong : {name : List ℕ} {at : ℕ} → name_check name ≡ wrong at → ¬ (NameRule name)
check-wrong {name} e r = clash (cc ((check-good-exactly name).1 r))

-- ---- the name that is wrong

-- the byte k of bs, whose first byte has index j, is the first wrong one
record WrongAt (j : ℕ) (bs : List ℕ) (k : ℕ) : Type 0 where
  inside : k < length bs
  most : j + k ≤ 31
  before : (m : ℕ) → m < k → NameByte (get_or bs m 0)
  there : (¬ (NameByte (get_or bs k 0))) ⊎ (j + k ≡ 31)

wrong-there : (j b : ℕ) (bs : List ℕ) → (¬ (NameByte b)) ⊎ (j + 0 ≡ 31) → name_check_from j (b ∷ bs) ≡ wrong j
wrong-there j b bs (inl n) = check-refused j b bs (not_byte b n)
wrong-there j b bs (inr e) = check-long j b bs (omega arith)

there-as : (b m n : ℕ) → m ≡ n → (¬ (NameByte b)) ⊎ (m ≡ 31) → (¬ (NameByte b)) ⊎ (n ≡ 31)
there-as b m n e (inl q) = inl q
there-as b m n e (inr q) = inr (omega arith)

wrong-from : (j : ℕ) (bs : List ℕ) (k : ℕ) → WrongAt j bs k → name_check_from j bs ≡ wrong (j + k)
wrong-from j [] k w = absurd (omega (arith, w.inside))
wrong-from j (b ∷ bs) zero w = let e : j ≡ j + 0 = omega arith in wrong-there j b bs w.there ∙ ap wrong e
wrong-from j (b ∷ bs) (suc k) w =
    let e : j + 1 + k ≡ j + suc k = omega arith in
    let next : WrongAt (j + 1) bs k = record {
      inside = omega (arith, w.inside);
      most = omega (arith, w.most);
      before = λ m h. w.before (suc m) (omega arith);
      there = there-as (get_or bs k 0) (j + suc k) (j + 1 + k) (omega arith) w.there;
    } in
    check-next j b bs (omega (arith, w.most)) (rule-byte b (w.before 0 (omega arith))) ∙ wrong-from (j + 1) bs k next ∙ ap wrong e

-- the byte of index i is the first wrong one, or there is none and i is 0
data Breaks (j : ℕ) (bs : List ℕ) (i : ℕ) : Type 0 where
  none : j ≡ 0 → bs ≡ [] → i ≡ 0 → Breaks j bs i
  some : (k : ℕ) → j + k ≡ i → WrongAt j bs k → Breaks j bs i

one_more : (b : ℕ) (bs : List ℕ) (k : ℕ) → NameByte b → ((m : ℕ) → m < k → NameByte (get_or bs m 0))
    → (m : ℕ) → m < suc k → NameByte (get_or (b ∷ bs) m 0)
one_more b bs k n f zero h = n
one_more b bs k n f (suc m) h = f m (omega arith)

breaks-next : (j b : ℕ) (bs : List ℕ) (i : ℕ) → NameByte b → Breaks (j + 1) bs i → Breaks j (b ∷ bs) i
breaks-next j b bs i n (none e f g) = absurd (omega arith)
breaks-next j b bs i n (some k e w) = some (suc k) (omega arith) (record {
  inside = omega (arith, w.inside);
  most = omega (arith, w.most);
  before = one_more b bs k n w.before;
  there = there-as (get_or bs k 0) (j + 1 + k) (j + suc k) (omega arith) w.there;
})

breaks-here : (j b : ℕ) (bs : List ℕ) (i : ℕ) → j ≤ 31 → wrong j ≡ wrong i → (¬ (NameByte b)) ⊎ (j + 0 ≡ 31) → Breaks j (b ∷ bs) i
breaks-here j b bs i h e q =
    let f : j ≡ i = same_at e in
    some 0 (omega arith) (record { inside = omega arith; most = omega arith; before = λ m l. absurd (omega arith); there = q })

breaks-from : (j : ℕ) (bs : List ℕ) (i : ℕ) → j ≤ 31 → name_check_from j bs ≡ wrong i → Breaks j bs i
unfolding name_check_from
breaks-from j [] i h e =
    split (eqb j 0)
    (λ t. let f : wrong 0 ≡ wrong i = cc in let g : 0 ≡ i = same_at f in none (eqb-true j 0 t) refl (sym g))
    (λ t. clash (cc))
breaks-from j (b ∷ bs) i h e =
    split (ltb j 31)
    (λ t. split (name_byte b)
    (λ u. breaks-next j b bs i (byte-rule b u)
    (breaks-from (j + 1) bs i (omega (arith, ltb-true j 31 t)) (sym (check-next j b bs (ltb-true j 31 t) u) ∙ e)))
    (λ u. breaks-here j b bs i h (sym (check-refused j b bs u) ∙ e) (inl (λ n. not_so (sym u ∙ rule-byte b n)))))
    (λ t. breaks-here j b bs i h (sym (check-long j b bs (ltb-false j 31 t)) ∙ e) (inr (omega (arith, ltb-false j 31 t))))

first-wrong : (name : List ℕ) (i : ℕ) → Breaks 0 name i → FirstWrong name i
first-wrong name i (none e f g) = empty f g
first-wrong name i (some k e w) =
    let q : k ≡ i = omega arith in
    subst (FirstWrong name) q
    (byte w.inside (omega (arith, w.most)) w.before (there-as (get_or name k 0) (0 + k) k (omega arith) w.there))

wrong_first : (name : List ℕ) (i : ℕ) → FirstWrong name i → name_check_from 0 name ≡ wrong i
unfolding name_check_from
wrong_first name i (empty e f) = rw (e, f)
wrong_first name i (byte h l before q) =
    let e : 0 + i ≡ i = omega arith in
    wrong-from 0 name i (record { inside = h; most = omega arith; before = before; there = there-as (get_or name i 0) i (0 + i) (omega arith) q }) ∙ ap wrong e

-- A NAME IS WRONG AT AN INDEX exactly when it breaks the rule there first
pub check-wrong-exactly : (name : List ℕ) (i : ℕ) → (name_check name ≡ wrong i) ↔ FirstWrong name i
unfolding name_check
check-wrong-exactly name i = (λ e. first-wrong name i (breaks-from 0 name i (omega arith) e), wrong_first name i)

-- A NAME IS WRONG SOMEWHERE exactly when it breaks the rule
pub wrong-somewhere : (name : List ℕ) → ((i : ℕ) × FirstWrong name i) ↔ (¬ (NameRule name))
wrong-somewhere name = (
  λ w. check-wrong ((check-wrong-exactly name w.0).1 w.1),
  λ n. split-check (name_check name) (λ e. absurd (n ((check-good-exactly name).0 e))) (λ i e. (i, (check-wrong-exactly name i).0 e)),
)

-- AND AT ONE INDEX
pub wrong-at-one : {name : List ℕ} {i j : ℕ} → FirstWrong name i → FirstWrong name j → i ≡ j
wrong-at-one {name} {i} {j} v w =
    same_at (sym ((check-wrong-exactly name i).1 v) ∙ (check-wrong-exactly name j).1 w)

pub wrong-most : {name : List ℕ} {i : ℕ} → FirstWrong name i → i ≤ 31
wrong-most (empty e f) = omega arith
wrong-most (byte h l before q) = l

pub wrong-inside : {name : List ℕ} {i : ℕ} → FirstWrong name i → i ≤ length name
wrong-inside (empty e f) = omega arith
wrong-inside (byte h l before q) = omega arith
