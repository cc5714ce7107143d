-- One byte more in front of a scan; the stored name as the bytes up to its `=`; and what its scan finds, by the check of these bytes.
use Prim.Native.Nat.{ℕ, ◌+◌, ◌≤◌, ◌<◌}
use mathlib.Core.Path.{◌≡◌, refl, sym, ap, ◌∙◌}
use mathlib.Core.List.{List, [], ◌∷◌, ◌++◌, append-nil}
use mathlib.Core.Logic.{◌≢◌, ◌⊎◌, inl, inr, ◌↔◌}
use native.Mathlib.Omega.{arith}
use lib.ListN.{length, get_or, drop, length-append, drop_of_length-le, get_or-append}
use lib.Dec.{eqb}
use lib.Seq.{drop_at, get_or-append-add}
use borrow.Author.Tests.{eqb-true, eqb-false, ne_eqb}
use Rattle.lists.specs.Bytes.{Every}
use Rattle.lists.proofs.Tests.{split, clash}
use Rattle.lists.proofs.ListLaws.{every_map}
use Rattle.lists.proofs.ByteLaws.{every-at}
use Rattle.names.specs.Name.{good, wrong, name_check}
use Rattle.names.specs.Rules.{NameByte, NameRule, FirstWrong}
use Rattle.names.proofs.NameLaws.{check-good-exactly, check-wrong-exactly, split-check}
use Rattle.pairs.specs.Scan.{Scan, ends, bad, short, and, stored_name, past_name, scan_name}
use Rattle.pairs.specs.Rules.{UpToEquals, by-equals, by_end}

-- ---- one byte more

pub and-ends : (b : ℕ) (s : Scan) (bs rest : List ℕ) → and b s ≡ ends bs rest → (t : List ℕ) × (bs ≡ b ∷ t) × (s ≡ ends t rest)
and-ends b (ends t r) bs rest e = (t, cc, cc)
and-ends b (bad k) bs rest e = clash (cc)
and-ends b short bs rest e = clash (cc)

pub and-short : (b : ℕ) (s : Scan) → and b s ≡ short → s ≡ short
and-short b (ends t r) e = clash (cc)
and-short b (bad k) e = clash (cc)
and-short b short e = refl

pub and-bad : (b : ℕ) (s : Scan) (k : ℕ) → and b s ≡ bad k → s ≡ bad k
and-bad b (ends t r) k e = clash (cc)
and-bad b (bad j) k e = e
and-bad b short k e = clash (cc)

pub bad-is : {i j : ℕ} → bad i ≡ bad j → j ≡ i
bad-is e = cc

-- ---- the bytes up to `=`

pub stored-none : stored_name [] ≡ []
unfolding stored_name
stored-none = refl

pub stored-equals : (bs : List ℕ) → stored_name (0x3D ∷ bs) ≡ []
unfolding stored_name
stored-equals bs = refl

pub stored_next : (b : ℕ) (bs : List ℕ) → b ≢ 0x3D → stored_name (b ∷ bs) ≡ b ∷ stored_name bs
unfolding stored_name
stored_next b bs h = rw (ne_eqb b 0x3D h, stored_name)

pub up_next : {name bs : List ℕ} (b : ℕ) → b ≢ 0x3D → UpToEquals name bs → UpToEquals (b ∷ name) (b ∷ bs)
up_next b h (by-equals {name = name} rest a) = by-equals {name = b ∷ name} rest (h, a)
up_next b h (by_end {name = name} a) = by_end {name = b ∷ name} (h, a)

stored-up : (bs : List ℕ) → UpToEquals (stored_name bs) bs
stored-up [] = rw stored-none (by_end {name = []} tt)
stored-up (b ∷ bs) =
    split (eqb b 0x3D)
    (λ t. rw (eqb-true b 0x3D t, stored-equals) (by-equals {name = []} bs tt))
    (λ t. let h = eqb-false b 0x3D t in rw (stored_next b bs h) (up_next b h (stored-up bs)))

stored-append : (name t : List ℕ) → Every (λ b. b ≢ 0x3D) name → stored_name (name ++ t) ≡ name ++ stored_name t
stored-append [] t a = refl
stored-append (b ∷ name) t a = stored_next b (name ++ t) a.0 ∙ ap (λ (l : List ℕ). b ∷ l) (stored-append name t a.1)

up-stored : {name bs : List ℕ} → UpToEquals name bs → stored_name bs ≡ name
up-stored (by-equals {name = name} rest a) =
    stored-append name (0x3D ∷ rest) a ∙ ap (λ (l : List ℕ). name ++ l) (stored-equals rest) ∙ append-nil name
up-stored (by_end {name = name} a) =
    ap stored_name (sym (append-nil name)) ∙ stored-append name [] a ∙ ap (λ (l : List ℕ). name ++ l) stored-none ∙ append-nil name

-- THE STORED NAME is the bytes up to the first `=`, or all
pub stored-exactly : (bs name : List ℕ) → (stored_name bs ≡ name) ↔ UpToEquals name bs
stored-exactly bs name = (λ e. rw (← e) (stored-up bs), up-stored)

-- it is the start of these bytes
pub up_start : {name bs : List ℕ} → UpToEquals name bs → (t : List ℕ) × (bs ≡ name ++ t)
up_start (by-equals rest a) = (0x3D ∷ rest, refl)
up_start (by_end {name = name} a) = ([], sym (append-nil name))

pub up-short : {name bs : List ℕ} → UpToEquals name bs → length name ≤ length bs
up-short {name} u = let s = up_start u in omega (arith, ap length s.1, length-append name s.0)

-- it holds no `=`
pub up-clean : {name bs : List ℕ} → UpToEquals name bs → Every (λ b. b ≢ 0x3D) name
up-clean (by-equals rest a) = a
up-clean (by_end a) = a

pub up-inside : {name bs : List ℕ} {k : ℕ} → UpToEquals name bs → k < length name → get_or bs k 0 ≢ 0x3D
up-inside {name} {bs} {k} u h =
    let s = up_start u in
    let e : get_or bs k 0 ≡ get_or name k 0 = ap (λ (l : List ℕ). get_or l k 0) s.1 ∙ get_or-append name s.0 0 k h in
    λ q. every-at (λ b. b ≢ 0x3D) name k h (up-clean u) (sym e ∙ q)

-- and is followed by one, or by nothing
pub up-after : {name bs : List ℕ} → UpToEquals name bs → (get_or bs (length name) 0 ≡ 0x3D) ⊎ (length bs ≡ length name)
up-after (by-equals {name = name} rest a) =
    let z : length name ≡ length name + 0 = omega arith in
    inl (ap (λ (k : ℕ). get_or (name ++ 0x3D ∷ rest) k 0) z ∙ get_or-append-add name (0x3D ∷ rest) 0 0)
up-after (by_end a) = inr refl

-- allowed bytes hold no `=`
no-equals : (name : List ℕ) → Every NameByte name → Every (λ b. b ≢ 0x3D) name
no-equals name a = every_map NameByte (λ b. b ≢ 0x3D) (λ b n. n.no-equals) name a

-- ---- the scan, by what the check finds

pub scan_good : (bs : List ℕ) → name_check (stored_name bs) ≡ good → scan_name bs ≡ past_name (stored_name bs) (drop (length (stored_name bs)) bs)
unfolding scan_name
scan_good bs c = rw c

pub scan-wrong : (bs : List ℕ) (i : ℕ) → name_check (stored_name bs) ≡ wrong i → scan_name bs ≡ bad i
unfolding scan_name
scan-wrong bs i c = rw c

good-scan : {name bs : List ℕ} → UpToEquals name bs → NameRule name → scan_name bs ≡ past_name name (drop (length name) bs)
good-scan {name} {bs} u r =
    let e = up-stored u in
    scan_good bs (ap name_check e ∙ (check-good-exactly name).1 r) ∙ ap (λ (l : List ℕ). past_name l (drop (length l) bs)) e

-- A GOOD NAME IS FOUND WHOLE
pub scan-name : {name : List ℕ} (rest : List ℕ) → NameRule name → scan_name (name ++ 0x3D ∷ rest) ≡ ends name rest
scan-name {name} rest r =
    good-scan (by-equals rest (no-equals name r.each)) r ∙ ap (past_name name) (drop_at name (0x3D ∷ rest) (length name) refl)

-- A GOOD NAME WITHOUT `=` is cut off
pub cut-scan : {name : List ℕ} → NameRule name → scan_name name ≡ short
cut-scan {name} r =
    good-scan (by_end (no-equals name r.each)) r ∙ ap (past_name name) (drop_of_length-le name {i = length name} (omega arith))

-- A WRONG NAME is wrong where a caller's is
pub wrong-scan : {name bs : List ℕ} {i : ℕ} → UpToEquals name bs → FirstWrong name i → scan_name bs ≡ bad i
wrong-scan {name} {bs} {i} u w = scan-wrong bs i (ap name_check (up-stored u) ∙ (check-wrong-exactly name i).1 w)

-- what a scan of a name finds
pub data ScannedName : List ℕ → Scan → Type 0 where
  a-name : {name : List ℕ} (rest : List ℕ) → NameRule name → ScannedName (name ++ 0x3D ∷ rest) (ends name rest)
  a-wrong : {name bs : List ℕ} {i : ℕ} → UpToEquals name bs → FirstWrong name i → ScannedName bs (bad i)
  a-cut : {name : List ℕ} → NameRule name → ScannedName name short

scanned-good : {name bs : List ℕ} → UpToEquals name bs → NameRule name → ScannedName bs (scan_name bs)
scanned-good (by-equals rest a) r = rw (scan-name rest r) (a-name rest r)
scanned-good (by_end a) r = rw (cut-scan r) (a-cut r)

-- AND NOTHING ELSE is found
pub scanned-name : (bs : List ℕ) → ScannedName bs (scan_name bs)
scanned-name bs =
    split-check (name_check (stored_name bs))
    (λ e. scanned-good (stored-up bs) ((check-good-exactly (stored_name bs)).0 e))
    (λ i e. rw (scan-wrong bs i e) (a-wrong (stored-up bs) ((check-wrong-exactly (stored_name bs) i).0 e)))

pub name-scan : (bs name rest : List ℕ) → scan_name bs ≡ ends name rest → (bs ≡ name ++ 0x3D ∷ rest) × NameRule name
name-scan bs name rest e = go (scanned-name bs) e
  where
    go : {s : List ℕ} {x : Scan} → ScannedName s x → x ≡ ends name rest → (s ≡ name ++ 0x3D ∷ rest) × NameRule name
    go (a-name {name = n} t r) q =
        let f : n ≡ name = cc in
        let g : t ≡ rest = cc in
        ((λ i. f i ++ 0x3D ∷ g i), rw f at r)
    go (a-wrong u w) q = clash (cc)
    go (a-cut r) q = clash (cc)
