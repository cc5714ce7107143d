-- What the edits make of pairs: good pairs stay good, the others keep their places, and none but a set takes more room.
use Prim.Native.Nat.{ℕ, zero, suc, ◌+◌, ◌-◌, ◌≤◌, ◌<◌}
use mathlib.Core.Path.{◌≡◌, refl, sym, ap, ◌∙◌}
use mathlib.Core.Bool.{true, false}
use mathlib.Core.List.{List, [], ◌∷◌, ◌++◌}
use mathlib.Core.Logic.{◌≢◌, ◌↔◌}
use native.Mathlib.Omega.{arith}
use lib.ListN.{length, replicate, length-append, length-replicate}
use Rattle.lists.specs.Bytes.{Every, AllBytes, same_bytes, stands}
use Rattle.lists.proofs.Tests.{split, clash}
use Rattle.lists.proofs.ListLaws.{every_append, every-replicate, every_map}
use Rattle.lists.proofs.ByteLaws.{same_refl, same_true, same_false}
use Rattle.names.specs.Rules.{NameByte, NameRule}
use Rattle.values.specs.Value.{decode}
use Rattle.values.proofs.DecodeLaws.{spells-exactly, bytes-decode}
use Rattle.values.proofs.EncodeLaws.{decode-encode, encode-again, spelled-encode, bytes-encode, encode-shortest}
use Rattle.values.proofs.ShortLaws.{recode-short}
use Rattle.pairs.specs.Area.{Pair, pair_of, pair_bytes, pairs_bytes, parsed, parse}
use Rattle.variables.specs.Edits.{area_bytes, canonical_pair, set_pair, remove_pair, normalize_pairs, found, missing, lookup}
use Rattle.pairs.proofs.ParseLaws.{Good, none, more, length_pairs, area-reads, bytes-pairs}
use Rattle.lists.proofs.StandsLaws.{stands-none, stands-not, not-stands, stands-first}
use Rattle.pairs.proofs.StandsLaws.{names, good-unseen}

-- ---- the area that is written

pub area-is : (n : ℕ) (ps : List Pair) → area_bytes n ps ≡ pairs_bytes ps ++ 0x00 ∷ replicate (n - (length (pairs_bytes ps) + 1)) 0x00
unfolding area_bytes
area-is n ps = refl

pub length-area : (n : ℕ) (ps : List Pair) → length (pairs_bytes ps) + 1 ≤ n → length (area_bytes n ps) ≡ n
unfolding area_bytes
length-area n ps h =
    omega (
      arith,
      length-append (pairs_bytes ps) (0x00 ∷ replicate (n - (length (pairs_bytes ps) + 1)) 0x00),
      length-replicate {A = ℕ} (n - (length (pairs_bytes ps) + 1)) 0x00,
    )

pub parse-area : {ps : List Pair} (n : ℕ) → Good [] ps → parse (area_bytes n ps) ≡ parsed ps
unfolding area_bytes
parse-area {ps} n g = area-reads (replicate (n - (length (pairs_bytes ps) + 1)) 0x00) g

-- the ending 0x00 is the first of the zeros
pub zeros-first : (n : ℕ) → 1 ≤ n → replicate {A = ℕ} n 0x00 ≡ 0x00 ∷ replicate (n - 1) 0x00
zeros-first zero h = absurd (omega arith)
zeros-first (suc n) h = let e : n ≡ suc n - 1 = omega arith in ap (λ (k : ℕ). 0x00 ∷ replicate k 0x00) e

-- an area by its pairs and zeros
pub area-zeros : (n : ℕ) (ps : List Pair) → length (pairs_bytes ps) + 1 ≤ n → pairs_bytes ps ++ replicate (n - length (pairs_bytes ps)) 0x00 ≡ area_bytes n ps
unfolding area_bytes
area-zeros n ps h =
    let e : n - length (pairs_bytes ps) - 1 ≡ n - (length (pairs_bytes ps) + 1) = omega arith in
    ap (λ (l : List ℕ). pairs_bytes ps ++ l)
    (zeros-first (n - length (pairs_bytes ps)) (omega arith) ∙ ap (λ (k : ℕ). 0x00 ∷ replicate k 0x00) e)

-- ---- the pair of a name, and those before it and after it

pub data Place (name : List ℕ) : List Pair → Type 0 where
  there : (before : List Pair) (p : Pair) (after : List Pair) → stands name (names before) ≡ false → name ≡ p.name → Place name (before ++ p ∷ after)
  nowhere : {ps : List Pair} → stands name (names ps) ≡ false → Place name ps

next_place : {name : List ℕ} {ps : List Pair} (q : Pair) → same_bytes name q.name ≡ false → Place name ps → Place name (q ∷ ps)
next_place {name} q t (there before p after h e) = there (q ∷ before) p after (not-stands name q.name (names before) t h) e
next_place {name} {ps} q t (nowhere h) = nowhere (not-stands name q.name (names ps) t h)

pub place : (name : List ℕ) (ps : List Pair) → Place name ps
place name [] = nowhere (stands-none name)
place name (p ∷ ps) =
    split (same_bytes name p.name)
    (λ t. there [] p ps (stands-none name) (same_true name p.name t))
    (λ t. next_place p t (place name ps))

-- no pairs
pub set-none : (name value : List ℕ) → set_pair name value [] ≡ canonical_pair name value ∷ []
unfolding set_pair
set-none name value = refl

pub remove-none : (name : List ℕ) → remove_pair name [] ≡ []
unfolding remove_pair
remove-none name = refl

pub lookup-none : (name : List ℕ) → lookup name [] ≡ missing
unfolding lookup
lookup-none name = refl

pub normalize-none : normalize_pairs [] ≡ []
unfolding normalize_pairs
normalize-none = refl

pub normalize-more : (p : Pair) (ps : List Pair) → normalize_pairs (p ∷ ps) ≡ canonical_pair p.name (decode p.stored) ∷ normalize_pairs ps
unfolding normalize_pairs
normalize-more p ps = refl

-- the first pair has the name
module _ (name : List ℕ) (p : Pair) (ps : List Pair) (t : same_bytes name p.name ≡ true) where
  pub set_first : (value : List ℕ) → set_pair name value (p ∷ ps) ≡ canonical_pair name value ∷ ps
  unfolding set_pair
  set_first value = rw (t, set_pair)

  pub remove_first : remove_pair name (p ∷ ps) ≡ ps
  unfolding remove_pair
  remove_first = rw (t, remove_pair)

  pub lookup_first : lookup name (p ∷ ps) ≡ found (decode p.stored)
  unfolding lookup
  lookup_first = rw (t, lookup)

-- the first pair has another
module _ (name : List ℕ) (p : Pair) (ps : List Pair) (t : same_bytes name p.name ≡ false) where
  pub set_next : (value : List ℕ) → set_pair name value (p ∷ ps) ≡ p ∷ set_pair name value ps
  unfolding set_pair
  set_next value = rw (t, set_pair)

  pub remove-next : remove_pair name (p ∷ ps) ≡ p ∷ remove_pair name ps
  unfolding remove_pair
  remove-next = rw (t, remove_pair)

  pub lookup-next : lookup name (p ∷ ps) ≡ lookup name ps
  unfolding lookup
  lookup-next = rw (t, lookup)

same-as : {name other : List ℕ} → name ≡ other → same_bytes name other ≡ true
same-as {name} e = ap (same_bytes name) (sym e) ∙ same_refl name

-- THE OTHERS KEEP THEIR PLACES
pub set_there : {name : List ℕ} (value : List ℕ) (before : List Pair) (p : Pair) (after : List Pair) → stands name (names before) ≡ false → name ≡ p.name
    → set_pair name value (before ++ p ∷ after) ≡ before ++ canonical_pair name value ∷ after
set_there {name} value [] p after h e = set_first name p after (same-as e) value
set_there {name} value (q ∷ before) p after h e =
    let s = stands-not name q.name (names before) h in
    set_next name q (before ++ p ∷ after) s.0 value ∙ ap (λ (l : List Pair). q ∷ l) (set_there value before p after s.1 e)

pub set-nowhere : (name value : List ℕ) (ps : List Pair) → stands name (names ps) ≡ false → set_pair name value ps ≡ ps ++ canonical_pair name value ∷ []
unfolding set_pair
set-nowhere name value [] h = refl
set-nowhere name value (p ∷ ps) h =
    let s = stands-not name p.name (names ps) h in
    set_next name p ps s.0 value ∙ ap (λ (l : List Pair). p ∷ l) (set-nowhere name value ps s.1)

pub remove-there : {name : List ℕ} (before : List Pair) (p : Pair) (after : List Pair) → stands name (names before) ≡ false → name ≡ p.name
    → remove_pair name (before ++ p ∷ after) ≡ before ++ after
remove-there {name} [] p after h e = remove_first name p after (same-as e)
remove-there {name} (q ∷ before) p after h e =
    let s = stands-not name q.name (names before) h in
    remove-next name q (before ++ p ∷ after) s.0 ∙ ap (λ (l : List Pair). q ∷ l) (remove-there before p after s.1 e)

pub remove-nowhere : (name : List ℕ) (ps : List Pair) → stands name (names ps) ≡ false → remove_pair name ps ≡ ps
unfolding remove_pair
remove-nowhere name [] h = refl
remove-nowhere name (p ∷ ps) h =
    let s = stands-not name p.name (names ps) h in
    remove-next name p ps s.0 ∙ ap (λ (l : List Pair). p ∷ l) (remove-nowhere name ps s.1)

pub names-normalize : (ps : List Pair) → names (normalize_pairs ps) ≡ names ps
unfolding normalize_pairs
names-normalize [] = refl
names-normalize (p ∷ ps) = ap (λ (l : List (List ℕ)). p.name ∷ l) (names-normalize ps)

-- ---- good pairs stay good

pub good-set : {seen : List (List ℕ)} {ps : List Pair} {name : List ℕ} (value : List ℕ) → NameRule name → stands name seen ≡ false → Good seen ps
    → Good seen (set_pair name value ps)
unfolding set_pair
good-set value n s none = more n (spelled-encode value) s none
good-set {name = name} value n s (more {seen = seen} {p = p} {ps = ps} np vp sp g) =
    split (same_bytes name p.name)
    (λ t. rw (set_first name p ps t value) (more n (spelled-encode value) s (rw (← same_true name p.name t) at g)))
    (λ t. rw (set_next name p ps t value) (more np vp sp (good-set value n (not-stands name p.name seen t s) g)))

-- fewer names were seen
pub good-fewer : {seen fewer : List (List ℕ)} {ps : List Pair} → ((n : List ℕ) → stands n seen ≡ false → stands n fewer ≡ false) → Good seen ps
    → Good fewer ps
good-fewer f none = none
good-fewer {fewer = fewer} f (more {seen = seen} {p = p} n v s g) =
    more n v (f p.name s)
    (good-fewer (λ m e. let q = stands-not m p.name seen e in not-stands m p.name fewer q.0 (f m q.1)) g)

pub good-remove : {seen : List (List ℕ)} {ps : List Pair} (name : List ℕ) → Good seen ps → Good seen (remove_pair name ps)
unfolding remove_pair
good-remove name none = none
good-remove name (more {seen = seen} {p = p} {ps = ps} n v s g) =
    split (same_bytes name p.name)
    (λ t. rw (remove_first name p ps t) (good-fewer (λ m e. (stands-not m p.name seen e).1) g))
    (λ t. rw (remove-next name p ps t) (more n v s (good-remove name g)))

pub good-normalize : {seen : List (List ℕ)} {ps : List Pair} → Good seen ps → Good seen (normalize_pairs ps)
unfolding normalize_pairs
good-normalize none = none
good-normalize (more {p = p} n v s g) = more n (spelled-encode (decode p.stored)) s (good-normalize g)

-- ---- room

pub remove-room : (name : List ℕ) (ps : List Pair) → length (pairs_bytes (remove_pair name ps)) ≤ length (pairs_bytes ps)
unfolding remove_pair
remove-room name [] = omega arith
remove-room name (p ∷ ps) =
    split (same_bytes name p.name)
    (λ t. rw (remove_first name p ps t) (omega (arith, length_pairs p ps)))
    (λ t. rw (remove-next name p ps t) (omega (arith, length_pairs p ps, length_pairs p (remove_pair name ps), remove-room name ps)))

-- ---- bytes stay bytes

name-bytes : (name : List ℕ) → Every NameByte name → AllBytes name
name-bytes name h = every_map NameByte (λ b. b < 256) (λ b n. omega (arith, n.most)) name h

bytes-more : (p : Pair) (ps : List Pair) → NameRule p.name → AllBytes p.stored → AllBytes (pairs_bytes ps) → AllBytes (pairs_bytes (p ∷ ps))
unfolding pairs_bytes pair_bytes
bytes-more p ps n s h =
    every_append (λ b. b < 256) (pair_bytes p) (pairs_bytes ps)
    (every_append (λ b. b < 256) p.name (0x3D ∷ (p.stored ++ 0x00 ∷ [])) (name-bytes p.name n.each)
    (omega arith, every_append (λ b. b < 256) p.stored (0x00 ∷ []) s (omega arith, tt))) h

pub bytes-set : {seen : List (List ℕ)} {ps : List Pair} {name : List ℕ} (value : List ℕ) → NameRule name → AllBytes value → Good seen ps
    → AllBytes (pairs_bytes ps) → AllBytes (pairs_bytes (set_pair name value ps))
unfolding set_pair
bytes-set {name = name} value n v none h = bytes-more (canonical_pair name value) [] n (bytes-encode value v) h
bytes-set {name = name} value n v (more {p = p} {ps = ps} np vp sp g) h =
    let b = bytes-pairs p ps h in
    split (same_bytes name p.name)
    (λ t. rw (set_first name p ps t value) (bytes-more (canonical_pair name value) ps n (bytes-encode value v) b.1))
    (λ t. rw (set_next name p ps t value) (bytes-more p (set_pair name value ps) np b.0 (bytes-set value n v g b.1)))

pub bytes-remove : {seen : List (List ℕ)} {ps : List Pair} (name : List ℕ) → Good seen ps → AllBytes (pairs_bytes ps)
    → AllBytes (pairs_bytes (remove_pair name ps))
unfolding remove_pair
bytes-remove name none h = h
bytes-remove name (more {p = p} {ps = ps} n v s g) h =
    let b = bytes-pairs p ps h in
    split (same_bytes name p.name)
    (λ t. rw (remove_first name p ps t) b.1)
    (λ t. rw (remove-next name p ps t) (bytes-more p (remove_pair name ps) n b.0 (bytes-remove name g b.1)))

pub bytes-normalize : {seen : List (List ℕ)} {ps : List Pair} → Good seen ps → AllBytes (pairs_bytes ps) → AllBytes (pairs_bytes (normalize_pairs ps))
unfolding normalize_pairs
bytes-normalize none h = h
bytes-normalize (more {p = p} {ps = ps} n v s g) h =
    let b = bytes-pairs p ps h in
    bytes-more (canonical_pair p.name (decode p.stored)) (normalize_pairs ps) n (bytes-encode (decode p.stored) (bytes-decode p.stored b.0))
    (bytes-normalize g b.1)

pub bytes-area : (n : ℕ) (ps : List Pair) → AllBytes (pairs_bytes ps) → AllBytes (area_bytes n ps)
unfolding area_bytes
bytes-area n ps h =
    every_append (λ b. b < 256) (pairs_bytes ps) (0x00 ∷ replicate (n - (length (pairs_bytes ps) + 1)) 0x00) h
    (omega arith, every-replicate (λ b. b < 256) (n - (length (pairs_bytes ps) + 1)) 0x00 (omega arith))

-- NORMALIZING NEVER TAKES MORE ROOM
pub normalize-room : {seen : List (List ℕ)} {ps : List Pair} → Good seen ps → AllBytes (pairs_bytes ps)
    → length (pairs_bytes (normalize_pairs ps)) ≤ length (pairs_bytes ps)
unfolding normalize_pairs
normalize-room none h = omega arith
normalize-room (more {p = p} {ps = ps} n v s g) h =
    let b = bytes-pairs p ps h in
    let w = (spells-exactly p.stored (decode p.stored) b.0).1 (v, refl) in
    let q : Pair = canonical_pair p.name (decode p.stored) in
    omega (arith, length_pairs p ps, length_pairs q (normalize_pairs ps), encode-shortest w, normalize-room g b.1)

-- ---- values

-- TWICE IS ONCE
pub normalize-twice : (ps : List Pair) → normalize_pairs (normalize_pairs ps) ≡ normalize_pairs ps
unfolding normalize_pairs
normalize-twice [] = refl
normalize-twice (p ∷ ps) = λ i. pair_of p.name (encode-again (decode p.stored) i) ∷ normalize-twice ps i

pub lookup-normalize : (name : List ℕ) (ps : List Pair) → lookup name (normalize_pairs ps) ≡ lookup name ps
unfolding normalize_pairs
lookup-normalize name [] = refl
lookup-normalize name (p ∷ ps) =
    let q : Pair = canonical_pair p.name (decode p.stored) in
    split (same_bytes name p.name)
    (λ t. lookup_first name q (normalize_pairs ps) t ∙ ap found (decode-encode (decode p.stored)) ∙ sym (lookup_first name p ps t))
    (λ t. lookup-next name q (normalize_pairs ps) t ∙ lookup-normalize name ps ∙ sym (lookup-next name p ps t))

-- A SET GIVES THE VALUE BACK
pub lookup-set : (name value : List ℕ) (ps : List Pair) → lookup name (set_pair name value ps) ≡ found value
unfolding set_pair
lookup-set name value [] = lookup_first name (canonical_pair name value) [] (same_refl name) ∙ ap found (decode-encode value)
lookup-set name value (p ∷ ps) =
    split (same_bytes name p.name)
    (λ t. ap (lookup name) (set_first name p ps t value) ∙ lookup_first name (canonical_pair name value) ps (same_refl name) ∙ ap found (decode-encode value))
    (λ t. ap (lookup name) (set_next name p ps t value) ∙ lookup-next name p (set_pair name value ps) t ∙ lookup-set name value ps)

module _ (name other : List ℕ) (apart : other ≢ name) where
  -- where one pair has the name, its value is not the other's
  passed : (p : Pair) (ps : List Pair) → same_bytes name p.name ≡ true → lookup other (p ∷ ps) ≡ lookup other ps
  passed p ps t = lookup-next other p ps (same_false other p.name (λ e. apart (e ∙ sym (same_true name p.name t))))

  ahead : (p : Pair) (ps qs : List Pair) → lookup other ps ≡ lookup other qs → lookup other (p ∷ ps) ≡ lookup other (p ∷ qs)
  ahead p ps qs e =
      split (same_bytes other p.name)
      (λ t. lookup_first other p ps t ∙ sym (lookup_first other p qs t))
      (λ t. lookup-next other p ps t ∙ e ∙ sym (lookup-next other p qs t))

  pub lookup-set-other : (value : List ℕ) (ps : List Pair) → lookup other (set_pair name value ps) ≡ lookup other ps
  unfolding set_pair
  lookup-set-other value [] = passed (canonical_pair name value) [] (same_refl name)
  lookup-set-other value (p ∷ ps) =
      split (same_bytes name p.name)
      (λ t. ap (lookup other) (set_first name p ps t value) ∙ passed (canonical_pair name value) ps (same_refl name) ∙ sym (passed p ps t))
      (λ t. ap (lookup other) (set_next name p ps t value) ∙ ahead p (set_pair name value ps) ps (lookup-set-other value ps))

  pub lookup-remove-other : (ps : List Pair) → lookup other (remove_pair name ps) ≡ lookup other ps
  unfolding remove_pair
  lookup-remove-other [] = refl
  lookup-remove-other (p ∷ ps) =
      split (same_bytes name p.name)
      (λ t. ap (lookup other) (remove_first name p ps t) ∙ sym (passed p ps t))
      (λ t. ap (lookup other) (remove-next name p ps t) ∙ ahead p (remove_pair name ps) ps (lookup-remove-other ps))

lookup-missing : (name : List ℕ) (ps : List Pair) → stands name (names ps) ≡ false → lookup name ps ≡ missing
unfolding lookup
lookup-missing name [] h = refl
lookup-missing name (p ∷ ps) h =
    let s = stands-not name p.name (names ps) h in
    lookup-next name p ps s.0 ∙ lookup-missing name ps s.1

missing-lookup : (name : List ℕ) (ps : List Pair) → lookup name ps ≡ missing → stands name (names ps) ≡ false
missing-lookup name [] h = stands-none name
missing-lookup name (p ∷ ps) h =
    split (same_bytes name p.name)
    (λ t. clash (cc (lookup_first name p ps t)))
    (λ t. not-stands name p.name (names ps) t (missing-lookup name ps (sym (lookup-next name p ps t) ∙ h)))

-- MISSING is what stands nowhere
pub lookup-missing-exactly : (name : List ℕ) (ps : List Pair) → (lookup name ps ≡ missing) ↔ (stands name (names ps) ≡ false)
lookup-missing-exactly name ps = (missing-lookup name ps, lookup-missing name ps)

-- A REMOVAL TAKES THE VARIABLE OUT
pub lookup-remove : {seen : List (List ℕ)} {ps : List Pair} (name : List ℕ) → Good seen ps → lookup name (remove_pair name ps) ≡ missing
unfolding remove_pair lookup
lookup-remove name none = refl
lookup-remove name (more {seen = seen} {p = p} {ps = ps} n v s g) =
    split (same_bytes name p.name)
    (λ t. ap (lookup name) (remove_first name p ps t) ∙ lookup-missing name ps (good-unseen name g (stands-first name p.name seen t)))
    (λ t. ap (lookup name) (remove-next name p ps t) ∙ lookup-next name p (remove_pair name ps) t ∙ lookup-remove name g)

-- ---- normalized pairs

-- an edit of normalized pairs is the edit normalized
pub normalize-set : (name value : List ℕ) (ps : List Pair) → normalize_pairs (set_pair name value ps) ≡ set_pair name value (normalize_pairs ps)
unfolding set_pair normalize_pairs
normalize-set name value [] = λ i. canonical_pair name (decode-encode value i) ∷ []
normalize-set name value (p ∷ ps) =
    let q : Pair = canonical_pair p.name (decode p.stored) in
    split (same_bytes name p.name)
    (λ t. ap normalize_pairs (set_first name p ps t value) ∙ (λ i. canonical_pair name (decode-encode value i) ∷ normalize_pairs ps)
    ∙ sym (set_first name q (normalize_pairs ps) t value))
    (λ t. ap normalize_pairs (set_next name p ps t value) ∙ ap (λ (l : List Pair). q ∷ l) (normalize-set name value ps)
    ∙ sym (set_next name q (normalize_pairs ps) t value))

pub normalize-remove : (name : List ℕ) (ps : List Pair) → normalize_pairs (remove_pair name ps) ≡ remove_pair name (normalize_pairs ps)
unfolding remove_pair normalize_pairs
normalize-remove name [] = refl
normalize-remove name (p ∷ ps) =
    let q : Pair = canonical_pair p.name (decode p.stored) in
    split (same_bytes name p.name)
    (λ t. ap normalize_pairs (remove_first name p ps t) ∙ sym (remove_first name q (normalize_pairs ps) t))
    (λ t. ap normalize_pairs (remove-next name p ps t) ∙ ap (λ (l : List Pair). q ∷ l) (normalize-remove name ps)
    ∙ sym (remove-next name q (normalize_pairs ps) t))

-- they take no more room
pub normalize-short : {seen : List (List ℕ)} {ps : List Pair} → Good seen ps → length (pairs_bytes (normalize_pairs ps)) ≤ length (pairs_bytes ps)
unfolding normalize_pairs
normalize-short none = omega arith
normalize-short (more {p = p} {ps = ps} n v s g) =
    let q : Pair = canonical_pair p.name (decode p.stored) in
    omega (arith, length_pairs p ps, length_pairs q (normalize_pairs ps), recode-short p.stored v, normalize-short g)
