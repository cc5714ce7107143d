-- The value of a name and the room that a set takes, against the entries of the rules.
use Prim.Native.Nat.{ℕ, ◌+◌}
use mathlib.Core.Path.{◌≡◌, refl, ap, ◌∙◌}
use mathlib.Core.List.{List, [], ◌∷◌}
use mathlib.Core.Logic.{◌≢◌, inl, inr, ◌↔◌}
use native.Mathlib.Omega.{arith}
use lib.ListN.{length}
use Rattle.lists.specs.Bytes.{AllBytes, same_bytes}
use Rattle.lists.proofs.Tests.{split}
use Rattle.lists.proofs.ByteLaws.{same_true, same_not}
use Rattle.values.specs.Value.{encode}
use Rattle.values.proofs.EncodeLaws.{spells-encode, encode-shortest}
use Rattle.pairs.specs.Area.{Pair, pair_bytes, pairs_bytes}
use Rattle.variables.specs.Edits.{canonical_pair, set_pair, Lookup, found, missing, lookup}
use Rattle.pairs.specs.Rules.{Entry, In, sizes}
use Rattle.variables.specs.Rules.{Holds, this, other, Shortest, SetSize, added, replaced, kept}
use Rattle.pairs.proofs.ParseLaws.{length-pair, length_pairs}
use Rattle.pairs.proofs.EntryLaws.{entries_of, sizes-pairs}
use Rattle.variables.proofs.EditLaws.{set_first, set_next, lookup_first, lookup-next}

-- ---- the value of a name

data Told (name : List ℕ) (es : List Entry) : Lookup → Type 0 where
  has : {v : List ℕ} → Holds name es v → Told name es (found v)
  lacks : ¬ (In name es) → Told name es missing

told-next : {name : List ℕ} {e : Entry} {es : List Entry} {f : Lookup} → name ≢ e.name → Told name es f → Told name (e ∷ es) f
told-next q (has h) = has (other q h)
told-next q (lacks k) = lacks (λ i. elim i [ inl y ↦ q y | inr j ↦ k j ])

told : (name : List ℕ) (ps : List Pair) → Told name (entries_of ps) (lookup name ps)
unfolding lookup
told name [] = lacks (λ i. i)
told name (p ∷ ps) =
    split (same_bytes name p.name)
    (λ t. rw (lookup_first name p ps t) (has (this (same_true name p.name t))))
    (λ t. rw (lookup-next name p ps t) (told-next (same_not name p.name t) (told name ps)))

pub holds_same : {name v w : List ℕ} {es : List Entry} → Holds name es v → Holds name es w → v ≡ w
holds_same (this q) (this r) = refl
holds_same (this q) (other r k) = absurd (r q)
holds_same (other r k) (this q) = absurd (r q)
holds_same (other q h) (other r k) = holds_same h k

pub holds-in : {name v : List ℕ} {es : List Entry} → Holds name es v → In name es
holds-in (this q) = inl q
holds-in (other q h) = inr (holds-in h)

told-found : {name v : List ℕ} {es : List Entry} (f : Lookup) → Told name es f → Holds name es v → f ≡ found v
told-found (found w) (has h) k = ap found (holds_same h k)
told-found missing (lacks q) k = absurd (q (holds-in k))

told-missing : {name : List ℕ} {es : List Entry} (f : Lookup) → Told name es f → ¬ (In name es) → f ≡ missing
told-missing (found w) (has h) k = absurd (k (holds-in h))
told-missing missing (lacks q) k = refl

found-told : {name v : List ℕ} {es : List Entry} → Told name es (found v) → Holds name es v
found-told (has h) = h

missing-told : {name : List ℕ} {es : List Entry} → Told name es missing → ¬ (In name es)
missing-told (lacks k) = k

-- A VALUE IS FOUND exactly where the entry of that name holds it
pub found-exactly : (name v : List ℕ) (ps : List Pair) → (lookup name ps ≡ found v) ↔ Holds name (entries_of ps) v
found-exactly name v ps = (λ e. found-told (rw e at (told name ps)), λ h. told-found (lookup name ps) (told name ps) h)

-- AND NONE exactly where no entry has the name
pub missing-exactly : (name : List ℕ) (ps : List Pair) → (lookup name ps ≡ missing) ↔ (¬ (In name (entries_of ps)))
missing-exactly name ps = (λ e. missing-told (rw e at (told name ps)), λ k. told-missing (lookup name ps) (told name ps) k)

-- ---- the room that a set takes

pub shortest-same : {v : List ℕ} {k j : ℕ} → Shortest v k → Shortest v j → k ≡ j
shortest-same s t = omega (arith, s.least t.stored t.spells, t.least s.stored s.spells, s.long, t.long)

pub shortest-encode : (v : List ℕ) → AllBytes v → Shortest v (length (encode v))
shortest-encode v b = record { stored = encode v; spells = spells-encode v b; long = refl; least = λ s r. encode-shortest r }

set-size : (name value : List ℕ) (ps : List Pair) → AllBytes value → SetSize name value (entries_of ps) (length (pairs_bytes (set_pair name value ps)))
unfolding set_pair pairs_bytes
set-size name value [] b =
    let q : length (pairs_bytes (canonical_pair name value ∷ [])) ≡ length name + length (encode value) + 2 =
    omega (arith, length_pairs (canonical_pair name value) []) in
    rw q (added (shortest-encode value b))
set-size name value (p ∷ ps) b =
    split (same_bytes name p.name)
    (λ t. let q : length (pairs_bytes (set_pair name value (p ∷ ps))) ≡ length name + length (encode value) + 2 + sizes (entries_of ps) =
    ap (λ (l : List Pair). length (pairs_bytes l)) (set_first name p ps t value) ∙ omega (arith, length_pairs (canonical_pair name value) ps, sizes-pairs ps) in
    rw q (replaced (same_true name p.name t) (shortest-encode value b)))
    (λ t. let q : length (pairs_bytes (set_pair name value (p ∷ ps))) ≡ length (pair_bytes p) + length (pairs_bytes (set_pair name value ps)) =
    ap (λ (l : List Pair). length (pairs_bytes l)) (set_next name p ps t value) ∙ omega (arith, length_pairs p (set_pair name value ps), length-pair p) in
    rw q (kept (same_not name p.name t) (set-size name value ps b)))

pub set-size-same : {name value : List ℕ} {es : List Entry} {n m : ℕ} → SetSize name value es n → SetSize name value es m → n ≡ m
set-size-same (added s) (added t) = omega (arith, shortest-same s t)
set-size-same (replaced q s) (replaced r t) = omega (arith, shortest-same s t)
set-size-same (replaced q s) (kept r t) = absurd (r q)
set-size-same (kept r s) (replaced q t) = absurd (r q)
set-size-same (kept q s) (kept r t) = omega (arith, set-size-same s t)

-- THE BYTES OF ALL PAIRS AFTER A SET
pub set-size-exactly : (name value : List ℕ) (ps : List Pair) (n : ℕ) → AllBytes value
    → SetSize name value (entries_of ps) n ↔ (length (pairs_bytes (set_pair name value ps)) ≡ n)
set-size-exactly name value ps n b = (λ s. set-size-same (set-size name value ps b) s, λ e. rw e at (set-size name value ps b))
