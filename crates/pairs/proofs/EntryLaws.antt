-- The pairs that a parse finds, against the entries of the rules.
use Prim.Native.Nat.{ℕ, ◌+◌}
use mathlib.Core.Path.{◌≡◌, refl, sym, ap, ◌∙◌}
use mathlib.Core.Bool.{true, false}
use mathlib.Core.List.{List, [], ◌∷◌, ◌++◌}
use mathlib.Core.Logic.{inl, inr, ◌↔◌}
use native.Mathlib.Omega.{arith}
use lib.ListN.{length}
use Rattle.lists.specs.Bytes.{AllBytes, same_bytes, stands}
use Rattle.lists.proofs.Tests.{split, clash}
use Rattle.lists.proofs.ByteLaws.{same_refl, same_true}
use Rattle.names.specs.Rules.{NameRule}
use Rattle.values.specs.Value.{spelled, decode}
use Rattle.values.specs.Rules.{Spells}
use Rattle.values.proofs.DecodeLaws.{spells-exactly, spells-spelled, spells-decode}
use Rattle.pairs.specs.Scan.{pair, stand_at}
use Rattle.pairs.specs.Area.{Pair, pair_of, pair_bytes, pairs_bytes, parsed, parse}
use Rattle.pairs.specs.Rules.{Entry, In, sizes, Pairs, Once, WellFormed}
use Rattle.pairs.proofs.ScanLaws.{a_pair, standing-stand, stand-end}
use Rattle.pairs.proofs.ParseLaws.{Good, length-pair, length_pairs, pair-front, area-reads, area-read, bytes_pair}
use Rattle.lists.proofs.StandsLaws.{stands-none, stands-not, stands-first, stands-other}
use Rattle.pairs.proofs.StandsLaws.{names, good-unseen}

abbrev pub entry_of : Pair → Entry
entry_of p = record { name = p.name; value = decode p.stored; size = length (pair_bytes p) }

-- the entries of pairs
abbrev pub entries_of : List Pair → List Entry
entries_of [] = []
entries_of (p ∷ ps) = entry_of p ∷ entries_of ps

pub sizes-pairs : (ps : List Pair) → sizes (entries_of ps) ≡ length (pairs_bytes ps)
unfolding pairs_bytes
sizes-pairs [] = refl
sizes-pairs (p ∷ ps) = omega (arith, sizes-pairs ps, length_pairs p ps, length-pair p)

-- ---- a name among entries

abbrev pub names_of : List Entry → List (List ℕ)
names_of [] = []
names_of (e ∷ es) = e.name ∷ names_of es

pub names-entries : (ps : List Pair) → names ps ≡ names_of (entries_of ps)
names-entries [] = refl
names-entries (p ∷ ps) = ap (λ (l : List (List ℕ)). p.name ∷ l) (names-entries ps)

in-stands : (name : List ℕ) (es : List Entry) → In name es → stands name (names_of es) ≡ true
in-stands name [] i = absurd i
in-stands name (e ∷ es) (inl q) = stands-first name e.name (names_of es) (ap (same_bytes name) (sym q) ∙ same_refl name)
in-stands name (e ∷ es) (inr i) =
    split (same_bytes name e.name)
    (λ t. stands-first name e.name (names_of es) t)
    (λ t. stands-other name e.name (names_of es) t ∙ in-stands name es i)

stands-in : (name : List ℕ) (es : List Entry) → stands name (names_of es) ≡ true → In name es
stands-in name [] h = clash (cc (stands-none name))
stands-in name (e ∷ es) h =
    split (same_bytes name e.name)
    (λ t. inl (same_true name e.name t))
    (λ t. inr (stands-in name es (sym (stands-other name e.name (names_of es) t) ∙ h)))

pub in-exactly : (name : List ℕ) (es : List Entry) → (stands name (names_of es) ≡ true) ↔ In name es
in-exactly name es = (stands-in name es, in-stands name es)

pub not_in : (name : List ℕ) (es : List Entry) → ¬ (In name es) → stands name (names_of es) ≡ false
not_in name es h = split (stands name (names_of es)) (λ t. absurd (h (stands-in name es t))) (λ t. t)

pub in-not : (name : List ℕ) (es : List Entry) → stands name (names_of es) ≡ false → ¬ (In name es)
in-not name es e = λ i. clash (cc (in-stands name es i))

-- ---- pairs by the rules, each by itself

abbrev pub Each : List Pair → Type 0
Each [] = Unit {0}
Each (p ∷ ps) = NameRule p.name × (spelled p.stored ≡ true) × Each ps

pub good-each : {seen : List (List ℕ)} {ps : List Pair} → Good seen ps → Each ps
good-each Good.none = tt
good-each (Good.more n v s g) = (n, v, good-each g)

-- the pairs of bytes that keep the rules
pub record PairsOf (es : List Entry) (s rest : List ℕ) : Type 0 where
  pub list : List Pair
  pub bytes : s ≡ pairs_bytes list ++ rest
  pub each : Each list
  pub entries : entries_of list ≡ es

pairs-more : {name stored value s rest : List ℕ} {es : List Entry} → NameRule name → Spells stored value → PairsOf es s rest
    → PairsOf (record { name = name; value = value; size = length name + length stored + 2 } ∷ es) (name ++ 0x3D ∷ (stored ++ 0x00 ∷ s)) rest
pairs-more {name} {stored} {value} {s} {rest} n v r =
    let p : Pair = pair_of name stored in
    record {
      list = p ∷ r.list;
      bytes = ap (λ (t : List ℕ). name ++ 0x3D ∷ (stored ++ 0x00 ∷ t)) r.bytes ∙ sym (pair-front p r.list rest);
      each = (n, spells-spelled v, r.each);
      entries = λ i. record { name = name; value = spells-decode v i; size = length-pair p i } ∷ r.entries i;
    }

pub pairs_of : {es : List Entry} {s rest : List ℕ} → Pairs es s rest → PairsOf es s rest
unfolding pairs_bytes
pairs_of Pairs.none = record { list = []; bytes = refl; each = tt; entries = refl }
pairs_of (Pairs.pair n v w) = pairs-more n v (pairs_of w)

pub of-pairs : (ps : List Pair) (rest : List ℕ) → Each ps → AllBytes (pairs_bytes ps ++ rest) → Pairs (entries_of ps) (pairs_bytes ps ++ rest) rest
unfolding pairs_bytes
of-pairs [] rest a b = Pairs.none
of-pairs (p ∷ ps) rest a b =
    let w = pair-front p ps rest in
    let k = bytes_pair p.name p.stored (pairs_bytes ps ++ rest) (rw w at b) in
    rw (w, length-pair p)
    (Pairs.pair a.0 ((spells-exactly p.stored (decode p.stored) k.0).1 (a.1, refl)) (of-pairs ps rest a.2 k.1))

stand-pair : (p : Pair) (ps : List Pair) (r : List ℕ) → Each (p ∷ ps) → stand_at (pairs_bytes (p ∷ ps) ++ r) ≡ pair p.name p.stored (pairs_bytes ps ++ r)
stand-pair p ps r a = ap stand_at (pair-front p ps r) ∙ standing-stand (a_pair (pairs_bytes ps ++ r) a.0 a.1)

-- bytes are pairs in one way only
pub pairs-unique : (ps ts : List Pair) (f g : List ℕ) → Each ps → Each ts → pairs_bytes ps ++ 0x00 ∷ f ≡ pairs_bytes ts ++ 0x00 ∷ g → (ps ≡ ts) × (f ≡ g)
unfolding pairs_bytes
pairs-unique [] [] f g a b e = (refl, cc)
pairs-unique [] (t ∷ ts) f g a b e = clash (cc (stand-end f, stand-pair t ts (0x00 ∷ g) b))
pairs-unique (p ∷ ps) [] f g a b e = clash (cc (stand-end g, stand-pair p ps (0x00 ∷ f) a, ap stand_at e))
pairs-unique (p ∷ ps) (t ∷ ts) f g a b e =
    let k = sym (stand-pair p ps (0x00 ∷ f) a) ∙ ap stand_at e ∙ stand-pair t ts (0x00 ∷ g) b in
    let n : p.name ≡ t.name = cc (k) in
    let v : p.stored ≡ t.stored = cc (k) in
    let r = pairs-unique ps ts f g a.2 b.2 (cc (k)) in
    (λ i. pair_of (n i) (v i) ∷ r.0 i, r.1)

-- ---- no name twice

pub good-once : {seen : List (List ℕ)} {ps : List Pair} → Good seen ps → Once (entries_of ps)
good-once Good.none = Once.none
good-once (Good.more {seen = seen} {p = p} {ps = ps} n v s g) =
    Once.more
    (in-not p.name (entries_of ps)
    (ap (stands p.name) (sym (names-entries ps)) ∙ good-unseen p.name g (stands-first p.name p.name seen (same_refl p.name))))
    (good-once g)

once-good-from : (seen : List (List ℕ)) (ps : List Pair) → Each ps → Once (entries_of ps)
    → ((x : List ℕ) → stands x seen ≡ true → stands x (names ps) ≡ false) → Good seen ps
once-good-from seen [] a o f = Good.none
once-good-from seen (p ∷ ps) a (Once.more q o) f =
    Good.more a.0 a.1 fresh (once-good-from (p.name ∷ seen) ps a.2 o later)
  where
    fresh : stands p.name seen ≡ false
    fresh =
        split (stands p.name seen)
        (λ t. clash (cc (f p.name t, stands-first p.name p.name (names ps) (same_refl p.name))))
        (λ t. t)

    later : (x : List ℕ) → stands x (p.name ∷ seen) ≡ true → stands x (names ps) ≡ false
    later x h =
        split (same_bytes x p.name)
        (λ t. ap (λ (y : List ℕ). stands y (names ps)) (same_true x p.name t) ∙ ap (stands p.name) (names-entries ps) ∙ not_in p.name (entries_of ps) q)
        (λ t. (stands-not x p.name (names ps) (f x (sym (stands-other x p.name seen t) ∙ h))).1)

pub once-good : (ps : List Pair) → Each ps → Once (entries_of ps) → Good [] ps
once-good ps a o = once-good-from [] ps a o (λ x h. clash (cc (stands-none x)))

-- ---- a whole area

parsed-formed : (area : List ℕ) (ps : List Pair) → AllBytes area → parse area ≡ parsed ps → WellFormed (entries_of ps) area
parsed-formed area ps b e =
    let r = area-read area ps e in
    let w = of-pairs ps (0x00 ∷ r.fill) (good-each r.good) (rw r.bytes at b) in
    record { padding = r.fill; pairs = rw (← r.bytes) at w; once = good-once r.good }

formed-parsed : {es : List Entry} {area : List ℕ} → WellFormed es area → (ps : List Pair) × (parse area ≡ parsed ps) × (entries_of ps ≡ es)
formed-parsed {es} {area} w =
    let k = pairs_of w.pairs in
    (k.list, ap parse k.bytes ∙ area-reads w.padding (once-good k.list k.each (rw (← k.entries) at w.once)), k.entries)

-- WHAT PARSES IS WELL FORMED, with the parsed pairs' entries, and the other way round
pub parse-exactly : (area : List ℕ) (es : List Entry) → AllBytes area → ((ps : List Pair) × (parse area ≡ parsed ps) × (entries_of ps ≡ es)) ↔ WellFormed es area
parse-exactly area es b = (λ x. rw x.2 at (parsed-formed area x.0 b x.1), formed-parsed)
