-- The area that an edit writes is what the edit leaves by the rules, and no other area is.
use Prim.Native.Nat.{ℕ, ◌+◌, ◌-◌, ◌≤◌, ◌<◌}
use mathlib.Core.Path.{◌≡◌, refl, sym, ap, ◌∙◌}
use mathlib.Core.Bool.{true, false}
use mathlib.Core.List.{List, [], ◌∷◌, ◌++◌, append_assoc, append-nil}
use mathlib.Core.Logic.{◌↔◌}
use native.Mathlib.Omega.{arith}
use lib.ListN.{length, replicate, length-append, length-replicate}
use Rattle.lists.specs.Bytes.{AllBytes, stands}
use Rattle.lists.proofs.Tests.{clash}
use Rattle.names.specs.Rules.{NameRule}
use Rattle.values.specs.Value.{decode, encode}
use Rattle.values.specs.Rules.{Spells, Canonical}
use Rattle.values.proofs.DecodeLaws.{spells-exactly, spells-spelled, bytes-decode}
use Rattle.values.proofs.CanonicalLaws.{canonical-exactly}
use Rattle.pairs.specs.Area.{Pair, pair_of, pair_bytes, pairs_bytes, parsed, parse}
use Rattle.variables.specs.Edits.{area_bytes, canonical_pair, set_pair, remove_pair, normalize_pairs}
use Rattle.pairs.specs.Rules.{Entry, In, Pairs}
use Rattle.variables.specs.Rules.{Zeroed, zeroed, pair_by, SetLeaves, replaces, adds, RemoveLeaves, removes, CanonicalPairs, NormalizeLeaves, normalizes}
use Rattle.pairs.proofs.ParseLaws.{Read, area-read, pairs-append, read-room, every-left, every-right, bytes-pairs, bytes_read}
use Rattle.variables.proofs.EditLaws.{length-area, Place, there, nowhere, place, set_there, set-nowhere, remove-there, remove-room, normalize-room}
use Rattle.pairs.proofs.StandsLaws.{names, stands-between}
use Rattle.pairs.proofs.EntryLaws.{entries_of, names-entries, not_in, in-not, Each, good-each, pairs_of, of-pairs, pairs-unique, parse-exactly}

-- ---- lists of pairs

-- a pair between others
pub pairs-between : (before : List Pair) (p : Pair) (after : List Pair)
    → pairs_bytes (before ++ p ∷ after) ≡ pairs_bytes before ++ (pair_by p.name p.stored ++ pairs_bytes after)
unfolding pairs_bytes pair_bytes
pairs-between before p after = pairs-append before (p ∷ after)

pairs-last : (before : List Pair) (p : Pair) → pairs_bytes (before ++ p ∷ []) ≡ pairs_bytes before ++ pair_by p.name p.stored
unfolding pairs_bytes pair_bytes
pairs-last before p = pairs-append before (p ∷ []) ∙ ap (λ (l : List ℕ). pairs_bytes before ++ l) (append-nil (pair_by p.name p.stored))

each-join : (ps qs : List Pair) → Each ps → Each qs → Each (ps ++ qs)
each-join [] qs a b = b
each-join (p ∷ ps) qs a b = (a.0, a.1, each-join ps qs a.2 b)

each_left : (ps qs : List Pair) → Each (ps ++ qs) → Each ps
each_left [] qs a = tt
each_left (p ∷ ps) qs a = (a.0, a.1, each_left ps qs a.2)

each_right : (ps qs : List Pair) → Each (ps ++ qs) → Each qs
each_right [] qs a = a
each_right (p ∷ ps) qs a = each_right ps qs a.2

-- pairs alone, with nothing after them
alone : (ps : List Pair) → Each ps → AllBytes (pairs_bytes ps) → Pairs (entries_of ps) (pairs_bytes ps) []
alone ps a b =
    let e = append-nil (pairs_bytes ps) in
    rw e at (of-pairs ps [] a (rw e b))

-- ---- 0x00 to the end

pub zeroed-area : {n : ℕ} {kept area : List ℕ} (ps : List Pair) → kept ≡ pairs_bytes ps → Zeroed n kept area
    → (length (pairs_bytes ps) + 1 ≤ n) × (area ≡ area_bytes n ps)
unfolding area_bytes
zeroed-area {n} {kept} {area} ps q (zeroed k e l) =
    let f : area ≡ pairs_bytes ps ++ 0x00 ∷ replicate k 0x00 = e ∙ ap (λ (s : List ℕ). s ++ 0x00 ∷ replicate k 0x00) q in
    let g : length area ≡ length (pairs_bytes ps) + (1 + k) =
    ap length f ∙ omega (arith, length-append (pairs_bytes ps) (0x00 ∷ replicate k 0x00), length-replicate {A = ℕ} k 0x00) in
    let m : k ≡ n - (length (pairs_bytes ps) + 1) = omega arith in
    (omega arith, f ∙ ap (λ (j : ℕ). pairs_bytes ps ++ 0x00 ∷ replicate j 0x00) m)

pub area-zeroed : {n : ℕ} {kept : List ℕ} (ps : List Pair) → kept ≡ pairs_bytes ps → length (pairs_bytes ps) + 1 ≤ n → Zeroed n kept (area_bytes n ps)
unfolding area_bytes
area-zeroed {n} {kept} ps q h =
    zeroed (n - (length (pairs_bytes ps) + 1)) (ap (λ (s : List ℕ). s ++ 0x00 ∷ replicate (n - (length (pairs_bytes ps) + 1)) 0x00) (sym q)) (length-area n ps h)

-- ---- the pair of a name in an area

record Parts (name : List ℕ) (ps : List Pair) (before old after : List ℕ) : Type 0 where
  first : List Pair
  last : List Pair
  is : ps ≡ first ++ pair_of name old ∷ last
  fresh : stands name (names first) ≡ false
  first-bytes : before ≡ pairs_bytes first
  last-bytes : after ≡ pairs_bytes last

fresh-names : (name : List ℕ) (ps : List Pair) (es : List Entry) → entries_of ps ≡ es → ¬ (In name es) → stands name (names ps) ≡ false
fresh-names name ps es e q = ap (stands name) (names-entries ps) ∙ not_in name (entries_of ps) (rw e q)

module _ {area : List ℕ} {ps : List Pair} (r : Read area ps) (name : List ℕ) where
  same-pairs : (ts : List Pair) (padding : List ℕ) → Each ts → area ≡ pairs_bytes ts ++ 0x00 ∷ padding → ps ≡ ts
  same-pairs ts padding a e = (pairs-unique ps ts r.fill padding (good-each r.good) a (sym r.bytes ∙ e)).0

  parts : {before old after value : List ℕ} {es fs : List Entry} (padding : List ℕ) → NameRule name → Pairs es before [] → ¬ (In name es) → Spells old value
      → Pairs fs after [] → area ≡ before ++ (pair_by name old ++ (after ++ 0x00 ∷ padding)) → Parts name ps before old after
  parts {before} {old} {after} {value} {es} {fs} padding n b q v c e =
      let x = pairs_of b in
      let y = pairs_of c in
      let xb : before ≡ pairs_bytes x.list = x.bytes ∙ append-nil (pairs_bytes x.list) in
      let yb : after ≡ pairs_bytes y.list = y.bytes ∙ append-nil (pairs_bytes y.list) in
      record {
        first = x.list;
        last = y.list;
        is =
            same-pairs (x.list ++ pair_of name old ∷ y.list) padding (each-join x.list (pair_of name old ∷ y.list) x.each (n, spells-spelled v, y.each))
            (e ∙ (λ i. xb i ++ (pair_by name old ++ (yb i ++ 0x00 ∷ padding))) ∙ joined x.list (pair_of name old) y.list padding);
        fresh = fresh-names name x.list es x.entries q;
        first-bytes = xb;
        last-bytes = yb;
      }
    where
      joined : (xs : List Pair) (p : Pair) (ys : List Pair) (t : List ℕ)
          → pairs_bytes xs ++ (pair_by p.name p.stored ++ (pairs_bytes ys ++ 0x00 ∷ t)) ≡ pairs_bytes (xs ++ p ∷ ys) ++ 0x00 ∷ t
      joined xs p ys t = rw (pairs-between xs p ys) (simp append_assoc)

  whole : {before : List ℕ} {es : List Entry} (padding : List ℕ) → Pairs es before [] → ¬ (In name es) → area ≡ before ++ 0x00 ∷ padding
      → (before ≡ pairs_bytes ps) × (stands name (names ps) ≡ false)
  whole {before} {es} padding b q e =
      let x = pairs_of b in
      let xb : before ≡ pairs_bytes x.list = x.bytes ∙ append-nil (pairs_bytes x.list) in
      let s : ps ≡ x.list = same-pairs x.list padding x.each (e ∙ ap (λ (l : List ℕ). l ++ 0x00 ∷ padding) xb) in
      (rw s xb, rw s (fresh-names name x.list es x.entries q))

-- ---- a set

abbrev Fits : ℕ → List Pair → Type 0
Fits n ps = length (pairs_bytes ps) + 1 ≤ n

module _ (name value : List ℕ) (n : NameRule name) (bv : AllBytes value) where
  set-leaves-is : {area area' : List ℕ} {ps : List Pair} → Read area ps → SetLeaves name value area area'
      → Fits (length area) (set_pair name value ps) × (area' ≡ area_bytes (length area) (set_pair name value ps))
  set-leaves-is r (replaces {before = before} {old = old} {after = after} {new = new} padding b q v c w e z) =
      let k = parts r name padding n b q v c e in
      let s = ap (set_pair name value) k.is ∙ set_there value k.first (pair_of name old) k.last k.fresh refl in
      rw s
      (zeroed-area (k.first ++ canonical_pair name value ∷ k.last)
      ((λ i. k.first-bytes i ++ (pair_by name (sym ((canonical-exactly value new bv).0 w) i) ++ k.last-bytes i))
      ∙ sym (pairs-between k.first (canonical_pair name value) k.last)) z)
  set-leaves-is {ps = ps} r (adds {before = before} {new = new} padding b q w e z) =
      let k = whole r name padding b q e in
      rw (set-nowhere name value ps k.1)
      (zeroed-area (ps ++ canonical_pair name value ∷ [])
      ((λ i. k.0 i ++ pair_by name (sym ((canonical-exactly value new bv).0 w) i)) ∙ sym (pairs-last ps (canonical_pair name value))) z)

canonical-new : (value : List ℕ) → AllBytes value → Canonical value (encode value)
canonical-new value bv = (canonical-exactly value (encode value) bv).1 refl

-- what stands around a pair of a read area
record Around (area : List ℕ) (before : List Pair) (p : Pair) (after : List Pair) : Type 0 where
  padding : List ℕ
  first : Pairs (entries_of before) (pairs_bytes before) []
  spells : Spells p.stored (decode p.stored)
  last : Pairs (entries_of after) (pairs_bytes after) []
  bytes : area ≡ pairs_bytes before ++ (pair_by p.name p.stored ++ (pairs_bytes after ++ 0x00 ∷ padding))

around : {area : List ℕ} (before : List Pair) (p : Pair) (after : List Pair) → AllBytes area → Read area (before ++ p ∷ after) → Around area before p after
around {area} before p after b r =
    let a = good-each r.good in
    let c = rw (pairs-append before (p ∷ after)) at (bytes_read b r) in
    let l = bytes-pairs p after (every-right (λ x. x < 256) (pairs_bytes before) (pairs_bytes (p ∷ after)) c) in
    let t = each_right before (p ∷ after) a in
    record {
      padding = r.fill;
      first = alone before (each_left before (p ∷ after) a) (every-left (λ x. x < 256) (pairs_bytes before) (pairs_bytes (p ∷ after)) c);
      spells = (spells-exactly p.stored (decode p.stored) l.0).1 (t.1, refl);
      last = alone after t.2 l.1;
      bytes =
          r.bytes ∙ ap (λ (s : List ℕ). s ++ 0x00 ∷ r.fill) (pairs-between before p after)
          ∙ regroup (pairs_bytes before) (pair_by p.name p.stored) (pairs_bytes after) (0x00 ∷ r.fill);
    }
  where
    regroup : (s t u v : List ℕ) → (s ++ (t ++ u)) ++ v ≡ s ++ (t ++ (u ++ v))
    regroup s t u v = simp append_assoc

fresh-entries : (name : List ℕ) (ps : List Pair) → stands name (names ps) ≡ false → ¬ (In name (entries_of ps))
fresh-entries name ps h = in-not name (entries_of ps) (ap (stands name) (sym (names-entries ps)) ∙ h)

module _ {name : List ℕ} (value : List ℕ) (bv : AllBytes value) where
  is-set-leaves : {area : List ℕ} {ps : List Pair} → AllBytes area → Read area ps → Place name ps → Fits (length area) (set_pair name value ps)
      → SetLeaves name value area (area_bytes (length area) (set_pair name value ps))
  is-set-leaves {area} b r (there before p after h e) f =
      let k = around before p after b r in
      let s = set_there value before p after h e in
      replaces {old = p.stored} {new = encode value} k.padding k.first (fresh-entries name before h) k.spells k.last (canonical-new value bv)
      (k.bytes ∙ (λ i. pairs_bytes before ++ (pair_by (sym e i) p.stored ++ (pairs_bytes after ++ 0x00 ∷ k.padding))))
      (area-zeroed (set_pair name value (before ++ p ∷ after)) (sym (ap pairs_bytes s ∙ pairs-between before (canonical_pair name value) after)) f)
  is-set-leaves {area} {ps} b r (nowhere h) f =
      adds {new = encode value} r.fill (alone ps (good-each r.good) (bytes_read b r)) (fresh-entries name ps h) (canonical-new value bv) r.bytes
      (area-zeroed (set_pair name value ps) (sym (ap pairs_bytes (set-nowhere name value ps h) ∙ pairs-last ps (canonical_pair name value))) f)

-- WHAT A SET LEAVES, where the name keeps the rule
pub set-leaves-exactly : (name value area area' : List ℕ) (ps : List Pair) → NameRule name → AllBytes value → AllBytes area → parse area ≡ parsed ps
    → SetLeaves name value area area'
    ↔ ((length (pairs_bytes (set_pair name value ps)) + 1 ≤ length area) × (area' ≡ area_bytes (length area) (set_pair name value ps)))
set-leaves-exactly name value area area' ps n bv b e =
    let r = area-read area ps e in
    (set-leaves-is name value n bv r, λ x. rw x.1 (is-set-leaves value bv b r (place name ps) x.0))

-- ---- a removal

remove-leaves-is : {name area area' : List ℕ} {ps : List Pair} → NameRule name → Read area ps → RemoveLeaves name area area'
    → (stands name (names ps) ≡ true) × (area' ≡ area_bytes (length area) (remove_pair name ps))
remove-leaves-is {name} {ps = ps} n r (removes {before = before} {old = old} {after = after} padding b q v c e z) =
    let k = parts r name padding n b q v c e in
    let s = ap (remove_pair name) k.is ∙ remove-there k.first (pair_of name old) k.last k.fresh refl in (
      rw k.is (stands-between name k.first (pair_of name old) k.last refl),
      rw s (zeroed-area (k.first ++ k.last) ((λ i. k.first-bytes i ++ k.last-bytes i) ∙ sym (pairs-append k.first k.last)) z).1,
    )

is-remove-leaves : {name area : List ℕ} {ps : List Pair} → AllBytes area → Read area ps → Place name ps → stands name (names ps) ≡ true
    → RemoveLeaves name area (area_bytes (length area) (remove_pair name ps))
is-remove-leaves {name} {area} b r (there before p after h e) t =
    let k = around before p after b r in
    removes {old = p.stored} k.padding k.first (fresh-entries name before h) k.spells k.last
    (k.bytes ∙ (λ i. pairs_bytes before ++ (pair_by (sym e i) p.stored ++ (pairs_bytes after ++ 0x00 ∷ k.padding))))
    (area-zeroed (remove_pair name (before ++ p ∷ after)) (sym (ap pairs_bytes (remove-there before p after h e) ∙ pairs-append before after))
    (omega (arith, remove-room name (before ++ p ∷ after), read-room r)))
is-remove-leaves b r (nowhere h) t = clash (cc)

-- WHAT A REMOVAL LEAVES, where the name keeps the rule
pub remove-leaves-exactly : (name area area' : List ℕ) (ps : List Pair) → NameRule name → AllBytes area → parse area ≡ parsed ps
    → RemoveLeaves name area area' ↔ ((stands name (names ps) ≡ true) × (area' ≡ area_bytes (length area) (remove_pair name ps)))
remove-leaves-exactly name area area' ps n b e =
    let r = area-read area ps e in
    (remove-leaves-is n r, λ x. rw x.1 (is-remove-leaves b r (place name ps) x.0))

-- ---- normalizing

canonical-pairs : (ps : List Pair) (s : List ℕ) → AllBytes (pairs_bytes ps) → CanonicalPairs (entries_of ps) s → s ≡ pairs_bytes (normalize_pairs ps)
unfolding normalize_pairs pairs_bytes pair_bytes
canonical-pairs [] s b CanonicalPairs.none = refl
canonical-pairs (p ∷ ps) s b (CanonicalPairs.more {stored = stored} {s = t} c w) =
    let k = bytes-pairs p ps b in
    let q : stored ≡ encode (decode p.stored) = sym ((canonical-exactly (decode p.stored) stored (bytes-decode p.stored k.0)).0 c) in
    λ i. pair_by p.name (q i) ++ canonical-pairs ps t k.1 w i

pairs-canonical : (ps : List Pair) → AllBytes (pairs_bytes ps) → CanonicalPairs (entries_of ps) (pairs_bytes (normalize_pairs ps))
unfolding normalize_pairs pairs_bytes pair_bytes
pairs-canonical [] b = CanonicalPairs.none
pairs-canonical (p ∷ ps) b =
    let k = bytes-pairs p ps b in
    CanonicalPairs.more
    ((canonical-exactly (decode p.stored) (encode (decode p.stored)) (bytes-decode p.stored k.0)).1 refl)
    (pairs-canonical ps k.1)

normalize-leaves-is : {area area' : List ℕ} {ps : List Pair} → AllBytes area → parse area ≡ parsed ps → NormalizeLeaves area area'
    → area' ≡ area_bytes (length area) (normalize_pairs ps)
normalize-leaves-is {area} {area'} {ps} b e (normalizes {es = es} {s = s} w c z) =
    let k = (parse-exactly area es b).1 w in
    let q : k.0 ≡ ps = cc k.1 in
    let f : es ≡ entries_of ps = sym k.2 ∙ ap entries_of q in
    (zeroed-area (normalize_pairs ps) (canonical-pairs ps s (bytes_read b (area-read area ps e)) (rw f at c)) z).1

-- WHAT NORMALIZING LEAVES
pub normalize-leaves-exactly : (area area' : List ℕ) (ps : List Pair) → AllBytes area → parse area ≡ parsed ps
    → NormalizeLeaves area area' ↔ (area' ≡ area_bytes (length area) (normalize_pairs ps))
normalize-leaves-exactly area area' ps b e =
    let r = area-read area ps e in
    let bp = bytes_read b r in (
      normalize-leaves-is b e,
      λ x. rw x
          (normalizes ((parse-exactly area (entries_of ps) b).0 (ps, e, refl)) (pairs-canonical ps bp)
          (area-zeroed (normalize_pairs ps) refl (omega (arith, normalize-room r.good bp, read-room r)))),
    )
