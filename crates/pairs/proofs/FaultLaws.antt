-- Numbers 7 to 10: a parse answers a fault exactly when the rules have it, each at the first byte that decides it.
use Prim.Native.Nat.{ℕ, zero, suc, ◌+◌, ◌≤◌, ◌<◌}
use mathlib.Core.Path.{◌≡◌, refl, sym, ap, ◌∙◌}
use mathlib.Core.Bool.{true, false}
use mathlib.Core.List.{List, [], ◌∷◌, ◌++◌}
use mathlib.Core.Logic.{◌⊎◌, inl, inr, ◌↔◌}
use native.Mathlib.Omega.{arith}
use lib.ListN.{length, length-append}
use Rattle.lists.specs.Bytes.{AllBytes, same_bytes, stands}
use Rattle.lists.proofs.Tests.{split, clash}
use Rattle.errors.specs.declared.AreaFault.{AreaFault}
use Rattle.errors.specs.declared.AreaFault.TheVariants.{AreaEnd, StoredName, Escape, Repeated}
use Rattle.names.specs.Rules.{NameRule}
use Rattle.names.proofs.NameLaws.{wrong-inside}
use Rattle.values.specs.Value.{spelled, decode}
use Rattle.values.specs.Rules.{Spells}
use Rattle.values.proofs.DecodeLaws.{spells-exactly, spells-spelled}
use Rattle.pairs.specs.Scan.{Stand, cut, wrong_name, wrong_escape}
use Rattle.pairs.specs.Area.{Pair, pair_of, pairs_bytes, Parse, faulty, first_pair, on_stand, parse_from, parse}
use Rattle.pairs.specs.Rules.{Entry, In, sizes, CutOff, in-name, in-value, in-escape, FaultAt, seven, eight, nine, ten, Faulty}
use Rattle.pairs.proofs.NameScans.{up-short}
use Rattle.pairs.proofs.ScanLaws.{Standing, a_pair, the_end, cut-name, cut-value, cut-escape, a-wrong-name, a-wrong-escape, standing}
use Rattle.pairs.proofs.ParseLaws.{Good, none, more, length_whole, length_pairs, pair-front, parse_rest, parse-start, parse-standing, parse-pair, first-faulty, every-left, every-right}
use Rattle.lists.proofs.StandsLaws.{stands-none, stands-first, stands-other}
use Rattle.pairs.proofs.StandsLaws.{names}
use Rattle.pairs.proofs.EntryLaws.{entries_of, sizes-pairs, names-entries, in-exactly, good-each, good-once, pairs_of, of-pairs, once-good}

-- ---- the names before an offset

-- the names seen after more pairs
abbrev pub seen_after : List (List ℕ) → List Pair → List (List ℕ)
seen_after seen [] = seen
seen_after seen (p ∷ ps) = seen_after (p.name ∷ seen) ps

seen-either : (x : List ℕ) (seen : List (List ℕ)) (ps : List Pair) → stands x (seen_after seen ps) ≡ true → (stands x seen ≡ true) ⊎ (stands x (names ps) ≡ true)
seen-either x seen [] h = inl h
seen-either x seen (p ∷ ps) h =
    elim (seen-either x (p.name ∷ seen) ps h) [
      | inl i ↦
          split (same_bytes x p.name)
          (λ t. inr (stands-first x p.name (names ps) t))
          (λ t. inl (sym (stands-other x p.name seen t) ∙ i))
      | inr j ↦
          split (same_bytes x p.name)
          (λ t. inr (stands-first x p.name (names ps) t))
          (λ t. inr (stands-other x p.name (names ps) t ∙ j))
    ]

either-seen : (x : List ℕ) (seen : List (List ℕ)) (ps : List Pair) → (stands x seen ≡ true) ⊎ (stands x (names ps) ≡ true) → stands x (seen_after seen ps) ≡ true
either-seen x seen [] (inl i) = i
either-seen x seen [] (inr i) = clash (cc (stands-none x))
either-seen x seen (p ∷ ps) h =
    split (same_bytes x p.name)
    (λ t. either-seen x (p.name ∷ seen) ps (inl (stands-first x p.name seen t)))
    (λ t. either-seen x (p.name ∷ seen) ps
    (elim h [ inl i ↦ inl (stands-other x p.name seen t ∙ i) | inr j ↦ inr (sym (stands-other x p.name (names ps) t) ∙ j) ]))

-- THE NAMES SEEN after pairs are those of their entries
pub seen-exactly : (x : List ℕ) (ps : List Pair) → (stands x (seen_after [] ps) ≡ true) ↔ In x (entries_of ps)
seen-exactly x ps = (
  λ h. elim (seen-either x [] ps h) [
    | inl i ↦ clash (cc (stands-none x))
    | inr j ↦ (in-exactly x (entries_of ps)).0 (ap (stands x) (sym (names-entries ps)) ∙ j)
  ],
  λ i. either-seen x [] ps (inr (ap (stands x) (names-entries ps) ∙ (in-exactly x (entries_of ps)).1 i)),
)

-- ---- from the rules to the parse

-- past good pairs the parse comes to what follows them
pub past_pairs : {seen : List (List ℕ)} {ps : List Pair} (at past : ℕ) (rest : List ℕ) (f : AreaFault) (k : ℕ) → Good seen ps
    → parse_rest (seen_after seen ps) (at + length (pairs_bytes ps)) past rest ≡ faulty f k → parse_rest seen at past (pairs_bytes ps ++ rest) ≡ faulty f k
unfolding pairs_bytes
past_pairs at past rest f k (none {seen = seen}) h =
    let q : at ≡ at + 0 = omega arith in
    ap (λ (a : ℕ). parse_rest seen a past rest) q ∙ h
past_pairs at past rest f k (more {seen = seen} {p = p} {ps = ps} n v s g) h =
    let next : ℕ = at + length p.name + length p.stored + 2 in
    let q : next + length (pairs_bytes ps) ≡ at + length (pairs_bytes (p ∷ ps)) = omega (arith, length_pairs p ps) in
    ap (parse_rest seen at past) (pair-front p ps rest) ∙ parse-pair seen at past p.stored (pairs_bytes ps ++ rest) n v s
    ∙ ap (first_pair p)
    (past_pairs next past rest f k g (ap (λ (a : ℕ). parse_rest (seen_after (p.name ∷ seen) ps) a past rest) q ∙ h))

module _ (past : ℕ) (es : List Entry) (seen : List (List ℕ)) where
  cut-parses : {rest : List ℕ} → CutOff rest → parse_rest seen (sizes es) past rest ≡ faulty AreaEnd past
  cut-parses (in-name a h) = parse-standing seen (sizes es) past (cut-name a h)
  cut-parses (in-value {stored = stored} n v) = parse-standing seen (sizes es) past (cut-value stored n (spells-spelled v))
  cut-parses (in-escape {stored = stored} n v) = parse-standing seen (sizes es) past (cut-escape stored n (spells-spelled v))

  -- a fault by the rules is what the parse answers
  fault-parses : {rest : List ℕ} {f : AreaFault} {at : ℕ} → ((x : List ℕ) → In x es → stands x seen ≡ true) → FaultAt past es rest f at
      → parse_rest seen (sizes es) past rest ≡ faulty f at
  fault-parses k (seven c) = cut-parses c
  fault-parses k (eight z u w) = parse-standing seen (sizes es) past (a-wrong-name z u w)
  fault-parses k (nine {stored = stored} rest n v w) = parse-standing seen (sizes es) past (a-wrong-escape stored rest n (spells-spelled v) w)
  fault-parses k (ten {name = name} rest n v i) =
      let t : stands name seen ≡ true = k name i in
      parse-standing seen (sizes es) past (a_pair rest n (spells-spelled v)) ∙ rw t

faulty-parses : (area : List ℕ) (fault : AreaFault) (at : ℕ) → Faulty area fault at → parse area ≡ faulty fault at
faulty-parses area fault at f =
    let k = pairs_of f.pairs in
    let ps = k.list in
    let z : sizes f.before ≡ 0 + length (pairs_bytes ps) = ap sizes (sym k.entries) ∙ omega (arith, sizes-pairs ps) in
    let h = fault-parses (length area) f.before (seen_after [] ps) (λ x i. (seen-exactly x ps).1 (rw (← k.entries) at i)) f.fault in
    parse-start area ∙ ap (parse_rest [] 0 (length area)) k.bytes
    ∙ past_pairs 0 (length area) f.rest fault at (once-good ps k.each (rw (← k.entries) at f.once)) (rw z at h)

-- ---- from the parse to the rules

-- what stops a parse at the offset at, seen are the names before
data Stops (past at : ℕ) (seen : List (List ℕ)) : List ℕ → AreaFault → ℕ → Type 0 where
  at-end : {rest : List ℕ} → Standing rest cut → Stops past at seen rest AreaEnd past
  at_name : {rest : List ℕ} {k : ℕ} → Standing rest (wrong_name k) → Stops past at seen rest StoredName (at + k)
  at-escape : {rest : List ℕ} {k : ℕ} → Standing rest (wrong_escape k) → Stops past at seen rest Escape (at + k)
  at_pair : {name : List ℕ} (stored rest : List ℕ) → NameRule name → spelled stored ≡ true → stands name seen ≡ true
      → Stops past at seen (name ++ 0x3D ∷ (stored ++ 0x00 ∷ rest)) Repeated at

-- good pairs, and then what stops the parse
record Stopped (past : ℕ) (seen : List (List ℕ)) (at : ℕ) (s : List ℕ) (f : AreaFault) (k : ℕ) : Type 0 where
  list : List Pair
  rest : List ℕ
  place : ℕ
  bytes : s ≡ pairs_bytes list ++ rest
  good : Good seen list
  offset : place ≡ at + length (pairs_bytes list)
  fault : Stops past place (seen_after seen list) rest f k

module _ (past : ℕ) (seen : List (List ℕ)) (at : ℕ) where
  stopped-here : {s : List ℕ} {f g : AreaFault} {j k : ℕ} → faulty f j ≡ faulty g k → Stops past at seen s f j → Stopped past seen at s g k
  unfolding pairs_bytes
  stopped-here {s} {f} {g} {j} {k} q x =
      let e : f ≡ g = cc in
      let p : j ≡ k = cc in
      record { list = []; rest = s; place = at; bytes = refl; good = none; offset = omega arith; fault = rw (e, p) at x }

  stopped-later : (name stored rest : List ℕ) (g : AreaFault) (k : ℕ) → NameRule name → spelled stored ≡ true → stands name seen ≡ false
      → Stopped past (name ∷ seen) (at + length name + length stored + 2) rest g k → Stopped past seen at (name ++ 0x3D ∷ (stored ++ 0x00 ∷ rest)) g k
  stopped-later name stored rest g k n v s f =
      let p : Pair = pair_of name stored in
      record {
        list = p ∷ f.list;
        rest = f.rest;
        place = f.place;
        bytes = ap (λ (t : List ℕ). name ++ 0x3D ∷ (stored ++ 0x00 ∷ t)) f.bytes ∙ sym (pair-front p f.list f.rest);
        good = more n v s f.good;
        offset = omega (arith, f.offset, length_pairs p f.list);
        fault = f.fault;
      }

  stopped-on : {s : List ℕ} {x : Stand} (f : AreaFault) (j : ℕ) (go : List (List ℕ) → ℕ → List ℕ → Parse) → Standing s x
      → on_stand x seen at past go ≡ faulty f j
      → ((m : List (List ℕ)) (a : ℕ) (r : List ℕ) → length r < length s → go m a r ≡ faulty f j → Stopped past m a r f j) → Stopped past seen at s f j
  stopped-on f j go (a_pair {name = name} {stored = stored} rest n v) q k =
      split (stands name seen)
      (λ t. stopped-here (rw t at q) (at_pair stored rest n v t))
      (λ t. stopped-later name stored rest f j n v t
      (k (name ∷ seen) (at + length name + length stored + 2) rest (omega (arith, length_whole name stored rest))
      (first-faulty (pair_of name stored) (go (name ∷ seen) (at + length name + length stored + 2) rest) f j (rw t at q))))
  stopped-on f j go (the_end rest) q k = clash (cc)
  stopped-on f j go (cut-name a h) q k = stopped-here q (at-end (cut-name a h))
  stopped-on f j go (cut-value stored n v) q k = stopped-here q (at-end (cut-value stored n v))
  stopped-on f j go (cut-escape stored n v) q k = stopped-here q (at-end (cut-escape stored n v))
  stopped-on f j go (a-wrong-name z u w) q k = stopped-here q (at_name (a-wrong-name z u w))
  stopped-on f j go (a-wrong-escape stored rest n v w) q k = stopped-here q (at-escape (a-wrong-escape stored rest n v w))

stopped : (fuel : ℕ) (seen : List (List ℕ)) (at past : ℕ) (s : List ℕ) (f : AreaFault) (k : ℕ) → length s < fuel
    → parse_from fuel seen at past s ≡ faulty f k → Stopped past seen at s f k
unfolding parse_from
stopped zero seen at past s f k h q = absurd (omega arith)
stopped (suc fuel) seen at past s f k h q =
    stopped-on past seen at f k (λ m a r. parse_from fuel m a past r) (standing s) q (λ m a r l e. stopped fuel m a past r f k (omega arith) e)

-- ---- bytes that are spelled stand for a value

spelled-spells : {stored : List ℕ} → AllBytes stored → spelled stored ≡ true → Spells stored (decode stored)
spelled-spells {stored} b v = (spells-exactly stored (decode stored) b).1 (v, refl)

bytes_after : (name t : List ℕ) → AllBytes (name ++ 0x3D ∷ t) → AllBytes t
bytes_after name t b = (every-right (λ x. x < 256) name (0x3D ∷ t) b).1

bytes-first : (name s t : List ℕ) → AllBytes (name ++ 0x3D ∷ (s ++ t)) → AllBytes s
bytes-first name s t b = every-left (λ x. x < 256) s t (bytes_after name (s ++ t) b)

standing-cut-off : {rest : List ℕ} → AllBytes rest → Standing rest cut → CutOff rest
standing-cut-off b (cut-name a h) = in-name a h
standing-cut-off b (cut-value {name = name} stored n v) = in-value n (spelled-spells (bytes_after name stored b) v)
standing-cut-off b (cut-escape {name = name} stored n v) = in-escape n (spelled-spells (bytes-first name stored (0xFF ∷ []) b) v)

module _ {past : ℕ} (es : List Entry) where
  name-fault : {rest : List ℕ} {k : ℕ} → Standing rest (wrong_name k) → FaultAt past es rest StoredName (sizes es + k)
  name-fault (a-wrong-name z u w) = eight z u w

  escape-fault : {rest : List ℕ} {k : ℕ} → AllBytes rest → Standing rest (wrong_escape k) → FaultAt past es rest Escape (sizes es + k)
  escape-fault b (a-wrong-escape {c = c} {name = name} stored rest n v w) =
      nine rest n (spelled-spells (bytes-first name stored (0xFF ∷ c ∷ rest) b) v) w

  stops-fault : {seen : List (List ℕ)} {rest : List ℕ} {f : AreaFault} {at : ℕ} → AllBytes rest → ((x : List ℕ) → stands x seen ≡ true → In x es)
      → Stops past (sizes es) seen rest f at → FaultAt past es rest f at
  stops-fault b k (at-end s) = seven (standing-cut-off b s)
  stops-fault b k (at_name s) = name-fault s
  stops-fault b k (at-escape s) = escape-fault b s
  stops-fault b k (at_pair {name = name} stored rest n v t) = ten rest n (spelled-spells (bytes-first name stored (0x00 ∷ rest) b) v) (k name t)

parses-faulty : (area : List ℕ) (fault : AreaFault) (at : ℕ) → AllBytes area → parse area ≡ faulty fault at → Faulty area fault at
unfolding parse
parses-faulty area fault at b q =
    let f = stopped (suc (length area)) [] 0 (length area) area fault at (omega arith) q in
    let ps = f.list in
    let c = rw f.bytes at b in
    let z : f.place ≡ sizes (entries_of ps) = f.offset ∙ omega (arith, sizes-pairs ps) in
    record {
      before = entries_of ps;
      rest = f.rest;
      pairs = rw (← f.bytes) at (of-pairs ps f.rest (good-each f.good) c);
      once = good-once f.good;
      fault =
          stops-fault (entries_of ps) (every-right (λ x. x < 256) (pairs_bytes ps) f.rest c) (λ x t. (seen-exactly x ps).0 t) (rw z at f.fault);
    }

-- A PARSE IS FAULTY exactly as the rules say
pub faulty-exactly : (area : List ℕ) (f : AreaFault) (at : ℕ) → AllBytes area → (parse area ≡ faulty f at) ↔ Faulty area f at
faulty-exactly area f at b = (parses-faulty area f at b, faulty-parses area f at)

-- ---- a fault's offset stands in the area

name-inside : {rest : List ℕ} {k : ℕ} → Standing rest (wrong_name k) → k ≤ length rest
name-inside (a-wrong-name z u w) = omega (arith, up-short u, wrong-inside w)

escape-inside : {rest : List ℕ} {k : ℕ} → Standing rest (wrong_escape k) → k ≤ length rest
escape-inside (a-wrong-escape {c = c} {name = name} stored rest n v w) =
    omega (arith, length-append name (0x3D ∷ (stored ++ 0xFF ∷ c ∷ rest)), length-append stored (0xFF ∷ c ∷ rest))

stops-inside : {past at k : ℕ} {seen : List (List ℕ)} {rest : List ℕ} {f : AreaFault} → at + length rest ≤ past → Stops past at seen rest f k → k ≤ past
stops-inside h (at-end s) = omega arith
stops-inside h (at_name s) = omega (arith, name-inside s)
stops-inside h (at-escape s) = omega (arith, escape-inside s)
stops-inside h (at_pair stored rest n v t) = omega arith

pub fault-inside : (area : List ℕ) (fault : AreaFault) (at : ℕ) → parse area ≡ faulty fault at → at ≤ length area
unfolding parse
fault-inside area fault at q =
    let f = stopped (suc (length area)) [] 0 (length area) area fault at (omega arith) q in
    let l : length area ≡ length (pairs_bytes f.list) + length f.rest = ap length f.bytes ∙ length-append (pairs_bytes f.list) f.rest in
    stops-inside (omega (arith, l, f.offset)) f.fault
