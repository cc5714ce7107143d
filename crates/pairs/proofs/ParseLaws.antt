-- Parsing and printing an area: what parses is pairs, and pairs parse.
use Prim.Native.Nat.{ℕ, zero, suc, ◌+◌, ◌≤◌, ◌<◌}
use mathlib.Core.Path.{◌≡◌, refl, sym, ap, ◌∙◌}
use mathlib.Core.Bool.{true, false, cond}
use mathlib.Core.List.{List, [], ◌∷◌, ◌++◌, append_assoc}
use native.Mathlib.Omega.{arith}
use lib.ListN.{length, length-append}
use Rattle.lists.specs.Bytes.{Every, AllBytes, stands}
use Rattle.lists.proofs.Tests.{split, clash}
use Rattle.errors.specs.declared.AreaFault.{AreaFault}
use Rattle.errors.specs.declared.AreaFault.TheVariants.{Repeated}
use Rattle.names.specs.Rules.{NameRule}
use Rattle.values.specs.Value.{spelled}
use Rattle.pairs.specs.Scan.{Stand, stand_at}
use Rattle.pairs.specs.Area.{Pair, pair_of, pair_bytes, pairs_bytes, Parse, parsed, faulty, first_pair, on_stand, parse_from, parse}
use Rattle.pairs.proofs.ScanLaws.{Standing, a_pair, the_end, cut-name, cut-value, cut-escape, a-wrong-name, a-wrong-escape, standing, standing-stand}

-- pairs as they may stand after the names that were seen
pub data Good : List (List ℕ) → List Pair → Type 0 where
  none : {seen : List (List ℕ)} → Good seen []
  more : {seen : List (List ℕ)} {p : Pair} {ps : List Pair} → NameRule p.name → spelled p.stored ≡ true → stands p.name seen ≡ false
      → Good (p.name ∷ seen) ps → Good seen (p ∷ ps)

-- ---- lengths

pub length_whole : (name stored rest : List ℕ) → length (name ++ 0x3D ∷ (stored ++ 0x00 ∷ rest)) ≡ length name + length stored + 2 + length rest
length_whole name stored rest = omega (arith, length-append name (0x3D ∷ (stored ++ 0x00 ∷ rest)), length-append stored (0x00 ∷ rest))

pub length-pair : (p : Pair) → length (pair_bytes p) ≡ length p.name + length p.stored + 2
unfolding pair_bytes
length-pair p = omega (arith, length_whole p.name p.stored [])

pub length_pairs : (p : Pair) (ps : List Pair) → length (pairs_bytes (p ∷ ps)) ≡ length p.name + length p.stored + 2 + length (pairs_bytes ps)
unfolding pairs_bytes
length_pairs p ps = omega (arith, length-append (pair_bytes p) (pairs_bytes ps), length-pair p)

-- no pairs have no bytes
pub pairs-none : pairs_bytes [] ≡ []
unfolding pairs_bytes
pairs-none = refl

-- the first pair of a list, and what follows it
pub pair-front : (p : Pair) (ps : List Pair) (r : List ℕ) → pairs_bytes (p ∷ ps) ++ r ≡ p.name ++ 0x3D ∷ (p.stored ++ 0x00 ∷ (pairs_bytes ps ++ r))
unfolding pairs_bytes pair_bytes
pair-front p ps r = simp append_assoc

-- ---- enough fuel is enough

module _ (seen : List (List ℕ)) (at past : ℕ) where
  on_same : {rest : List ℕ} {x : Stand} (f g : List (List ℕ) → ℕ → List ℕ → Parse) → Standing rest x
      → ((s : List (List ℕ)) (a : ℕ) (r : List ℕ) → length r < length rest → f s a r ≡ g s a r) → on_stand x seen at past f ≡ on_stand x seen at past g
  on_same f g (a_pair {name = name} {stored = stored} rest r v) h = λ i.
      cond (stands name seen) (faulty Repeated at)
      (first_pair (pair_of name stored) (h (name ∷ seen) (at + length name + length stored + 2) rest (omega (arith, length_whole name stored rest)) i))
  on_same f g (the_end rest) h = refl
  on_same f g (cut-name a l) h = refl
  on_same f g (cut-value stored r v) h = refl
  on_same f g (cut-escape stored r v) h = refl
  on_same f g (a-wrong-name z u w) h = refl
  on_same f g (a-wrong-escape stored rest r v w) h = refl

enough : (m n : ℕ) (seen : List (List ℕ)) (at past : ℕ) (rest : List ℕ) → length rest < m → length rest < n
    → parse_from m seen at past rest ≡ parse_from n seen at past rest
unfolding parse_from
enough zero n seen at past rest h k = absurd (omega arith)
enough (suc m) zero seen at past rest h k = absurd (omega arith)
enough (suc m) (suc n) seen at past rest h k =
    on_same seen at past (λ s a r. parse_from m s a past r) (λ s a r. parse_from n s a past r) (standing rest)
    (λ s a r l. enough m n s a past r (omega arith) (omega arith))

-- the parse of what is left: seen are the names before, at is the offset, past the area's length
unfoldable pub parse_rest : List (List ℕ) → ℕ → ℕ → List ℕ → Parse
parse_rest seen at past rest = parse_from (suc (length rest)) seen at past rest

-- the parse of an area begins with no names seen
pub parse-start : (area : List ℕ) → parse area ≡ parse_rest [] 0 (length area) area
unfolding parse parse_rest
parse-start area = refl

-- and goes pair by pair
pub parse-step : (seen : List (List ℕ)) (at past : ℕ) (rest : List ℕ)
    → parse_rest seen at past rest ≡ on_stand (stand_at rest) seen at past (λ s a r. parse_rest s a past r)
unfolding parse_from parse_rest
parse-step seen at past rest =
    on_same seen at past (λ s a r. parse_from (length rest) s a past r) (λ s a r. parse_from (suc (length r)) s a past r) (standing rest)
    (λ s a r l. enough (length rest) (suc (length r)) s a past r l (omega arith))

-- one step, by what stands
pub parse-standing : {rest : List ℕ} {x : Stand} (seen : List (List ℕ)) (at past : ℕ) → Standing rest x
    → parse_rest seen at past rest ≡ on_stand x seen at past (λ s a r. parse_rest s a past r)
parse-standing {rest} {x} seen at past s =
    parse-step seen at past rest ∙ ap (λ (y : Stand). on_stand y seen at past (λ s a r. parse_rest s a past r)) (standing-stand s)

pub parse-pair : {name : List ℕ} (seen : List (List ℕ)) (at past : ℕ) (stored rest : List ℕ) → NameRule name → spelled stored ≡ true → stands name seen ≡ false
    → parse_rest seen at past (name ++ 0x3D ∷ (stored ++ 0x00 ∷ rest))
    ≡ first_pair (pair_of name stored) (parse_rest (name ∷ seen) (at + length name + length stored + 2) past rest)
parse-pair {name} seen at past stored rest r v s = parse-standing seen at past (a_pair rest r v) ∙ rw s

pub parse-end : (seen : List (List ℕ)) (at past : ℕ) (fill : List ℕ) → parse_rest seen at past (0x00 ∷ fill) ≡ parsed []
parse-end seen at past fill = parse-standing seen at past (the_end fill)

-- ---- from pairs to the parse

pub parse-print : {seen : List (List ℕ)} {ps : List Pair} (at past : ℕ) (fill : List ℕ) → Good seen ps
    → parse_rest seen at past (pairs_bytes ps ++ 0x00 ∷ fill) ≡ parsed ps
unfolding pairs_bytes
parse-print at past fill (none {seen = seen}) = parse-end seen at past fill
parse-print at past fill (more {seen = seen} {p = p} {ps = ps} n v s g) =
    ap (parse_rest seen at past) (pair-front p ps (0x00 ∷ fill)) ∙ parse-pair seen at past p.stored (pairs_bytes ps ++ 0x00 ∷ fill) n v s
    ∙ ap (first_pair p) (parse-print (at + length p.name + length p.stored + 2) past fill g)

-- AN AREA OF GOOD PAIRS reads as those pairs, whatever follows the ending 0x00
pub area-reads : {ps : List Pair} (fill : List ℕ) → Good [] ps → parse (pairs_bytes ps ++ 0x00 ∷ fill) ≡ parsed ps
area-reads {ps} fill g = parse-start (pairs_bytes ps ++ 0x00 ∷ fill) ∙ parse-print 0 (length (pairs_bytes ps ++ 0x00 ∷ fill)) fill g

-- ---- from the parse to pairs

-- these pairs, the ending 0x00, and fill
pub record ReadFrom (seen : List (List ℕ)) (area : List ℕ) (ps : List Pair) : Type 0 where
  pub fill : List ℕ
  pub bytes : area ≡ pairs_bytes ps ++ 0x00 ∷ fill
  pub good : Good seen ps

abbrev pub Read : List ℕ → List Pair → Type 0
Read area ps = ReadFrom [] area ps

pub first-parsed : (p : Pair) (x : Parse) (ps : List Pair) → first_pair p x ≡ parsed ps → (qs : List Pair) × (ps ≡ p ∷ qs) × (x ≡ parsed qs)
first-parsed p (parsed qs) ps e = (qs, cc, refl)
first-parsed p (faulty f at) ps e = clash (cc)

pub first-faulty : (p : Pair) (x : Parse) (f : AreaFault) (at : ℕ) → first_pair p x ≡ faulty f at → x ≡ faulty f at
first-faulty p (parsed qs) f at q = clash (cc)
first-faulty p (faulty g a) f at q = q

read-end : (seen : List (List ℕ)) (rest : List ℕ) (ps : List Pair) → parsed [] ≡ parsed ps → ReadFrom seen (0x00 ∷ rest) ps
unfolding pairs_bytes
read-end seen rest ps e =
    let n : ps ≡ [] = cc in
    record { fill = rest; bytes = rw n; good = rw n none }

read_more : (seen : List (List ℕ)) (name stored rest : List ℕ) (ps qs : List Pair) → NameRule name → spelled stored ≡ true → stands name seen ≡ false
    → ps ≡ pair_of name stored ∷ qs → ReadFrom (name ∷ seen) rest qs → ReadFrom seen (name ++ 0x3D ∷ (stored ++ 0x00 ∷ rest)) ps
read_more seen name stored rest ps qs n v s e r =
    let q : name ++ 0x3D ∷ (stored ++ 0x00 ∷ rest) ≡ pairs_bytes (pair_of name stored ∷ qs) ++ 0x00 ∷ r.fill =
    ap (λ (t : List ℕ). name ++ 0x3D ∷ (stored ++ 0x00 ∷ t)) r.bytes ∙ sym (pair-front (pair_of name stored) qs (0x00 ∷ r.fill)) in
    record { fill = r.fill; bytes = rw e q; good = rw e (more n v s r.good) }

read-on : {area : List ℕ} {x : Stand} (seen : List (List ℕ)) (at past : ℕ) (ps : List Pair) (go : List (List ℕ) → ℕ → List ℕ → Parse) → Standing area x
    → on_stand x seen at past go ≡ parsed ps
    → ((s : List (List ℕ)) (a : ℕ) (r : List ℕ) (qs : List Pair) → go s a r ≡ parsed qs → ReadFrom s r qs) → ReadFrom seen area ps
read-on seen at past ps go (a_pair {name = name} {stored = stored} rest r v) e k =
    split (stands name seen) (λ t. clash (cc))
    (λ t. let f = first-parsed (pair_of name stored) (go (name ∷ seen) (at + length name + length stored + 2) rest) ps (rw t at e) in
    read_more seen name stored rest ps f.0 r v t f.1 (k (name ∷ seen) (at + length name + length stored + 2) rest f.0 f.2))
read-on seen at past ps go (the_end rest) e k = read-end seen rest ps e
read-on seen at past ps go (cut-name a l) e k = clash (cc)
read-on seen at past ps go (cut-value stored r v) e k = clash (cc)
read-on seen at past ps go (cut-escape stored r v) e k = clash (cc)
read-on seen at past ps go (a-wrong-name z u w) e k = clash (cc)
read-on seen at past ps go (a-wrong-escape stored rest r v w) e k = clash (cc)

print-from : (fuel : ℕ) (seen : List (List ℕ)) (at past : ℕ) (area : List ℕ) (ps : List Pair)
    → parse_from fuel seen at past area ≡ parsed ps → ReadFrom seen area ps
unfolding parse_from
print-from zero seen at past area ps e = clash (cc)
print-from (suc fuel) seen at past area ps e =
    read-on seen at past ps (λ s a r. parse_from fuel s a past r) (standing area) e (λ s a r qs f. print-from fuel s a past r qs f)

pub print-parse : (seen : List (List ℕ)) (at past : ℕ) (area : List ℕ) (ps : List Pair) → parse_rest seen at past area ≡ parsed ps → ReadFrom seen area ps
unfolding parse_rest
print-parse seen at past area ps e = print-from (suc (length area)) seen at past area ps e

-- AN AREA THAT READS as some pairs consists of them, the ending 0x00 and fill
pub area-read : (area : List ℕ) (ps : List Pair) → parse area ≡ parsed ps → Read area ps
area-read area ps e = print-parse [] 0 (length area) area ps (sym (parse-start area) ∙ e)

-- ---- room

pub read-room : {area : List ℕ} {ps : List Pair} → Read area ps → length (pairs_bytes ps) + 1 ≤ length area
read-room {area} {ps} r = omega (arith, ap length r.bytes, length-append (pairs_bytes ps) (0x00 ∷ r.fill))

-- ---- more pairs, and their bytes

pub pairs-append : (ps qs : List Pair) → pairs_bytes (ps ++ qs) ≡ pairs_bytes ps ++ pairs_bytes qs
unfolding pairs_bytes
pairs-append [] qs = refl
pairs-append (p ∷ ps) qs = ap (λ (l : List ℕ). pair_bytes p ++ l) (pairs-append ps qs) ∙ sym (append_assoc (pair_bytes p) (pairs_bytes ps) (pairs_bytes qs))

-- the bytes of pairs are those of their names and values
pub every-left : (P : ℕ → Type 0) (s t : List ℕ) → Every P (s ++ t) → Every P s
every-left P [] t h = tt
every-left P (x ∷ s) t h = (h.0, every-left P s t h.1)

pub every-right : (P : ℕ → Type 0) (s t : List ℕ) → Every P (s ++ t) → Every P t
every-right P [] t h = h
every-right P (x ∷ s) t h = every-right P s t h.1

pub bytes_pair : (name stored rest : List ℕ) → AllBytes (name ++ 0x3D ∷ (stored ++ 0x00 ∷ rest)) → AllBytes stored × AllBytes rest
bytes_pair name stored rest h =
    let k = (every-right (λ b. b < 256) name (0x3D ∷ (stored ++ 0x00 ∷ rest)) h).1 in
    (every-left (λ b. b < 256) stored (0x00 ∷ rest) k, (every-right (λ b. b < 256) stored (0x00 ∷ rest) k).1)

pub bytes-pairs : (p : Pair) (ps : List Pair) → AllBytes (pairs_bytes (p ∷ ps)) → AllBytes p.stored × AllBytes (pairs_bytes ps)
unfolding pairs_bytes pair_bytes
bytes-pairs p ps h =
    let k = every-left (λ b. b < 256) (pair_bytes p) (pairs_bytes ps) h in
    ((bytes_pair p.name p.stored [] k).0, every-right (λ b. b < 256) (pair_bytes p) (pairs_bytes ps) h)

pub bytes_read : {area : List ℕ} {ps : List Pair} → AllBytes area → Read area ps → AllBytes (pairs_bytes ps)
bytes_read {area} {ps} h r = every-left (λ b. b < 256) (pairs_bytes ps) (0x00 ∷ r.fill) (rw r.bytes at h)
