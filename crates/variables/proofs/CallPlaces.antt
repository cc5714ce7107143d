-- What the code's answers tell of the calls: a name refused, a fault of the area, its pairs, and the value that is read.
use Prim.Native.Nat.{ℕ, zero, suc, ◌+◌, ◌<◌, ◌≤◌}
use mathlib.Core.Path.{◌≡◌, refl, sym, ap, ◌∙◌}
use mathlib.Core.Bool.{cond}
use mathlib.Core.List.{List}
use native.Mathlib.Omega.{arith}
use lib.ListN.{length, length-append}
use lib.Dec.{ltb}
use Rattle.std.specs.Prelude.{Option, Some, None, Result, Ok, Err, ok_or, ⊤, MatchResult, IsErrAnd}
use Rattle.lists.specs.Pasted.{written_in}
use Rattle.lists.specs.Bytes.{same_bytes}
use Rattle.lists.proofs.Tests.{split, clash}
use Rattle.errors.specs.declared.Error.{Error}
use Rattle.errors.specs.declared.AreaFault.{AreaFault}
use Rattle.errors.specs.declared.Error.TheVariants.{BadArea, BadName, NoVariable, NoRoom, ShortBuffer}
use Rattle.names.specs.declared.NameFault.{NameFault}
use Rattle.names.specs.Name.{NameCheck, good, name_check, on_check}
use Rattle.names.proofs.NameLaws.{split-check}
use Rattle.values.specs.Value.{decode, written_of}
use Rattle.values.specs.Helpers.{part}
use Rattle.values.proofs.WrittenLaws.{length-told, fits_told, none-told, pasted-in, kept_in}
use Rattle.pairs.specs.declared.Scanned.{Scanned}
use Rattle.pairs.specs.declared.Place.{Place}
use Rattle.pairs.specs.Scan.{Stand, pair, finish, cut, wrong_name, wrong_escape, stand_at}
use Rattle.pairs.specs.Area.{Pair, pairs_bytes, Parse, parsed, faulty, parse}
use Rattle.variables.specs.Edits.{area_bytes, set_pair, found, missing, lookup}
use Rattle.variables.specs.Calls.{Action, read_into, Call, named, set, count, read, lent, call_check, Reply, done, refused, Outcome, refuse, edited, set_in, call_pairs, call_area}
use Rattle.variables.specs.Views.{amount_reply}
use Rattle.pairs.specs.Helpers.{placed, scanned_of, on_find, find_from, find_at}
use Rattle.variables.specs.Helpers.{named_scan}
use Rattle.pairs.proofs.PairPlaces.{pair-here}
use Rattle.variables.proofs.CallLaws.{check-named, check-count, call-misnamed, call-faulty, call-parsed, count-done, read-missing, read_short, read_done}
use Rattle.variables.proofs.FoundLaws.{parsed-ended, FoundAt, find-found, find-missing, lookup-split, found-stored}

-- ---- the area's parse, by the code's scan

pub record PairsOf (p : Parse) (sought : Option Place) (s : Scanned) : Type 0 where
  pub pairs : List Pair
  pub is : p ≡ parsed pairs
  pub counted : s.count ≡ length pairs
  pub long : s.used ≡ length (pairs_bytes pairs)
  pub there : s.place ≡ sought

pub scanned-pairs : (p : Parse) (sought : Option Place) (s : Scanned) → Ok s ≡ scanned_of p sought → PairsOf p sought s
unfolding scanned_of
scanned-pairs (parsed ps) sought s e =
    let f : s ≡ record { count = length ps; used = length (pairs_bytes ps); place = sought } = cc in
    record {
      pairs = ps;
      is = refl;
      counted = ap (λ (x : Scanned). x.count) f;
      long = ap (λ (x : Scanned). x.used) f;
      there = ap (λ (x : Scanned). x.place) f;
    }
scanned-pairs (faulty f at) sought s e = clash cc

pub record FaultOf (p : Parse) (e : Error) : Type 0 where
  pub fault : AreaFault
  pub at : ℕ
  pub is : p ≡ faulty fault at
  pub error : e ≡ BadArea fault at

pub scanned-refused : (p : Parse) (sought : Option Place) (e : Error) → Err e ≡ scanned_of p sought → FaultOf p e
unfolding scanned_of
scanned-refused (parsed ps) sought e q = clash cc
scanned-refused (faulty f at) sought e q = record { fault = f; at = at; is = refl; error = cc }

-- a call that is not refused by its name is refused by the area's fault
pub scan-faulty : (call : Call) (area : List ℕ) (sought : Option Place) (e : Error) → call_check call ≡ good → Err e ≡ scanned_of (parse area) sought
    → call_area call area ≡ refuse e call area
scan-faulty call area sought e n q =
    let f = scanned-refused (parse area) sought e q in
    call-faulty call area n f.fault f.at f.is ∙ ap (λ (x : Error). refuse x call area) (sym f.error)

-- ---- the scan for a name, and the calls that take one

-- what the pairs of such a scan tell
pub record NamedPairs (area name : List ℕ) (s : Scanned) : Type 0 where
  pub good-name : name_check name ≡ good
  pub scanned : PairsOf (parse area) (find_at area name) s

module _ (area name : List ℕ) where
  pub scan-misnamed : (f : NameFault) → name_check name ≡ Err f → Err (BadName f.at) ≡ named_scan area name
  unfolding named_scan
  scan-misnamed f w = rw w

  pub scan-wellnamed : (u : ⊤) → name_check name ≡ Ok u → scanned_of (parse area) (find_at area name) ≡ named_scan area name
  unfolding named_scan
  scan-wellnamed u w = rw w

  pub named-pairs : (s : Scanned) → Ok s ≡ named_scan area name → NamedPairs area name s
  unfolding named_scan
  named-pairs s e =
      split-check (name_check name)
      (λ t. record { good-name = t; scanned = scanned-pairs (parse area) (find_at area name) s (rw t at e) })
      (λ at t. let f : Ok s ≡ Err (BadName at) = rw t at e in clash cc)

module _ (name : List ℕ) (action : Action) (area : List ℕ) where
  pub call-refused : (k : Error) → Err k ≡ named_scan area name → call_area (named name action) area ≡ refuse k (named name action) area
  unfolding named_scan
  call-refused k e =
      let call : Call = named name action in
      split-check (name_check name)
      (λ t. scan-faulty call area (find_at area name) k (check-named name action ∙ t) (rw t at e))
      (λ at t.
      let f : Err k ≡ Err (BadName at) = rw t at e in
      let j : k ≡ BadName at = cc in
      call-misnamed call area at (check-named name action ∙ t) ∙ ap (λ (x : Error). refuse x call area) (sym j))

  -- a call by its name on an area without a fault
  pub call-scanned : (s : Scanned) (e : Ok s ≡ named_scan area name)
      → call_area (named name action) area ≡ call_pairs (named name action) (named-pairs area name s e).scanned.pairs area
  call-scanned s e =
      let k = named-pairs area name s e in
      call-parsed (named name action) area (check-named name action ∙ k.good-name) k.scanned.pairs k.scanned.is

-- a refused edit leaves the area
pub edit-refused : {o : Outcome} {k : Error} (call : Call) {area : List ℕ} → o ≡ refuse k call area → (refused k ≡ o.reply) × (area ≡ o.area)
edit-refused call f = (ap (λ (o : Outcome). o.reply) (sym f), ap (λ (o : Outcome). o.area) (sym f))

-- A SET BY THE PAIRS THAT IT MAKES: where they lack room it is refused and the area stays
pub set-makes : (name value : List ℕ) (ps qs : List Pair) (area : List ℕ) → set_pair name value ps ≡ qs
    → call_pairs (set name value) ps area
    ≡ cond (ltb (length area) (length (pairs_bytes qs) + 1)) (refuse NoRoom (set name value) area) (edited (area_bytes (length area) qs))
unfolding call_pairs set_in
set-makes name value ps qs area s =
    ap (λ (l : List Pair). cond (ltb (length area) (length (pairs_bytes l) + 1)) (refuse NoRoom (set name value) area)
    (edited (area_bytes (length area) l))) s

-- ---- count

pub count-pairs : (area : List ℕ) (sought : Option Place) (s : Scanned) → Ok s ≡ scanned_of (parse area) sought
    → done s.count ≡ (call_area count area).reply
count-pairs area sought s e =
    let p = scanned-pairs (parse area) sought s e in
    ap done p.counted ∙ sym (ap (λ (o : Outcome). o.reply) (call-parsed count area check-count p.pairs p.is ∙ count-done p.pairs area))

pub count-refused : (area : List ℕ) (sought : Option Place) (k : Error) → Err k ≡ scanned_of (parse area) sought → refused k ≡ (call_area count area).reply
count-refused area sought k e = sym (ap (λ (o : Outcome). o.reply) (scan-faulty count area sought k check-count e))

-- ---- read

-- a pair that is found stands inside the area
find-from : (name : List ℕ) (n at : ℕ) (l : List ℕ) (p : Place) → find_from n name at l ≡ Some p → (p.equals + 1 ≤ p.end) × (p.end < at + length l)
unfolding find_from
find-from name zero at l p h = clash cc
find-from name (suc n) at l p h = go (stand_at l) refl h (find-from name n)
  where
    Rest : Type 0
    Rest = (at : ℕ) (l : List ℕ) (p : Place) → find_from n name at l ≡ Some p → (p.equals + 1 ≤ p.end) × (p.end < at + length l)

    go : (x : Stand) → stand_at l ≡ x → on_find x name at (λ a r. find_from n name a r) ≡ Some p → Rest → (p.equals + 1 ≤ p.end) × (p.end < at + length l)
    go finish u f ih = clash cc
    go cut u f ih = clash cc
    go (wrong_name k) u f ih = clash cc
    go (wrong_escape k) u f ih = clash cc
    go (pair m stored next) u f ih =
        let k : length l ≡ length m + length stored + 2 + length next =
        ap length (pair-here l m stored next u).is ∙ simp length-append (omega arith) in
        split (same_bytes name m)
        (λ t.
        let g : Some (placed at m stored) ≡ Some p = rw t at f in
        let h : placed at m stored ≡ p = cc in
        let a : at + length m ≡ p.equals = ap (λ (x : Place). x.equals) h in
        let b : at + length m + 1 + length stored ≡ p.end = ap (λ (x : Place). x.end) h in
        (omega arith, omega arith))
        (λ t. let r = ih (at + length m + length stored + 2) next p (rw t at f) in (r.0, omega (arith, r.1)))

pub find-inside : (area name : List ℕ) (p : Place) → find_at area name ≡ Some p → (p.equals + 1 ≤ p.end) × (p.end < length area)
unfolding find_at
find-inside area name p h = let r = find-from name (suc (length area)) 0 area p h in (r.0, omega (arith, r.1))

-- a place that is sought, or else an error
module _ {A B : Type 0} (e : B) where
  pub some-place : (x : Option A) (p : A) → ok_or x e ≡ Ok p → x ≡ Some p
  some-place (Some q) p h = cc
  some-place None p h = clash cc

  pub no_place : (x : Option A) (f : B) → ok_or x e ≡ Err f → (x ≡ None) × (f ≡ e)
  no_place (Some q) f h = clash cc
  no_place None f h = (refl, cc)

-- what a read answers, and the buffer afterwards
pub record Reads (o : Outcome) (reply : Reply) (buffer : List ℕ) : Type 0 where
  pub result_value : reply ≡ o.reply
  pub buffer_after : buffer ≡ o.buffer

pub reads-refused : {o : Outcome} {e : Error} (call : Call) {area : List ℕ} → o ≡ refuse e call area → {buffer : List ℕ} → buffer ≡ lent call
    → Reads o (refused e) buffer
reads-refused call q {buffer} b =
    record { result_value = ap (λ (x : Outcome). x.reply) (sym q); buffer_after = b ∙ ap (λ (x : Outcome). x.buffer) (sym q) }

-- a read of an area without a fault, by what its scan for the name finds
module _ (area name buffer : List ℕ) (s : Scanned) (e : Ok s ≡ named_scan area name) where
  abbrev told : NamedPairs area name s
  told = named-pairs area name s e

  abbrev ps : List Pair
  ps = told.scanned.pairs

  abbrev outcome : Outcome
  outcome = call_area (read name buffer) area

  scanned-read : outcome ≡ call_pairs (read name buffer) ps area
  scanned-read = call-scanned name (read_into buffer) area s e

  -- no pair has the name
  pub read-none : {r : Result Place Error} {f : Error} → r ≡ ok_or s.place NoVariable → r ≡ Err f → Reads outcome (refused f) buffer
  read-none k h =
      let n = no_place NoVariable s.place _ (sym k ∙ h) in
      let f : lookup name ps ≡ missing = find-missing area name ps told.scanned.is (sym told.scanned.there ∙ n.0) in
      let r = reads-refused (read name buffer) (scanned-read ∙ read-missing name ps area buffer f) refl in
      record { result_value = ap refused n.1 ∙ r.result_value; buffer_after = r.buffer_after }

  module _ {r : Result Place Error} (p : Place) (k : r ≡ ok_or s.place NoVariable) (ok : r ≡ Ok p) where
    h : s.place ≡ Some p
    h = some-place NoVariable s.place p (sym k ∙ ok)

    abbrev value : List ℕ
    value = decode (part area (p.equals + 1) p.end)

    pub sought-inside : (p.equals + 1 ≤ p.end) × (p.end < length area)
    sought-inside = find-inside area name p (sym told.scanned.there ∙ h)

    looked-up : lookup name ps ≡ found value
    looked-up =
        let f : FoundAt name ps p = find-found area name ps told.scanned.is p (sym told.scanned.there ∙ h) in
        ap (lookup name) f.pairs ∙ lookup-split name f.stored f.after f.before f.fresh
        ∙ ap (λ (l : List ℕ). found (decode l)) (sym (found-stored f (parsed-ended area ps told.scanned.is)))

    -- the value is decoded, if the buffer has room for it
    pub read-decoded : (r : Option ℕ) (b : List ℕ) → r ≡ written_of value (length buffer) → b ≡ written_in value buffer
        → Reads outcome (amount_reply (ok_or r ShortBuffer)) b
    read-decoded (Some n) b w i =
        let k = length-told value (length buffer) n (sym w) in
        let f : length value ≤ length buffer = fits_told value (length buffer) n (sym w) in
        let q = scanned-read ∙ read_done name ps area buffer looked-up f in
        record {
          result_value = ap done k.0 ∙ ap (λ (x : Outcome). x.reply) (sym q);
          buffer_after = i ∙ pasted-in value buffer f ∙ ap (λ (x : Outcome). x.buffer) (sym q);
        }
    read-decoded None b w i =
        let f : length buffer < length value = none-told value (length buffer) (sym w) in
        reads-refused (read name buffer) (scanned-read ∙ read_short name ps area buffer looked-up f) (i ∙ kept_in value buffer f)
