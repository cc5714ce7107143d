-- What the edits by offsets leave is what the edits of the pairs say.
use Prim.Native.Nat.{ℕ, ◌+◌, ◌-◌, ◌≤◌, ◌<◌}
use mathlib.Core.Bool.{cond}
use mathlib.Core.Path.{◌≡◌, sym, ap, ◌∙◌}
use mathlib.Core.List.{List, [], ◌∷◌, ◌++◌, append_assoc, append-nil}
use native.Mathlib.Omega.{arith}
use lib.Dec.{ltb}
use lib.ListN.{length, length-append}
use borrow.Author.Tests.{lt-ltb, le-ltb, ltb-true, ltb-false}
use Rattle.lists.specs.Pasted.{pasted}
use Rattle.lists.proofs.Tests.{split}
use Rattle.lists.proofs.PastedLaws.{pasted-none}
use Rattle.errors.specs.declared.Error.TheVariants.{NoRoom, NoVariable}
use Rattle.std.specs.Prelude.{Some, None, Ok}
use Rattle.pairs.specs.declared.Scanned.{Scanned}
use Rattle.pairs.specs.declared.Place.{Place}
use Rattle.pairs.specs.Area.{Pair, pair_of, pair_bytes, pairs_bytes, parse}
use Rattle.variables.specs.Edits.{area_bytes, canonical_pair, set_pair, remove_pair, lookup, found, missing}
use Rattle.variables.specs.Calls as Calls
use Rattle.variables.specs.Calls.{Outcome, refuse, edited, done, refused, call_area}
use Rattle.variables.specs.Helpers.{named_scan}
use Rattle.pairs.specs.Helpers.{find_at}
use Rattle.edits.specs.Helpers.{tail_shifted, replace_reply, replace_area}
use Rattle.pairs.proofs.ParseLaws.{area-read, read-room, pairs-append}
use Rattle.variables.proofs.EditLaws.{set-nowhere, lookup-missing-exactly}
use Rattle.variables.proofs.CallPlaces.{PairsOf, named-pairs, call-scanned, edit-refused, set-makes}
use Rattle.variables.proofs.CallLaws as Laws
use Rattle.edits.proofs.SpliceLaws.{pairs-spliced}
use Rattle.variables.proofs.FoundLaws.{FoundAt, find-found, find-missing, lookup-split, remove-split, set_split}

-- the room for the new bytes, by the tests that the code makes
module _ (area : List ℕ) (start rest used : ℕ) (new : List ℕ) where
  pub no_room : length area < start + length new + (used - rest) + 1
      → (refused NoRoom ≡ replace_reply area start rest used new) × (area ≡ replace_area area start rest used new)
  unfolding replace_reply replace_area
  no_room h = (rw (lt-ltb _ _ h), rw (lt-ltb _ _ h))

  pub has_room : start + length new + (used - rest) + 1 ≤ length area
      → (done 0 ≡ replace_reply area start rest used new)
      × (pasted (tail_shifted area rest (start + length new) used) start new ≡ replace_area area start rest used new)
  unfolding replace_reply replace_area
  has_room h = (rw (le-ltb _ _ h), rw (le-ltb _ _ h))

-- new bytes in the place of old ones, among the pairs before and after
module _ (before : List Pair) (old : List ℕ) (after : List Pair) (z area : List ℕ) (e : area ≡ pairs_bytes before ++ (old ++ (pairs_bytes after ++ z))) where
  bytes_of : (q : Pair) → pairs_bytes (q ∷ []) ≡ pair_bytes q
  unfolding pairs_bytes
  bytes_of q = append-nil (pair_bytes q)

  long_of : (q : Pair) → length (pairs_bytes (before ++ q ∷ after)) ≡ length (pairs_bytes before) + length (pair_bytes q) + length (pairs_bytes after)
  unfolding pairs_bytes
  long_of q =
      omega (
        arith,
        ap length (pairs-append before (q ∷ after)),
        length-append (pairs_bytes before) (pairs_bytes (q ∷ after)),
        length-append (pair_bytes q) (pairs_bytes after),
      )

  module _ (start rest used : ℕ) (es : start ≡ length (pairs_bytes before)) (er : rest ≡ start + length old) (eu : used ≡ rest + length (pairs_bytes after)) where
    pub replaced : (q : Pair) (call : Calls.Call) (o : Outcome)
        → o ≡ cond (ltb (length area) (length (pairs_bytes (before ++ q ∷ after)) + 1)) (refuse NoRoom call area)
        (edited (area_bytes (length area) (before ++ q ∷ after)))
        → (replace_reply area start rest used (pair_bytes q) ≡ o.reply) × (replace_area area start rest used (pair_bytes q) ≡ o.area)
    replaced q call o eo =
        let n : start + length (pair_bytes q) + (used - rest) + 1 ≡ length (pairs_bytes (before ++ q ∷ after)) + 1 = omega (arith, long_of q) in
        split (ltb (length area) (length (pairs_bytes (before ++ q ∷ after)) + 1))
        (λ t.
        let h : length area < length (pairs_bytes (before ++ q ∷ after)) + 1 = ltb-true _ _ t in
        let p = no_room area start rest used (pair_bytes q) (omega arith) in
        let f : o ≡ refuse NoRoom call area = eo ∙ rw t in
        (sym p.0 ∙ ap (λ (x : Outcome). x.reply) (sym f), sym p.1 ∙ ap (λ (x : Outcome). x.area) (sym f)))
        (λ t.
        let h : length (pairs_bytes (before ++ q ∷ after)) + 1 ≤ length area = ltb-false _ _ t in
        let p = has_room area start rest used (pair_bytes q) (omega arith) in
        let f : o ≡ edited (area_bytes (length area) (before ++ q ∷ after)) = eo ∙ rw t in
        let eu2 : used ≡ length (pairs_bytes before) + length old + length (pairs_bytes after) = omega arith in
        let er2 : rest ≡ length (pairs_bytes before) + length old = omega arith in (
          sym p.0 ∙ ap (λ (x : Outcome). x.reply) (sym f),
          sym p.1
              ∙ (λ i. pasted (tail_shifted area (er2 i) (es i + length (sym (bytes_of q) i)) (eu2 i)) (es i) (sym (bytes_of q) i))
              ∙ pairs-spliced before old after z area e (q ∷ []) h
              ∙ ap (λ (x : Outcome). x.area) (sym f),
        ))

    pub removed : length (pairs_bytes (before ++ after)) + 1 ≤ length area → tail_shifted area rest start used ≡ area_bytes (length area) (before ++ after)
    unfolding pairs_bytes
    removed h =
        let n : length (pairs_bytes before) + 0 ≡ length (pairs_bytes before) = omega arith in
        let eu2 : used ≡ length (pairs_bytes before) + length old + length (pairs_bytes after) = omega arith in
        let er2 : rest ≡ length (pairs_bytes before) + length old = omega arith in
        let es2 : start ≡ length (pairs_bytes before) + 0 = omega arith in
        (λ i. tail_shifted area (er2 i) (es2 i) (eu2 i)) ∙ pasted-none _ (length (pairs_bytes before))
        ∙ pairs-spliced before old after z area e [] h

-- an area without a fault, and what the scan for a name finds in it
module _ (area name : List ℕ) (s : Scanned) (e : Ok s ≡ named_scan area name) where
  abbrev told : PairsOf (parse area) (find_at area name) s
  told = (named-pairs area name s e).scanned

  abbrev ps : List Pair
  ps = told.pairs

  pub used-inside : s.used + 1 ≤ length area
  used-inside = omega (arith, told.long, read-room (area-read area ps told.is))

  padding : List ℕ
  padding = (area-read area ps told.is).fill

  bytes : area ≡ pairs_bytes ps ++ 0x00 ∷ padding
  unfolding padding
  bytes = (area-read area ps told.is).bytes

  module _ (p : Place) (h : s.place ≡ Some p) where
    there : FoundAt name ps p
    there = find-found area name ps told.is p (sym told.there ∙ h)

    old : List ℕ
    old = pair_bytes (pair_of name there.stored)

    around : area ≡ pairs_bytes there.before ++ (old ++ (pairs_bytes there.after ++ 0x00 ∷ padding))
    unfolding old pairs_bytes
    around =
        bytes ∙ ap (λ (qs : List Pair). pairs_bytes qs ++ 0x00 ∷ padding) there.pairs
        ∙ ap (λ (l : List ℕ). l ++ 0x00 ∷ padding) (pairs-append there.before (pair_of name there.stored ∷ there.after))
        ∙ append_assoc (pairs_bytes there.before) (old ++ pairs_bytes there.after) (0x00 ∷ padding)
        ∙ ap (λ (l : List ℕ). pairs_bytes there.before ++ l) (append_assoc old (pairs_bytes there.after) (0x00 ∷ padding))

    old-long : length old ≡ length name + length there.stored + 2
    unfolding old pair_bytes
    old-long =
        omega (arith, length-append name (0x3D ∷ (there.stored ++ 0x00 ∷ [])), length-append there.stored (0x00 ∷ []))

    rest-is : p.end + 1 ≡ p.start + length old
    rest-is = omega (arith, there.equals-is, there.end_is, old-long)

    used-is : s.used ≡ p.end + 1 + length (pairs_bytes there.after)
    unfolding old pairs_bytes
    used-is =
        omega (
          arith,
          told.long,
          ap (λ (qs : List Pair). length (pairs_bytes qs)) there.pairs,
          ap length (pairs-append there.before (pair_of name there.stored ∷ there.after)),
          length-append (pairs_bytes there.before) (pairs_bytes (pair_of name there.stored ∷ there.after)),
          length-append old (pairs_bytes there.after),
          there.start_is,
          rest-is,
        )

    pub found-bounds : (p.start ≤ p.end + 1) × (p.end + 1 ≤ s.used) × (s.used + 1 ≤ length area)
    found-bounds = (omega (arith, rest-is), omega (arith, used-is), used-inside)

    pub set_found : (value : List ℕ)
        → (replace_reply area p.start (p.end + 1) s.used (pair_bytes (canonical_pair name value)) ≡ (call_area (Calls.set name value) area).reply)
        × (replace_area area p.start (p.end + 1) s.used (pair_bytes (canonical_pair name value)) ≡ (call_area (Calls.set name value) area).area)
    set_found value =
        let q : set_pair name value ps ≡ there.before ++ canonical_pair name value ∷ there.after =
        ap (set_pair name value) there.pairs ∙ set_split name there.stored there.after value there.before there.fresh in
        replaced there.before old there.after (0x00 ∷ padding) area around p.start (p.end + 1) s.used there.start_is rest-is used-is
        (canonical_pair name value) (Calls.set name value) (call_area (Calls.set name value) area)
        (call-scanned name (Calls.set_to value) area s e ∙ set-makes name value ps _ area q)

    pub remove-found : (done 0 ≡ (call_area (Calls.remove name) area).reply)
        × (tail_shifted area (p.end + 1) p.start s.used ≡ (call_area (Calls.remove name) area).area)
    remove-found =
        let r : remove_pair name ps ≡ there.before ++ there.after =
        ap (remove_pair name) there.pairs ∙ remove-split name there.stored there.after there.before there.fresh in
        let l : lookup name ps ≡ found _ =
        ap (lookup name) there.pairs ∙ lookup-split name there.stored there.after there.before there.fresh in
        let f : call_area (Calls.remove name) area ≡ edited (area_bytes (length area) (there.before ++ there.after)) =
        call-scanned name Calls.removal area s e ∙ Laws.remove-found name ps area l ∙ ap (λ (qs : List Pair). edited (area_bytes (length area) qs)) r in
        let n : length (pairs_bytes (there.before ++ there.after)) ≡ length (pairs_bytes there.before) + length (pairs_bytes there.after) =
        ap length (pairs-append there.before there.after) ∙ length-append (pairs_bytes there.before) (pairs_bytes there.after) in (
          ap (λ (x : Outcome). x.reply) (sym f),
          removed there.before old there.after (0x00 ∷ padding) area around p.start (p.end + 1) s.used there.start_is rest-is used-is
              (omega (arith, there.start_is, rest-is, used-is, used-inside)) ∙ ap (λ (x : Outcome). x.area) (sym f),
        )

  module _ (h : s.place ≡ None) where
    gone : lookup name ps ≡ missing
    gone = find-missing area name ps told.is (sym told.there ∙ h)

    pub set-added : (value : List ℕ)
        → (replace_reply area s.used s.used s.used (pair_bytes (canonical_pair name value)) ≡ (call_area (Calls.set name value) area).reply)
        × (replace_area area s.used s.used s.used (pair_bytes (canonical_pair name value)) ≡ (call_area (Calls.set name value) area).area)
    unfolding pairs_bytes
    set-added value =
        let q : set_pair name value ps ≡ ps ++ canonical_pair name value ∷ [] =
        set-nowhere name value ps ((lookup-missing-exactly name ps).0 gone) in
        replaced ps [] [] (0x00 ∷ padding) area bytes s.used s.used s.used told.long (omega arith) (omega arith) (canonical_pair name value)
        (Calls.set name value) (call_area (Calls.set name value) area)
        (call-scanned name (Calls.set_to value) area s e ∙ set-makes name value ps _ area q)

    pub remove-missing : (refused NoVariable ≡ (call_area (Calls.remove name) area).reply) × (area ≡ (call_area (Calls.remove name) area).area)
    remove-missing = edit-refused (Calls.remove name) (call-scanned name Calls.removal area s e ∙ Laws.remove-missing name ps area gone)
