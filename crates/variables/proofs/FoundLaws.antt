-- What the search for a name finds in a parsed area: the pair before which the edits and the lookup split the list.
use Rattle.std.specs.Prelude.{Option, Some, None}
use Prim.Native.Nat.{ℕ, zero, suc, ◌+◌, ◌-◌, ◌<◌}
use mathlib.Core.Bool.{cond}
use mathlib.Core.Path.{◌≡◌, refl, sym, ap, ◌∙◌, subst}
use mathlib.Core.List.{List, [], ◌∷◌, ◌++◌, append_assoc}
use native.Mathlib.Omega.{arith}
use lib.ListN.{length, take, drop, length-append}
use lib.Seq.{take_at, drop_at}
use Rattle.lists.specs.Bytes.{same_bytes, stands}
use Rattle.lists.proofs.ByteLaws.{same_refl, same_true}
use Rattle.lists.proofs.Tests.{split, clash}
use Rattle.errors.specs.declared.AreaFault.TheVariants.{Repeated}
use Rattle.values.specs.Value.{decode}
use Rattle.values.specs.Helpers.{part}
use Rattle.pairs.specs.declared.Place.{Place}
use Rattle.pairs.specs.Scan.{Stand, pair, finish, cut, wrong_name, wrong_escape, stand_at}
use Rattle.pairs.specs.Area.{Pair, pair_of, pair_bytes, pairs_bytes, Parse, parsed, faulty, first_pair, on_stand, parse_from, parse}
use Rattle.variables.specs.Edits.{canonical_pair, set_pair, remove_pair, found, missing, lookup}
use Rattle.pairs.specs.Helpers.{placed, find_from, find_at}
use Rattle.pairs.proofs.PairPlaces.{pair-here}
use Rattle.pairs.proofs.PairRuns.{PairRun, none, more, pair-bytes, run-bytes}
use Rattle.pairs.proofs.ParseLaws.{pairs-append, length-pair}

-- l is these pairs, and then the ending 0x00
pub record Ended (ps : List Pair) (l : List ℕ) : Type 0 where
  pub rest : List ℕ
  pub run : PairRun ps l rest
  pub stop : stand_at rest ≡ finish

ended-none : (ps : List Pair) (l : List ℕ) → stand_at l ≡ finish → parsed [] ≡ parsed ps → Ended ps l
ended-none ps l s e = let f : [] ≡ ps = cc in record { rest = l; run = subst (λ (qs : List Pair). PairRun qs l l) f none; stop = s }

ended-more : (ps qs : List Pair) (l name stored next : List ℕ) → stand_at l ≡ pair name stored next
    → parsed (pair_of name stored ∷ qs) ≡ parsed ps → Ended qs next → Ended ps l
ended-more ps qs l name stored next s e r =
    let f : pair_of name stored ∷ qs ≡ ps = cc in
    record { rest = r.rest; run = subst (λ (xs : List Pair). PairRun xs l r.rest) f (more s r.run); stop = r.stop }

parsed-from : (n : ℕ) (seen : List (List ℕ)) (at past : ℕ) (l : List ℕ) (ps : List Pair) → parse_from n seen at past l ≡ parsed ps → Ended ps l
unfolding parse_from
parsed-from zero seen at past l ps e = clash cc
parsed-from (suc n) seen at past l ps e = go (stand_at l) refl e (parsed-from n)
  where
    Rest : Type 0
    Rest = (seen : List (List ℕ)) (at past : ℕ) (l : List ℕ) (ps : List Pair) → parse_from n seen at past l ≡ parsed ps → Ended ps l

    by : Rest → (name stored next : List ℕ) → stand_at l ≡ pair name stored next → (x : Parse)
        → parse_from n (name ∷ seen) (at + length name + length stored + 2) past next ≡ x
        → first_pair (pair_of name stored) x ≡ parsed ps → Ended ps l
    by ih name stored next s (faulty g k) q f = clash cc
    by ih name stored next s (parsed qs) q f =
        ended-more ps qs l name stored next s f (ih (name ∷ seen) (at + length name + length stored + 2) past next qs q)

    go : (s : Stand) → stand_at l ≡ s → on_stand s seen at past (λ s a r. parse_from n s a past r) ≡ parsed ps → Rest → Ended ps l
    go finish s f ih = ended-none ps l s f
    go cut s f ih = clash cc
    go (wrong_name k) s f ih = clash cc
    go (wrong_escape k) s f ih = clash cc
    go (pair name stored next) s f ih = split (stands name seen)
        (λ t. let g : faulty Repeated at ≡ parsed ps = rw t at f in clash cc)
        (λ t. by ih name stored next s (parse_from n (name ∷ seen) (at + length name + length stored + 2) past next) refl (rw t at f))

pub parsed-ended : (area : List ℕ) (ps : List Pair) → parse area ≡ parsed ps → Ended ps area
unfolding parse
parsed-ended area ps e = parsed-from (suc (length area)) [] 0 (length area) area ps e

-- the first of these pairs with that name; at: the offset of the first
unfoldable place_in : List ℕ → ℕ → List Pair → Option Place
place_in name at [] = None
place_in name at (p ∷ ps) =
    cond (same_bytes name p.name) (Some (placed at p.name p.stored))
    (place_in name (at + length p.name + length p.stored + 2) ps)

find-run : (name : List ℕ) (n at : ℕ) {ps : List Pair} {l rest : List ℕ} → PairRun ps l rest → stand_at rest ≡ finish → length l < n
    → find_from n name at l ≡ place_in name at ps
unfolding find_from place_in
find-run name zero at r s h = absurd (omega arith)
find-run name (suc n) at none s h = rw s
find-run name (suc n) at (more {name = m} {stored} {l} {next} {ps = ps} e r) s h =
    let k : length l ≡ length m + length stored + 2 + length next =
    ap length (pair-here l m stored next e).is ∙ simp length-append (omega arith) in
    rw e
    (ap (cond (same_bytes name m) (Some (placed at m stored)))
    (find-run name n (at + length m + length stored + 2) r s (omega arith)))

find-parsed : (area name : List ℕ) (ps : List Pair) → parse area ≡ parsed ps → find_at area name ≡ place_in name 0 ps
unfolding find_at
find-parsed area name ps e = let r = parsed-ended area ps e in find-run name (suc (length area)) 0 r.run r.stop (omega arith)

-- where the first pair of a name stands in a list of pairs, and its offsets
pub record FoundAt (name : List ℕ) (ps : List Pair) (p : Place) : Type 0 where
  pub before : List Pair
  pub stored : List ℕ
  pub after : List Pair
  pub pairs : ps ≡ before ++ pair_of name stored ∷ after
  pub fresh : lookup name before ≡ missing
  pub start_is : p.start ≡ length (pairs_bytes before)
  pub equals-is : p.equals ≡ p.start + length name
  pub end_is : p.end ≡ p.equals + 1 + length stored

-- the same from the offset at on
record FoundFrom (name : List ℕ) (at : ℕ) (ps : List Pair) (p : Place) : Type 0 where
  before : List Pair
  stored : List ℕ
  after : List Pair
  pairs : ps ≡ before ++ pair_of name stored ∷ after
  fresh : lookup name before ≡ missing
  start_is : p.start ≡ at + length (pairs_bytes before)
  equals-is : p.equals ≡ p.start + length name
  end_is : p.end ≡ p.equals + 1 + length stored

placed-from : (name : List ℕ) (at : ℕ) (ps : List Pair) (x : Place) → place_in name at ps ≡ Some x → FoundFrom name at ps x
unfolding place_in lookup pairs_bytes
placed-from name at [] x h = clash cc
placed-from name at (p ∷ ps) x h = split (same_bytes name p.name)
    (λ t.
    let f : Some (placed at p.name p.stored) ≡ Some x = rw t at h in
    let g : placed at p.name p.stored ≡ x = cc in
    let n : name ≡ p.name = same_true name p.name t in
    let a : at ≡ x.start = ap (λ (y : Place). y.start) g in
    let b : at + length p.name ≡ x.equals = ap (λ (y : Place). y.equals) g in
    let c : at + length p.name + 1 + length p.stored ≡ x.end = ap (λ (y : Place). y.end) g in
    let k : length name ≡ length p.name = ap length n in
    record {
      before = [];
      stored = p.stored;
      after = ps;
      pairs = λ i. pair_of (sym n i) p.stored ∷ ps;
      fresh = refl;
      start_is = omega arith;
      equals-is = omega arith;
      end_is = omega arith;
    })
    (λ t.
    let r = placed-from name (at + length p.name + length p.stored + 2) ps x (rw t at h) in
    record {
      before = p ∷ r.before;
      stored = r.stored;
      after = r.after;
      pairs = ap (λ (qs : List Pair). p ∷ qs) r.pairs;
      fresh = rw (t, lookup) r.fresh;
      start_is = omega (arith, r.start_is, length-append (pair_bytes p) (pairs_bytes r.before), length-pair p);
      equals-is = r.equals-is;
      end_is = r.end_is;
    })

placed-missing : (name : List ℕ) (at : ℕ) (ps : List Pair) → place_in name at ps ≡ None → lookup name ps ≡ missing
unfolding place_in lookup
placed-missing name at [] h = refl
placed-missing name at (p ∷ ps) h = split (same_bytes name p.name)
    (λ t. let f : Some (placed at p.name p.stored) ≡ None = rw t at h in clash cc)
    (λ t. rw (t, lookup) (placed-missing name (at + length p.name + length p.stored + 2) ps (rw t at h)))

missing-placed : (name : List ℕ) (at : ℕ) (ps : List Pair) → lookup name ps ≡ missing → place_in name at ps ≡ None
unfolding place_in lookup
missing-placed name at [] h = refl
missing-placed name at (p ∷ ps) h = split (same_bytes name p.name)
    (λ t. let f : found (decode p.stored) ≡ missing = rw (t, lookup) at h in clash cc)
    (λ t. rw t (missing-placed name (at + length p.name + length p.stored + 2) ps (rw (t, lookup) at h)))

module _ (area name : List ℕ) (ps : List Pair) (e : parse area ≡ parsed ps) where
  pub find-found : (p : Place) → find_at area name ≡ Some p → FoundAt name ps p
  find-found p h =
      let r = placed-from name 0 ps p (sym (find-parsed area name ps e) ∙ h) in
      record {
        before = r.before;
        stored = r.stored;
        after = r.after;
        pairs = r.pairs;
        fresh = r.fresh;
        start_is = omega (arith, r.start_is);
        equals-is = r.equals-is;
        end_is = r.end_is;
      }

  pub find-missing : find_at area name ≡ None → lookup name ps ≡ missing
  find-missing h = placed-missing name 0 ps (sym (find-parsed area name ps e) ∙ h)

  pub missing-find : lookup name ps ≡ missing → find_at area name ≡ None
  missing-find h = find-parsed area name ps e ∙ missing-placed name 0 ps h

-- ---- what the edits and the lookup make of a list that is split so

module _ (name stored : List ℕ) (after : List Pair) where
  pub lookup-split : (before : List Pair) → lookup name before ≡ missing → lookup name (before ++ pair_of name stored ∷ after) ≡ found (decode stored)
  unfolding lookup
  lookup-split [] h = rw (same_refl name, lookup)
  lookup-split (p ∷ ps) h = split (same_bytes name p.name)
      (λ t. let f : found (decode p.stored) ≡ missing = rw (t, lookup) at h in clash cc)
      (λ t. rw (t, lookup) (lookup-split ps (rw (t, lookup) at h)))

  pub remove-split : (before : List Pair) → lookup name before ≡ missing → remove_pair name (before ++ pair_of name stored ∷ after) ≡ before ++ after
  unfolding lookup remove_pair
  remove-split [] h = rw (same_refl name, remove_pair)
  remove-split (p ∷ ps) h = split (same_bytes name p.name)
      (λ t. let f : found (decode p.stored) ≡ missing = rw (t, lookup) at h in clash cc)
      (λ t. rw (t, remove_pair) (ap (λ (qs : List Pair). p ∷ qs) (remove-split ps (rw (t, lookup) at h))))

  pub set_split : (value : List ℕ) (before : List Pair) → lookup name before ≡ missing
      → set_pair name value (before ++ pair_of name stored ∷ after) ≡ before ++ canonical_pair name value ∷ after
  unfolding lookup set_pair
  set_split value [] h = rw (same_refl name, set_pair)
  set_split value (p ∷ ps) h = split (same_bytes name p.name)
      (λ t. let f : found (decode p.stored) ≡ missing = rw (t, lookup) at h in clash cc)
      (λ t. rw (t, set_pair) (ap (λ (qs : List Pair). p ∷ qs) (set_split value ps (rw (t, lookup) at h))))

-- ---- the bytes of the pair that is found

module _ {name : List ℕ} {ps : List Pair} {p : Place} (f : FoundAt name ps p) {area : List ℕ} (r : Ended ps area) where
  pub found-bytes : area ≡ pairs_bytes f.before ++ (name ++ 0x3D ∷ (f.stored ++ 0x00 ∷ (pairs_bytes f.after ++ r.rest)))
  unfolding pairs_bytes
  found-bytes =
      run-bytes r.run ∙ ap (λ (qs : List Pair). pairs_bytes qs ++ r.rest) f.pairs
      ∙ ap (λ (l : List ℕ). l ++ r.rest) (pairs-append f.before (pair_of name f.stored ∷ f.after))
      ∙ append_assoc (pairs_bytes f.before) (pair_bytes (pair_of name f.stored) ++ pairs_bytes f.after) r.rest
      ∙ ap (λ (l : List ℕ). pairs_bytes f.before ++ l)
      (append_assoc (pair_bytes (pair_of name f.stored)) (pairs_bytes f.after) r.rest ∙ pair-bytes name f.stored (pairs_bytes f.after ++ r.rest))

  pub found-stored : part area (p.equals + 1) p.end ≡ f.stored
  unfolding part
  found-stored =
      let w : List ℕ = pairs_bytes f.before ++ (name ++ 0x3D ∷ []) in
      let v : List ℕ = f.stored ++ 0x00 ∷ (pairs_bytes f.after ++ r.rest) in
      let e : area ≡ w ++ v =
      found-bytes ∙ sym (append_assoc (pairs_bytes f.before) (name ++ 0x3D ∷ []) v
      ∙ ap (λ (l : List ℕ). pairs_bytes f.before ++ l) (append_assoc name (0x3D ∷ []) v)) in
      let n : length w ≡ p.equals + 1 =
      omega (arith, length-append (pairs_bytes f.before) (name ++ 0x3D ∷ []), length-append name (0x3D ∷ []), f.start_is, f.equals-is) in
      let k : length f.stored ≡ p.end - (p.equals + 1) = omega (arith, f.end_is) in
      ap (λ (l : List ℕ). take (p.end - (p.equals + 1)) (drop (p.equals + 1) l)) e ∙ ap (take (p.end - (p.equals + 1))) (drop_at w v (p.equals + 1) n)
      ∙ take_at f.stored (0x00 ∷ (pairs_bytes f.after ++ r.rest)) (p.end - (p.equals + 1)) k
