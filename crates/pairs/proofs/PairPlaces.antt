-- Laws of what stands at an offset: the pieces of a pair, and the code's answer by its two scans.
use Prim.Native.Nat.{ℕ, ◌+◌, ◌<◌, ◌≤◌}
use mathlib.Core.Path.{◌≡◌, refl, sym, ap, ◌∙◌, subst}
use mathlib.Core.Bool.{Bool, true, false, ◌||◌}
use mathlib.Core.List.{List, [], ◌∷◌, ◌++◌, append_assoc}
use native.Mathlib.Omega.{arith}
use lib.Dec.{eqb}
use lib.ListN.{length, get_or, drop, length-append, length-drop, drop_of_length-le}
use lib.Seq.{drop-drop, drop-append-add}
use borrow.Author.Tests.{eq-eqb, ne_eqb, eqb-true, eqb-false}
use Rattle.lists.specs.Bytes.{Every}
use Rattle.lists.proofs.Tests.{split, clash}
use Rattle.names.specs.Rules.{NameByte}
use Rattle.names.proofs.NameLaws.{name-not-zero}
use Rattle.lists.proofs.ListLaws.{drop-next, every_map}
use Rattle.repeats.specs.Pieces.{ends_name}
use Rattle.std.specs.Prelude.{Option, Some, None, Result, Ok, Err}
use Rattle.errors.specs.declared.AreaFault.TheVariants.{StoredName, Escape}
use Rattle.errors.specs.declared.Error.{Error}
use Rattle.errors.specs.declared.Error.TheVariants.{BadArea}
use Rattle.pairs.specs.declared.Place.{Place}
use Rattle.pairs.specs.Scan.{Scan, ends, bad, short, scan_name, scan_value, Stand, pair, finish, cut, wrong_name, wrong_escape, on_value, on_name, stand_at}
use Rattle.pairs.specs.Helpers.{cut_off, end_of, placed, place_of}
use Rattle.pairs.proofs.NameScans.{and-ends, name-scan}
use Rattle.pairs.proofs.ScanLaws.{stand-begun}

-- a scan takes bytes of a kind off a list, up to the byte that ends them
pub record Taken (stop : ℕ) (P : ℕ → Type 0) (l taken rest : List ℕ) : Type 0 where
  pub is : l ≡ taken ++ stop ∷ rest
  pub clean : Every P taken

taken_none : (stop : ℕ) (P : ℕ → Type 0) (b : ℕ) (bs w rest : List ℕ) → b ≡ stop → ends [] bs ≡ ends w rest → Taken stop P (b ∷ bs) w rest
taken_none stop P b bs w rest h e =
    let p : w ≡ [] = cc in
    let q : bs ≡ rest = cc in
    record { is = (λ i. h i ∷ q i) ∙ ap (λ (v : List ℕ). v ++ stop ∷ rest) (sym p); clean = subst (Every P) (sym p) tt }

taken_more : {stop : ℕ} {P : ℕ → Type 0} {bs rest v : List ℕ} (b : ℕ) (w : List ℕ) → P b → w ≡ b ∷ v → Taken stop P bs v rest → Taken stop P (b ∷ bs) w rest
taken_more {stop} {P} {rest = rest} b w h e t = record {
  is = ap (λ (x : List ℕ). b ∷ x) t.is ∙ ap (λ (x : List ℕ). x ++ stop ∷ rest) (sym e);
  clean = subst (Every P) (sym e) (h, t.clean);
}

-- the bytes of a name
abbrev pub Goes : ℕ → Type 0
Goes b = ends_name b ≡ false

-- the bytes of a stored value
abbrev pub NotZero : ℕ → Type 0
NotZero b = eqb b 0 ≡ false

-- a byte of a name ends none
name-goes : (b : ℕ) → NameByte b → Goes b
unfolding ends_name
name-goes b n = rw (ne_eqb b 61 n.no-equals, ne_eqb b 0 (name-not-zero n))

pub name-taken : (l name rest : List ℕ) → scan_name l ≡ ends name rest → Taken 0x3D Goes l name rest
name-taken l name rest e = let n = name-scan l name rest e in record { is = n.0; clean = every_map NameByte Goes name-goes name n.1.each }

or-first : (a b : Bool) → (a || b) ≡ false → a ≡ false
or-first true b e = e
or-first false b e = refl

pub value_taken : (after : Bool) (k : ℕ) (l stored rest : List ℕ) → scan_value after k l ≡ ends stored rest → Taken 0x00 NotZero l stored rest
unfolding scan_value
value_taken true k [] stored rest e = clash cc
value_taken false k [] stored rest e = clash cc
value_taken true k (c ∷ bs) stored rest e = split (eqb c 0x00 || eqb c 0x80)
    (λ t. let f : bad k ≡ ends stored rest = rw (t, scan_value) at e in clash cc)
    (λ t.
    let g = and-ends c (scan_value false (k + 1) bs) stored rest (rw (t, scan_value) at e) in
    taken_more c stored (or-first (eqb c 0x00) (eqb c 0x80) t) g.1 (value_taken false (k + 1) bs g.0 rest g.2))
value_taken false k (b ∷ bs) stored rest e = split (eqb b 0x00)
    (λ t. taken_none 0x00 NotZero b bs stored rest (eqb-true b 0 t) (rw (t, scan_value) at e))
    (λ t.
    let g = and-ends b (scan_value (eqb b 0xFF) (k + 1) bs) stored rest (rw (t, scan_value) at e) in
    taken_more b stored t g.1 (value_taken (eqb b 0xFF) (k + 1) bs g.0 rest g.2))

-- a pair stands at the start of l
pub record PairHere (l name stored rest : List ℕ) : Type 0 where
  pub is : l ≡ name ++ 0x3D ∷ (stored ++ 0x00 ∷ rest)
  pub name-clean : Every Goes name
  pub stored-clean : Every NotZero stored

by_value_lem : (l n after name stored rest : List ℕ) → Taken 0x3D Goes l n after → (v : Scan) → scan_value false 0 after ≡ v → on_value n v ≡ pair name stored rest
    → PairHere l name stored rest
by_value_lem l n after name stored rest t short q e = clash cc
by_value_lem l n after name stored rest t (bad k) q e = clash cc
by_value_lem l n after name stored rest t (ends s r) q e =
    let f : n ≡ name = cc in
    let g : s ≡ stored = cc in
    let h : r ≡ rest = cc in
    let v : Taken 0x00 NotZero after s r = value_taken false 0 after s r q in
    record {
      is = t.is ∙ (λ i. f i ++ 0x3D ∷ v.is i) ∙ (λ i. name ++ 0x3D ∷ (g i ++ 0x00 ∷ h i));
      name-clean = subst (Every Goes) f t.clean;
      stored-clean = subst (Every NotZero) g v.clean;
    }

by_name : (l name stored rest : List ℕ) → (s : Scan) → scan_name l ≡ s → on_name s ≡ pair name stored rest → PairHere l name stored rest
by_name l name stored rest short q e = clash cc
by_name l name stored rest (bad k) q e = clash cc
by_name l name stored rest (ends n after) q e = by_value_lem l n after name stored rest (name-taken l n after q) (scan_value false 0 after) refl e

pub pair-here : (l name stored rest : List ℕ) → stand_at l ≡ pair name stored rest → PairHere l name stored rest
unfolding stand_at
pair-here [] name stored rest e = clash cc
pair-here (b ∷ bs) name stored rest e = split (eqb b 0x00)
    (λ t. let f : finish ≡ pair name stored rest = rw (t, stand_at) at e in clash cc)
    (λ t. by_name (b ∷ bs) name stored rest (scan_name (b ∷ bs)) refl (sym (stand-begun (b ∷ bs) (eqb-false b 0x00 t)) ∙ e))

-- the name of what begins at `at` ends at n
pub record NameEnd (area : List ℕ) (at n : ℕ) : Type 0 where
  pub name : List ℕ
  pub after : List ℕ
  pub scan : scan_name (drop at area) ≡ ends name after
  pub equals : n ≡ at + length name
  pub follows : after ≡ drop (n + 1) area
  pub inside : n < length area

pub drop_past : (area : List ℕ) (at n : ℕ) (w : List ℕ) (x : ℕ) (rest : List ℕ) → drop at area ≡ w ++ x ∷ rest → n ≡ at + length w → rest ≡ drop (n + 1) area
drop_past area at n w x rest e h =
    let k : at + (length w + 1) ≡ n + 1 = omega arith in
    sym (drop-append-add w (x ∷ rest) 1) ∙ ap (drop (length w + 1)) (sym e) ∙ drop-drop (length w + 1) at area ∙ ap (λ (j : ℕ). drop j area) k

pub past-inside : (area : List ℕ) (at n : ℕ) (w : List ℕ) (x : ℕ) (rest : List ℕ) → drop at area ≡ w ++ x ∷ rest → n ≡ at + length w → n < length area
past-inside area at n w x rest e h = omega (arith, length-drop at area, ap length e, length-append w (x ∷ rest))

-- where the scan of the name ends
abbrev pub name_ends : List ℕ → ℕ → Result ℕ Error
name_ends area at = end_of StoredName (length area) at at (scan_name (drop at area))

-- where the scan of the value ends, whose name ends at n
abbrev pub value_ends : List ℕ → ℕ → Result ℕ Error
value_ends area n = end_of Escape (length area) (n + 1) (n + 1) (scan_value false 0 (drop (n + 1) area))

pub name-end : (area : List ℕ) (at n : ℕ) → Ok n ≡ name_ends area at → NameEnd area at n
unfolding end_of
name-end area at n e = go (scan_name (drop at area)) refl e
  where
    go : (s : Scan) → scan_name (drop at area) ≡ s → Ok n ≡ end_of StoredName (length area) at at s → NameEnd area at n
    go short q e = clash cc
    go (bad k) q e = clash cc
    go (ends name after) q e =
        let h : n ≡ at + length name = cc in
        let t : Taken 0x3D Goes (drop at area) name after = name-taken (drop at area) name after q in
        record {
          name = name;
          after = after;
          scan = q;
          equals = h;
          follows = drop_past area at n name 0x3D after t.is h;
          inside = past-inside area at n name 0x3D after t.is h;
        }

-- the code's answer by the scan of the value, where the name of the pair at `at` ends at n
abbrev pub by_value : ℕ → ℕ → Result ℕ Error → Result (Option Place) Error
by_value at n (Ok v) = Ok (Some (record { start = at; equals = n; end = v }))
by_value at n (Err e) = Err e

value-place : (long at n : ℕ) (name : List ℕ) → n ≡ at + length name → (s : Scan)
    → by_value at n (end_of Escape long (n + 1) (n + 1) s) ≡ place_of long at (on_value name s)
unfolding end_of place_of
value-place long at n name h (ends stored rest) =
    let e : n + 1 + length stored ≡ at + length name + 1 + length stored = omega arith in
    λ i. Ok (Some (record { start = at; equals = h i; end = e i }))
value-place long at n name h (bad k) = let e : n + 1 + k ≡ at + (length name + 1 + k) = omega arith in ap (λ (j : ℕ). Err (BadArea Escape j)) e
value-place long at n name h short = refl

-- no pair was seen
abbrev pub NoPair : Result (Option Place) Error → Type 0
NoPair x = (p : Place) → x ≡ Ok (Some p) → ⊥

-- what stands at an offset
abbrev pub stands_at : List ℕ → ℕ → Result (Option Place) Error
stands_at area at = place_of (length area) at (stand_at (drop at area))

pub stand-past : (area : List ℕ) (at : ℕ) → length area ≤ at → Err (cut_off (length area)) ≡ stands_at area at
unfolding stand_at place_of
stand-past area at h = rw (drop_of_length-le area h)

module _ (area : List ℕ) (at : ℕ) (h : at < length area) where
  pub stand-end : get_or area at 0 ≡ 0 → Ok None ≡ stands_at area at
  unfolding stand_at place_of
  stand-end e = rw (drop-next area at h, eq-eqb (get_or area at 0) 0 e, stand_at)

  module _ (b : get_or area at 0 ≡ 0 → ⊥) where
    stand-name : stand_at (drop at area) ≡ on_name (scan_name (drop at area))
    stand-name = rw (drop-next area at h) (stand-begun (get_or area at 0 ∷ drop (at + 1) area) b)

    -- a fault in the name
    pub stand-wrong : (e : Error) → Err e ≡ name_ends area at → Err e ≡ stands_at area at
    unfolding end_of place_of
    stand-wrong e w = rw stand-name (go (scan_name (drop at area)) w)
      where
        go : (s : Scan) → Err e ≡ end_of StoredName (length area) at at s → Err e ≡ place_of (length area) at (on_name s)
        go short w = cc
        go (bad k) w = cc
        go (ends name after) w = clash cc

    pub stand-value : (n : ℕ) → NameEnd area at n → (x : Result ℕ Error) → x ≡ value_ends area n → by_value at n x ≡ stands_at area at
    stand-value n t x e =
        ap (by_value at n) e ∙ value-place (length area) at n t.name t.equals (scan_value false 0 (drop (n + 1) area))
        ∙ ap (λ (l : List ℕ). place_of (length area) at (on_value t.name (scan_value false 0 l))) (sym t.follows)
        ∙ ap (λ (s : Scan). place_of (length area) at (on_name s)) (sym t.scan) ∙ ap (place_of (length area) at) (sym stand-name)

-- the code has seen this pair at `at`
pub record PairSeen (area : List ℕ) (at : ℕ) (p : Place) : Type 0 where
  pub name : List ℕ
  pub stored : List ℕ
  pub rest : List ℕ
  pub stand : stand_at (drop at area) ≡ pair name stored rest
  pub start : p.start ≡ at
  pub equals : p.equals ≡ at + length name
  pub end : p.end ≡ p.equals + 1 + length stored
  pub follows : rest ≡ drop (p.end + 1) area
  pub inside : p.end < length area

pub pair-seen : {area : List ℕ} {at : ℕ} {x : Result (Option Place) Error} (p : Place) → x ≡ stands_at area at → x ≡ Ok (Some p) → PairSeen area at p
unfolding place_of
pair-seen {area} {at} p e f = go (stand_at (drop at area)) refl (sym f ∙ e)
  where
    go : (s : Stand) → stand_at (drop at area) ≡ s → Ok (Some p) ≡ place_of (length area) at s → PairSeen area at p
    go finish u h = clash cc
    go cut u h = clash cc
    go (wrong_name k) u h = clash cc
    go (wrong_escape k) u h = clash cc
    go (pair name stored rest) u h =
        let r : p ≡ placed at name stored = cc in
        let a : p.equals ≡ at + length name = ap (λ (x : Place). x.equals) r in
        let b : p.end ≡ at + length name + 1 + length stored = ap (λ (x : Place). x.end) r in
        let q : PairHere (drop at area) name stored rest = pair-here (drop at area) name stored rest u in
        let w : drop at area ≡ (name ++ 0x3D ∷ stored) ++ 0x00 ∷ rest = q.is ∙ sym (append_assoc name (0x3D ∷ stored) (0x00 ∷ rest)) in
        let n : p.end ≡ at + length (name ++ 0x3D ∷ stored) = omega (arith, length-append name (0x3D ∷ stored)) in
        record {
          name = name;
          stored = stored;
          rest = rest;
          stand = u;
          start = ap (λ (x : Place). x.start) r;
          equals = a;
          end = omega arith;
          follows = drop_past area at p.end (name ++ 0x3D ∷ stored) 0x00 rest w n;
          inside = past-inside area at p.end (name ++ 0x3D ∷ stored) 0x00 rest w n;
        }
