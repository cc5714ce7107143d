-- What the calls leave of an area: a read and a count all of it, an edit its length, and a second normalizing nothing new.
use Prim.Native.Nat.{ℕ}
use mathlib.Core.Path.{◌≡◌, refl, sym, ap, ◌∙◌}
use mathlib.Core.List.{List, []}
use native.Mathlib.Omega.{arith}
use lib.ListN.{length}
use Rattle.errors.specs.declared.AreaFault.{AreaFault}
use Rattle.pairs.specs.Area.{Pair, parsed, faulty, parse}
use Rattle.pairs.proofs.ParseLaws.{Good, area-read, read-room}
use Rattle.variables.specs.Edits.{area_bytes, remove_pair, normalize_pairs}
use Rattle.variables.specs.Calls.{normalize, read, count, Outcome, call_area}
use Rattle.variables.proofs.EditLaws.{length-area, parse-area, good-normalize, remove-room, normalize-short, normalize-twice}
use Rattle.variables.proofs.CallLaws.{check-normalize, split-parse, call-faulty, call-parsed, call-cases, read-cases, normalize-done, count-done}

-- ---- a read and a count

pub read-area : (name buffer area : List ℕ) → (call_area (read name buffer) area).area ≡ area
read-area name buffer area =
    let Same : Outcome → Type 0 = λ o. o.area ≡ area in
    call-cases (read name buffer) area Same (λ e. refl) (λ ps. read-cases Same ps area name buffer refl refl (λ value. refl))

pub count-area : (area : List ℕ) → (call_area count area).area ≡ area
count-area area = call-cases count area (λ o. o.area ≡ area) (λ e. refl) (λ ps. rw (count-done ps area) refl)

-- ---- the length of what an edit leaves

module _ (area : List ℕ) (ps : List Pair) (e : parse area ≡ parsed ps) where
  pub remove-length : (name : List ℕ) → length (area_bytes (length area) (remove_pair name ps)) ≡ length area
  remove-length name = length-area (length area) (remove_pair name ps) (omega (arith, read-room (area-read area ps e), remove-room name ps))

  pub normalize-length : length (area_bytes (length area) (normalize_pairs ps)) ≡ length area
  normalize-length =
      let r = area-read area ps e in
      length-area (length area) (normalize_pairs ps) (omega (arith, read-room r, normalize-short r.good))

  normalize-parsed : (call_area normalize area).area ≡ area_bytes (length area) (normalize_pairs ps)
  normalize-parsed = ap (λ (o : Outcome). o.area) (call-parsed normalize area check-normalize ps e ∙ normalize-done ps area)

-- ---- a second normalizing

-- nothing changes the second time, and the length stays
pub record Twice (area : List ℕ) : Type 0 where
  pub long : length (call_area normalize area).area ≡ length area
  pub same : (call_area normalize (call_area normalize area).area).area ≡ (call_area normalize area).area

twice-parsed : (area : List ℕ) (ps : List Pair) → parse area ≡ parsed ps → Twice area
twice-parsed area ps r =
    let qs : List Pair = normalize_pairs ps in
    let e = normalize-parsed area ps r in
    let l : length (area_bytes (length area) qs) ≡ length area = normalize-length area ps r in
    let g : Good [] qs = good-normalize (area-read area ps r).good in
    record {
      long = ap length e ∙ l;
      same =
          ap (λ (x : List ℕ). (call_area normalize x).area) e
          ∙ normalize-parsed (area_bytes (length area) qs) qs (parse-area (length area) g)
          ∙ (λ i. area_bytes (l i) (normalize-twice ps i)) ∙ sym e;
    }

twice-faulty : (area : List ℕ) (f : AreaFault) (at : ℕ) → parse area ≡ faulty f at → Twice area
twice-faulty area f at r =
    let q : (call_area normalize area).area ≡ area = ap (λ (o : Outcome). o.area) (call-faulty normalize area check-normalize f at r) in
    record { long = ap length q; same = ap (λ (x : List ℕ). (call_area normalize x).area) q }

pub twice : (area : List ℕ) → Twice area
twice area = split-parse (parse area) (twice-parsed area) (twice-faulty area)
