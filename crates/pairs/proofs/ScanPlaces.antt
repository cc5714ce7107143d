-- Laws of the offset where a scan ends: of a stored name by the allowed bytes at its start, of a stored value by the code's turns.
use Prim.Native.Nat.{ℕ, zero, suc, ◌+◌, ◌-◌, ◌%◌, ◌<◌, ◌≤◌}
use mathlib.Core.Path.{◌≡◌, refl, sym, ap, subst, ◌∙◌}
use mathlib.Core.Bool.{Bool, true, false, ◌||◌}
use mathlib.Core.List.{List, [], ◌∷◌}
use mathlib.Core.Logic.{⊎_elim}
use native.Mathlib.Nat.{sub_self}
use native.Mathlib.Omega.{arith}
use lib.Dec.{leb, eqb}
use lib.ListN.{length, get_or, drop, length-drop, drop_of_length-le}
use lib.Seq.{get_or-drop, drop-drop}
use borrow.Author.Tests.{eq-eqb, ne_eqb, eqb-true, eqb-false, leb-true, leb-false, le-leb, lt-leb}
use Rattle.lists.proofs.Tests.{split, clash}
use Rattle.names.specs.Name.{NameCheck, good, wrong, name_byte, name_check}
use Rattle.names.specs.Helpers.{allowed_ahead, check_by_allowed}
use Rattle.names.proofs.NameLaws.{not_byte}
use Rattle.names.proofs.AheadLaws.{ahead_none, ahead-here, ahead-next, ahead-short, check-by-allowed, allowed-good}
use Rattle.lists.proofs.ListLaws.{drop-next}
use Rattle.lists.specs.Helpers.{until_either}
use Rattle.lists.proofs.FindLaws.{until-short, either-ahead, either-there, either-before}
use Rattle.std.specs.Prelude.{Ok, Err}
use Rattle.errors.specs.declared.AreaFault.{AreaFault}
use Rattle.errors.specs.declared.AreaFault.TheVariants.{StoredName, Escape}
use Rattle.errors.specs.declared.Error.TheVariants.{BadArea}
use Rattle.pairs.specs.Scan.{Scan, ends, bad, short, and, stored_name, past_name, scan_name, scan_value}
use Rattle.pairs.specs.Rules.{UpToEquals}
use Rattle.pairs.specs.Helpers.{ends_at, cut_off, end_of}
use Rattle.pairs.proofs.NameScans.{stored-none, stored-equals, stored_next, stored-exactly, up-short, up-inside, up-after, scan_good, scan-wrong}

-- one byte more in front
end_and : (fault : AreaFault) (long from at b : ℕ) (s : Scan) → end_of fault long from at (and b s) ≡ end_of fault long from (at + 1) s
unfolding end_of
end_and fault long from at b (ends bs rest) = let e : at + suc (length bs) ≡ at + 1 + length bs = omega arith in ap Ok e
end_and fault long from at b (bad k) = refl
end_and fault long from at b short = refl

-- ---- a stored name, by the first byte that a name may not hold

-- `=` is not allowed
equals-refused : (b : ℕ) → b ≡ 0x3D → name_byte b ≡ false
equals-refused b e = not_byte b (λ n. n.no-equals e)

-- it holds the allowed bytes at the start
stored-ahead : (l : List ℕ) → allowed_ahead (stored_name l) ≡ allowed_ahead l
stored-ahead [] = ap allowed_ahead stored-none
stored-ahead (b ∷ bs) =
    split (eqb b 0x3D)
    (λ t. let z = eqb-true b 0x3D t in
    ap (λ (x : ℕ). allowed_ahead (stored_name (x ∷ bs))) z ∙ ap allowed_ahead (stored-equals bs) ∙ ahead_none ∙ sym (ahead-here b bs (equals-refused b z)))
    (λ t. ap allowed_ahead (stored_next b bs (eqb-false b 0x3D t))
    ∙ split (name_byte b)
    (λ u. ahead-next b (stored_name bs) u ∙ ap suc (stored-ahead bs) ∙ sym (ahead-next b bs u))
    (λ u. ahead-here b (stored_name bs) u ∙ sym (ahead-here b bs u)))

-- where a stored name ends
pub ends-past : (area : List ℕ) (at : ℕ) → length area ≤ at → true ≡ ends_at area at
unfolding ends_at
ends-past area at h = rw (le-leb (length area) at h)

ends-equals : (area : List ℕ) (at : ℕ) → get_or area at 0 ≡ 0x3D → true ≡ ends_at area at
unfolding ends_at
ends-equals area at e = split (leb (length area) at) (λ t. rw t) (λ t. rw (t, eq-eqb (get_or area at 0) 0x3D e))

pub ends-byte : (area : List ℕ) (at : ℕ) → at < length area → eqb (get_or area at 0) 0x3D ≡ ends_at area at
unfolding ends_at
ends-byte area at h = rw (lt-leb (length area) at h)

-- by the first byte r from `from` on that a name may not hold
module _ (area : List ℕ) (from r : ℕ) (e : r ≡ from + allowed_ahead (drop from area)) where
  abbrev left : List ℕ
  left = drop from area

  there : get_or left (allowed_ahead left) 0 ≡ get_or area r 0
  there = get_or-drop from area (allowed_ahead left) 0 ∙ ap (λ (k : ℕ). get_or area k 0) (sym e)

  up : UpToEquals (stored_name left) left
  up = (stored-exactly left (stored_name left)).0 refl

  -- the name has the allowed bytes at least
  least : r - from ≤ length (stored_name left)
  least = omega (arith, stored-ahead left, ahead-short (stored_name left))

  ends-whole : ends_at area r ≡ true → length (stored_name left) ≤ r - from
  unfolding ends_at
  ends-whole t =
      split (leb (length (stored_name left)) (allowed_ahead left))
      (λ v. omega (arith, leb-true (length (stored_name left)) (allowed_ahead left) v))
      (λ v.
      let h : allowed_ahead left < length (stored_name left) = leb-false (length (stored_name left)) (allowed_ahead left) v in
      let l : leb (length area) r ≡ false = lt-leb (length area) r (omega (arith, up-short up, length-drop from area)) in
      absurd (up-inside up h (there ∙ eqb-true (get_or area r 0) 0x3D (rw l at t))))

  ends-not : ends_at area r ≡ false → r - from < length (stored_name left)
  ends-not t =
      split (leb (length (stored_name left)) (allowed_ahead left))
      (λ v.
      let q : length (stored_name left) ≡ allowed_ahead left = omega (arith, least, leb-true (length (stored_name left)) (allowed_ahead left) v) in
      ⊎_elim
      (λ w. clash (cc (ends-equals area r (sym there ∙ ap (λ (k : ℕ). get_or left k 0) (sym q) ∙ w))))
      (λ w. clash (cc (ends-past area r (omega (arith, length-drop from area)))))
      (up-after up))
      (λ v. omega (arith, leb-false (length (stored_name left)) (allowed_ahead left) v))

  -- THE CHECK OF A STORED NAME by the allowed bytes at its start, and whether it ends there
  stored-check : check_by_allowed (r - from) (ends_at area r) ≡ name_check (stored_name left)
  stored-check = check-by-allowed (stored_name left) (r - from) (ends_at area r) (omega (arith, stored-ahead left)) ends-whole ends-not

  module _ (whole : Bool) (u : whole ≡ ends_at area r) where
    checked : {x : NameCheck} → x ≡ check_by_allowed (r - from) whole → name_check (stored_name left) ≡ x
    checked w = sym (w ∙ ap (check_by_allowed (r - from)) u ∙ stored-check)

    pub name-wrong : (i : ℕ) → wrong i ≡ check_by_allowed (r - from) whole → Err (BadArea StoredName (from + i)) ≡ end_of StoredName (length area) from from (scan_name (drop from area))
    unfolding end_of
    name-wrong i w = ap (end_of StoredName (length area) from from) (sym (scan-wrong left i (checked w)))

    module _ (w : good ≡ check_by_allowed (r - from) whole) where
      long : length (stored_name left) ≡ r - from
      long = omega (arith, ends-whole (sym u ∙ allowed-good (r - from) whole w), stored-ahead left, ahead-short (stored_name left))

      past : drop (length (stored_name left)) left ≡ drop r area
      past =
          let q : from + length (stored_name left) ≡ r = omega (arith, long) in
          drop-drop (length (stored_name left)) from area ∙ ap (λ (k : ℕ). drop k area) q

      found : scan_name left ≡ past_name (stored_name left) (drop r area)
      found = scan_good left (checked w) ∙ ap (past_name (stored_name left)) past

      pub name-at : r < length area → Ok r ≡ end_of StoredName (length area) from from (scan_name (drop from area))
      unfolding end_of
      name-at h =
          let q : r ≡ from + length (stored_name left) = omega (arith, long) in
          ap Ok q ∙ ap (end_of StoredName (length area) from from) (sym (found ∙ ap (past_name (stored_name left)) (drop-next area r h)))

      pub name-cut : length area ≤ r → Err (cut_off (length area)) ≡ end_of StoredName (length area) from from (scan_name (drop from area))
      unfolding end_of
      name-cut h = ap (end_of StoredName (length area) from from) (sym (found ∙ ap (past_name (stored_name left)) (drop_of_length-le area h)))

-- the scan of a value that began at `from` has come to i
pub record ValueScan (area : List ℕ) (from : ℕ) (after : Bool) (i : ℕ) : Type 0 where
  pub low : from ≤ i
  pub left : end_of Escape (length area) from from (scan_value false 0 (drop from area)) ≡ end_of Escape (length area) from i (scan_value after (i - from) (drop i area))

pub value-begun : (area : List ℕ) (from : ℕ) → ValueScan area from false from
value-begun area from = record { low = omega arith; left = rw (sub_self from) }

pub value-cut : {area : List ℕ} {from i : ℕ} {after : Bool} → ValueScan area from after i → length area ≤ i
    → Err (cut_off (length area)) ≡ end_of Escape (length area) from from (scan_value false 0 (drop from area))
unfolding scan_value end_of
value-cut {area} {after = true} s h = sym (s.left ∙ rw (drop_of_length-le area h))
value-cut {area} {after = false} s h = sym (s.left ∙ rw (drop_of_length-le area h))

module _ {area : List ℕ} {from i : ℕ} (s : ValueScan area from false i) (h : i < length area) where
  pub value-ends : get_or area i 0 ≡ 0 → Ok i ≡ end_of Escape (length area) from from (scan_value false 0 (drop from area))
  unfolding scan_value end_of
  value-ends b =
      let p : i + 0 ≡ i = omega arith in
      sym (s.left ∙ rw (drop-next area i h, eq-eqb (get_or area i 0) 0 b, scan_value) (ap Ok p))

  value-step : (get_or area i 0 ≡ 0 → ⊥) → (t : Bool) → eqb (get_or area i 0) 255 ≡ t → ValueScan area from t (i + 1)
  unfolding scan_value
  value-step b t e =
      let p : i - from + 1 ≡ i + 1 - from = omega (arith, s.low) in
      record {
        low = omega (arith, s.low);
        left =
            s.left
            ∙ rw (drop-next area i h, ne_eqb (get_or area i 0) 0 b, e, scan_value)
            (end_and Escape (length area) from i (get_or area i 0) (scan_value t (i - from + 1) (drop (i + 1) area))
            ∙ ap (λ (n : ℕ). end_of Escape (length area) from (i + 1) (scan_value t n (drop (i + 1) area))) p);
      }

  pub value-next : (get_or area i 0 ≡ 0 → ⊥) → (get_or area i 0 ≡ 255 → ⊥) → ValueScan area from false (i + 1)
  value-next b e = value-step b false (ne_eqb (get_or area i 0) 255 e)

  pub value-escape : get_or area i 0 ≡ 255 → ValueScan area from true (i + 1)
  value-escape e = value-step (λ z. omega arith) true (eq-eqb (get_or area i 0) 255 e)

-- bytes that are neither 0x00 nor 0xFF are taken at once
pub value-skip : {area : List ℕ} {from i : ℕ} → ValueScan area from false i → (r : ℕ) → r ≡ i + until_either 0 255 (drop i area) → ValueScan area from false r
value-skip {area} {from} {i} s r e = go (r - i) i s (omega (arith, either-ahead area i 0 255 e)) (omega arith)
  where
    go : (n j : ℕ) → ValueScan area from false j → j + n ≡ r → i ≤ j → ValueScan area from false r
    go zero j t q l = let h : j ≡ r = omega arith in subst (λ (m : ℕ). ValueScan area from false m) h t
    go (suc n) j t q l =
        let p = either-before area i 0 255 e j l (omega arith) in
        let k : j < length area = omega (arith, e, until-short 0 255 (drop i area), length-drop i area) in
        go n (j + 1) (value-next t k p.0 p.1) (omega arith) (omega arith)

-- the byte there, where it is not 0x00, begins an escape
pub value-mark : {area : List ℕ} {from i : ℕ} → ValueScan area from false i → (r : ℕ) → r ≡ i + until_either 0 255 (drop i area) → r < length area
    → (get_or area r 0 ≡ 0 → ⊥) → ValueScan area from true (r + 1)
value-mark {area} {from} {i} s r e h n =
    value-escape (value-skip s r e) h (⊎_elim (λ z. absurd (n z)) (λ z. z) (either-there area i 0 255 e h))

-- an escape's second byte
zero-run : (c : ℕ) → c < 256 → c % 128 ≡ 0 → (eqb c 0 || eqb c 128) ≡ true
zero-run c h e = split (eqb c 0) (λ t. rw t) (λ t. let z : c ≡ 0 → ⊥ = eqb-false c 0 t in rw (t, eq-eqb c 128 (omega arith)))

module _ {area : List ℕ} {from i : ℕ} (s : ValueScan area from true i) (h : i < length area) where
  pub escape-wrong : get_or area i 0 < 256 → get_or area i 0 % 128 ≡ 0 → Err (BadArea Escape i) ≡ end_of Escape (length area) from from (scan_value false 0 (drop from area))
  unfolding scan_value end_of
  escape-wrong k b =
      let p : from + (i - from) ≡ i = omega (arith, s.low) in
      sym (s.left ∙ rw (drop-next area i h, zero-run (get_or area i 0) k b, scan_value) (ap (λ (j : ℕ). Err (BadArea Escape j)) p))

  pub escape-next : (get_or area i 0 % 128 ≡ 0 → ⊥) → ValueScan area from false (i + 1)
  unfolding scan_value
  escape-next b =
      let p : i - from + 1 ≡ i + 1 - from = omega (arith, s.low) in
      record {
        low = omega (arith, s.low);
        left =
            s.left
            ∙ rw (drop-next area i h, ne_eqb (get_or area i 0) 0 (λ z. b (omega arith)), ne_eqb (get_or area i 0) 128 (λ z. b (omega arith)), scan_value)
            (end_and Escape (length area) from i (get_or area i 0) (scan_value false (i - from + 1) (drop (i + 1) area))
            ∙ ap (λ (n : ℕ). end_of Escape (length area) from (i + 1) (scan_value false n (drop (i + 1) area))) p);
      }
