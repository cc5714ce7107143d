-- The search for a name: the code's turns over the pairs and over the bytes of a name.
use Prim.Native.Nat.{ℕ, zero, suc, ◌+◌, ◌-◌, ◌<◌, ◌≤◌}
use mathlib.Core.Path.{◌≡◌, refl, sym, ap, ◌∙◌}
use mathlib.Core.Bool.{true, false, ◌&&◌}
use mathlib.Core.List.{List}
use native.Mathlib.Omega.{arith}
use lib.Dec.{eqb}
use lib.ListN.{length, get_or, take, drop, length-drop, drop_of_length-le}
use lib.Seq.{take_at, length-take-le, get_or-take, get_or-drop}
use borrow.Author.Tests.{eq-eqb, ne_eqb}
use Rattle.lists.specs.Bytes.{same_bytes}
use Rattle.lists.proofs.ByteLaws.{same_false, same_step}
use Rattle.values.specs.Helpers.{part}
use Rattle.std.specs.Prelude.{Option, Some, None, Result}
use Rattle.std.specs.Option.{option_or}
use Rattle.errors.specs.declared.Error.{Error}
use Rattle.pairs.specs.declared.Place.{Place}
use Rattle.pairs.specs.Scan.{Stand, pair, finish, cut, wrong_name, wrong_escape, stand_at}
use Rattle.pairs.specs.Helpers.{place_of, on_find, find_from, find_at}
use Rattle.pairs.proofs.PairPlaces.{stands_at, NoPair, pair-here, PairSeen}

-- the name of a pair that the code has seen
pub seen-name : {area : List ℕ} {at : ℕ} {p : Place} (s : PairSeen area at p) → part area p.start p.equals ≡ s.name
unfolding part
seen-name {area} {at} {p} s =
    let n : length s.name ≡ p.equals - at = omega (arith, s.equals) in
    ap (λ (k : ℕ). part area k p.equals) s.start
    ∙ ap (take (p.equals - at)) (pair-here (drop at area) s.name s.stored s.rest s.stand).is ∙ take_at s.name _ (p.equals - at) n

-- ---- over the pairs

-- the search goes on at the offset at, and has found the place so far
pub record Finding (area name : List ℕ) (place : Option Place) (at : ℕ) : Type 0 where
  pub bound : ℕ
  pub enough : length area < at + bound
  pub left : find_at area name ≡ option_or place (find_from bound name at (drop at area))
  pub inside : at ≤ length area

pub finding-none : (area name : List ℕ) → Finding area name None 0
unfolding find_at
finding-none area name = record { bound = suc (length area); enough = omega arith; left = refl; inside = omega arith }

-- one turn more is within the bound
turn : {area name : List ℕ} {place : Option Place} {at : ℕ} → Finding area name place at
    → (n : ℕ) × (length area ≤ at + n) × (find_at area name ≡ option_or place (on_find (stand_at (drop at area)) name at (λ a r. find_from n name a r)))
unfolding find_from
turn {area} {name} {place} {at} s = go s.bound s.enough s.left
  where
    go : (n : ℕ) → length area < at + n → find_at area name ≡ option_or place (find_from n name at (drop at area))
        → (m : ℕ) × (length area ≤ at + m) × (find_at area name ≡ option_or place (on_find (stand_at (drop at area)) name at (λ a r. find_from m name a r)))
    go zero h e = absurd (omega (arith, s.inside))
    go (suc n) h e = (n, omega arith, e)

none-at : (long at : ℕ) (name : List ℕ) (go : ℕ → List ℕ → Option Place) (s : Stand) → NoPair (place_of long at s) → on_find s name at go ≡ None
unfolding place_of
none-at long at name go (pair n stored rest) h = absurd (h _ refl)
none-at long at name go finish h = refl
none-at long at name go cut h = refl
none-at long at name go (wrong_name k) h = refl
none-at long at name go (wrong_escape k) h = refl

first-none : (x : Option Place) → option_or x None ≡ x
first-none (Some p) = refl
first-none None = refl

first-first : (x : Option Place) (p : Place) (y : Option Place) → option_or x (Some p) ≡ option_or (option_or x (Some p)) y
first-first (Some q) p y = refl
first-first None p y = refl

module _ {area name : List ℕ} {place : Option Place} {at : ℕ} (s : Finding area name place at) where
  pub finding-end : (x : Result (Option Place) Error) → x ≡ stands_at area at → NoPair x → find_at area name ≡ place
  finding-end x e h =
      let t = turn s in
      t.2 ∙ ap (option_or place) (none-at (length area) at name _ (stand_at (drop at area)) (λ p f. h p (e ∙ f))) ∙ first-none place

  module _ {p : Place} (v : PairSeen area at p) where
    pub finding-same : same_bytes name (part area p.start p.equals) ≡ true → Finding area name (option_or place (Some p)) (p.end + 1)
    finding-same h =
        let t = turn s in
        let f : same_bytes name v.name ≡ true = ap (same_bytes name) (sym (seen-name v)) ∙ h in
        let g : p.end ≡ at + length v.name + 1 + length v.stored = omega (arith, v.equals, v.end) in
        let k : find_at area name ≡ option_or place (Some p) =
        t.2 ∙ rw (v.stand, f) (λ i. option_or place (Some (record { start = sym v.start i; equals = sym v.equals i; end = sym g i }))) in
        record {
          bound = t.0;
          enough = omega (arith, t.1, v.equals, v.end);
          left = k ∙ first-first place p _;
          inside = omega (arith, v.inside);
        }

    pub finding-next : same_bytes name (part area p.start p.equals) ≡ false → Finding area name place (p.end + 1)
    finding-next h =
        let t = turn s in
        let f : same_bytes name v.name ≡ false = ap (same_bytes name) (sym (seen-name v)) ∙ h in
        let g : at + length v.name + length v.stored + 2 ≡ p.end + 1 = omega (arith, v.equals, v.end) in
        record {
          bound = t.0;
          enough = omega (arith, t.1, v.equals, v.end);
          left = t.2 ∙ rw (v.stand, f) (λ i. option_or place (find_from t.0 name (g i) (v.follows i)));
          inside = omega (arith, v.inside);
        }

-- ---- over the bytes of a name

-- the name from `from` up to q agrees with the name that is sought for k bytes
pub record Compared (area name : List ℕ) (from q k : ℕ) : Type 0 where
  pub low : from ≤ q
  pub long : q - from ≡ length name
  pub inside : q < length area
  pub upto : k ≤ length name
  pub left : same_bytes name (part area from q) ≡ same_bytes (drop k name) (drop k (part area from q))

module _ {area : List ℕ} (name : List ℕ) {at : ℕ} {p : Place} (s : PairSeen area at p) where
  pub other_length : (p.equals - p.start ≡ length name → ⊥) → same_bytes name (part area p.start p.equals) ≡ false
  other_length h =
      same_false name (part area p.start p.equals) (λ f. h (omega (arith, ap length f, ap length (seen-name s), s.start, s.equals)))

  pub compared-none : p.equals - p.start ≡ length name → Compared area name p.start p.equals 0
  compared-none h = record {
    low = omega (arith, s.start, s.equals);
    long = h;
    inside = omega (arith, s.end, s.inside);
    upto = omega arith;
    left = refl;
  }

length_part : (l : List ℕ) (a e : ℕ) → e ≤ length l → length (part l a e) ≡ e - a
unfolding part
length_part l a e h = length-take-le (e - a) (drop a l) (omega (arith, length-drop a l))

get_d_part : (l : List ℕ) (a e k : ℕ) → k < e - a → get_or (part l a e) k 0 ≡ get_or l (a + k) 0
unfolding part
get_d_part l a e k h = get_or-take (e - a) (drop a l) k 0 h ∙ get_or-drop a l k 0

module _ {area name : List ℕ} {from q k : ℕ} (s : Compared area name from q k) where
  part-long : length (part area from q) ≡ length name
  part-long = length_part area from q (omega (arith, s.inside)) ∙ s.long

  compared-step : k < length name
      → same_bytes name (part area from q) ≡ (eqb (get_or name k 0) (get_or area (from + k) 0) && same_bytes (drop (k + 1) name) (drop (k + 1) (part area from q)))
  compared-step h =
      s.left ∙ same_step name (part area from q) k h (omega (arith, part-long))
      ∙ ap (λ (x : ℕ). eqb (get_or name k 0) x && same_bytes (drop (k + 1) name) (drop (k + 1) (part area from q)))
      (get_d_part area from q k (omega (arith, s.long)))

  pub compared_same : k < length name → get_or area (from + k) 0 ≡ get_or name k 0 → Compared area name from q (k + 1)
  compared_same h e = record {
    low = s.low;
    long = s.long;
    inside = s.inside;
    upto = omega arith;
    left = compared-step h ∙ rw (eq-eqb (get_or name k 0) (get_or area (from + k) 0) (sym e));
  }

  pub compared-other : k < length name → (get_or area (from + k) 0 ≡ get_or name k 0 → ⊥) → same_bytes name (part area from q) ≡ false
  compared-other h e = compared-step h ∙ rw (ne_eqb (get_or name k 0) (get_or area (from + k) 0) (λ f. e (sym f)))

  pub compared-all : length name ≤ k → same_bytes name (part area from q) ≡ true
  unfolding same_bytes
  compared-all h =
      let g : length (part area from q) ≤ k = omega (arith, part-long) in
      s.left ∙ rw (drop_of_length-le name h, drop_of_length-le (part area from q) g)
