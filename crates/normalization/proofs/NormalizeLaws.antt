-- Every value made canonical in its place: one pair, pair by pair, and the whole area.
use Prim.Native.Nat.{ℕ, ◌+◌, ◌-◌, ◌≤◌, ◌<◌}
use mathlib.Core.Path.{◌≡◌, refl, sym, ap, ◌∙◌}
use mathlib.Core.Bool.{true}
use mathlib.Core.List.{List, [], ◌∷◌, ◌++◌, append_assoc, append-nil}
use native.Mathlib.Omega.{arith}
use borrow.Rule.Slice.PartMut.{put_mid, mid_of}
use lib.ListN.{length, set, take, drop, replicate, length-append, length-drop, length-replicate}
use lib.Seq.{take_at, length-take-le}
use Rattle.lists.specs.Bytes.{AllBytes}
use Rattle.lists.specs.Pasted.{pasted}
use Rattle.lists.specs.Helpers.{moved_bytes}
use Rattle.lists.proofs.Tests.{clash}
use Rattle.lists.proofs.PastedLaws.{length-pasted, pasted-none, pasted-last, drop-pasted-after, pasted-more, set_after}
use Rattle.lists.proofs.MoveLaws.{moved_inside, part_filled}
use Rattle.std.specs.Prelude.{Option, Some, None, Result, Ok, Err, is_some}
use Rattle.values.specs.Value.{spelled, decode, encode}
use Rattle.values.specs.Helpers.{part, recoded, recoded_of, recoded_in}
use Rattle.encoding.proofs.RecodeLaws.{Recodable, recoded-taken, recoded-short}
use Rattle.errors.specs.declared.Error.{Error}
use Rattle.pairs.specs.declared.Scanned.{Scanned}
use Rattle.pairs.specs.declared.Place.{Place}
use Rattle.pairs.specs.Scan.{pair, finish, stand_at}
use Rattle.pairs.specs.Area.{Pair, pair_bytes, pairs_bytes, Parse, parsed, parse}
use Rattle.variables.specs.Edits.{canonical_pair, normalize_pairs}
use Rattle.variables.specs.Calls.{normalize, done, refused, Outcome, call_area}
use Rattle.variables.proofs.CallLaws.{check-normalize, call-parsed, normalize-done as normalize-outcome}
use Rattle.pairs.specs.Helpers.{placed, place_of, scanned_of}
use Rattle.normalization.specs.Helpers.{PairMoves, pair_recoded, Parses, normalized_bytes}
use Rattle.pairs.proofs.ScanLaws.{a_pair, stand-end, standing-stand}
use Rattle.pairs.proofs.ParseLaws.{Good, none, more, pair-front, area-read}
use Rattle.variables.proofs.EditLaws.{area-zeros}
use Rattle.pairs.proofs.PairPlaces.{drop_past, past-inside, NoPair, stands_at}
use Rattle.variables.proofs.CallPlaces.{scanned-pairs, scan-faulty, edit-refused}

-- ---- one pair: d is the area before, d₁ with the name moved, d₂ with the value made canonical

-- the canonical value, m bytes, and its 0x00 end no later than the stored value does
pub record Shorter (d : List ℕ) (p : Place) (to m : ℕ) (d₂ : List ℕ) : Type 0 where
  pub ends : to + (p.equals + 1 - p.start) + m ≤ p.end
  pub long : length d₂ ≡ length d

-- the pair is made canonical, and r is the offset after it
pub record PairMade (d : List ℕ) (p : Place) (to r : ℕ) (d₃ : List ℕ) : Type 0 where
  pub low : r ≤ p.end + 1
  pub past : r ≡ to + length (pair_recoded d p)
  pub bytes : d₃ ≡ pasted d to (pair_recoded d p)

module _ {d : List ℕ} {p : Place} {to : ℕ} (h : PairMoves d p to) (d₁ : List ℕ) (e₁ : d₁ ≡ moved_bytes d p.start to (p.equals + 1 - p.start)) where
  abbrev at : ℕ
  at = p.start

  abbrev q : ℕ
  q = p.equals

  abbrev e : ℕ
  e = p.end

  head-long : length (take (q + 1 - at) (drop at d)) ≡ q + 1 - at
  head-long = length-take-le (q + 1 - at) (drop at d) (omega (arith, length-drop at d, h.order, h.value, h.inside))

  moved-head : d₁ ≡ pasted d to (take (q + 1 - at) (drop at d))
  moved-head =
      e₁
      ∙ sym (moved_inside d at to (q + 1 - at) (omega (arith, h.value, h.inside)) (omega (arith, h.order, h.value, h.inside))
      (omega (arith, h.before, h.order, h.value, h.inside)))

  head-room : to + length (take (q + 1 - at) (drop at d)) ≤ q + 1
  head-room = omega (arith, head-long, h.before, h.order)

  head-fits : to + length (take (q + 1 - at) (drop at d)) ≤ length d
  head-fits = omega (arith, head-room, h.value, h.inside)

  moved_length : length d₁ ≡ length d
  moved_length = ap length moved-head ∙ length-pasted d to (take (q + 1 - at) (drop at d)) head-fits

  moved-part : part d₁ (q + 1) e ≡ part d (q + 1) e
  unfolding part
  moved-part =
      ap (take (e - (q + 1)))
      (ap (drop (q + 1)) moved-head ∙ drop-pasted-after d to (take (q + 1 - at) (drop at d)) head-fits (q + 1) head-room)

  moved-recoded : recoded d₁ (q + 1) e ≡ recoded d (q + 1) e
  unfolding recoded
  moved-recoded = ap (λ (l : List ℕ). encode (decode l)) moved-part

  moved-recodable : Recodable d₁ (q + 1) e (to + (q + 1 - at))
  moved-recodable =
      record {
        before = omega (arith, h.before, h.order);
        order = omega (arith, h.value);
        inside = omega (arith, h.inside, moved_length);
        valid = ap spelled moved-part ∙ h.valid;
      }

  -- the answer and the area of the recoding
  abbrev At : ℕ
  At = to + (q + 1 - at)

  told : (Some (At + length (recoded d₁ (q + 1) e) - At) ≡ recoded_of d₁ (q + 1) e At)
      × (pasted d₁ At (recoded d₁ (q + 1) e) ≡ recoded_in d₁ (q + 1) e At)
  told = recoded-taken d₁ (q + 1) e At moved-recodable {e = At + length (recoded d₁ (q + 1) e)} refl refl

  -- it is not refused
  pub pair-recodes : (r : Option ℕ) → r ≡ recoded_of d₁ (q + 1) e (to + (q + 1 - at)) → is_some r ≡ true
  pair-recodes r g = ap is_some (g ∙ sym told.0)

  module _ (all : AllBytes d) (r : Option ℕ) (g : r ≡ recoded_of d₁ (q + 1) e (to + (q + 1 - at))) (m : ℕ) (f : r ≡ Some m)
      (d₂ : List ℕ) (e₂ : d₂ ≡ recoded_in d₁ (q + 1) e (to + (q + 1 - at))) where
    answer : m ≡ length (recoded d (q + 1) e)
    answer =
        let z : Some m ≡ Some (At + length (recoded d₁ (q + 1) e) - At) = sym f ∙ g ∙ sym told.0 in
        let k : m ≡ At + length (recoded d₁ (q + 1) e) - At = cc in
        omega (arith, k, ap length moved-recoded)

    short : length (recoded d (q + 1) e) ≤ e - (q + 1)
    short =
        recoded-short d (q + 1) e (q + 1) all
        (record { before = omega arith; order = omega (arith, h.value); inside = omega (arith, h.inside); valid = h.valid })

    both_long : length (take (q + 1 - at) (drop at d) ++ recoded d (q + 1) e) ≡ q + 1 - at + m
    both_long = omega (arith, length-append (take (q + 1 - at) (drop at d)) (recoded d (q + 1) e), head-long, answer)

    both-room : to + (q + 1 - at) + m ≤ e
    both-room = omega (arith, answer, short, h.before, h.order, h.value)

    left : d₂ ≡ pasted d to (take (q + 1 - at) (drop at d) ++ recoded d (q + 1) e)
    left =
        let k : to + (q + 1 - at) ≡ to + length (take (q + 1 - at) (drop at d)) = omega (arith, head-long) in
        e₂ ∙ sym told.1 ∙ (λ i. pasted (moved-head i) (k i) (moved-recoded i))
        ∙ pasted-more d to (take (q + 1 - at) (drop at d)) head-fits (recoded d (q + 1) e) (omega (arith, both-room, answer, head-long, h.inside))

    pub pair-shorter : Shorter d p to m d₂
    pair-shorter =
        record {
          ends = both-room;
          long = ap length left ∙ length-pasted d to (take (q + 1 - at) (drop at d) ++ recoded d (q + 1) e) (omega (arith, both_long, both-room, h.inside));
        }

    pub pair_made : PairMade d p to (to + (q + 1 - at) + m + 1) (set d₂ (to + (q + 1 - at) + m) 0x00)
    unfolding pair_recoded
    pair_made =
        let w : List ℕ = take (q + 1 - at) (drop at d) in
        let v : List ℕ = recoded d (q + 1) e in
        record {
          low = omega (arith, both-room);
          past = omega (arith, length-append w (v ++ 0x00 ∷ []), length-append v (0x00 ∷ []), head-long, answer);
          bytes =
              ap (λ (l : List ℕ). set l (to + (q + 1 - at) + m) 0x00) left
              ∙ set_after d to (w ++ v) (to + (q + 1 - at) + m) 0x00 (omega (arith, both_long)) (omega (arith, both-room, h.inside))
              ∙ ap (pasted d to) (append_assoc w v (0x00 ∷ []));
        }

-- ---- the pieces of a pair that stands at `at`

record PairThere (d : List ℕ) (p : Place) (name stored rest : List ℕ) : Type 0 where
  is : drop p.start d ≡ name ++ 0x3D ∷ (stored ++ 0x00 ∷ rest)
  equals : p.equals ≡ p.start + length name
  end : p.end ≡ p.start + length name + 1 + length stored

module _ {d : List ℕ} {p : Place} {name stored rest : List ℕ} (t : PairThere d p name stored rest) where
  value-part : part d (p.equals + 1) p.end ≡ stored
  unfolding part
  value-part =
      ap (take (p.end - (p.equals + 1))) (sym (drop_past d p.start p.equals name 0x3D (stored ++ 0x00 ∷ rest) t.is t.equals))
      ∙ take_at stored (0x00 ∷ rest) (p.end - (p.equals + 1)) (omega (arith, t.equals, t.end))

  name-part : take (p.equals + 1 - p.start) (drop p.start d) ≡ name ++ 0x3D ∷ []
  name-part =
      ap (take (p.equals + 1 - p.start)) (t.is ∙ sym (append_assoc name (0x3D ∷ []) (stored ++ 0x00 ∷ rest)))
      ∙ take_at (name ++ 0x3D ∷ []) (stored ++ 0x00 ∷ rest) (p.equals + 1 - p.start) (omega (arith, length-append name (0x3D ∷ []), t.equals))

  pair-canonical : pair_recoded d p ≡ pair_bytes (canonical_pair name (decode stored))
  unfolding pair_recoded pair_bytes recoded
  pair-canonical =
      (λ i. name-part i ++ (encode (decode (value-part i)) ++ 0x00 ∷ []))
      ∙ append_assoc name (0x3D ∷ []) (encode (decode stored) ++ 0x00 ∷ [])

  head-is : drop p.start d ≡ (name ++ 0x3D ∷ stored) ++ 0x00 ∷ rest
  head-is = t.is ∙ sym (append_assoc name (0x3D ∷ stored) (0x00 ∷ rest))

  end_is : p.end ≡ p.start + length (name ++ 0x3D ∷ stored)
  end_is = omega (arith, t.end, length-append name (0x3D ∷ stored))

  pair-past : drop (p.end + 1) d ≡ rest
  pair-past = sym (drop_past d p.start p.end (name ++ 0x3D ∷ stored) 0x00 rest head-is end_is)

  pair_inside : p.end < length d
  pair_inside = past-inside d p.start p.end (name ++ 0x3D ∷ stored) 0x00 rest head-is end_is

-- ---- pair by pair

-- one canonical pair more
normal-more : (ps : List Pair) (p : Pair)
    → pairs_bytes (normalize_pairs (ps ++ p ∷ [])) ≡ pairs_bytes (normalize_pairs ps) ++ pair_bytes (canonical_pair p.name (decode p.stored))
unfolding normalize_pairs pairs_bytes
normal-more [] p = append-nil (pair_bytes (canonical_pair p.name (decode p.stored)))
normal-more (x ∷ ps) p =
    let c : Pair → List ℕ = λ y. pair_bytes (canonical_pair y.name (decode y.stored)) in
    ap (λ (l : List ℕ). c x ++ l) (normal-more ps p) ∙ sym (append_assoc (c x) (pairs_bytes (normalize_pairs ps)) (c p))

-- the area was d and is b: the pairs passed stand at its start in canonical form, and those left from `at` on, as they stood
pub record Normalizing (d b : List ℕ) (at to : ℕ) : Type 0 where
  pub passed : List Pair
  pub left : List Pair
  pub seen : List (List ℕ)
  pub fill : List ℕ
  pub reads : parse d ≡ parsed (passed ++ left)
  pub good : Good seen left
  pub rest : drop at d ≡ pairs_bytes left ++ 0x00 ∷ fill
  pub written : to ≡ length (pairs_bytes (normalize_pairs passed))
  pub order : to ≤ at
  pub bytes : b ≡ pasted d 0 (pairs_bytes (normalize_pairs passed))

pub normalizing-none : {d : List ℕ} → Parses d → Normalizing d d 0 0
unfolding pairs_bytes normalize_pairs
normalizing-none {d} p =
    let r = area-read d p.pairs p.reads in
    record {
      passed = [];
      left = p.pairs;
      seen = [];
      fill = r.fill;
      reads = p.reads;
      good = r.good;
      rest = r.bytes;
      written = refl;
      order = omega arith;
      bytes = pasted-none d 0;
    }

-- the next pair that is left
pub record NextPair (seen : List (List ℕ)) (left : List Pair) (at : ℕ) (p : Place) : Type 0 where
  pub next : Pair
  pub others : List Pair
  pub is : left ≡ next ∷ others
  pub start : p.start ≡ at
  pub equals : p.equals ≡ at + length next.name
  pub end : p.end ≡ at + length next.name + 1 + length next.stored
  pub valid : spelled next.stored ≡ true
  pub good : Good (next.name ∷ seen) others

-- what the code finds there
module _ (long at : ℕ) (fill l : List ℕ) where
  stands-next : {seen : List (List ℕ)} {left : List Pair} → Good seen left → l ≡ pairs_bytes left ++ 0x00 ∷ fill → (x : Place)
      → Ok (Some x) ≡ place_of long at (stand_at l) → NextPair seen left at x
  unfolding pairs_bytes place_of
  stands-next none r x h = let k : stand_at l ≡ finish = ap stand_at r ∙ stand-end fill in let f : Ok (Some x) ≡ Ok None = h ∙ ap (place_of long at) k in clash cc
  stands-next (more {p = p} {ps = ps} n v s g) r x h =
      let k : stand_at l ≡ pair p.name p.stored (pairs_bytes ps ++ 0x00 ∷ fill) =
      ap stand_at (r ∙ pair-front p ps (0x00 ∷ fill)) ∙ standing-stand (a_pair (pairs_bytes ps ++ 0x00 ∷ fill) n v) in
      let f : Ok (Some x) ≡ Ok (Some (placed at p.name p.stored)) = h ∙ ap (place_of long at) k in
      let q : x ≡ placed at p.name p.stored = cc in
      record {
        next = p;
        others = ps;
        is = refl;
        start = ap (λ (y : Place). y.start) q;
        equals = ap (λ (y : Place). y.equals) q;
        end = ap (λ (y : Place). y.end) q;
        valid = v;
        good = g;
      }

  stands-none : {seen : List (List ℕ)} {left : List Pair} → Good seen left → l ≡ pairs_bytes left ++ 0x00 ∷ fill → (x : Result (Option Place) Error)
      → x ≡ place_of long at (stand_at l) → NoPair x → left ≡ []
  unfolding place_of
  stands-none none r x h f = refl
  stands-none (more {p = p} {ps = ps} n v s g) r x h f =
      let k : stand_at l ≡ pair p.name p.stored (pairs_bytes ps ++ 0x00 ∷ fill) =
      ap stand_at (r ∙ pair-front p ps (0x00 ∷ fill)) ∙ standing-stand (a_pair (pairs_bytes ps ++ 0x00 ∷ fill) n v) in
      absurd (f (placed at p.name p.stored) (h ∙ ap (place_of long at) k))

module _ {d b : List ℕ} {at to : ℕ} (n : Normalizing d b at to) where
  at-inside : at < length d
  at-inside = omega (arith, length-drop at d, ap length n.rest, length-append (pairs_bytes n.left) (0x00 ∷ n.fill))

  fits : 0 + length (pairs_bytes (normalize_pairs n.passed)) ≤ length d
  fits = omega (arith, at-inside, n.written, n.order)

  rest-now : drop at b ≡ pairs_bytes n.left ++ 0x00 ∷ n.fill
  rest-now =
      ap (drop at) n.bytes
      ∙ drop-pasted-after d 0 (pairs_bytes (normalize_pairs n.passed)) fits at (omega (arith, n.written, n.order)) ∙ n.rest

  -- it ends
  pub normalizing-end : (x : Result (Option Place) Error) → x ≡ stands_at b at → NoPair x
      → (to < length d) × ((to ≡ length (normalized_bytes (parse d))) × (b ≡ pasted d 0 (normalized_bytes (parse d))))
  unfolding normalized_bytes
  normalizing-end x h f =
      let z : n.left ≡ [] = stands-none (length b) at n.fill (drop at b) n.good rest-now x h f in
      let k : parse d ≡ parsed n.passed = n.reads ∙ ap (λ (l : List Pair). parsed (n.passed ++ l)) z ∙ ap parsed (append-nil n.passed) in (
        omega (arith, at-inside, n.order),
        (
          n.written ∙ ap (λ (y : Parse). length (normalized_bytes y)) (sym k),
          n.bytes ∙ ap (λ (y : Parse). pasted d 0 (normalized_bytes y)) (sym k),
        ),
      )

  module _ {x : Result (Option Place) Error} (p : Place) (hx : x ≡ stands_at b at) (hp : x ≡ Ok (Some p)) where
    here : NextPair n.seen n.left at p
    here = stands-next (length b) at n.fill (drop at b) n.good rest-now p (sym hp ∙ hx)

    there : (l : List ℕ) → drop at l ≡ pairs_bytes n.left ++ 0x00 ∷ n.fill
        → PairThere l p here.next.name here.next.stored (pairs_bytes here.others ++ 0x00 ∷ n.fill)
    there l r =
        record {
          is = ap (λ (k : ℕ). drop k l) here.start ∙ r
              ∙ ap (λ (ps : List Pair). pairs_bytes ps ++ 0x00 ∷ n.fill) here.is ∙ pair-front here.next here.others (0x00 ∷ n.fill);
          equals = omega (arith, here.equals, here.start);
          end = omega (arith, here.end, here.start);
        }

    -- the next pair can be made canonical
    pub pair-moves : PairMoves b p to
    pair-moves =
        record {
          before = omega (arith, n.order, here.start);
          order = omega (arith, here.start, here.equals);
          value = omega (arith, here.equals, here.end);
          inside = pair_inside (there b rest-now);
          valid = ap spelled (value-part (there b rest-now)) ∙ here.valid;
        }

    pub pair-further : (at < p.end + 1) × (p.end < length d)
    pair-further =
        (omega (arith, here.equals, here.end), pair_inside (there d n.rest))

    -- and then it has been passed
    pub normalizing-more : (r : ℕ) (b₁ : List ℕ) → r ≤ p.end + 1 → r ≡ to + length (pair_recoded b p) → b₁ ≡ pasted b to (pair_recoded b p)
        → Normalizing d b₁ (p.end + 1) r
    normalizing-more r b₁ l k f =
        let w : List ℕ = pairs_bytes (normalize_pairs n.passed) in
        let v : List ℕ = pair_bytes (canonical_pair here.next.name (decode here.next.stored)) in
        let c : pair_recoded b p ≡ v = pair-canonical (there b rest-now) in
        let t : to ≡ 0 + length w = omega (arith, n.written) in
        let y : r ≡ length w + length v = omega (arith, k, ap length c, n.written) in
        record {
          passed = n.passed ++ here.next ∷ [];
          left = here.others;
          seen = here.next.name ∷ n.seen;
          fill = n.fill;
          reads =
              n.reads ∙ ap (λ (ps : List Pair). parsed (n.passed ++ ps)) here.is
              ∙ ap parsed (sym (append_assoc n.passed (here.next ∷ []) here.others));
          good = here.good;
          rest = pair-past (there d n.rest);
          written = y ∙ sym (length-append w v) ∙ ap length (sym (normal-more n.passed here.next));
          order = l;
          bytes =
              f ∙ (λ i. pasted (n.bytes i) (t i) (c i))
              ∙ pasted-more d 0 w fits v (omega (arith, y, l, pair-further.1))
              ∙ ap (pasted d 0) (sym (normal-more n.passed here.next));
        }

-- ---- the whole area

pub scan-parses : (d : List ℕ) (sought : Option Place) (s : Scanned) → Ok s ≡ scanned_of (parse d) sought → Parses d
scan-parses d sought s h =
    let p = scanned-pairs (parse d) sought s h in
    record { pairs = p.pairs; reads = p.is }

-- a fault refuses the call
pub normalize-refused : (d : List ℕ) (sought : Option Place) (e : Error) → Err e ≡ scanned_of (parse d) sought
    → (refused e ≡ (call_area normalize d).reply) × (d ≡ (call_area normalize d).area)
normalize-refused d sought e h = edit-refused normalize (scan-faulty normalize d sought e check-normalize h)

-- the pairs in canonical form, and the rest zeroed
pub normalize-done : {d : List ℕ} → Parses d → (n : ℕ) → n < length d → n ≡ length (normalized_bytes (parse d)) → (d₁ : List ℕ)
    → d₁ ≡ pasted d 0 (normalized_bytes (parse d)) → (last : List ℕ) → last ≡ replicate (length (mid_of n (length d₁ - n) d₁)) 0x00
    → (done 0 ≡ (call_area normalize d).reply) × (put_mid n (length d₁ - n) d₁ last ≡ (call_area normalize d).area)
unfolding normalized_bytes
normalize-done {d} p n h k d₁ f last g =
    let w : List ℕ = pairs_bytes (normalize_pairs p.pairs) in
    let kn : n ≡ length w = k ∙ ap (λ (y : Parse). length (normalized_bytes y)) p.reads in
    let f₁ : d₁ ≡ pasted d 0 w = f ∙ ap (λ (y : Parse). pasted d 0 (normalized_bytes y)) p.reads in
    let long : length d₁ ≡ length d = ap length f₁ ∙ length-pasted d 0 w (omega arith) in
    let z : List ℕ = replicate (length d - length w) 0x00 in
    let lz : length z ≡ length d - length w = length-replicate (length d - length w) 0x00 in
    let t : n ≡ 0 + length w = omega arith in
    let o = call-parsed normalize d check-normalize p.pairs p.reads ∙ normalize-outcome p.pairs d in (
      sym (ap (λ (x : Outcome). x.reply) o),
      part_filled d₁ n (length d₁) 0x00 last (omega arith) (omega arith) g
          ∙ (λ i. pasted (f₁ i) (t i) (replicate (long i - kn i) 0x00))
          ∙ pasted-more d 0 w (omega arith) z (omega arith)
          ∙ pasted-last d 0 (w ++ z) (omega (arith, length-append w z))
          ∙ area-zeros (length d) (normalize_pairs p.pairs) (omega arith)
          ∙ sym (ap (λ (x : Outcome). x.area) o),
    )
