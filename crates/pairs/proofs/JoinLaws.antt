-- A repeat among the complete pairs goes before what stands after them: the parse, by the pieces of the pairs' bytes and what follows.
use Prim.Native.Nat.{ℕ, zero, suc, ◌+◌, ◌<◌}
use mathlib.Core.Path.{◌≡◌, refl, sym, ap, ◌∙◌}
use mathlib.Core.Bool.{Bool, true, false, ◌||◌}
use mathlib.Core.List.{List, [], ◌∷◌, ◌++◌, append_assoc, append-nil}
use native.Mathlib.Omega.{arith}
use lib.Dec.{eqb}
use lib.ListN.{length, take, drop, length-append}
use Rattle.lists.specs.Bytes.{Every, stands}
use Rattle.lists.proofs.Tests.{split, clash}
use Rattle.errors.specs.declared.AreaFault.TheVariants.{AreaEnd, StoredName, Escape, Repeated}
use Rattle.std.specs.Prelude.{Option, Some, None, Result, Ok, Err}
use Rattle.std.specs.Result.{result_and}
use Rattle.errors.specs.declared.Error.{Error}
use Rattle.repeats.specs.Pieces.{ends_name, name_of, piece_name, starts_from, starts, repeat_in, first_repeat}
use Rattle.pairs.specs.declared.Place.{Place}
use Rattle.pairs.specs.Scan.{Stand, pair, finish, cut, wrong_name, wrong_escape, stand_at}
use Rattle.pairs.specs.Area.{Pair, pair_of, pair_bytes, pairs_bytes, Parse, parsed, faulty, first_pair, on_stand, parse_from, parse}
use Rattle.pairs.specs.Helpers.{place_of, unrepeated, scanned_of}
use Rattle.pairs.proofs.PairPlaces.{Goes, NotZero, drop_past, stands_at, NoPair, pair-here}
use Rattle.pairs.proofs.PairRuns.{PairRun, none, more, pair-bytes, CleanPairs, run-clean, Walked, walked-length, walked-take}
use Rattle.pairs.proofs.ParseLaws.{length-pair}

-- the first pair whose name stood before
unfoldable pub repeat_pairs : ℕ → List (List ℕ) → List Pair → Option ℕ
repeat_pairs at seen [] = None
repeat_pairs at seen (p ∷ ps) =
    elim (stands p.name seen) [ true ↦ Some at | false ↦ repeat_pairs (at + length p.name + length p.stored + 2) (p.name ∷ seen) ps ]

-- ---- a pair is a piece

name-of : (name rest : List ℕ) → Every Goes name → name_of (name ++ 0x3D ∷ rest) ≡ name
unfolding name_of ends_name
name-of [] rest h = refl
name-of (b ∷ bs) rest h = rw (h.0, name_of) (ap (λ (l : List ℕ). b ∷ l) (name-of bs rest h.1))

starts-skip : (at : ℕ) (w rest : List ℕ) → Every NotZero w → starts_from false at (w ++ 0x00 ∷ rest) ≡ starts_from true (at + length w + 1) rest
unfolding starts_from
starts-skip at [] rest h = let e : at + 1 ≡ at + 0 + 1 = omega arith in ap (λ (k : ℕ). starts_from true k rest) e
starts-skip at (b ∷ w) rest h =
    let e : at + 1 + length w + 1 ≡ at + suc (length w) + 1 = omega arith in
    rw (h.0, starts_from) (starts-skip (at + 1) w rest h.1 ∙ ap (λ (k : ℕ). starts_from true k rest) e)

starts-piece : (at : ℕ) (w rest : List ℕ) → Every NotZero w → starts_from true at (w ++ 0x00 ∷ rest) ≡ at ∷ starts_from true (at + length w + 1) rest
unfolding starts_from
starts-piece at [] rest h = let e : at + 1 ≡ at + 0 + 1 = omega arith in ap (λ (k : ℕ). at ∷ starts_from true k rest) e
starts-piece at (b ∷ w) rest h =
    let e : at + 1 + length w + 1 ≡ at + suc (length w) + 1 = omega arith in
    rw (h.0, starts_from) (ap (λ (l : List ℕ). at ∷ l) (starts-skip (at + 1) w rest h.1 ∙ ap (λ (k : ℕ). starts_from true k rest) e))

goes-not-zero : (b : ℕ) → Goes b → NotZero b
unfolding ends_name
goes-not-zero b h = go (eqb b 0x3D) (eqb b 0x00) h
  where
    go : (s t : Bool) → (s || t) ≡ false → t ≡ false
    go true t e = clash cc
    go false t e = e

every-joined : (name stored : List ℕ) → Every Goes name → Every NotZero stored → Every NotZero (name ++ 0x3D ∷ stored)
every-joined [] stored h k = (refl, k)
every-joined (b ∷ bs) stored h k = (goes-not-zero b h.0, every-joined bs stored h.1 k)

-- one piece more of the bytes l, whose rest at `at` is a pair and then m
module _ (l : List ℕ) (at : ℕ) (seen : List (List ℕ)) (name stored m : List ℕ) (d : drop at l ≡ pair_bytes (pair_of name stored) ++ m)
    (cn : Every Goes name) (cs : Every NotZero stored) where
  joined : pair_bytes (pair_of name stored) ++ m ≡ (name ++ 0x3D ∷ stored) ++ 0x00 ∷ m
  joined = pair-bytes name stored m ∙ sym (append_assoc name (0x3D ∷ stored) (0x00 ∷ m))

  abbrev past : ℕ
  past = at + length name + length stored + 2

  past_is : at + length (name ++ 0x3D ∷ stored) + 1 ≡ past
  past_is = omega (arith, length-append name (0x3D ∷ stored))

  piece-starts : starts_from true at (pair_bytes (pair_of name stored) ++ m) ≡ at ∷ starts_from true past m
  piece-starts =
      ap (starts_from true at) joined ∙ starts-piece at (name ++ 0x3D ∷ stored) m (every-joined name stored cn cs)
      ∙ ap (λ (k : ℕ). at ∷ starts_from true k m) past_is

  piece-name : piece_name l at ≡ name
  unfolding piece_name
  piece-name = ap name_of (d ∙ pair-bytes name stored m) ∙ name-of name (stored ++ 0x00 ∷ m) cn

  piece-rest : drop past l ≡ m
  piece-rest =
      sym (drop_past l at (at + length (name ++ 0x3D ∷ stored)) (name ++ 0x3D ∷ stored) 0x00 m (d ∙ joined) refl ∙ ap (λ (k : ℕ). drop k l) past_is)

  piece-hit : stands name seen ≡ true → repeat_in l seen (starts_from true at (pair_bytes (pair_of name stored) ++ m)) ≡ Some at
  unfolding repeat_in
  piece-hit t = ap (repeat_in l seen) piece-starts ∙ rw (piece-name, t, repeat_in)

  piece-miss : stands name seen ≡ false
      → repeat_in l seen (starts_from true at (pair_bytes (pair_of name stored) ++ m))
      ≡ repeat_in l (name ∷ seen) (starts_from true past m)
  unfolding repeat_in
  piece-miss t =
      ap (repeat_in l seen) piece-starts ∙ rw (piece-name, t, repeat_in) (ap (λ (n : List ℕ). repeat_in l (n ∷ seen) (starts_from true past m)) piece-name)

repeat-pairs : (l : List ℕ) (at : ℕ) (seen : List (List ℕ)) {ps : List Pair} → CleanPairs ps → drop at l ≡ pairs_bytes ps
    → repeat_in l seen (starts_from true at (pairs_bytes ps)) ≡ repeat_pairs at seen ps
unfolding repeat_pairs pairs_bytes starts_from repeat_in
repeat-pairs l at seen none d = refl
repeat-pairs l at seen (more {name} {stored} {ps} cn cs c) d = split (stands name seen)
    (λ t. piece-hit l at seen name stored (pairs_bytes ps) d cn cs t ∙ sym (rw (t, repeat_pairs)))
    (λ t.
    piece-miss l at seen name stored (pairs_bytes ps) d cn cs t
    ∙ repeat-pairs l (at + length name + length stored + 2) (name ∷ seen) c (piece-rest l at seen name stored (pairs_bytes ps) d cn cs)
    ∙ sym (rw (t, repeat_pairs)))

pub first-repeat-pairs : {ps : List Pair} → CleanPairs ps → first_repeat (pairs_bytes ps) ≡ repeat_pairs 0 [] ps
unfolding first_repeat starts
first-repeat-pairs {ps} c = repeat-pairs (pairs_bytes ps) 0 [] c refl

-- ---- the parse of pairs and what follows them

abbrev join_parse : Option ℕ → Parse → Parse
join_parse (Some at) out = faulty Repeated at
join_parse None out = out

abbrev prefixed : List Pair → Parse → Parse
prefixed ps (parsed qs) = parsed (ps ++ qs)
prefixed ps (faulty f at) = faulty f at

prefixed-none : (t : Parse) → t ≡ prefixed [] t
prefixed-none (parsed qs) = refl
prefixed-none (faulty f at) = refl

first-prefixed : (p : Pair) (ps : List Pair) (r : Option ℕ) (t : Parse) → first_pair p (join_parse r (prefixed ps t)) ≡ join_parse r (prefixed (p ∷ ps) t)
first-prefixed p ps (Some at) t = refl
first-prefixed p ps None (parsed qs) = refl
first-prefixed p ps None (faulty f at) = refl

parse-hit : (n : ℕ) (seen : List (List ℕ)) (at past : ℕ) (l name stored next : List ℕ) → stand_at l ≡ pair name stored next → stands name seen ≡ true
    → parse_from (suc n) seen at past l ≡ faulty Repeated at
unfolding parse_from
parse-hit n seen at past l name stored next e t = rw (e, t)

parse-miss : (n : ℕ) (seen : List (List ℕ)) (at past : ℕ) (l name stored next : List ℕ) → stand_at l ≡ pair name stored next → stands name seen ≡ false
    → parse_from (suc n) seen at past l
    ≡ first_pair (pair_of name stored) (parse_from n (name ∷ seen) (at + length name + length stored + 2) past next)
unfolding parse_from
parse-miss n seen at past l name stored next e t = rw (e, t)

pair-shorter : (l name stored next : List ℕ) → stand_at l ≡ pair name stored next → length l ≡ length name + length stored + 2 + length next
pair-shorter l name stored next e =
    ap length (pair-here l name stored next e).is ∙ simp length-append (omega arith)

parse-run : {ps : List Pair} {l rest : List ℕ} → PairRun ps l rest → (t : Parse) (n : ℕ) (seen : List (List ℕ)) (at last past : ℕ) → length l < n
    → at + length (pairs_bytes ps) ≡ last → ((m : ℕ) (s : List (List ℕ)) → parse_from (suc m) s last past rest ≡ t)
    → parse_from n seen at past l ≡ join_parse (repeat_pairs at seen ps) (prefixed ps t)
unfolding repeat_pairs pairs_bytes
parse-run r t zero seen at last past h e stop = absurd (omega arith)
parse-run {l = l} none t (suc n) seen at last past h e stop =
    let k : at ≡ last = omega arith in
    ap (λ (a : ℕ). parse_from (suc n) seen a past l) k ∙ stop n seen ∙ prefixed-none t
parse-run (more {name} {stored} {l} {next} {ps = ps} s r) t (suc n) seen at last past h e stop =
    let k : length l ≡ length name + length stored + 2 + length next = pair-shorter l name stored next s in
    let a : ℕ = at + length name + length stored + 2 in
    let f : at + length name + length stored + 2 + length (pairs_bytes ps) ≡ last =
    omega (arith, length-append (pair_bytes (pair_of name stored)) (pairs_bytes ps), length-pair (pair_of name stored)) in
    split (stands name seen)
    (λ u. parse-hit n seen at past l name stored next s u ∙ sym (rw (u, repeat_pairs)))
    (λ u.
    parse-miss n seen at past l name stored next s u
    ∙ ap (first_pair (pair_of name stored)) (parse-run r t n (name ∷ seen) a last past (omega arith) f stop)
    ∙ first-prefixed (pair_of name stored) ps (repeat_pairs a (name ∷ seen) ps) t ∙ sym (rw (u, repeat_pairs)))

-- what stands at the offset at, where the walk ends in an area of `long` bytes, as a parse
abbrev tail_parse : ℕ → ℕ → Stand → Parse
tail_parse long at (pair name stored rest) = parsed []
tail_parse long at finish = parsed []
tail_parse long at cut = faulty AreaEnd long
tail_parse long at (wrong_name k) = faulty StoredName (at + k)
tail_parse long at (wrong_escape k) = faulty Escape (at + k)

tail-is : (at long : ℕ) (go : List (List ℕ) → ℕ → List ℕ → Parse) (seen : List (List ℕ)) (s : Stand) → NoPair (place_of long at s)
    → on_stand s seen at long go ≡ tail_parse long at s
unfolding place_of
tail-is at long go seen (pair name stored rest) h = absurd (h _ refl)
tail-is at long go seen finish h = refl
tail-is at long go seen cut h = refl
tail-is at long go seen (wrong_name k) h = refl
tail-is at long go seen (wrong_escape k) h = refl

scanned-joined : (r : Option ℕ) (p : Parse) (x : Option Place) → result_and (unrepeated r) (scanned_of p x) ≡ scanned_of (join_parse r p) x
unfolding unrepeated scanned_of
scanned-joined (Some at) p x = refl
scanned-joined None p x = refl

module _ {area : List ℕ} {at count : ℕ} (w : Walked area at count) (place : Option Place) where
  abbrev here : Stand
  here = stand_at (drop at area)

  abbrev all : Parse
  all = prefixed w.pairs (tail_parse (length area) at here)

  walked-tail : NoPair (stands_at area at) → result_and (unrepeated (first_repeat (take at area))) (scanned_of all place) ≡ scanned_of (parse area) place
  unfolding parse parse_from
  walked-tail h =
      ap (λ (l : List ℕ). result_and (unrepeated (first_repeat l)) (scanned_of all place)) (walked-take w)
      ∙ ap (λ (r : Option ℕ). result_and (unrepeated r) (scanned_of all place)) (first-repeat-pairs (run-clean w.run))
      ∙ scanned-joined (repeat_pairs 0 [] w.pairs) all place
      ∙ ap (λ (p : Parse). scanned_of p place) (sym
      (parse-run w.run (tail_parse (length area) at here) (suc (length area)) [] 0 at (length area) (omega arith) (omega (arith, walked-length w))
      (λ m s. tail-is at (length area) (λ s a r. parse_from m s a (length area) r) s here h)))

  -- what ends the pairs, as the pairs before it and a parse
  closed-tail : (s : Stand) → NoPair (place_of (length area) at s)
      → result_and (place_of (length area) at s) (Ok (record { count = count; used = at; place = place }))
      ≡ scanned_of (prefixed w.pairs (tail_parse (length area) at s)) place
  unfolding scanned_of place_of
  closed-tail (pair name stored rest) h = absurd (h _ refl)
  closed-tail finish h =
      (λ i. Ok (record { count = sym w.counted i; used = sym (walked-length w) i; place = place }))
      ∙ ap (λ (ps : List Pair). Ok (record { count = length ps; used = length (pairs_bytes ps); place = place })) (sym (append-nil w.pairs))
  closed-tail cut h = refl
  closed-tail (wrong_name k) h = refl
  closed-tail (wrong_escape k) h = refl

  module _ (x : Result (Option Place) Error) (e : x ≡ stands_at area at) (h : NoPair x) (sought : Option Place) (es : sought ≡ place) where
    -- the whole scan, by whether a name stands twice among the pairs and by what ends them
    walked_end : result_and (unrepeated (first_repeat (take at area))) (result_and x (Ok (record { count = count; used = at; place = place })))
        ≡ scanned_of (parse area) sought
    walked_end =
        let n : NoPair (stands_at area at) = λ p f. h p (e ∙ f) in
        ap (result_and (unrepeated (first_repeat (take at area))))
        (ap (λ (y : Result (Option Place) Error). result_and y (Ok (record { count = count; used = at; place = place }))) e ∙ closed-tail here n)
        ∙ walked-tail n ∙ ap (scanned_of (parse area)) (sym es)

    -- a name that stands twice
    pub walked-repeat : (f : Error) → Err f ≡ unrepeated (first_repeat (take at area)) → Err f ≡ scanned_of (parse area) sought
    walked-repeat f r =
        ap (λ (y : Result (Unit {0}) Error). result_and y (result_and x (Ok (record { count = count; used = at; place = place })))) r ∙ walked_end

    -- no name stands twice
    module _ (once : Ok tt ≡ unrepeated (first_repeat (take at area))) where
      walked-once : result_and x (Ok (record { count = count; used = at; place = place })) ≡ scanned_of (parse area) sought
      walked-once =
          ap (λ (y : Result (Unit {0}) Error). result_and y (result_and x (Ok (record { count = count; used = at; place = place })))) once ∙ walked_end

      -- and a fault ends the pairs
      pub walked-fault : (f : Error) → x ≡ Err f → Err f ≡ scanned_of (parse area) sought
      walked-fault f r =
          ap (λ (y : Result (Option Place) Error). result_and y (Ok (record { count = count; used = at; place = place }))) (sym r) ∙ walked-once

      -- or the ending 0x00
      pub walked-done : (y : Option Place) → x ≡ Ok y → Ok (record { count = count; used = at; place = place }) ≡ scanned_of (parse area) sought
      walked-done y r =
          ap (λ (y : Result (Option Place) Error). result_and y (Ok (record { count = count; used = at; place = place }))) (sym r) ∙ walked-once
