-- The turns of the loop that makes a stored value canonical in place: at the offset i of the area.
use Prim.Native.Nat.{ℕ, ◌+◌, ◌-◌, ◌%◌, ◌≤◌, ◌<◌}
use mathlib.Core.Path.{◌≡◌, refl, sym, ap, ◌∙◌}
use mathlib.Core.Bool.{true, false}
use mathlib.Core.List.{List, [], ◌∷◌, ◌++◌, append-nil}
use mathlib.Core.Logic.{◌≢◌}
use native.Mathlib.Omega.{arith}
use lib.ListN.{length, get_or, take, drop, length-take, length-drop}
use lib.Seq.{take-take, length-take-le}
use lib.Dec.{leb}
use borrow.Author.Tests.{ne_eqb, leb-true, leb-false}
use Rattle.lists.specs.Bytes.{Every}
use Rattle.lists.specs.Helpers.{until_either}
use Rattle.lists.specs.Pasted.{pasted}
use Rattle.lists.proofs.PastedLaws.{drop-pasted-after}
use Rattle.lists.proofs.FindLaws.{until-next, until-short, until-before}
use Rattle.lists.proofs.Tests.{split}
use Rattle.lists.proofs.Grown.{Grown, grown-none, grown-same, grown-after, grown-as, grown-piece, grown-all, grown-end}
use Rattle.values.specs.Value.{run_byte, run, decode, spelled, mark, run_bytes, escaped, encode_from, encode}
use Rattle.values.specs.Helpers.{part, recoded}
use Rattle.values.proofs.DecodeLaws.{decode-none, decode-piece, decode-escape, spelled-piece, plain-spelled, escape-spelled, cut-spelled, PlainSpelled, EscapeSpelled}
use Rattle.values.proofs.EncodeLaws.{length-run-bytes, encode-none, run-same, run-other}
use Rattle.values.proofs.CanonicalLaws.{encode-after}
use Rattle.values.proofs.PartLaws.{part-next, part_none, part_cut}
use Rattle.encoding.proofs.RecodeLaws.{Recodable, encode-full}

-- l is the area at the start, b what it is now. The canonical form is written up to o, a run of n times y is open, and i is the next byte to read.

pub record Recoding (l : List ℕ) (from to at : ℕ) (b : List ℕ) (i o y n : ℕ) : Type 0 where
  pub grown : Grown (recoded l from to) l at o (encode_from y n (decode (part l i to))) b
  pub valid : spelled (part l i to) ≡ true
  pub behind : o + length (run_bytes y n) ≤ i
  pub few : n ≤ 127
  pub not-past : i ≤ to
  pub inside : to ≤ length l

pub recoding-none : (l : List ℕ) (from to at : ℕ) → Recodable l from to at → Recoding l from to at l from at 0 0
unfolding recoded encode
recoding-none l from to at r = record {
  grown = grown-none (recoded l from to) l at (omega (arith, r.before, r.order, r.inside));
  valid = r.valid;
  behind = omega (arith, length-run-bytes 0 0, r.before);
  few = omega arith;
  not-past = r.order;
  inside = r.inside;
}

-- what is not yet written over is as it was
grown-drop : {all d : List ℕ} {at o : ℕ} {r b : List ℕ} (s : Grown all d at o r b) (j : ℕ) → o ≤ j → drop j b ≡ drop j d
grown-drop {d = d} {at = at} s j h =
    let u = s.upto in
    let k = s.room in
    ap (drop j) s.so_far ∙ drop-pasted-after d at s.done (omega arith) j (omega arith)

module _ {l : List ℕ} {from to at : ℕ} {b : List ℕ} {i o y n : ℕ} (s : Recoding l from to at b i o y n) where
  pub recoding-same : length b ≡ length l
  recoding-same = grown-same s.grown

  pub flush-fits : o + length (run_bytes y n) ≤ length b
  flush-fits = omega (arith, s.behind, s.not-past, s.inside, recoding-same)

  here-now : get_or b i 0 ≡ get_or l i 0
  here-now = grown-after s.grown i (omega (arith, s.behind))

  still-there : drop i b ≡ drop i l
  still-there = grown-drop s.grown i (omega (arith, s.behind))

  next-now : get_or b (i + 1) 0 ≡ get_or l (i + 1) 0
  next-now = grown-after s.grown (i + 1) (omega (arith, s.behind))

  module _ (h : i < to) where
    first : part l i to ≡ get_or l i 0 ∷ part l (i + 1) to
    first = part-next l i to h s.inside

    module _ (e : get_or b i 0 ≡ 255) where
      e' : get_or l i 0 ≡ 255
      e' = sym here-now ∙ e

      begun : spelled (255 ∷ part l (i + 1) to) ≡ true
      begun = ap (λ (x : ℕ). spelled (x ∷ part l (i + 1) to)) (sym e') ∙ ap spelled (sym first) ∙ s.valid

      pub two_in : i + 1 < to
      two_in =
          split (leb to (i + 1))
          (λ t. absurd (cut-spelled (ap (λ (r : List ℕ). spelled (255 ∷ r)) (sym (part_none l (i + 1) to (leb-true to (i + 1) t))) ∙ begun)))
          (λ t. leb-false to (i + 1) t)

      second : part l (i + 1) to ≡ get_or l (i + 1) 0 ∷ part l (i + 1 + 1) to
      second = part-next l (i + 1) to two_in s.inside

      shown : EscapeSpelled (get_or l (i + 1) 0) (part l (i + 1 + 1) to)
      shown = escape-spelled (get_or l (i + 1) 0) (part l (i + 1 + 1) to) (ap (λ (r : List ℕ). spelled (255 ∷ r)) (sym second) ∙ begun)

      to-come : decode (part l i to) ≡ run (get_or l (i + 1) 0) ++ decode (part l (i + 1 + 1) to)
      to-come =
          ap decode (first ∙ ap (λ (r : List ℕ). get_or l i 0 ∷ r) second ∙ ap (λ (x : ℕ). x ∷ get_or l (i + 1) 0 ∷ part l (i + 1 + 1) to) e')
          ∙ decode-escape (get_or l (i + 1) 0) (part l (i + 1 + 1) to)

      same_count : get_or b (i + 1) 0 % 128 ≡ get_or l (i + 1) 0 % 128
      same_count = ap (λ (c : ℕ). c % 128) next-now

      some-count : get_or b (i + 1) 0 < 256 → get_or l (i + 1) 0 % 128 ≢ 0
      some-count k z = omega (arith, next-now, shown.some, shown.other)

      module _ {x : ℕ} (p : x ≡ run_byte (get_or b (i + 1) 0)) where
        same_byte : x ≡ run_byte (get_or l (i + 1) 0)
        same_byte = p ∙ ap run_byte next-now

        module _ (q : x ≡ y) where
          longer : encode_from y n (decode (part l i to)) ≡ encode_from y (n + get_or b (i + 1) 0 % 128) (decode (part l (i + 1 + 1) to))
          longer =
              ap (encode_from y n) to-come ∙ run-same y n (get_or l (i + 1) 0) (decode (part l (i + 1 + 1) to)) (sym same_byte ∙ q)
              ∙ ap (λ (m : ℕ). encode_from y (n + m) (decode (part l (i + 1 + 1) to))) (sym same_count)

          pub same_turn : n + get_or b (i + 1) 0 % 128 ≤ 127 → Recoding l from to at b (i + 1 + 1) o y (n + get_or b (i + 1) 0 % 128)
          same_turn k = record {
            grown = grown-as s.grown longer;
            valid = shown.left;
            behind = omega (arith, s.behind, length-run-bytes y n, length-run-bytes y (n + get_or b (i + 1) 0 % 128));
            few = k;
            not-past = omega (arith, two_in);
            inside = s.inside;
          }

          pub full-room : 127 < n + get_or b (i + 1) 0 % 128 → o + 2 ≤ length b
          full-room k = omega (arith, flush-fits, length-run-bytes y n)

          pub full-turn : 127 < n + get_or b (i + 1) 0 % 128 → {m : ℕ} {b' : List ℕ} → m ≡ mark y → b' ≡ pasted b o (255 ∷ (m + 127) ∷ [])
              → Recoding l from to at b' (i + 1 + 1) (o + 2) y (n + get_or b (i + 1) 0 % 128 - 127)
          full-turn k f u =
              let j : ℕ = n + get_or b (i + 1) 0 % 128 - 127 in
              let t : n + get_or b (i + 1) 0 % 128 ≡ 127 + j = omega arith in
              record {
                grown =
                    grown-piece s.grown (255 ∷ (mark y + 127) ∷ []) (encode_from y j (decode (part l (i + 1 + 1) to)))
                    (longer ∙ ap (λ (m : ℕ). encode_from y m (decode (part l (i + 1 + 1) to))) t ∙ encode-full y j (decode (part l (i + 1 + 1) to)))
                    (omega (arith, full-room k, recoding-same)) refl (u ∙ ap (λ (m : ℕ). pasted b o (255 ∷ (m + 127) ∷ [])) f);
                valid = shown.left;
                behind = omega (arith, s.behind, s.few, length-run-bytes y n, length-run-bytes y j);
                few = omega (arith, s.few);
                not-past = omega (arith, two_in);
                inside = s.inside;
              }

        pub other-turn : get_or b (i + 1) 0 < 256 → x ≢ y → {o' : ℕ} {b' : List ℕ} → o' ≡ o + length (run_bytes y n) → b' ≡ pasted b o (run_bytes y n)
            → Recoding l from to at b' (i + 1 + 1) o' x (get_or b (i + 1) 0 % 128)
        other-turn byte q f u =
            let k : get_or b (i + 1) 0 % 128 ≡ get_or l (i + 1) 0 % 128 = same_count in
            record {
              grown =
                  grown-piece s.grown (run_bytes y n) (encode_from x (get_or b (i + 1) 0 % 128) (decode (part l (i + 1 + 1) to)))
                  (ap (encode_from y n) to-come
                  ∙ run-other y n (get_or l (i + 1) 0) (decode (part l (i + 1 + 1) to)) (λ z. q (same_byte ∙ z)) (some-count byte)
                  ∙ ap (λ (m : ℕ). run_bytes y n ++ encode_from (run_byte (get_or l (i + 1) 0)) m (decode (part l (i + 1 + 1) to))) (sym k)
                  ∙ ap (λ (z : ℕ). run_bytes y n ++ encode_from z (get_or b (i + 1) 0 % 128) (decode (part l (i + 1 + 1) to))) (sym same_byte))
                  (omega (arith, flush-fits, recoding-same)) f u;
              valid = shown.left;
              behind = omega (arith, s.behind, length-run-bytes x (get_or b (i + 1) 0 % 128));
              few = omega arith;
              not-past = omega (arith, two_in);
              inside = s.inside;
            }

    -- a piece of k bytes without 0x00 and 0xFF
    module _ (e : get_or b i 0 ≢ 255) {k : ℕ} (q : k ≡ until_either 0 255 (take (to - i) (drop i b))) where
      plain-shown : PlainSpelled (get_or l i 0) (part l (i + 1) to)
      plain-shown = plain-spelled (get_or l i 0) (part l (i + 1) to) (λ z. e (here-now ∙ z)) (ap spelled (sym first) ∙ s.valid)

      not-escaped : escaped (get_or l i 0) ≡ false
      not-escaped = cc (ne_eqb (get_or l i 0) 0 plain-shown.some, ne_eqb (get_or l i 0) 255 (λ z. e (here-now ∙ z)))

      same-part : take (to - i) (drop i b) ≡ part l i to
      unfolding part
      same-part = ap (take (to - i)) still-there

      count : k ≡ until_either 0 255 (part l i to)
      count = omega (arith, ap (until_either 0 255) same-part)

      pub some_bytes : 0 < k
      some_bytes = omega (arith, count, ap (until_either 0 255) first ∙ until-next 0 255 (get_or l i 0) (part l (i + 1) to) not-escaped)

      pub piece-in : i + k ≤ to
      unfolding part
      piece-in = omega (arith, count, until-short 0 255 (part l i to), length-take (to - i) (drop i l))

      cut : part l i to ≡ take k (drop i l) ++ part l (i + k) to
      cut = part_cut l i k to piece-in

      same_bytes_lem : take k (part l i to) ≡ take k (drop i l)
      unfolding part
      same_bytes_lem = take-take k (to - i) (drop i l) (omega (arith, piece-in))

      plain-bytes : Every (λ x. escaped x ≡ false) (take k (drop i l))
      plain-bytes = rw (← same_bytes_lem, count) (until-before 0 255 (part l i to))

      long : length (take k (drop i l)) ≡ k
      long = length-take-le k (drop i l) (omega (arith, piece-in, s.inside, length-drop i l))

      module _ {o' : ℕ} {b' : List ℕ} (f : o' ≡ o + length (run_bytes y n)) (u : b' ≡ pasted b o (run_bytes y n)) where
        flushed : Grown (recoded l from to) l at o' (take k (drop i l) ++ encode_from 0 0 (decode (part l (i + k) to))) b'
        flushed =
            grown-piece s.grown (run_bytes y n) (take k (drop i l) ++ encode_from 0 0 (decode (part l (i + k) to)))
            (ap (λ (r : List ℕ). encode_from y n (decode r)) cut
            ∙ ap (encode_from y n) (decode-piece 0 (take k (drop i l)) (part l (i + k) to) plain-bytes)
            ∙ encode-after y n (take k (drop i l)) (decode (part l (i + k) to)) plain-bytes (omega (arith, long, some_bytes)))
            (omega (arith, flush-fits, recoding-same)) f u

        pub move-fits : (o' ≤ i) × (i + k ≤ length b')
        move-fits = (omega (arith, s.behind), omega (arith, grown-same flushed, piece-in, s.inside))

        pub piece-turn : {b'' : List ℕ} → b'' ≡ pasted b' o' (take k (drop i b')) → Recoding l from to at b'' (i + k) (o' + k) 0 0
        piece-turn v = record {
          grown =
              grown-piece flushed (take k (drop i l)) (encode_from 0 0 (decode (part l (i + k) to))) refl
              (omega (arith, long, piece-in, s.inside, s.behind)) (omega (arith, long))
              (v ∙ ap (λ (r : List ℕ). pasted b' o' (take k r)) (grown-drop flushed i (omega (arith, s.behind))));
          valid = sym (spelled-piece (take k (drop i l)) (part l (i + k) to) plain-bytes) ∙ ap spelled (sym cut) ∙ s.valid;
          behind = omega (arith, s.behind, length-run-bytes 0 0);
          few = omega arith;
          not-past = piece-in;
          inside = s.inside;
        }

  module _ (h : to ≤ i) {o' : ℕ} {b' : List ℕ} (f : o' ≡ o + length (run_bytes y n)) (u : b' ≡ pasted b o (run_bytes y n)) where
    ended : Grown (recoded l from to) l at o' [] b'
    ended =
        grown-piece s.grown (run_bytes y n) []
        (ap (λ (r : List ℕ). encode_from y n (decode r)) (part_none l i to h) ∙ ap (encode_from y n) decode-none ∙ encode-none y n
        ∙ sym (append-nil (run_bytes y n)))
        (omega (arith, flush-fits, recoding-same)) f u

    pub recoding-place : o' ≡ at + length (recoded l from to)
    recoding-place = grown-end ended refl

    pub recoding-all : b' ≡ pasted l at (recoded l from to)
    recoding-all = grown-all ended refl
