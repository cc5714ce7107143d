-- The laws of `decode` and `spelled`.
use Prim.Native.Nat.{ℕ, ◌+◌, ◌-◌, ◌%◌, ◌≤◌, ◌<◌}
use mathlib.Core.Path.{◌≡◌, refl, ap, ◌∙◌}
use mathlib.Core.Bool.{Bool, true, false, ◌&&◌, not}
use mathlib.Core.List.{List, [], ◌∷◌, ◌++◌}
use mathlib.Core.Logic.{◌≢◌, ◌↔◌}
use native.Mathlib.Omega.{arith}
use lib.ListN.{length, replicate, length-replicate}
use lib.Dec.{ltb, eqb}
use borrow.Author.Tests.{eqb-true, eqb-false, eq-eqb, ne_eqb, ltb-true, ltb-false, lt-ltb, le-ltb}
use Rattle.lists.specs.Bytes.{Every, AllBytes}
use Rattle.lists.specs.Helpers.{either}
use Rattle.lists.proofs.Tests.{split, clash, and-true}
use Rattle.lists.proofs.FindLaws.{either-not}
use Rattle.values.specs.Value.{run_byte, run, decode_from, decode, spelled_from, spelled}
use Rattle.values.specs.Rules.{Spells, nothing, itself, zeros, ones}
use Rattle.lists.proofs.ListLaws.{every_append, every-replicate}

-- ---- one step

pub run-low : (c : ℕ) → c < 128 → 0 ≡ run_byte c
unfolding run_byte
run-low c h = rw (lt-ltb c 128 h)

pub run-high : (c : ℕ) → 128 ≤ c → 255 ≡ run_byte c
unfolding run_byte
run-high c h = rw (le-ltb c 128 h)

pub length_run : (c : ℕ) → length (run c) ≡ c % 128
unfolding run
length_run c = length-replicate (c % 128) (run_byte c)

pub decode-none : decode [] ≡ []
unfolding decode decode_from
decode-none = refl

pub decode-plain : (b : ℕ) (s : List ℕ) → b ≢ 255 → decode (b ∷ s) ≡ b ∷ decode s
unfolding decode decode_from
decode-plain b s h = rw (ne_eqb b 255 h, decode_from)

pub decode-escape : (c : ℕ) (s : List ℕ) → decode (255 ∷ c ∷ s) ≡ run c ++ decode s
unfolding decode decode_from
decode-escape c s = refl

pub spelled-plain : (b : ℕ) (s : List ℕ) → b ≢ 0 → b ≢ 255 → spelled (b ∷ s) ≡ spelled s
unfolding spelled spelled_from
spelled-plain b s h₀ h₁ = rw (ne_eqb b 255 h₁, ne_eqb b 0 h₀, spelled_from)

pub spelled-escape : (c : ℕ) (s : List ℕ) → c ≢ 0 → c ≢ 128 → spelled (255 ∷ c ∷ s) ≡ spelled s
unfolding spelled spelled_from
spelled-escape c s h₀ h₁ = rw (ne_eqb c 0 h₀, ne_eqb c 128 h₁)

-- what a good spelling shows of its first bytes
pub record PlainSpelled (b : ℕ) (s : List ℕ) : Type 0 where
  pub some : b ≢ 0
  pub left : spelled s ≡ true

pub record EscapeSpelled (c : ℕ) (s : List ℕ) : Type 0 where
  pub some : c ≢ 0
  pub other : c ≢ 128
  pub left : spelled s ≡ true

not_eqb : (b n : ℕ) → not (eqb b n) ≡ true → b ≢ n
not_eqb b n e q = clash (cc (eq-eqb b n q))

pub plain-spelled : (b : ℕ) (s : List ℕ) → b ≢ 255 → spelled (b ∷ s) ≡ true → PlainSpelled b s
unfolding spelled spelled_from
plain-spelled b s h e =
    let f : not (eqb b 0) && spelled_from false s ≡ true = rw (ne_eqb b 255 h, spelled_from) at e in
    let g = and-true (not (eqb b 0)) (spelled_from false s) f in
    record { some = not_eqb b 0 g.0; left = g.1 }

pub escape-spelled : (c : ℕ) (s : List ℕ) → spelled (255 ∷ c ∷ s) ≡ true → EscapeSpelled c s
unfolding spelled spelled_from
escape-spelled c s e =
    let g = and-true (not (eqb c 0) && not (eqb c 128)) (spelled_from false s) e in
    let k = and-true (not (eqb c 0)) (not (eqb c 128)) g.0 in
    record { some = not_eqb c 0 k.0; other = not_eqb c 128 k.1; left = g.1 }

pub cut-spelled : spelled (255 ∷ []) ≡ true → ⊥
unfolding spelled spelled_from
cut-spelled e = clash (cc)

pub empty-spelled : spelled [] ≡ true
unfolding spelled spelled_from
empty-spelled = refl

-- ---- against the rule

pub run-zeros : (n : ℕ) → n ≤ 127 → run n ≡ replicate n 0
unfolding run run_byte
run-zeros n h = let q : n % 128 ≡ n = omega arith in rw (q, lt-ltb n 128 (omega arith))

pub run-ones : (n : ℕ) → n ≤ 127 → run (128 + n) ≡ replicate n 255
unfolding run run_byte
run-ones n h = let q : (128 + n) % 128 ≡ n = omega arith in rw (q, le-ltb (128 + n) 128 (omega arith))

pub spells-spelled : {s v : List ℕ} → Spells s v → spelled s ≡ true
spells-spelled nothing = empty-spelled
spells-spelled (itself {b = b} {s = s} lo hi r) = spelled-plain b s (omega arith) (omega arith) ∙ spells-spelled r
spells-spelled (zeros {n = n} {s = s} lo hi r) = spelled-escape n s (omega arith) (omega arith) ∙ spells-spelled r
spells-spelled (ones {n = n} {s = s} lo hi r) = spelled-escape (128 + n) s (omega arith) (omega arith) ∙ spells-spelled r

pub spells-decode : {s v : List ℕ} → Spells s v → decode s ≡ v
spells-decode nothing = decode-none
spells-decode (itself {b = b} {s = s} lo hi r) = cc (decode-plain b s (omega arith), spells-decode r)
spells-decode (zeros {n = n} {s = s} lo hi r) = cc (decode-escape n s, run-zeros n hi, spells-decode r)
spells-decode (ones {n = n} {s = s} lo hi r) = cc (decode-escape (128 + n) s, run-ones n hi, spells-decode r)

spell-run : (c : ℕ) (s v : List ℕ) → c ≢ 0 → c ≢ 128 → c < 256 → Spells s v → Spells (255 ∷ c ∷ s) (run c ++ v)
spell-run c s v h₀ h₁ h r =
    split (ltb c 128)
    (λ t. let l = ltb-true c 128 t in rw (run-zeros c (omega arith)) (zeros {n = c} (omega arith) (omega arith) r))
    (λ t. let l = ltb-false c 128 t in
    let q : c ≡ 128 + (c - 128) = omega arith in
    rw q (rw (run-ones (c - 128) (omega arith)) (ones {n = c - 128} (omega arith) (omega arith) r)))

spelled-spells : (s : List ℕ) → AllBytes s → spelled s ≡ true → Spells s (decode s)
spelled-spells [] h e = rw decode-none nothing
spelled-spells (b ∷ []) h e =
    split (eqb b 255)
    (λ t. absurd (cut-spelled (rw (eqb-true b 255 t) at e)))
    (λ t. let p = plain-spelled b [] (eqb-false b 255 t) e in
    let q = eqb-false b 255 t in
    rw (decode-plain b [] q, decode-none) (itself {b = b} (omega (arith, p.some)) (omega (arith, h.0)) nothing))
spelled-spells (b ∷ c ∷ s) h e =
    split (eqb b 255)
    (λ t. let q = eqb-true b 255 t in
    let p = escape-spelled c s (rw q at e) in
    rw (q, decode-escape c s) (spell-run c s (decode s) p.some p.other h.1.0 (spelled-spells s h.1.1 p.left)))
    (λ t. let q = eqb-false b 255 t in
    let p = plain-spelled b (c ∷ s) q e in
    rw (decode-plain b (c ∷ s) q) (itself {b = b} (omega (arith, p.some)) (omega (arith, h.0)) (spelled-spells (c ∷ s) h.1 p.left)))

-- STORED BYTES STAND FOR A VALUE by the rule exactly when they are spelled and decode to it
pub spells-exactly : (s v : List ℕ) → AllBytes s → Spells s v ↔ ((spelled s ≡ true) × (decode s ≡ v))
spells-exactly s v h = (λ r. (spells-spelled r, spells-decode r), λ e. rw e.1 at (spelled-spells s h e.0))

run-below : (c : ℕ) → run_byte c < 256
unfolding run_byte
run-below c = split (ltb c 128) (λ t. rw t (omega arith)) (λ t. rw t (omega arith))

bytes-from : (after : Bool) (s : List ℕ) → AllBytes s → AllBytes (decode_from after s)
unfolding decode_from run
bytes-from true [] h = tt
bytes-from false [] h = tt
bytes-from true (c ∷ s) h =
    every_append (λ b. b < 256) (run c) (decode_from false s) (every-replicate (λ b. b < 256) (c % 128) (run_byte c) (run-below c)) (bytes-from false s h.1)
bytes-from false (b ∷ s) h =
    split (eqb b 255) (λ t. rw (t, decode_from) (bytes-from true s h.1)) (λ t. rw (t, decode_from) (h.0, bytes-from false s h.1))

-- A VALUE IS BYTES
pub bytes-decode : (s : List ℕ) → AllBytes s → AllBytes (decode s)
unfolding decode
bytes-decode s h = bytes-from false s h

-- a piece without 0xFF stands for itself
pub decode-piece : (b : ℕ) (p s : List ℕ) → Every (λ x. either b 255 x ≡ false) p → decode (p ++ s) ≡ p ++ decode s
decode-piece b [] s h = refl
decode-piece b (x ∷ p) s h = decode-plain x (p ++ s) (either-not b 255 x h.0).1 ∙ ap (λ (r : List ℕ). x ∷ r) (decode-piece b p s h.1)

-- a piece without 0x00 and 0xFF is spelled
pub spelled-piece : (p s : List ℕ) → Every (λ x. either 0 255 x ≡ false) p → spelled (p ++ s) ≡ spelled s
spelled-piece [] s h = refl
spelled-piece (x ∷ p) s h = let n = either-not 0 255 x h.0 in spelled-plain x (p ++ s) n.0 n.1 ∙ spelled-piece p s h.1
