-- What `validity_of` answers, by the tests that the code makes.
use Prim.Native.Nat.{ℕ, ◌-◌, ◌*◌, ◌≤◌, ◌<◌}
use mathlib.Core.Path.{◌≡◌, subst, refl, sym, ◌∙◌}
use mathlib.Core.Bool.{Bool, true, false, not, cond}
use mathlib.Core.Logic.{◌≢◌}
use mathlib.Core.List.{List}
use native.Mathlib.Omega.{arith}
use native.Mathlib.Decide.{ℕ_discrete}
use lib.ListN.{length as len}
use lib.Dec.{ltb, eqb}
use borrow.Author.Tests.{eq-eqb, ne_eqb, lt-ltb, le-ltb, eqb-false, ltb-false}
use Rattle.lists.specs.Bytes.{AllBytes}
use Rattle.lists.proofs.Tests.{clash}
use Rattle.header.specs.declared.Blocks.{Blocks}
use Rattle.header.specs.declared.Bytes.{Bytes}
use Rattle.header.specs.declared.Header.{Header}
use Rattle.std.specs.Prelude.{Ok, Err}
use Rattle.errors.specs.declared.Error.{Error}
use Rattle.errors.specs.declared.HeaderFault.{HeaderFault}
use Rattle.errors.specs.declared.HeaderFault.TheVariants.{ZeroLength, PastEnd, Checksum}
use Rattle.errors.specs.declared.Error.TheVariants.{BadHeader}
use Rattle.header.specs.Checksum.{sumcheck}
use Rattle.header.specs.Header.{bytes_of, header_at, covered_bytes, first_broken, Validity, validity_of, validity_at}
use Rattle.header.proofs.ChecksumLaws.{header-nonzero}

module _ (blocks : Blocks) (stored computed at room : ℕ) where
  pub zero-length : blocks.0 ≡ 0 → Err (BadHeader ZeroLength at) ≡ first_broken blocks stored computed at room
  zero-length z = rw (eq-eqb _ _ z)

  module _ (z : blocks.0 ≡ 0 → ⊥) (b : Bytes) (eb : b ≡ bytes_of blocks) where
    pub past_end : room < b.0 → Err (BadHeader PastEnd at) ≡ first_broken blocks stored computed at room
    past_end p =
        let q : room < (bytes_of blocks).0 = subst (λ (x : Bytes). room < x.0) eb p in
        rw (ne_eqb _ _ z, lt-ltb _ _ q)

    module _ (p : b.0 ≤ room) where
      fits : (bytes_of blocks).0 ≤ room
      fits = subst (λ (x : Bytes). x.0 ≤ room) eb p

      pub checksum-differs : (stored ≡ computed → ⊥) → Err (BadHeader Checksum at) ≡ first_broken blocks stored computed at room
      checksum-differs d = rw (ne_eqb _ _ z, le-ltb _ _ fits, ne_eqb _ _ d)

      pub no-rule-broken : stored ≡ computed → Ok tt ≡ first_broken blocks stored computed at room
      no-rule-broken a = rw (ne_eqb _ _ z, le-ltb _ _ fits, eq-eqb _ _ a)

-- the rules of a header, by its checksum that was computed
pub check-read : (h : Header) (at room s : ℕ) (r : Validity) → s ≡ sumcheck (covered_bytes h) → r ≡ first_broken h.length h.checksum s at room
    → r ≡ validity_of h at room
unfolding validity_of
check-read h at room s r es e = e ∙ (λ i. first_broken h.length h.checksum (es i) at room)

-- a header that is cut off breaks 2 or 3, whatever its checksum
pub cut_off : (blocks : Blocks) (s c t d at room : ℕ) → room < 16 → first_broken blocks s c at room ≡ first_broken blocks t d at room
cut_off blocks s c t d at room h = go (ℕ_discrete blocks.0 0)
  where
    go : Dec (blocks.0 ≡ 0) → first_broken blocks s c at room ≡ first_broken blocks t d at room
    go (yes z) = sym (zero-length blocks s c at room z) ∙ zero-length blocks t d at room z
    go (no z) =
        let q : room < blocks.0 * 16 = omega arith in
        sym (past_end blocks s c at room z (bytes_of blocks) refl q) ∙ past_end blocks t d at room z (bytes_of blocks) refl q

-- an invalid header is refused for a fault of its own, at its own offset
fault-by : (a b c : Bool) (at : ℕ) (e : Error)
    → ◌≡◌ {A = Validity} (cond a (Err (BadHeader ZeroLength at)) (cond b (Err (BadHeader PastEnd at)) (cond c (Err (BadHeader Checksum at)) (Ok tt)))) (Err e)
    → (f : HeaderFault) × (e ≡ BadHeader f at)
fault-by true b c at e q = (ZeroLength, cc)
fault-by false true c at e q = (PastEnd, cc)
fault-by false false true at e q = (Checksum, cc)
fault-by false false false at e q = clash (cc)

pub invalid-here : (image : List ℕ) (at : ℕ) (e : Error) → validity_at image at ≡ Err e → (f : HeaderFault) × (e ≡ BadHeader f at)
unfolding validity_at validity_of
invalid-here image at e q =
    let h : Header = header_at image at in
    fault-by (eqb h.length.0 0) (ltb (len image - at) (bytes_of h.length).0) (not (eqb h.checksum (sumcheck (covered_bytes h))))
    at e q

-- the first two tests of a header that breaks no rule
valid-tests : (a b : Bool) (w x : Error) (v : Validity) → cond a (Err w) (cond b (Err x) v) ≡ Ok tt
    → (a ≡ false) × (b ≡ false)
valid-tests true b w x v e = clash (cc)
valid-tests false true w x v e = clash (cc)
valid-tests false false w x v e = (refl, refl)

module _ (h : Header) (at room : ℕ) (e : validity_of h at room ≡ Ok tt) where
  tests : (eqb h.length.0 0 ≡ false) × (ltb room (bytes_of h.length).0 ≡ false)
  unfolding validity_of
  tests = valid-tests _ _ (BadHeader ZeroLength at) (BadHeader PastEnd at) _ e

  nonzero : h.length.0 ≢ 0
  nonzero = eqb-false _ _ tests.0

  fitting : (bytes_of h.length).0 ≤ room
  fitting = ltb-false _ _ tests.1

-- the same of the header at an offset of an image
module _ (image : List ℕ) (at : ℕ) (e : validity_at image at ≡ Ok tt) where
  pub valid-nonzero : (header_at image at).length.0 ≢ 0
  unfolding validity_at
  valid-nonzero = nonzero (header_at image at) at (len image - at) e

  pub valid-fits : (bytes_of (header_at image at).length).0 ≤ len image - at
  unfolding validity_at
  valid-fits = fitting (header_at image at) at (len image - at) e

-- an answer after a test more behind the others, which would answer v where the computed checksum is zero
abbrev pub zero_test : Validity → ℕ → Validity → Validity
zero_test (Ok _) computed v = cond (eqb computed 0) v (Ok tt)
zero_test (Err e) computed v = Err e

-- THAT TEST CHANGES NOTHING for a header of at most 65,535 blocks, whatever it would answer
pub zero-test-idle : (h : Header) → h.signature < 256 → AllBytes h.name → h.length.0 ≤ 65535 → (at room : ℕ) (v : Validity)
    → zero_test (validity_of h at room) (sumcheck (covered_bytes h)) v ≡ validity_of h at room
zero-test-idle h l a m at room v = go (validity_of h at room) refl
  where
    go : (w : Validity) → validity_of h at room ≡ w → zero_test w (sumcheck (covered_bytes h)) v ≡ w
    go (Ok _) e = rw (ne_eqb _ _ (header-nonzero h l a (nonzero h at room e) m))
    go (Err x) e = refl
