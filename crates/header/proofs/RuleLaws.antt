-- The first broken rule that is computed, and the rules by the bytes of the image: each exactly when the other.
use Prim.Native.Nat.{ℕ, ◌+◌, ◌-◌, ◌*◌, ◌/◌, ◌%◌, ◌≤◌, ◌<◌}
use mathlib.Core.Path.{◌≡◌, ap, refl, sym, subst, ◌∙◌}
use mathlib.Core.Logic.{◌≢◌, ◌↔◌}
use mathlib.Core.List.{List, ◌∷◌}
use native.Mathlib.Omega.{arith}
use lib.ListN.{length, length as len, take, drop}
use native.Mathlib.Decide.{dec_le, ℕ_discrete}
use Rattle.lists.specs.Bytes.{AllBytes}
use Rattle.lists.proofs.Tests.{clash}
use Rattle.lists.proofs.ByteLaws.{every_get}
use Rattle.header.specs.declared.Blocks.{Blocks}
use Rattle.errors.specs.declared.HeaderFault.{HeaderFault}
use Rattle.errors.specs.declared.HeaderFault.TheVariants.{ZeroLength, PastEnd, Checksum}
use Rattle.errors.specs.declared.Error.TheVariants.{BadHeader}
use Rattle.errors.specs.Errors.{header_code}
use Rattle.errors.specs.declared.Answer.{Answer}
use Rattle.std.specs.Prelude.{⊤, Ok, Err}
use Rattle.header.specs.Checksum.{sum, sumcheck, fold}
use Rattle.header.specs.Header.{byte_at, name_at, header_at, bytes_of, covered_bytes, first_broken, validity_of, validity_at, Validity, validity_answer}
use Rattle.header.specs.Rules.{blocks_at, checksum_at, Sound, Breaks, two, three, four, HeaderRow, is-sound, is-two, is-three, is-four}
use Rattle.header.proofs.SumLaws.{name-part}
use Rattle.header.proofs.ChecksumLaws.{closed-form, closed-zeros, sum-covered}
use Rattle.header.proofs.ValidityLaws.{zero-length, past_end, checksum-differs, no-rule-broken, cut_off, zero_test, zero-test-idle}

module _ (image : List ℕ) (at : ℕ) where
  pub blocks-read : (header_at image at).length.0 ≡ blocks_at image at
  unfolding header_at blocks_at
  blocks-read = refl

  pub length-read : ◌≡◌ {A = Blocks} (record { 0 = byte_at image at 2 * 256 + byte_at image at 3 }) (header_at image at).length
  unfolding header_at
  length-read = refl

  pub checksum-read : (header_at image at).checksum ≡ byte_at image at 1
  unfolding header_at
  checksum-read = refl

  pub signature-read : (header_at image at).signature ≡ byte_at image at 0
  unfolding header_at
  signature-read = refl

  pub name-read : (header_at image at).name ≡ name_at image at
  unfolding header_at
  name-read = refl

  pub name-length : len (name_at image at) ≡ 12
  unfolding name_at
  name-length = refl

  -- A CHECKSUM THAT AGREES IS NOT ZERO where the length is not zero, since a byte of the length is covered and is not zero
  pub agreeing-nonzero : blocks_at image at ≢ 0 → byte_at image at 1 ≡ checksum_at image at → byte_at image at 1 ≢ 0
  unfolding blocks_at checksum_at
  agreeing-nonzero n a z = let e = closed-zeros _ (sym a ∙ z) in n (omega (arith, e.1.0, e.1.1.0))

  -- so the checksum of a sound header is not zero
  pub sound-checksum : Sound image at → byte_at image at 1 ≢ 0
  sound-checksum s = agreeing-nonzero s.nonzero s.agrees

  -- A HEADER IS SOUND exactly when its length is not zero, its partition ends inside the image, and its checksum agrees and is not zero
  pub sound-exactly : Sound image at
      ↔ ((blocks_at image at ≢ 0) × (at + blocks_at image at * 16 ≤ length image) × (byte_at image at 1 ≡ checksum_at image at) × (byte_at image at 1 ≢ 0))
  sound-exactly = (
    λ s. (s.nonzero, s.inside, s.agrees, sound-checksum s),
    λ h. record { nonzero = h.0; inside = h.1; agrees = h.2 },
  )

  -- the first broken rule, by what the code has read
  module _ (b : Blocks) (eb : b ≡ (header_at image at).length) (room : ℕ) (er : room ≡ length image - at) (r : Validity) where
    pub cut-read : room < 16 → r ≡ first_broken b 0 0 at room → r ≡ validity_at image at
    unfolding validity_at validity_of
    cut-read l e =
        let h = header_at image at in
        e ∙ cut_off b 0 0 h.checksum (sumcheck (covered_bytes h)) at room l
        ∙ (λ i. first_broken (eb i) h.checksum (sumcheck (covered_bytes h)) at (er i))

    pub whole-read : (s : ℕ) → s ≡ sumcheck (covered_bytes (header_at image at)) → r ≡ first_broken b (byte_at image at 1) s at room
        → r ≡ validity_at image at
    unfolding validity_at validity_of
    whole-read s es e = e ∙ (λ i. first_broken (eb i) (sym checksum-read i) (es i) at (er i))

  module _ (bytes : AllBytes image) where
    byte : (k : ℕ) → byte_at image at k < 256
    byte k = every_get (λ b. b < 256) (omega arith) image (at + k) bytes

    covered-read : covered_bytes (header_at image at) ≡ byte_at image at 0 ∷ byte_at image at 2 ∷ byte_at image at 3 ∷ name_at image at
    unfolding header_at
    covered-read =
        let b2 = byte 2 in
        let b3 = byte 3 in
        let high : (byte_at image at 2 * 256 + byte_at image at 3) / 256 % 256 ≡ byte_at image at 2 = omega arith in
        let low : (byte_at image at 2 * 256 + byte_at image at 3) % 256 ≡ byte_at image at 3 = omega arith in
        λ i. byte_at image at 0 ∷ high i ∷ low i ∷ name_at image at

    name-bytes : AllBytes (name_at image at)
    unfolding name_at
    name-bytes =
        (byte 4, (byte 5, (byte 6, (byte 7, (byte 8, (byte 9, (byte 10, (byte 11, (byte 12, (byte 13, (byte 14, (byte 15, tt))))))))))))

    pub sum-read : sumcheck (covered_bytes (header_at image at)) ≡ checksum_at image at
    unfolding checksum_at
    sum-read = ap sumcheck covered-read ∙ closed-form _ (byte 0, (byte 2, (byte 3, name-bytes)))

    -- the same of what is read of a whole header
    pub checksum-whole : at + 16 ≤ length image → (n s r : ℕ) (l : Blocks) → n ≡ sum (take (at + 16 - (at + 4)) (drop (at + 4) image))
        → s ≡ (header_at image at).signature → l ≡ (header_at image at).length
        → r ≡ fold (fold (n + s + l.0 / 256 % 256 + l.0 % 256)) → r ≡ sumcheck (covered_bytes (header_at image at))
    unfolding header_at
    checksum-whole h n s r l en es el er =
        sum-covered (header_at image at) (byte 0) name-bytes name-length n s r (en ∙ ap sum (name-part image at h)) es
        (er ∙ (λ i. fold (fold (n + s + (el i).0 / 256 % 256 + (el i).0 % 256))))

    -- the same of the sum of all its bytes, less the stored checksum
    pub checksum-less : (n r : ℕ)
        → n + byte_at image at 1 ≡ byte_at image at 0 + (byte_at image at 1 + (byte_at image at 2 + (byte_at image at 3 + sum (name_at image at))))
        → r ≡ fold (fold n) → r ≡ sumcheck (covered_bytes (header_at image at))
    unfolding header_at
    checksum-less n r en er =
        let b2 = byte 2 in
        let b3 = byte 3 in
        let e : n ≡ sum (name_at image at) + byte_at image at 0 + (byte_at image at 2 * 256 + byte_at image at 3) / 256 % 256
        + (byte_at image at 2 * 256 + byte_at image at 3) % 256 = omega arith in
        sum-covered (header_at image at) (byte 0) name-bytes name-length (sum (name_at image at)) (byte_at image at 0) r refl refl
        (er ∙ ap (λ (m : ℕ). fold (fold m)) e)

    -- A TEST MORE, for a checksum of zero, changes nothing at any offset of any image, whatever it would answer
    pub zero-test-idle-at : (v : Validity) → zero_test (validity_at image at) (checksum_at image at) v ≡ validity_at image at
    unfolding header_at validity_at
    zero-test-idle-at v =
        let b2 = byte 2 in
        let b3 = byte 3 in
        rw (← sum-read) (zero-test-idle (header_at image at) (byte 0) name-bytes (omega arith) at (length image - at) v)

    module _ (z : blocks_at image at ≢ 0) where
      nonzero : (header_at image at).length.0 ≢ 0
      nonzero e = z (sym blocks-read ∙ e)

      module _ (f : at + blocks_at image at * 16 ≤ length image) where
        fits : (bytes_of (header_at image at).length).0 ≤ length image - at
        fits = let p : (header_at image at).length.0 * 16 ≤ length image - at = omega (arith, blocks-read) in p

    pub breaks-invalid : {f : HeaderFault} → Breaks image at f → validity_at image at ≡ Err (BadHeader f at)
    unfolding validity_at validity_of
    breaks-invalid (two z) =
        let h = header_at image at in
        sym (zero-length h.length h.checksum (sumcheck (covered_bytes h)) at (length image - at) (blocks-read ∙ z))
    breaks-invalid (three z p) =
        let h = header_at image at in
        let q : length image - at < (header_at image at).length.0 * 16 = omega (arith, blocks-read) in
        sym (past_end h.length h.checksum (sumcheck (covered_bytes h)) at (length image - at) (nonzero z) (bytes_of h.length) refl q)
    breaks-invalid (four z f a) =
        let h = header_at image at in
        sym (checksum-differs h.length h.checksum (sumcheck (covered_bytes h)) at (length image - at) (nonzero z) (bytes_of h.length) refl (fits z f)
        (λ e. a (sym checksum-read ∙ e ∙ sum-read)))

    pub sound-valid : Sound image at → validity_at image at ≡ Ok tt
    unfolding validity_at validity_of
    sound-valid s =
        let h = header_at image at in
        sym (no-rule-broken h.length h.checksum (sumcheck (covered_bytes h)) at (length image - at) (nonzero s.nonzero) (bytes_of h.length) refl
        (fits s.nonzero s.inside) (checksum-read ∙ s.agrees ∙ sym sum-read))

    -- what the rules say of the header at an offset
    data Judged : Validity → Type 0 where
      sound : Sound image at → Judged (Ok tt)
      faulty : {f : HeaderFault} → Breaks image at f → Judged (Err (BadHeader f at))

    judged : Judged (validity_at image at)
    judged =
        go (ℕ_discrete (blocks_at image at) 0) (dec_le (at + blocks_at image at * 16) (length image))
        (ℕ_discrete (byte_at image at 1) (checksum_at image at))
      where
        broken : {f : HeaderFault} → Breaks image at f → Judged (validity_at image at)
        broken b = rw (breaks-invalid b) (faulty b)

        go : Dec (blocks_at image at ≡ 0) → Dec (at + blocks_at image at * 16 ≤ length image) → Dec (byte_at image at 1 ≡ checksum_at image at)
            → Judged (validity_at image at)
        go (yes z) f a = broken (two z)
        go (no z) (no f) a = broken (three z (omega arith))
        go (no z) (yes f) (no a) = broken (four z f a)
        go (no z) (yes f) (yes a) =
            let s : Sound image at = record { nonzero = z; inside = f; agrees = a } in
            rw (sound-valid s) (sound s)

    -- no rule is broken exactly when the header is sound
    pub valid-exactly : (validity_at image at ≡ Ok tt) ↔ Sound image at
    valid-exactly = (go (validity_at image at) judged, sound-valid)
      where
        go : (v : Validity) → Judged v → v ≡ Ok tt → Sound image at
        go (Ok _) (sound s) e = s
        go (Err x) (faulty b) e = clash (cc)

    -- and a rule is the first one broken exactly when it is, and the earlier ones hold
    pub invalid-exactly : (f : HeaderFault) → (validity_at image at ≡ Err (BadHeader f at)) ↔ Breaks image at f
    invalid-exactly f = (go (validity_at image at) judged, breaks-invalid)
      where
        go : (v : Validity) → Judged v → v ≡ Err (BadHeader f at) → Breaks image at f
        go (Ok _) (sound s) q = clash (cc)
        go (Err x) (faulty {f = g} b) q = let p : g ≡ f = cc in rw p at b

    answer-row : (f : HeaderFault) → Breaks image at f → HeaderRow image at (record { code = header_code f; offset = at; value = tt })
    answer-row ZeroLength b = is-two b
    answer-row PastEnd b = is-three b
    answer-row Checksum b = is-four b

    answers-validity : {s : Answer ⊤} → HeaderRow image at s → validity_answer (validity_at image at) ≡ s
    answers-validity (is-sound x) = ap validity_answer (sound-valid x)
    answers-validity (is-two b) = ap validity_answer (breaks-invalid b)
    answers-validity (is-three b) = ap validity_answer (breaks-invalid b)
    answers-validity (is-four b) = ap validity_answer (breaks-invalid b)

    -- THE CALLER'S VIEW of a header is its row
    pub validity-exactly : (s : Answer ⊤) → (validity_answer (validity_at image at) ≡ s) ↔ HeaderRow image at s
    validity-exactly s = (λ e. subst (HeaderRow image at) e (row (validity_at image at) judged), answers-validity)
      where
        row : (v : Validity) → Judged v → HeaderRow image at (validity_answer v)
        row (Ok _) (sound x) = is-sound x
        row (Err e) (faulty {f = f} b) = answer-row f b
