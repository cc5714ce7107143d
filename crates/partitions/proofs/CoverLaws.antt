-- Accepted exactly when covered, and refused by each of 1 to 4 exactly when its rule says so.
use Prim.Native.Nat.{ℕ, ◌+◌, ◌*◌, ◌<◌}
use mathlib.Core.Path.{◌≡◌, ap, subst, refl, sym, ◌∙◌}
use mathlib.Core.Logic.{◌≢◌, ◌↔◌}
use mathlib.Core.Bool.{true, false}
use mathlib.Core.List.{List, [], ◌∷◌, ◌++◌}
use native.Mathlib.Omega.{arith}
use lib.ListN.{length}
use borrow.Author.Tests.{eq-eqb, le-leb, eqb-true, leb-true}
use Rattle.lists.specs.Bytes.{AllBytes}
use Rattle.lists.proofs.Tests.{split, clash, and-true}
use Rattle.errors.specs.declared.Error.{Error}
use Rattle.errors.specs.declared.HeaderFault.{HeaderFault}
use Rattle.errors.specs.declared.Error.TheVariants.{BadHeader}
use Rattle.header.specs.Header.{byte_at, validity_at}
use Rattle.header.specs.Rules.{Sound, Breaks}
use Rattle.header.proofs.RuleLaws.{blocks-read, signature-read, valid-exactly, invalid-exactly, sound-valid, breaks-invalid, sound-checksum}
use Rattle.header.proofs.ValidityLaws.{invalid-here}
use Rattle.partitions.specs.declared.Partition.{Partition}
use Rattle.std.specs.Prelude.{Ok, Err}
use Rattle.partitions.specs.Walk.{allowed_length, onward, partition_of, past_of, Walk, covered, broken, first, walk}
use Rattle.partitions.specs.Find.{checked_by, check_of}
use Rattle.partitions.specs.Cover.{LengthRule, partition_at, past_at, Cover, here, next, Accepted, PartitionCount, Rejected, one, header, Indexed}
use Rattle.partitions.proofs.StepLaws.{step_end, step-next, step-broken}
use Rattle.partitions.proofs.WalkLaws.{rest, rest-next, rest_end, rest-broken, walk-rest, walk_refused, rest-by-steps}

-- the length rule and its test
pub length-rule : (n : ℕ) → allowed_length n ≡ true → LengthRule n
unfolding allowed_length
length-rule n e =
    let a = and-true _ _ e in
    let b = and-true _ _ a.1 in
    record { multiple = eqb-true _ _ a.0; least = leb-true _ _ b.0; most = leb-true _ _ b.1 }

pub rule-length : (n : ℕ) → LengthRule n → allowed_length n ≡ true
unfolding allowed_length
rule-length n r = rw (eq-eqb _ _ r.multiple, le-leb _ _ r.least, le-leb _ _ r.most)

pub not-length : (n : ℕ) → ¬ (LengthRule n) → allowed_length n ≡ false
not-length n q = split (allowed_length n) (λ t. absurd (q (length-rule n t))) (λ t. t)

-- the partition and the next offset that the walk computes are those of the image's bytes
pub partition-same : (image : List ℕ) (at : ℕ) → partition_of image at ≡ partition_at image at
unfolding partition_of partition_at
partition-same image at =
    λ i. record { offset = at; blocks = record { 0 = blocks-read image at i }; signature = signature-read image at i }

pub past_same : (image : List ℕ) (at : ℕ) → past_of image at ≡ past_at image at
unfolding past_of past_at
past_same image at = ap (λ (n : ℕ). at + n * 16) (blocks-read image at)

-- a partition of a cover has a sound header
cover-sound : (image : List ℕ) {a b : ℕ} (before : List Partition) (p : Partition) (after : List Partition) → Cover image a b (before ++ p ∷ after)
    → Sound image p.offset
unfolding partition_at
cover-sound image [] p after (next s c) = s
cover-sound image {a = a} {b = b} (q ∷ before) p after (next s c) = cover-sound image {a = past_at image a} {b = b} before p after c

-- THE CHECKSUM of a partition of an accepted image, whatever its index, is not zero
pub indexed-checksum : (image : List ℕ) (n : ℕ) (p : Partition) → Indexed image n p → byte_at image p.offset 1 ≢ 0
indexed-checksum image n p i =
    sound-checksum image p.offset (cover-sound image i.before p i.after i.accepted.cover)

-- partitions put before what a walk finds
abbrev pub prepend : List Partition → Walk → Walk
prepend [] w = w
prepend (p ∷ ps) w = first p (prepend ps w)

prepend-covered : (ps : List Partition) → prepend ps (covered []) ≡ covered ps
prepend-covered [] = refl
prepend-covered (p ∷ ps) = ap (first p) (prepend-covered ps)

prepend-broken : (ps : List Partition) (e : Error) → prepend ps (broken e) ≡ broken e
prepend-broken [] e = refl
prepend-broken (p ∷ ps) e = ap (first p) (prepend-broken ps e)

module _ (image : List ℕ) (bytes : AllBytes image) where
  sound-inside : (at : ℕ) → Sound image at → at < length image
  sound-inside at s = omega (arith, s.nonzero, s.inside)

  sound-rest : (at : ℕ) → Sound image at → rest image at ≡ first (partition_at image at) (rest image (past_at image at))
  sound-rest at s =
      rest-next image at (onward image at)
      (step-next image at (sound-inside at s) (sound-valid image at bytes s))
      ∙ (λ i. first (partition-same image at i) (rest image (past_same image at i)))

  -- a walk passes what is covered
  pub cover-rest : {a b : ℕ} {ps : List Partition} → Cover image a b ps → rest image a ≡ prepend ps (rest image b)
  cover-rest here = refl
  cover-rest (next {a = a} s c) = sound-rest a s ∙ ap (first (partition_at image a)) (cover-rest c)

  pub cover-covered : {a : ℕ} {ps : List Partition} → Cover image a (length image) ps → rest image a ≡ covered ps
  cover-covered {ps = ps} c =
      cover-rest c ∙ ap (prepend ps) (rest_end image (length image) (step_end image (length image) (omega arith))) ∙ prepend-covered ps

  pub cover-broken : {a b : ℕ} {ps : List Partition} {f : HeaderFault} → Cover image a b ps → b < length image → Breaks image b f
      → rest image a ≡ broken (BadHeader f b)
  cover-broken {b = b} {ps = ps} {f = f} c l x =
      let e : Error = BadHeader f b in
      cover-rest c ∙ ap (prepend ps) (rest-broken image b e (step-broken image b l e (breaks-invalid image b bytes x))) ∙ prepend-broken ps e

  -- what a walk finds, by the rules
  data Outcome (a : ℕ) : Walk → Type 0 where
    complete : {ps : List Partition} → Cover image a (length image) ps → Outcome a (covered ps)
    stopped : {b : ℕ} {ps : List Partition} {f : HeaderFault} → Cover image a b ps → b < length image → Breaks image b f
        → Outcome a (broken (BadHeader f b))

  outcome-first : (a : ℕ) → Sound image a → (w : Walk) → Outcome (past_at image a) w → Outcome a (first (partition_at image a) w)
  outcome-first a s (covered ps) (complete c) = complete (next s c)
  outcome-first a s (broken e) (stopped c l x) = stopped (next s c) l x

  outcome-next : (at : ℕ) → validity_at image at ≡ Ok tt → (w : Walk) → Outcome (past_of image at) w → Outcome at (first (partition_of image at) w)
  outcome-next at v w o =
      rw (partition-same image at)
      (outcome-first at ((valid-exactly image at bytes).0 v) w (subst (λ (k : ℕ). Outcome k w) (past_same image at) o))

  outcome-stop : (at : ℕ) → at < length image → (e : Error) → validity_at image at ≡ Err e → Outcome at (broken e)
  outcome-stop at l e v =
      let h = invalid-here image at e v in
      rw h.1 (stopped here l ((invalid-exactly image at bytes h.0).0 (v ∙ ap Err h.1)))

  rest-outcome : Outcome 0 (rest image 0)
  rest-outcome = rest-by-steps image Outcome (complete here) (λ at l v w o. outcome-next at v w o) outcome-stop

  -- what the walk of an image finds, by the rules
  pub data Walked : Walk → Type 0 where
    accepts : {ps : List Partition} → Accepted image ps → Walked (covered ps)
    rejects : {e : Error} → Rejected image e → Walked (broken e)

  walked_by : LengthRule (length image) → (w : Walk) → Outcome 0 w → Walked w
  walked_by l (covered ps) (complete c) = accepts (record { long = l; cover = c })
  walked_by l (broken e) (stopped c i x) = rejects (header l c i x)

  pub walked : Walked (walk image)
  walked =
      split (allowed_length (length image))
      (λ t. rw (walk-rest image t) (walked_by (length-rule (length image) t) (rest image 0) rest-outcome))
      (λ t. rw (walk_refused image t) (rejects (one (λ l. clash (cc (rule-length (length image) l))))))

  -- an image is accepted exactly when it has an allowed length and partitions cover it from byte 0 to the last byte
  pub accepted-exactly : (ps : List Partition) → (walk image ≡ covered ps) ↔ Accepted image ps
  accepted-exactly ps = (go (walk image) walked, λ a. walk-rest image (rule-length _ a.long) ∙ cover-covered a.cover)
    where
      go : (w : Walk) → Walked w → w ≡ covered ps → Accepted image ps
      go (covered qs) (accepts a) e = let q : qs ≡ ps = cc in rw q at a
      go (broken x) (rejects r) e = clash (cc)

  rejected-broken : {e : Error} → Rejected image e → walk image ≡ broken e
  rejected-broken (one q) = walk_refused image (not-length (length image) q)
  rejected-broken (header l c i x) = walk-rest image (rule-length _ l) ∙ cover-broken c i x

  -- refused by a code at an offset exactly when a cover reaches that offset and that rule is the first one broken there
  pub rejected-exactly : (e : Error) → (walk image ≡ broken e) ↔ Rejected image e
  rejected-exactly e = (go (walk image) walked, rejected-broken)
    where
      go : (w : Walk) → Walked w → w ≡ broken e → Rejected image e
      go (covered qs) (accepts a) q = clash (cc)
      go (broken x) (rejects r) q = let p : x ≡ e = cc in rw p at r

  -- two covers of an image are the same
  pub one-cover : {a : ℕ} {ps qs : List Partition} → Cover image a (length image) ps → Cover image a (length image) qs → ps ≡ qs
  one-cover c d = same (sym (cover-covered c) ∙ cover-covered d)
    where
      same : {ps qs : List Partition} → covered ps ≡ covered qs → ps ≡ qs
      same e = cc

  -- the count answered is the number of partitions in the cover
  pub check-accepts : (n : ℕ) → (check_of image ≡ Ok n) ↔ PartitionCount image n
  unfolding check_of checked_by
  check-accepts n = (go (walk image) walked, λ k. ap checked_by ((accepted-exactly k.all).1 k.accepted) ∙ ap Ok k.counted)
    where
      go : (w : Walk) → Walked w → checked_by w ≡ Ok n → PartitionCount image n
      go (covered ps) (accepts a) e = record { all = ps; accepted = a; counted = cc }
      go (broken x) (rejects r) e = clash (cc)

  pub check-refuses : (e : Error) → (check_of image ≡ Err e) ↔ Rejected image e
  unfolding check_of checked_by
  check-refuses e = (go (walk image) walked, λ r. ap checked_by (rejected-broken r))
    where
      go : (w : Walk) → Walked w → checked_by w ≡ Err e → Rejected image e
      go (covered ps) (accepts a) q = clash (cc)
      go (broken x) (rejects r) q = let p : x ≡ e = cc in rw p at r
