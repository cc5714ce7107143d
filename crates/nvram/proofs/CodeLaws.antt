-- What the code of each call answers and leaves is what `call_image` says.
use Prim.Native.Nat.{ℕ, ◌+◌, ◌-◌, ◌≤◌}
use mathlib.Core.Path.{◌≡◌, refl, sym, ap, subst, ◌∙◌}
use mathlib.Core.List.{List, []}
use native.Mathlib.Omega.{arith}
use lib.ListN.{length, take, drop, length-take}
use borrow.Rule.Slice.PartMut.{put_mid}
use Rattle.lists.specs.Pasted.{pasted}
use Rattle.lists.proofs.Tests.{clash}
use Rattle.lists.proofs.PastedLaws.{part-pasted}
use Rattle.errors.specs.declared.Error.{Error}
use Rattle.errors.specs.declared.Error.TheVariants.{BadName}
use Rattle.names.specs.declared.NameFault.{NameFault}
use Rattle.names.specs.Name.{NameCheck, name_check}
use Rattle.names.proofs.NameLaws.{split-check}
use Rattle.header.specs.declared.Bytes.{Bytes}
use Rattle.header.specs.Header.{bytes_of}
use Rattle.partitions.specs.declared.Partition.{Partition}
use Rattle.partitions.specs.Find.{Found, only_of, area_of}
use Rattle.std.specs.Prelude.{⊤, Result, Ok, Err}
use Rattle.partitions.proofs.AreaLaws.{among-inside, area-part}
use Rattle.variables.specs.Calls.{Action, set_to, removal, read_into, Call, named, set, remove, normalize, read, count, lent_by, lent, call_check, Outcome, call_area}
use Rattle.variables.specs.Helpers.{reply_offset}
use Rattle.variables.specs.Views.{amount_reply, edit_reply}
use Rattle.variables.proofs.CallLaws.{check-named, check-normalize, check-count, Bufferless, buffer-none, reply-bounded}
use Rattle.nvram.specs.declared.Span.{Span}
use Rattle.nvram.specs.Common.{common_signature, common, common_of}
use Rattle.nvram.specs.Calls.{refusal, told_at, count_told, read_told, edit_told, ImageOutcome, call_image}
use Rattle.nvram.specs.Helpers.{area_span, name_first, named_span, error_offset, answer_moved}
use Rattle.nvram.proofs.CommonLaws.{split-found, common-found, common-among}
use Rattle.nvram.proofs.CallLaws.{image-misnamed, image-refused, call-image, image-unfound}

-- the span of the partition that was found
module _ (I : List ℕ) (f : Found) (ef : f ≡ only_of I common_signature common) where
  here : f ≡ common_of I
  here = ef ∙ common-found I

  module _ (p : Partition) (ep : f ≡ Ok p) (b : Bytes) (eb : b ≡ bytes_of p.blocks) where
    pub span-part : (16 ≤ b.0) × (p.offset + b.0 ≤ length I)
    span-part =
        let i = among-inside I p (common-among I p (sym here ∙ ep)) in
        subst (λ (x : Bytes). (16 ≤ x.0) × (p.offset + x.0 ≤ length I)) (sym eb) (i.header, i.fits)

    pub span-found : ◌≡◌ {A = Result Span Error} (Ok (record { start = p.offset + 16; end = p.offset + b.0 })) (area_span (common_of I))
    unfolding area_span
    span-found = (λ i. Ok (record { start = p.offset + 16; end = p.offset + (eb i).0 })) ∙ ap area_span (sym ep ∙ here)

  pub span-refused : (e : Error) → f ≡ Err e → Err e ≡ area_span (common_of I)
  unfolding area_span
  span-refused e ee = ap area_span (sym ee ∙ here)

-- the variable area stands here
pub record AreaAt (I : List ℕ) (a : Span) : Type 0 where
  pub partition : Partition
  pub found : common_of I ≡ Ok partition
  pub start : partition.offset + 16 ≡ a.start
  pub order : a.start ≤ a.end
  pub inside : a.end ≤ length I
  pub bytes : area_of I (Ok partition) ≡ take (a.end - a.start) (drop a.start I)

module _ (I : List ℕ) where
  module _ (r : Result Span Error) (er : r ≡ area_span (common_of I)) where
    pub span-at : (a : Span) → r ≡ Ok a → AreaAt I a
    unfolding area_span
    span-at a h = split-found (common_of I)
        (λ p k.
        let q : Ok (record { start = p.offset + 16; end = p.offset + (bytes_of p.blocks).0 }) ≡ Ok a = ap area_span (sym k) ∙ (sym er ∙ h) in
        let z : ◌≡◌ {A = Span} (record { start = p.offset + 16; end = p.offset + (bytes_of p.blocks).0 }) a = cc in
        let i = among-inside I p (common-among I p k) in
        subst (AreaAt I) z
        (record {
          partition = p;
          found = k;
          start = refl;
          order = omega (arith, i.header);
          inside = omega (arith, i.fits);
          bytes = area-part I p i;
        }))
        (λ x k. let q = ap area_span (sym k) ∙ (sym er ∙ h) in clash (cc))

    pub span-not : (e : Error) → r ≡ Err e → common_of I ≡ Err e
    unfolding area_span
    span-not e h = split-found (common_of I)
        (λ p k. let q = ap area_span (sym k) ∙ (sym er ∙ h) in clash (cc))
        (λ x k. let q = ap area_span (sym k) ∙ (sym er ∙ h) in let z : x ≡ e = cc in k ∙ ap Err z)

  -- for a call that takes a name
  module _ (name : List ℕ) where
    pub named-at : (a : Span) → Ok a ≡ named_span (name_check name) (common_of I) → AreaAt I a
    unfolding named_span
    named-at a h = split-found (common_of I)
        (λ p k. span-at (Ok a) (h ∙ ap (named_span (name_check name)) k ∙ ap area_span (sym k)) a refl)
        (λ x k. let q = h ∙ ap (named_span (name_check name)) k in clash (cc))

    -- why there is none
    pub NoArea : Error → Type 0
    NoArea x = (e : Error) × (common_of I ≡ Err e) × (x ≡ name_first (name_check name) e)

    pub named-not : (x : Error) → Err x ≡ named_span (name_check name) (common_of I) → NoArea x
    unfolding named_span area_span NoArea
    named-not x h = split-found (common_of I)
        (λ p k. let q = h ∙ ap (named_span (name_check name)) k in clash (cc))
        (λ e k. let q = h ∙ ap (named_span (name_check name)) k in let z : x ≡ name_first (name_check name) e = cc in (e, k, z))

    -- by what the code finds of the image and of the name
    module _ (r : Result Span Error) (er : r ≡ area_span (common_of I)) where
      pub named-found : (a : Span) → r ≡ Ok a → Ok a ≡ named_span (name_check name) (common_of I)
      unfolding named_span area_span
      named-found a h = split-found (common_of I)
          (λ p k. sym h ∙ er ∙ ap area_span k ∙ ap (named_span (name_check name)) (sym k))
          (λ x k. let q = ap area_span (sym k) ∙ (sym er ∙ h) in clash (cc))

      module _ (e : Error) (h : r ≡ Err e) where
        named-second : (c : NameCheck) → name_check name ≡ c → Err (name_first c e) ≡ named_span (name_check name) (common_of I)
        unfolding named_span
        named-second c w = (λ i. Err (name_first (sym w i) e)) ∙ ap (named_span (name_check name)) (sym (span-not r er e h))

        pub named-misnamed : (f : NameFault) → name_check name ≡ Err f → Err (BadName f.at) ≡ named_span (name_check name) (common_of I)
        named-misnamed f w = named-second (Err f) w

        pub named-wellnamed : (u : ⊤) → name_check name ≡ Ok u → Err e ≡ named_span (name_check name) (common_of I)
        named-wellnamed u w = named-second (Ok u) w

-- ---- the answer and the image, by where the area stands

module _ (call : Call) (I : List ℕ) where
  module _ (a : Span) (k : AreaAt I a) where
    -- what the call does to its area
    abbrev does : Outcome
    does = call_area call (take (a.end - a.start) (drop a.start I))

    pub answer_at : told_at a.start does.reply does.buffer ≡ (call_image call I).told
    answer_at =
        sym (ap (λ (r : ImageOutcome). r.told) (call-image call I k.partition k.found)
        ∙ (λ i. told_at (k.start i) (call_area call (k.bytes i)).reply (call_area call (k.bytes i)).buffer))

    pub image-at : pasted I a.start does.area ≡ (call_image call I).image
    image-at =
        sym (ap (λ (r : ImageOutcome). r.image) (call-image call I k.partition k.found)
        ∙ (λ i. pasted I (k.start i) (call_area call (k.bytes i)).area))

  pub answer-not : (e : Error) → common_of I ≡ Err e → refusal (name_first (call_check call) e) (lent call) ≡ (call_image call I).told
  answer-not e f =
      split-check (call_check call)
      (λ w. (λ i. refusal (name_first (w i) e) (lent call)) ∙ sym (ap (λ (r : ImageOutcome). r.told) (image-refused call I w e f)))
      (λ at w. (λ i. refusal (name_first (w i) e) (lent call)) ∙ sym (ap (λ (r : ImageOutcome). r.told) (image-misnamed call I at w)))

-- ---- the code's answers

-- an answer moved into the image tells what the reply on the area tells there
edit-moved : (by : ℕ) (r : Result ⊤ Error) → edit_told (answer_moved by r) ≡ told_at by (edit_reply r) []
edit-moved by (Ok _) = refl
edit-moved by (Err e) = refl

amount-moved : (by : ℕ) (r : Result ℕ Error) (buffer : List ℕ) → read_told (answer_moved by r) buffer ≡ told_at by (amount_reply r) buffer
amount-moved by (Ok n) buffer = refl
amount-moved by (Err e) buffer = refl

edit_offset : (r : Result ⊤ Error) → error_offset r ≡ reply_offset (edit_reply r)
edit_offset (Ok _) = refl
edit_offset (Err e) = refl

amount_offset : (r : Result ℕ Error) → error_offset r ≡ reply_offset (amount_reply r)
amount_offset (Ok n) = refl
amount_offset (Err e) = refl

module _ (I : List ℕ) (a : Span) (k : AreaAt I a) where
  -- the area that the call gets
  abbrev given : List ℕ
  given = take (a.end - a.start) (drop a.start I)

  -- an offset in the area, or below 32 in the caller's name, is far below 2 ^ 64, also with the area's own added
  offset_at : (call : Call) (o : ℕ) → o ≡ reply_offset (call_area call given).reply → a.start + o ≤ length I + 31
  offset_at call o q =
      let b : length given ≤ a.end - a.start = omega (arith, length-take (a.end - a.start) (drop a.start I)) in
      let i = reply-bounded call given in
      omega (arith, k.order, k.inside)

  -- an edit
  module _ (call : Call) (r : Result ⊤ Error) (q : edit_reply r ≡ (call_area call given).reply) where
    pub edit-room : a.start + error_offset r ≤ length I + 31
    edit-room = offset_at call (error_offset r) (edit_offset r ∙ ap reply_offset q)

    pub edit-answer : Bufferless call → (m : Result ⊤ Error) → m ≡ answer_moved a.start r → edit_told m ≡ (call_image call I).told
    edit-answer u m em =
        ap edit_told em ∙ edit-moved a.start r
        ∙ ((λ i. told_at a.start (q i) (sym (buffer-none u given) i)) ∙ answer_at call I a k)

  pub edit-image : (call : Call) (last : List ℕ) → length last ≡ a.end - a.start → last ≡ (call_area call given).area
      → put_mid a.start (a.end - a.start) I last ≡ (call_image call I).image
  edit-image call last n q = part-pasted I a.start a.end last k.order k.inside n ∙ (ap (pasted I a.start) q ∙ image-at call I a k)

  -- a count or a read
  module _ (call : Call) (r : Result ℕ Error) (q : amount_reply r ≡ (call_area call given).reply) where
    pub amount-room : a.start + error_offset r ≤ length I + 31
    amount-room = offset_at call (error_offset r) (amount_offset r ∙ ap reply_offset q)

    pub amount-answer : (after : List ℕ) → after ≡ (call_area call given).buffer → (m : Result ℕ Error) → m ≡ answer_moved a.start r
        → read_told m after ≡ (call_image call I).told
    amount-answer after b m em =
        ap (λ (x : Result ℕ Error). read_told x after) em ∙ amount-moved a.start r after
        ∙ ((λ i. told_at a.start (q i) (b i)) ∙ answer_at call I a k)

    pub count-answer : Bufferless call → (m : Result ℕ Error) → m ≡ answer_moved a.start r → count_told m ≡ (call_image call I).told
    count-answer u m em = amount-answer [] (sym (buffer-none u given)) m em

-- nothing was found
module _ (I : List ℕ) (e : Error) (f : common_of I ≡ Err e) where
  pub count-not : count_told (Err e) ≡ (call_image count I).told
  count-not = (λ i. refusal (name_first (sym check-count i) e) []) ∙ answer-not count I e f

  pub normalize-not : edit_told (Err e) ≡ (call_image normalize I).told
  normalize-not = (λ i. refusal (name_first (sym check-normalize i) e) []) ∙ answer-not normalize I e f

  pub image-not : (call : Call) → I ≡ (call_image call I).image
  image-not call = sym (image-unfound call I e f)

module _ (I name : List ℕ) (x : Error) (h : Err x ≡ named_span (name_check name) (common_of I)) where
  -- of a call that takes a name
  named-refusal : (action : Action) → refusal x (lent_by action) ≡ (call_image (named name action) I).told
  unfolding NoArea
  named-refusal action =
      let n = named-not I name x h in
      (λ i. refusal (n.2 i) (lent_by action)) ∙ (λ i. refusal (name_first (sym (check-named name action) i) n.0) (lent_by action))
      ∙ answer-not (named name action) I n.0 n.1

  pub set-not : (value : List ℕ) → edit_told (Err x) ≡ (call_image (set name value) I).told
  set-not value = named-refusal (set_to value)

  pub remove-not : edit_told (Err x) ≡ (call_image (remove name) I).told
  remove-not = named-refusal removal

  pub read-not : (buffer : List ℕ) → read_told (Err x) buffer ≡ (call_image (read name buffer) I).told
  read-not buffer = named-refusal (read_into buffer)

  pub image-kept : (call : Call) → I ≡ (call_image call I).image
  unfolding NoArea
  image-kept call = let n = named-not I name x h in sym (image-unfound call I n.0 n.1)
