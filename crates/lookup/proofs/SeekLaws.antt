-- The loop that looks for a partition by its signature and name.
use Prim.Native.Nat.{ℕ, ◌+◌, ◌-◌, ◌≤◌}
use mathlib.Core.Path.{◌≡◌, ap, refl, sym, ◌∙◌}
use mathlib.Core.Bool.{Bool, true, false, ◌&&◌, cond}
use mathlib.Core.List.{List, [], ◌∷◌}
use native.Mathlib.Omega.{arith}
use lib.ListN.{length, take, drop}
use Rattle.lists.proofs.Tests.{split}
use Rattle.errors.specs.declared.Error.{Error}
use Rattle.errors.specs.declared.Error.TheVariants.{ImageLength, RepeatedPartition}
use Rattle.header.specs.Header.{header_at}
use Rattle.header.proofs.SumLaws.{name-part}
use Rattle.header.proofs.RuleLaws.{name-read}
use Rattle.partition_name.specs.Name.{matches_name}
use Rattle.partitions.specs.declared.Partition.{Partition}
use Rattle.partitions.specs.Find.{Found, matches, first_match, find_by, only_unless, only_match, only_by}
use Rattle.std.specs.Prelude.{Ok, Err, Some}
use Rattle.partitions.specs.declared.Step.{Step}
use Rattle.partitions.specs.Walk.{Walk, covered, broken, allowed_length, step_at, walk}
use Rattle.partitions.proofs.WalkLaws.{rest, walk-rest, walk_refused, on_walk}
use Rattle.partitions.proofs.LoopLaws.{next-goes}
use Rattle.partitions.proofs.FoundLaws.{matches-signed, matches-other, find-walk, find-covered, find-broken, match-nothing, match-head, match-tail}
use Rattle.partitions.proofs.OnlyLaws.{only-walk, only-covered, only-broken, only-nothing, only-head, only-tail}
use Rattle.lookup.specs.declared.Matched.{Matched}
use Rattle.lookup.specs.declared.Matched.TheVariants.{None, One, Second}
use Rattle.lookup.specs.Helpers.{one_more_counts, with_match, matched_found, seek_of}

-- the name in the image, where the header is whole
pub header-name : (image : List ℕ) (at : ℕ) → at + 16 ≤ length image → (name : List ℕ) (r : Bool)
    → r ≡ matches_name (take (at + 16 - (at + 4)) (drop (at + 4) image)) name → r ≡ matches_name (header_at image at).name name
header-name image at h name r e =
    e ∙ ap (λ (l : List ℕ). matches_name l name) (name-part image at h ∙ sym (name-read image at))

-- and it is whole where the walk goes on
pub whole-header : (image : List ℕ) (at : ℕ) (s : Step) → step_at image at ≡ Ok (Some s) → s.here.offset + 16 ≤ length image
whole-header image at s e = let g = next-goes image at s e in omega (arith, g.here, g.some, g.past, g.inside)

-- after one more partition, which matches or not
abbrev matched_next : Bool → Matched → Bool → Partition → Matched
matched_next only matched matches p = cond (one_more_counts only matched && matches) (with_match matched p) matched

-- what is found by what has matched so far and the partitions that are left
abbrev pub seek_name : Bool → List ℕ → ℕ → List ℕ → Matched → List Partition → Found
seek_name only image signature name matched [] = matched_found matched
seek_name only image signature name matched (p ∷ ps) =
    seek_name only image signature name (matched_next only matched (matches image signature name p.offset) p) ps

-- what is answered, by the walk and by the partitions
abbrev by_walk : Bool → List ℕ → ℕ → List ℕ → Walk → Found
by_walk only image signature name w = cond only (only_by image signature name w) (find_by image signature name w)

abbrev by_partitions : Bool → List ℕ → ℕ → List ℕ → List Partition → Found
by_partitions only image signature name ps = cond only (only_match image signature name ps) (first_match image signature name ps)

module _ (only : Bool) (image : List ℕ) (signature : ℕ) (name : List ℕ) where
  seek-second : (at : ℕ) (ps : List Partition) → seek_name only image signature name (Second at) ps ≡ Err (RepeatedPartition at)
  seek-second at [] = refl
  seek-second at (p ∷ ps) = seek-second at ps

-- one has matched: it is found, unless only one may match and another follows
module _ (image : List ℕ) (signature : ℕ) (name : List ℕ) (q : Partition) where
  seek-first : (ps : List Partition) → seek_name false image signature name (One q) ps ≡ Ok q
  seek-first [] = refl
  seek-first (p ∷ ps) = seek-first ps

  seek-one : (ps : List Partition) → seek_name true image signature name (One q) ps ≡ only_unless q (first_match image signature name ps)
  seek-one [] = ap (only_unless q) (sym (match-nothing image signature name))
  seek-one (p ∷ ps) =
      split (matches image signature name p.offset)
      (λ t. rw t (seek-second true image signature name p.offset ps) ∙ ap (only_unless q) (sym (match-head image signature name p ps t)))
      (λ t. rw t (seek-one ps) ∙ ap (only_unless q) (sym (match-tail image signature name p ps t)))

module _ (image : List ℕ) (signature : ℕ) (name : List ℕ) where
  -- none has matched
  none_yet : (only : Bool) (ps : List Partition) → seek_name only image signature name None ps ≡ by_partitions only image signature name ps
  none_yet true [] = sym (only-nothing image signature name)
  none_yet false [] = sym (match-nothing image signature name)
  none_yet true (p ∷ ps) =
      split (matches image signature name p.offset)
      (λ t. rw t (seek-one image signature name p ps) ∙ sym (only-head image signature name p ps t))
      (λ t. rw t (none_yet true ps) ∙ sym (only-tail image signature name p ps t))
  none_yet false (p ∷ ps) =
      split (matches image signature name p.offset)
      (λ t. rw t (seek-first image signature name p ps) ∙ sym (match-head image signature name p ps t))
      (λ t. rw t (none_yet false ps) ∙ sym (match-tail image signature name p ps t))

  seek-walk : (only : Bool) → seek_of only image signature name ≡ by_walk only image signature name (walk image)
  seek-walk true = only-walk image signature name
  seek-walk false = find-walk image signature name

  seek-covered : (only : Bool) (ps : List Partition) → by_walk only image signature name (covered ps) ≡ by_partitions only image signature name ps
  seek-covered true ps = only-covered image signature name ps
  seek-covered false ps = find-covered image signature name ps

  seek-broken : (only : Bool) (e : Error) → by_walk only image signature name (broken e) ≡ Err e
  seek-broken true e = only-broken image signature name e
  seek-broken false e = find-broken image signature name e

module _ (only : Bool) (image : List ℕ) (signature : ℕ) (name : List ℕ) where
  seek-on : (w : Walk) → on_walk (seek_name only image signature name None) Err w ≡ by_walk only image signature name w
  seek-on (covered ps) = none_yet image signature name only ps ∙ sym (seek-covered image signature name only ps)
  seek-on (broken e) = sym (seek-broken image signature name only e)

  pub seek-refused : allowed_length (length image) ≡ false → Err ImageLength ≡ seek_of only image signature name
  seek-refused a =
      sym (seek-walk image signature name only ∙ ap (by_walk only image signature name) (walk_refused image a)
      ∙ seek-broken image signature name only ImageLength)

  pub seek-start : allowed_length (length image) ≡ true
      → on_walk (seek_name only image signature name None) Err (rest image 0) ≡ seek_of only image signature name
  seek-start a =
      seek-on (rest image 0) ∙ sym (seek-walk image signature name only ∙ ap (by_walk only image signature name) (walk-rest image a))

  -- a turn of the loop at p, where its signature and its name are s and r, and k says whether one more match counts
  module _ (m : Matched) (p : Partition) (ps : List Partition) (s : ℕ) (es : s ≡ (header_at image p.offset).signature) where
    turned : (b : Bool) → matches image signature name p.offset ≡ b
        → seek_name only image signature name m (p ∷ ps) ≡ seek_name only image signature name (matched_next only m b p) ps
    turned b e = ap (λ (x : Bool). seek_name only image signature name (matched_next only m x p) ps) e

    -- another signature
    pub turn-unsigned : (s ≡ signature → ⊥) → seek_name only image signature name m (p ∷ ps) ≡ seek_name only image signature name m ps
    turn-unsigned d =
        turned false (matches-other image p.offset signature name (λ q. d (es ∙ q)))
        ∙ ap (λ (x : Matched). seek_name only image signature name x ps) (unmatched (one_more_counts only m))
      where
        unmatched : (k : Bool) → cond (k && false) (with_match m p) m ≡ m
        unmatched true = refl
        unmatched false = refl

    module _ (e : s ≡ signature) (k : Bool) (ek : k ≡ one_more_counts only m) where
      signed : matches image signature name p.offset ≡ matches_name (header_at image p.offset).name name
      signed = matches-signed image p.offset signature name (sym es ∙ e)

      -- one more match would not count
      pub turn-uncounted : k ≡ false → seek_name only image signature name m (p ∷ ps) ≡ seek_name only image signature name m ps
      turn-uncounted c =
          turned (matches image signature name p.offset) refl
          ∙ ap (λ (x : Bool). seek_name only image signature name (cond (x && matches image signature name p.offset) (with_match m p) m) ps) (sym ek ∙ c)

      module _ (r : Bool) (er : r ≡ matches_name (header_at image p.offset).name name) (c : k ≡ true) where
        counted : (b : Bool) → r ≡ b
            → seek_name only image signature name m (p ∷ ps) ≡ seek_name only image signature name (cond b (with_match m p) m) ps
        counted b z =
            turned b (signed ∙ sym er ∙ z)
            ∙ ap (λ (x : Bool). seek_name only image signature name (cond (x && b) (with_match m p) m) ps) (sym ek ∙ c)

        -- another name
        pub turn-unnamed : r ≡ false → seek_name only image signature name m (p ∷ ps) ≡ seek_name only image signature name m ps
        turn-unnamed z = counted false z

        -- a match
        pub turn_match : r ≡ true → (n : Matched) → n ≡ with_match m p
            → seek_name only image signature name m (p ∷ ps) ≡ seek_name only image signature name n ps
        turn_match z n en = counted true z ∙ ap (λ (x : Matched). seek_name only image signature name x ps) (sym en)
