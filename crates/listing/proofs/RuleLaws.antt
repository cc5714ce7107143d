-- The text of a listing that is computed, and the rules of that text: each exactly when the other.
use Prim.Native.Nat.{ℕ, ◌+◌, ◌≤◌, ◌<◌}
use mathlib.Core.Path.{◌≡◌, refl, ap, subst, ◌∙◌}
use mathlib.Core.Logic.{◌↔◌}
use mathlib.Core.List.{List, [], ◌∷◌, ◌++◌}
use native.Mathlib.Omega.{arith}
use native.Mathlib.Decide.{dec_lt}
use lib.ListN.{length}
use Rattle.lists.specs.Bytes.{AllBytes}
use Rattle.errors.specs.Errors.{code_of, offset_of}
use Rattle.header.specs.Header.{name_at}
use Rattle.partitions.specs.declared.Partition.{Partition}
use Rattle.partitions.specs.Walk.{Walk, covered, broken, walk}
use Rattle.partitions.specs.Cover.{partition_at, Cover, here, next}
use Rattle.partitions.proofs.CoverLaws.{Walked, accepts, rejects, walked, accepted-exactly, rejected-exactly}
use Rattle.partitions.proofs.LoopLaws.{signature-byte}
use Rattle.listing.specs.Words.{heading, blocks_word, refused_word, at_word}
use Rattle.listing.specs.Text.{decimal, line, lines, blocks_sum, text_by, listing_text}
use Rattle.listing.specs.Rules.{Line, fields, EachLine, BlockSum, Listing, too_long, refused, accepted}
use Rattle.listing.proofs.DecimalLaws.{decimal-spells, spells-decimal}
use Rattle.listing.proofs.FieldLaws.{hex-holds, holds-hex, name-holds, holds-name}
use Rattle.listing.proofs.TextLaws.{text-too-long, text-by-walk}

-- ---- lines

module _ (image : List ℕ) where
  line-holds : (p : Partition) → p.signature < 256 → Line image p (line image p)
  unfolding line
  line-holds p h =
      fields (decimal-spells p.offset) (decimal-spells p.blocks.0) (hex-holds p.signature h) (name-holds (name_at image p.offset))

  holds-line : {p : Partition} {text : List ℕ} → Line image p text → line image p ≡ text
  unfolding line
  holds-line (fields a b s n) = λ i.
      spells-decimal a i ++ 0x20 ∷ spells-decimal b i ++ 0x20 ∷ holds-hex s i ++ 0x20 ∷ holds-name n i ++ 0x0A ∷ []

  -- A LINE exactly
  pub line-exactly : (p : Partition) (text : List ℕ) → p.signature < 256 → (line image p ≡ text) ↔ Line image p text
  line-exactly p text h = (λ e. subst (Line image p) e (line-holds p h), holds-line)

  lines-hold : AllBytes image → {a b : ℕ} {ps : List Partition} → Cover image a b ps → EachLine image ps (lines image ps)
  unfolding lines
  lines-hold bytes here = EachLine.none
  lines-hold bytes (next {a = a} s c) = EachLine.next (line-holds (partition_at image a) (signature-byte image bytes a)) (lines-hold bytes c)

  hold-lines : {ps : List Partition} {text : List ℕ} → EachLine image ps text → lines image ps ≡ text
  unfolding lines
  hold-lines EachLine.none = refl
  hold-lines (EachLine.next l r) = λ i. holds-line l i ++ hold-lines r i

  -- THE LINES of a cover exactly
  pub lines-exactly : {a b : ℕ} (ps : List Partition) (text : List ℕ) → AllBytes image → Cover image a b ps
      → (lines image ps ≡ text) ↔ EachLine image ps text
  lines-exactly ps text bytes c = (λ e. subst (EachLine image ps) e (lines-hold bytes c), hold-lines)

sum-holds : (ps : List Partition) → BlockSum ps (blocks_sum ps)
unfolding blocks_sum
sum-holds [] = BlockSum.none
sum-holds (p ∷ ps) = BlockSum.next (sum-holds ps)

holds-sum : {ps : List Partition} {n : ℕ} → BlockSum ps n → blocks_sum ps ≡ n
unfolding blocks_sum
holds-sum BlockSum.none = refl
holds-sum (BlockSum.next {p = p} s) = ap (λ (n : ℕ). p.blocks.0 + n) (holds-sum s)

-- THE SUM OF BLOCKS exactly
pub sum-exactly : (ps : List Partition) (n : ℕ) → (blocks_sum ps ≡ n) ↔ BlockSum ps n
sum-exactly ps n = (λ e. subst (BlockSum ps) e (sum-holds ps), holds-sum)

-- ---- the whole text

module _ (image : List ℕ) (bytes : AllBytes image) where
  by-walk : length image ≤ 65_536 → (w : Walk) → Walked image bytes w → Listing image (text_by image w)
  unfolding text_by
  by-walk l (covered ps) (accepts a) = accepted l a (lines-hold image bytes a.cover) (sum-holds ps) (decimal-spells (blocks_sum ps))
  by-walk l (broken e) (rejects r) = refused l r (decimal-spells (code_of e)) (decimal-spells (offset_of e))

  listing-holds : Listing image (listing_text image)
  listing-holds = go (dec_lt 65_536 (length image))
    where
      go : Dec (65_536 < length image) → Listing image (listing_text image)
      go (yes l) = rw (text-too-long image (omega arith)) (too_long (omega arith))
      go (no n) = rw (text-by-walk image (omega arith)) (by-walk (omega arith) (walk image) (walked image bytes))

  holds-listing : {text : List ℕ} → Listing image text → listing_text image ≡ text
  unfolding text_by
  holds-listing (too_long l) = text-too-long image (omega arith)
  holds-listing (refused {e = e} l r c o) =
      text-by-walk image (omega arith) ∙ ap (text_by image) ((rejected-exactly image bytes e).1 r)
      ∙ (λ i. refused_word ++ spells-decimal c i ++ at_word ++ spells-decimal o i ++ 0x0A ∷ [])
  holds-listing (accepted {ps = ps} l a t s d) =
      text-by-walk image (omega arith) ∙ ap (text_by image) ((accepted-exactly image bytes ps).1 a)
      ∙ (λ i. heading ++ hold-lines image t i ++ (ap decimal (holds-sum s) ∙ spells-decimal d) i ++ blocks_word)

-- THE LISTING exactly
pub listing-exactly : (image text : List ℕ) → AllBytes image → (listing_text image ≡ text) ↔ Listing image text
listing-exactly image text bytes = (λ e. subst (Listing image) e (listing-holds image bytes), holds-listing image bytes)
