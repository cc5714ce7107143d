-- The table of a block of pieces, for the contracts of the private functions: digital trees of entries, by the bits of the names' hashes.
use Rattle.std.specs.Prelude.{ℕ, suc, ◌+◌, ◌*◌, ◌/◌, ◌%◌, ◌<◌, ◌≤◌, ◌≡◌, List, [], ◌∷◌, ◌++◌, length, get_or, map}
use Rattle.repeats.specs.declared.Entry.{Entry}
use Rattle.repeats.specs.declared.Link.{Link}
use Rattle.repeats.specs.declared.Table.{Table}
use Rattle.repeats.specs.declared.Link.TheVariants.{Root, Child}
use Rattle.repeats.specs.Pieces.{piece_name}
use Rattle.repeats.specs.Helpers.Names.{hash_of}
use Rattle.repeats.specs.Helpers.Places.{Start, Best, Distinct}

-- the links of the entries: two for each
unfoldable pub children_of : List Entry → List ℕ
children_of [] = []
children_of (e ∷ es) = get_or e.children 0 0 ∷ get_or e.children 1 0 ∷ children_of es

-- where a link stands among the links of n trees and of their entries
unfoldable pub link_place : ℕ → Link → ℕ
link_place n (Root tree) = tree
link_place n (Child entry side) = n + 2 * entry + side

-- the link is one of n trees or of k entries
unfoldable pub InTable : ℕ → ℕ → Link → Type 0
InTable n k (Root tree) = tree < n
InTable n k (Child entry side) = (entry < k) × (side < 2)

-- the links of a table: first the roots of its trees, then those of its entries
abbrev pub links_of : Table → List ℕ
links_of t = t.roots.now ++ children_of t.entries.now

-- where the pieces of a table begin
abbrev pub starts_of : Table → List ℕ
starts_of t = map (λ (e : Entry). t.from + e.far) t.entries.now

-- where a link stands among the links of its table, and what stands there
abbrev pub place : Table → Link → ℕ
place t link = link_place (length t.roots.now) link

abbrev pub above : Table → Link → ℕ
above t link = get_or (links_of t) (place t link) 0

abbrev pub HasLink : Table → Link → Type 0
HasLink t link = InTable (length t.roots.now) (length t.entries.now) link

-- the tree of a hash, of n trees
unfoldable pub root_of : ℕ → ℕ → ℕ
root_of n h = h % 65536 * n / 65536

-- the bits of a hash that choose the way in its tree, the lowest first
unfoldable pub way_of : ℕ → ℕ
way_of h = h / 65536

-- the walk from a link by these bits comes to the link s. A link is 0, or one above the entry that it leads to; the links of the
-- n trees come first, then two for each entry
pub data Comes (links : List ℕ) (n s : ℕ) : ℕ → ℕ → Type 0 where
  here : {way : ℕ} → Comes links n s s way
  there : {at way j : ℕ} → get_or links at 0 ≡ suc j → Comes links n s (n + 2 * j + way % 2) (way / 2) → Comes links n s at way

-- the walk from a link by these bits finds the entry i
pub record Reached (links : List ℕ) (n at way i : ℕ) : Type 0 where
  pub link : ℕ
  pub comes : Comes links n link at way
  pub is : get_or links link 0 ≡ suc i

-- the trees have k entries, and the walk by its name's hash finds each
pub record Trees (l links starts : List ℕ) (k : ℕ) : Type 0 where
  pub some : 0 < length starts
  pub small : length starts < 65536
  pub long : length links ≡ 3 * length starts
  pub room : k ≤ length starts
  pub inside : (i : ℕ) → i < k → get_or starts i 0 < length l
  pub below : (at j : ℕ) → get_or links at 0 ≡ suc j → j < k
  pub onward : (at j : ℕ) → get_or links at 0 ≡ suc j → at < length starts + 2 * j
  pub cover : (i : ℕ) → i < k
      → Reached links (length starts) (root_of (length starts) (hash_of (piece_name l (get_or starts i 0))))
      (way_of (hash_of (piece_name l (get_or starts i 0)))) i

-- an entry of the table has the name that stands at `at`
pub record Hit (l starts : List ℕ) (k at : ℕ) : Type 0 where
  pub entry : ℕ
  pub below : entry < k
  pub same : piece_name l (get_or starts entry 0) ≡ piece_name l at

-- the walk by the hash h ends at this empty link
pub record Free (links : List ℕ) (n k h link : ℕ) : Type 0 where
  pub comes : Comes links n link (root_of n h) (way_of h)
  pub empty : get_or links link 0 ≡ 0
  pub low : link < n + 2 * k

-- no entry has the name that stands at `at`, and the walk to it ends at this empty link
pub record Missed (l links starts : List ℕ) (k at link : ℕ) : Type 0 where
  pub other : (i : ℕ) → i < k → piece_name l (get_or starts i 0) ≡ piece_name l at → ⊥
  pub free : Free links (length starts) k (hash_of (piece_name l at)) link

-- the entry that holds a start
pub record Slot (starts : List ℕ) (k p : ℕ) : Type 0 where
  pub entry : ℕ
  pub below : entry < k
  pub is : get_or starts entry 0 ≡ p

-- the entries are the starts from `from` up to `at`
pub record Filled (l starts : List ℕ) (k from at : ℕ) : Type 0 where
  pub begins : (i : ℕ) → i < k → Start l (get_or starts i 0)
  pub low : (i : ℕ) → i < k → from ≤ get_or starts i 0
  pub high : (i : ℕ) → i < k → get_or starts i 0 < at
  pub full : (p : ℕ) → from ≤ p → p < at → Start l p → Slot starts k p

-- a block from `from` is gathered up to `at`
pub record Block (l links starts : List ℕ) (k from at best : ℕ) : Type 0 where
  pub trees : Trees l links starts k
  pub holds : Filled l starts k from at
  pub from_low : from ≤ at
  pub at_high : at ≤ best
  pub best-in : best ≤ length l
  pub begins : at < best → Start l at
  pub apart : Distinct l at at

-- a block from `from` is gathered up to `at`, and the pieces before best are told apart from those before the block
pub record Gathered (l links starts : List ℕ) (k from at best : ℕ) : Type 0 where
  pub block : Block l links starts k from at best
  pub distinct : Distinct l from best
  pub better : Best l best

-- what a turn leaves: where the next block begins, and the new best
pub record Turn (l : List ℕ) (from mid best : ℕ) : Type 0 where
  pub distinct : Distinct l mid best
  pub better : Best l best
  pub further : from < mid
  pub begins : mid < best → Start l mid

-- the same of the struct
module _ (t : Table) where
  abbrev pub HasTrees : Type 0
  HasTrees = Trees t.pairs.now (links_of t) (starts_of t) t.count

  -- an entry has the name that stands at `at`
  abbrev pub Finds : ℕ → Type 0
  Finds at = Hit t.pairs.now (starts_of t) t.count at

  -- none has it, and the walk to it ends at this empty link
  abbrev pub Misses : ℕ → Link → Type 0
  Misses at link = HasLink t link × Missed t.pairs.now (links_of t) (starts_of t) t.count at (place t link)

  abbrev pub HasGathered : ℕ → ℕ → Type 0
  HasGathered at best = Gathered t.pairs.now (links_of t) (starts_of t) t.count t.from at best
