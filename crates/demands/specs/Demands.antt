-- The three demands as statements; proofs/ proves them for every image, request and list of calls.
use Rattle.std.specs.Prelude.{ℕ, ◌≤◌, ◌≡◌, List, [], ◌∷◌, ◌≢◌, ◌⊎◌, ◌↔◌, length, take, Ok}
use Rattle.lists.specs.Bytes.{AllBytes}
use Rattle.partitions.specs.declared.Partition.{Partition}
use Rattle.partitions.specs.Find.{check_of}
use Rattle.partitions.specs.Cover.{PartitionCount, area_at, OutsideKept}
use Rattle.values.specs.Rules.{Spells, Canonical}
use Rattle.pairs.specs.Rules.{Entry, WellFormed}
use Rattle.variables.specs.Rules.{Holds}
use Rattle.variables.specs.Calls.{Action, set_to, removal, read_into, Call, named, set, normalize, read, count}
use Rattle.nvram.specs.Common.{OnlyCommon}
use Rattle.nvram.specs.Calls.{call_image}
use Rattle.demands.specs.Requests.{Request, variable, check, partition, find, area, Seen, lends}
use Rattle.demands.specs.Table.{Answers}
use Rattle.demands.specs.Model.{run_model, canonical_area}
use Rattle.demands.specs.Library.{seen, run_image}

-- the value that a caller gives is bytes
abbrev pub ActionBytes : Action → Type 0
ActionBytes (set_to value) = AllBytes value
ActionBytes removal = Unit {0}
ActionBytes (read_into buffer) = Unit {0}

-- what a call is given is bytes
abbrev pub CallBytes : Call → Type 0
CallBytes (named name action) = ActionBytes action
CallBytes normalize = Unit {0}
CallBytes count = Unit {0}

-- what a request is given is bytes
abbrev pub RequestBytes : Request → Type 0
RequestBytes (variable call) = CallBytes call
RequestBytes check = Unit {0}
RequestBytes (partition n) = Unit {0}
RequestBytes (find signature name) = Unit {0}
RequestBytes (area signature name) = Unit {0}

-- what each of some calls is given is bytes
abbrev pub CallsBytes : List Call → Type 0
CallsBytes [] = Unit {0}
CallsBytes (call ∷ calls) = CallBytes call × CallsBytes calls

-- DEMAND 1, of a request on an image
pub record Demand1 (r : Request) (I : List ℕ) : Type 0 where
  -- the table's row holds of exactly what the call gives
  pub exactly : (s : Seen) → Answers I r s ↔ (seen r I ≡ s)
  -- every code from 1 up leaves image and buffer as they were, and answers nothing else
  pub image-kept : (seen r I).code ≢ 0 → (seen r I).image ≡ I
  pub buffer-kept : (seen r I).code ≢ 0 → (seen r I).buffer ≡ lends r
  pub nothing-told : (seen r I).code ≢ 0 → ((seen r I).amount ≡ 0) × ((seen r I).header ≡ 0) × ((seen r I).blocks ≡ 0) × ((seen r I).signature ≡ 0)
      × ((seen r I).part ≡ [])

-- DEMAND 2, of an image
pub record Demand2 (I : List ℕ) : Type 0 where
  -- accepted exactly when sound partitions cover it
  pub accepted : (n : ℕ) → (check_of I ≡ Ok n) ↔ PartitionCount I n
  -- a variable reads as the zero and 0xFF runs of its pair say
  pub reads : (p : Partition) (es : List Entry) (name value buffer : List ℕ) → OnlyCommon I p → WellFormed es (area_at I p.offset)
      → Holds name es value → length value ≤ length buffer → ((call_image (read name buffer) I).told.code ≡ 0)
      × ((call_image (read name buffer) I).told.amount ≡ length value) × (take (length value) (call_image (read name buffer) I).told.buffer ≡ value)
  -- what we write reads back the same
  pub reads-back : (name value buffer : List ℕ) → (call_image (set name value) I).told.code ≡ 0 → length value ≤ length buffer
      → ((call_image (read name buffer) (call_image (set name value) I).image).told.code ≡ 0)
      × ((call_image (read name buffer) (call_image (set name value) I).image).told.amount ≡ length value)
      × (take (length value) (call_image (read name buffer) (call_image (set name value) I).image).told.buffer ≡ value)
  -- in the fewest bytes the rule allows: the canonical form, which a set leaves by the table
  pub fewest : (value new stored : List ℕ) → Canonical value new → Spells stored value → length new ≤ length stored

-- some normalizing stands among the calls
abbrev pub Normalizes : List Call → Type 0
Normalizes [] = ⊥
Normalizes (call ∷ calls) = (call ≡ normalize) ⊎ Normalizes calls

-- DEMAND 3: an accepted image with exactly one `common`, p, whose area has the entries es, and a list of calls
pub record Demand3 (I : List ℕ) (p : Partition) (es : List Entry) (calls : List Call) : Type 0 where
  -- every call has answered as the model does, which sees only the calls
  pub told : (run_image calls I).told ≡ (run_model calls (record { room = length (area_at I p.offset); entries = es })).told
  -- afterwards p is still the only `common`; that no call on the way has made a second one, the shorter lists say
  pub one-common : OnlyCommon (run_image calls I).image p
  -- its area is well formed and holds exactly the model's entries, in its order
  pub entries : WellFormed (run_model calls (record { room = length (area_at I p.offset); entries = es })).model.entries
      (area_at (run_image calls I).image p.offset)
  -- no byte outside the area has changed
  pub outside : OutsideKept I p.offset (run_image calls I).image
  -- canonical from the start, or normalized on the way: the area is the canonical form of the final entries
  pub canonical : (area_at I p.offset ≡ canonical_area (length (area_at I p.offset)) es) ⊎ Normalizes calls
      → area_at (run_image calls I).image p.offset
      ≡ canonical_area (length (area_at I p.offset)) (run_model calls (record { room = length (area_at I p.offset); entries = es })).model.entries

-- all of it
pub record Demands : Type 0 where
  pub demand-1 : (r : Request) (I : List ℕ) → AllBytes I → RequestBytes r → Demand1 r I
  pub demand-2 : (I : List ℕ) → AllBytes I → Demand2 I
  pub demand-3 : (I : List ℕ) (p : Partition) (es : List Entry) (calls : List Call) → AllBytes I → CallsBytes calls
      → OnlyCommon I p → WellFormed es (area_at I p.offset) → Demand3 I p es calls
  -- a read or count changes no byte of any image
  pub read_keeps : (name buffer I : List ℕ) → (call_image (read name buffer) I).image ≡ I
  pub count-keeps : (I : List ℕ) → (call_image count I).image ≡ I
  -- a second normalizing changes nothing
  pub normalize-twice : (I : List ℕ) → (call_image normalize (call_image normalize I).image).image ≡ (call_image normalize I).image
