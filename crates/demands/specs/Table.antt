-- The table of codes (document 01: numbers) as one relation: a row for each, its premises in the order of checks, in relations on bytes.
-- Nothing here computes an answer; what computes at all (`area_at`, `length`, `take`, `drop`) only takes bytes of the image or the buffer.
use Rattle.std.specs.Prelude.{ℕ, ◌+◌, ◌≤◌, ◌<◌, ◌≡◌, List, [], ◌∷◌, length, drop, take}
use Rattle.errors.specs.declared.HeaderFault.TheVariants.{ZeroLength, PastEnd, Checksum}
use Rattle.errors.specs.declared.AreaFault.TheVariants.{AreaEnd, StoredName, Escape, Repeated}
use Rattle.header.specs.Rules.{Breaks}
use Rattle.partitions.specs.declared.Partition.{Partition}
use Rattle.partitions.specs.Cover.{LengthRule, Cover, PartitionCount, FirstNamed, NotNamed, Indexed, NotIndexed, area_at, OutsideKept}
use Rattle.names.specs.Rules.{NameRule, FirstWrong}
use Rattle.pairs.specs.Rules.{Entry, In, Pairs, Once, FaultAt}
use Rattle.variables.specs.Rules.{Holds, SetSize, SetLeaves, RemoveLeaves, NormalizeLeaves}
use Rattle.variables.specs.Calls.{Action, Call, named, set, remove, normalize, read, count}
use Rattle.nvram.specs.Common.{OnlyCommon, SecondCommon, NoCommon}
use Rattle.demands.specs.Requests.{Request, variable, check, partition, find, area, Seen, refuses, tells, shows, hands}

-- the requests that take a variable's name
pub data Takes : Request → List ℕ → Type 0 where
  by_name : {name : List ℕ} {action : Action} → Takes (variable (named name action)) name

-- not 11
abbrev pub WellNamed : Request → Type 0
WellNamed r = (name : List ℕ) → Takes r name → NameRule name

-- not 11, not 1; sound headers lead up to a, where another should stand
pub record AtHeader (r : Request) (I : List ℕ) (a : ℕ) : Type 0 where
  pub named : WellNamed r
  pub long : LengthRule (length I)
  pub before : List Partition
  pub cover : Cover I 0 a before
  pub within : a < length I

-- the image is accepted, and has no partition that the request asks for
pub data Absent (I : List ℕ) : Request → Type 0 where
  no-common : {call : Call} → NoCommon I → Absent I (variable call)
  no_index : {n : ℕ} → NotIndexed I n → Absent I (partition n)
  no_name : {signature : ℕ} {name : List ℕ} → NotNamed I signature name → Absent I (find signature name)
  no-area : {signature : ℕ} {name : List ℕ} → NotNamed I signature name → Absent I (area signature name)

-- not 11, not 1 to 4, not 20, not 6: exactly one `common`, at a; its area begins with good pairs, no name twice, and then comes rest
pub record AtPair (call : Call) (I : List ℕ) (a : ℕ) (es : List Entry) (rest : List ℕ) : Type 0 where
  pub named : WellNamed (variable call)
  pub partition : Partition
  pub holds : OnlyCommon I partition
  pub at_offset : partition.offset ≡ a
  pub pairs : Pairs es (area_at I a) rest
  pub once : Once es

-- the image afterwards differs in the area alone
pub record AreaBecomes (I : List ℕ) (a : ℕ) (area J : List ℕ) : Type 0 where
  pub inside : area_at J a ≡ area
  pub outside : OutsideKept I a J

-- a value at the start of a buffer, and the bytes after it kept
pub record Holding (value buffer buffer' : List ℕ) : Type 0 where
  pub start : take (length value) buffer' ≡ value
  pub kept : drop (length value) buffer' ≡ drop (length value) buffer
  pub long : length buffer' ≡ length buffer

-- all that is seen of a request on the image I, row by row
pub data Answers (I : List ℕ) : Request → Seen → Type 0 where
  -- caller's variable name breaks the name rule; the offset is the index at which it does so first
  eleven : {r : Request} {name : List ℕ} {i : ℕ} → Takes r name → FirstWrong name i → Answers I r (refuses r I 11 i)
  -- image length outside the rule
  one : {r : Request} → WellNamed r → ¬ (LengthRule (length I)) → Answers I r (refuses r I 1 0)
  -- length field is zero
  two : {r : Request} {a : ℕ} → AtHeader r I a → Breaks I a ZeroLength → Answers I r (refuses r I 2 a)
  -- partition runs past the image's end
  three : {r : Request} {a : ℕ} → AtHeader r I a → Breaks I a PastEnd → Answers I r (refuses r I 3 a)
  -- stored and computed checksum differ
  four : {r : Request} {a : ℕ} → AtHeader r I a → Breaks I a Checksum → Answers I r (refuses r I 4 a)
  -- more than one `common`, for a call on variables; the offset is that of the second one's header
  twenty : {call : Call} {p : Partition} → WellNamed (variable call) → SecondCommon I p
      → Answers I (variable call) (refuses (variable call) I 20 p.offset)
  -- partition not found
  six : {r : Request} → WellNamed r → Absent I r → Answers I r (refuses r I 6 0)
  -- area ends inside a pair, or where a pair or the end should begin; the offset is just past the area
  seven : {call : Call} {a k : ℕ} {es : List Entry} {rest : List ℕ} → AtPair call I a es rest → FaultAt (length (area_at I a)) es rest AreaEnd k
      → Answers I (variable call) (refuses (variable call) I 7 (a + 16 + k))
  -- stored name breaks the name rule; the offset is that of the byte
  eight : {call : Call} {a k : ℕ} {es : List Entry} {rest : List ℕ} → AtPair call I a es rest → FaultAt (length (area_at I a)) es rest StoredName k
      → Answers I (variable call) (refuses (variable call) I 8 (a + 16 + k))
  -- 0xFF followed by 0x00 or 0x80; the offset is that of the second byte
  nine : {call : Call} {a k : ℕ} {es : List Entry} {rest : List ℕ} → AtPair call I a es rest → FaultAt (length (area_at I a)) es rest Escape k
      → Answers I (variable call) (refuses (variable call) I 9 (a + 16 + k))
  -- name stands a second time; the offset is that of the later pair
  ten : {call : Call} {a k : ℕ} {es : List Entry} {rest : List ℕ} → AtPair call I a es rest → FaultAt (length (area_at I a)) es rest Repeated k
      → Answers I (variable call) (refuses (variable call) I 10 (a + 16 + k))
  -- variable not found
  twelve-read : {a : ℕ} {es : List Entry} {name buffer padding : List ℕ} → AtPair (read name buffer) I a es (0x00 ∷ padding)
      → ¬ (In name es) → Answers I (variable (read name buffer)) (refuses (variable (read name buffer)) I 12 0)
  twelve-remove : {a : ℕ} {es : List Entry} {name padding : List ℕ} → AtPair (remove name) I a es (0x00 ∷ padding)
      → ¬ (In name es) → Answers I (variable (remove name)) (refuses (variable (remove name)) I 12 0)
  -- pairs and ending 0x00 after the edit exceed the area
  thirteen : {a n : ℕ} {es : List Entry} {name value padding : List ℕ} → AtPair (set name value) I a es (0x00 ∷ padding)
      → SetSize name value es n → length (area_at I a) < n + 1
      → Answers I (variable (set name value)) (refuses (variable (set name value)) I 13 0)
  -- caller's buffer shorter than the value
  fourteen : {a : ℕ} {es : List Entry} {name buffer value padding : List ℕ} → AtPair (read name buffer) I a es (0x00 ∷ padding)
      → Holds name es value → length buffer < length value
      → Answers I (variable (read name buffer)) (refuses (variable (read name buffer)) I 14 0)
  -- done: a set
  done-set : {a n : ℕ} {es : List Entry} {name value padding area' J : List ℕ} → AtPair (set name value) I a es (0x00 ∷ padding)
      → SetSize name value es n → n + 1 ≤ length (area_at I a) → SetLeaves name value (area_at I a) area' → AreaBecomes I a area' J
      → Answers I (variable (set name value)) (tells 0 [] J)
  -- done: a removal
  done-remove : {a : ℕ} {es : List Entry} {name value padding area' J : List ℕ} → AtPair (remove name) I a es (0x00 ∷ padding)
      → Holds name es value → RemoveLeaves name (area_at I a) area' → AreaBecomes I a area' J
      → Answers I (variable (remove name)) (tells 0 [] J)
  -- done: normalizing
  done-normalize : {a : ℕ} {es : List Entry} {padding area' J : List ℕ} → AtPair normalize I a es (0x00 ∷ padding)
      → NormalizeLeaves (area_at I a) area' → AreaBecomes I a area' J → Answers I (variable normalize) (tells 0 [] J)
  -- done: a read
  done-read : {a : ℕ} {es : List Entry} {name buffer value padding buffer' : List ℕ} → AtPair (read name buffer) I a es (0x00 ∷ padding)
      → Holds name es value → length value ≤ length buffer → Holding value buffer buffer'
      → Answers I (variable (read name buffer)) (tells (length value) buffer' I)
  -- done: a count of variables
  done-count : {a : ℕ} {es : List Entry} {padding : List ℕ} → AtPair count I a es (0x00 ∷ padding)
      → Answers I (variable count) (tells (length es) [] I)
  -- done: the image check, a partition by index, by name, and its area
  done-check : {n : ℕ} → PartitionCount I n → Answers I check (tells n [] I)
  done-partition : {n : ℕ} {p : Partition} → Indexed I n p → Answers I (partition n) (shows p I)
  done-find : {signature : ℕ} {name : List ℕ} {p : Partition} → FirstNamed I signature name p → Answers I (find signature name) (shows p I)
  done-area : {signature : ℕ} {name : List ℕ} {p : Partition} → FirstNamed I signature name p
      → Answers I (area signature name) (hands (area_at I p.offset) I)
