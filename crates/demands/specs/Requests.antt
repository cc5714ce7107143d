-- What a caller may ask of an image, and what it sees.
use Rattle.std.specs.Prelude.{ℕ, List, []}
use Rattle.partitions.specs.declared.Partition.{Partition}
use Rattle.variables.specs.Calls.{Call, lent}

-- what a caller may ask of an image
pub data Request : Type 0 where
  variable : Call → Request
  check : Request
  partition : ℕ → Request
  find : ℕ → List ℕ → Request
  area : ℕ → List ℕ → Request

-- all that the caller sees: code, offset, a length or count, a partition's header offset, blocks and signature, a part of the
-- image, and buffer and image afterwards
pub record Seen : Type 0 where
  pub code : ℕ
  pub offset : ℕ
  pub amount : ℕ
  pub header : ℕ
  pub blocks : ℕ
  pub signature : ℕ
  pub part : List ℕ
  pub buffer : List ℕ
  pub image : List ℕ

-- the buffer that a request lends
abbrev pub lends : Request → List ℕ
lends (variable call) = lent call
lends check = []
lends (partition n) = []
lends (find signature name) = []
lends (area signature name) = []

-- a code from 1 up: nothing else is answered, and buffer and image are as they were
abbrev pub refuses : Request → List ℕ → ℕ → ℕ → Seen
refuses r I code offset =
    record { code = code; offset = offset; amount = 0; header = 0; blocks = 0; signature = 0; part = []; buffer = lends r; image = I }

-- done, with a length or count
abbrev pub tells : ℕ → List ℕ → List ℕ → Seen
tells amount buffer image =
    record { code = 0; offset = 0; amount = amount; header = 0; blocks = 0; signature = 0; part = []; buffer = buffer; image = image }

-- done, with a partition
abbrev pub shows : Partition → List ℕ → Seen
shows p I =
    record {
      code = 0;
      offset = 0;
      amount = 0;
      header = p.offset;
      blocks = p.blocks.0;
      signature = p.signature;
      part = [];
      buffer = [];
      image = I;
    }

-- done, with a part of the image
abbrev pub hands : List ℕ → List ℕ → Seen
hands part I =
    record { code = 0; offset = 0; amount = 0; header = 0; blocks = 0; signature = 0; part = part; buffer = []; image = I }
