-- What the library answers to a request, and to a list of calls.
use Rattle.std.specs.Prelude.{ℕ, List, [], ◌∷◌, Result}
use Rattle.errors.specs.declared.Error.{Error}
use Rattle.partitions.specs.Find.{Found, check_of, index_of, find_of}
use Rattle.partitions.specs.Views.{check_answer, find_answer, area_answer}
use Rattle.variables.specs.Calls.{Call}
use Rattle.nvram.specs.Calls.{Told, ImageOutcome, call_image}
use Rattle.demands.specs.Requests.{Request, variable, check, partition, find, area, Seen}

-- what is seen of a call on variables
abbrev pub seen_call : ImageOutcome → Seen
seen_call r =
    record {
      code = r.told.code;
      offset = r.told.offset;
      amount = r.told.amount;
      header = 0;
      blocks = 0;
      signature = 0;
      part = [];
      buffer = r.told.buffer;
      image = r.image;
    }

-- of the image check
abbrev pub seen_check : Result ℕ Error → List ℕ → Seen
seen_check c I =
    record {
      code = (check_answer c).code;
      offset = (check_answer c).offset;
      amount = (check_answer c).value;
      header = 0;
      blocks = 0;
      signature = 0;
      part = [];
      buffer = [];
      image = I;
    }

-- of a partition, by its index or by its name
abbrev pub seen_find : Found → List ℕ → Seen
seen_find f I =
    record {
      code = (find_answer f).code;
      offset = (find_answer f).offset;
      amount = 0;
      header = (find_answer f).value.offset;
      blocks = (find_answer f).value.blocks.0;
      signature = (find_answer f).value.signature;
      part = [];
      buffer = [];
      image = I;
    }

-- of its data area
abbrev pub seen_area : Found → List ℕ → Seen
seen_area f I =
    record {
      code = (area_answer I f).code;
      offset = (area_answer I f).offset;
      amount = 0;
      header = 0;
      blocks = 0;
      signature = 0;
      part = (area_answer I f).value;
      buffer = [];
      image = I;
    }

-- what the library answers to a request on an image
abbrev pub seen : Request → List ℕ → Seen
seen (variable call) I = seen_call (call_image call I)
seen check I = seen_check (check_of I) I
seen (partition n) I = seen_find (index_of I n) I
seen (find signature name) I = seen_find (find_of I signature name) I
seen (area signature name) I = seen_area (find_of I signature name) I

-- a list of calls: each gets the image as the last one left it
pub record Results : Type 0 where
  pub told : List Told
  pub image : List ℕ

-- what they tell, in their order, and the image after the last
unfoldable pub run_image : List Call → List ℕ → Results
run_image [] image = record { told = []; image = image }
run_image (call ∷ calls) image =
    let r : ImageOutcome = call_image call image in
    let rs : Results = run_image calls r.image in
    record { told = r.told ∷ rs.told; image = rs.image }
