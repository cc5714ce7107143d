-- A read or a count changes no byte of any image.
use Prim.Native.Nat.{ℕ, ◌+◌}
use mathlib.Core.Path.{◌≡◌, ap, ◌∙◌}
use mathlib.Core.List.{List}
use Rattle.lists.specs.Pasted.{pasted}
use Rattle.std.specs.Prelude.{Ok}
use Rattle.partitions.specs.Find.{area_of}
use Rattle.variables.specs.Calls.{Call, read, count, call_area}
use Rattle.variables.proofs.KeptLaws.{read-area, count-area}
use Rattle.nvram.specs.Common.{common_of}
use Rattle.nvram.specs.Calls.{ImageOutcome, call_image}
use Rattle.nvram.proofs.CommonLaws.{split-found}
use Rattle.nvram.proofs.CallLaws.{area_same, call-image, image-unfound}

-- a call that leaves every area leaves every image
pub image-kept : (call : Call) (I : List ℕ) → ((area : List ℕ) → (call_area call area).area ≡ area) → (call_image call I).image ≡ I
image-kept call I k =
    split-found (common_of I)
    (λ p e. ap (λ (r : ImageOutcome). r.image) (call-image call I p e) ∙ ap (pasted I (p.offset + 16)) (k (area_of I (Ok p))) ∙ area_same I p e)
    (image-unfound call I)

-- A READ CHANGES NO BYTE
pub read_keeps : (name buffer I : List ℕ) → (call_image (read name buffer) I).image ≡ I
read_keeps name buffer I = image-kept (read name buffer) I (read-area name buffer)

-- AND NEITHER DOES A COUNT
pub count-keeps : (I : List ℕ) → (call_image count I).image ≡ I
count-keeps I = image-kept count I count-area
