-- A call on an image, by the caller's name and by what is found: it is the call on the area.
use Prim.Native.Nat.{ℕ, ◌+◌}
use mathlib.Core.Path.{◌≡◌, sym, ap, ◌∙◌}
use mathlib.Core.List.{List}
use Rattle.lists.specs.Pasted.{pasted}
use Rattle.errors.specs.declared.Error.{Error}
use Rattle.errors.specs.declared.Error.TheVariants.{BadName}
use Rattle.names.specs.Name.{good, wrong}
use Rattle.names.proofs.NameLaws.{split-check}
use Rattle.partitions.specs.declared.Partition.{Partition}
use Rattle.std.specs.Prelude.{Ok, Err}
use Rattle.partitions.specs.Find.{area_of}
use Rattle.partitions.proofs.AreaLaws.{among-inside, area-back}
use Rattle.variables.specs.Calls.{Call, lent, call_check, Outcome, call_area}
use Rattle.variables.proofs.CallLaws.{call-misnamed}
use Rattle.nvram.specs.Common.{common_of}
use Rattle.nvram.specs.Calls.{refusal, told_at, ImageOutcome, refused_call, call_found, call_image}
use Rattle.nvram.proofs.CommonLaws.{common-among}

-- an area put back as it was
pub area_same : (I : List ℕ) (p : Partition) → common_of I ≡ Ok p → pasted I (p.offset + 16) (area_of I (Ok p)) ≡ I
area_same I p e = area-back I p (among-inside I p (common-among I p e))

-- what a call makes of the area of the partition p, for the image
abbrev pub lifted : List ℕ → Partition → Outcome → ImageOutcome
lifted I p o = record { told = told_at (p.offset + 16) o.reply o.buffer; image = pasted I (p.offset + 16) o.area }

module _ (call : Call) (I : List ℕ) where
  pub image-misnamed : (at : ℕ) → call_check call ≡ wrong at → call_image call I ≡ refused_call (BadName at) call I
  unfolding call_image
  image-misnamed at w = rw w

  image-named : call_check call ≡ good → call_image call I ≡ call_found call I (common_of I)
  unfolding call_image
  image-named w = rw w

  pub image-refused : call_check call ≡ good → (e : Error) → common_of I ≡ Err e → call_image call I ≡ refused_call e call I
  image-refused w e f = image-named w ∙ ap (call_found call I) f

  -- A CALL ON AN IMAGE is the call on the area
  pub call-image : (p : Partition) → common_of I ≡ Ok p → call_image call I ≡ lifted I p (call_area call (area_of I (Ok p)))
  call-image p e =
      split-check (call_check call) (λ w. image-named w ∙ ap (call_found call I) e)
      (λ at w. image-misnamed at w ∙ (λ i. record { told = refusal (BadName at) (lent call); image = sym (area_same I p e) i })
      ∙ ap (lifted I p) (sym (call-misnamed call (area_of I (Ok p)) at w)))

  -- where nothing is found, the image stays
  pub image-unfound : (e : Error) → common_of I ≡ Err e → (call_image call I).image ≡ I
  image-unfound e f =
      split-check (call_check call)
      (λ w. ap (λ (r : ImageOutcome). r.image) (image-refused w e f))
      (λ at w. ap (λ (r : ImageOutcome). r.image) (image-misnamed at w))
