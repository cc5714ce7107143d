-- A second normalizing changes no byte of any image, not even of one whose numbers are no bytes.
use Prim.Native.Nat.{ℕ, ◌+◌}
use mathlib.Core.Path.{◌≡◌, sym, ap, ◌∙◌}
use mathlib.Core.List.{List}
use Rattle.lists.specs.Pasted.{pasted}
use Rattle.partitions.specs.declared.Partition.{Partition}
use Rattle.std.specs.Prelude.{Ok}
use Rattle.partitions.specs.Find.{area_of}
use Rattle.partitions.proofs.FrameLaws.{pasted-kept, area-new}
use Rattle.variables.specs.Calls.{normalize, call_area}
use Rattle.variables.proofs.KeptLaws.{twice}
use Rattle.nvram.specs.Common.{common_of}
use Rattle.nvram.specs.Calls.{ImageOutcome, call_image}
use Rattle.nvram.proofs.CommonLaws.{split-found, common-among, common-kept}
use Rattle.nvram.proofs.CallLaws.{area_same, call-image, image-unfound}

twice-at : (I : List ℕ) (p : Partition) → common_of I ≡ Ok p
    → (call_image normalize (call_image normalize I).image).image ≡ (call_image normalize I).image
twice-at I p e =
    let m = common-among I p e in
    let t = twice (area_of I (Ok p)) in
    let area : List ℕ = (call_area normalize (area_of I (Ok p))).area in
    let J : List ℕ = pasted I (p.offset + 16) area in
    let q : (call_image normalize I).image ≡ J = ap (λ (r : ImageOutcome). r.image) (call-image normalize I p e) in
    let f : common_of J ≡ Ok p = common-kept I p e J (pasted-kept I p m area t.long) in
    let w : area_of J (Ok p) ≡ area = area-new I p m area t.long in
    ap (λ (x : List ℕ). (call_image normalize x).image) q
    ∙ ap (λ (r : ImageOutcome). r.image) (call-image normalize J p f)
    ∙ ap (λ (x : List ℕ). pasted J (p.offset + 16) (call_area normalize x).area) w
    ∙ ap (pasted J (p.offset + 16)) (t.same ∙ sym w) ∙ area_same J p f ∙ sym q

-- A SECOND NORMALIZING CHANGES NOTHING
pub normalize-twice : (I : List ℕ) → (call_image normalize (call_image normalize I).image).image ≡ (call_image normalize I).image
normalize-twice I =
    split-found (common_of I) (twice-at I) (λ x e. ap (λ (J : List ℕ). (call_image normalize J).image) (image-unfound normalize I x e))
