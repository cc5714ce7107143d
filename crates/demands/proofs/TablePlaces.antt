-- The image and the buffer that a call leaves: what the table says of them is true of one list of bytes alone.
use Prim.Native.Nat.{ℕ, ◌+◌, ◌≤◌}
use mathlib.Core.Path.{◌≡◌, refl, sym, ap, ◌∙◌}
use mathlib.Core.List.{List, ◌++◌}
use native.Mathlib.Omega.{arith}
use lib.ListN.{length, take, drop, length-drop, length-append, take-append-drop}
use lib.Seq.{take_at, drop_at}
use Rattle.lists.specs.Pasted.{pasted}
use Rattle.lists.proofs.PastedLaws.{pasted-first}
use Rattle.partitions.specs.declared.Partition.{Partition}
use Rattle.std.specs.Prelude.{Ok}
use Rattle.partitions.specs.Find.{area_of}
use Rattle.partitions.proofs.AreaLaws.{Among}
use Rattle.partitions.proofs.FrameLaws.{among-area, among-kept, kept-pasted, pasted-kept, area-new}
use Rattle.demands.specs.Table.{AreaBecomes, Holding}

module _ (I : List ℕ) (p : Partition) (m : Among I p) where
  -- the image with an area of the same length in its place
  pub pasted-becomes : (area' : List ℕ) → length area' ≡ length (area_of I (Ok p))
      → AreaBecomes I p.offset area' (pasted I (p.offset + 16) area')
  pasted-becomes area' n =
      let J : List ℕ = pasted I (p.offset + 16) area' in
      let k = pasted-kept I p m area' n in
      record { inside = sym (among-area J p (among-kept I p m J k)) ∙ area-new I p m area' n; outside = k }

  -- and there is no other
  pub becomes-pasted : {area' J : List ℕ} → AreaBecomes I p.offset area' J → pasted I (p.offset + 16) area' ≡ J
  becomes-pasted {area'} {J} b =
      let a : area_of J (Ok p) ≡ area' = among-area J p (among-kept I p m J b.outside) ∙ b.inside in
      ap (pasted I (p.offset + 16)) (sym a) ∙ kept-pasted I p m J b.outside

-- a value at the start of a buffer
module _ (value buffer : List ℕ) (fits : length value ≤ length buffer) where
  pub pasted-holding : Holding value buffer (pasted buffer 0 value)
  pasted-holding = rw (pasted-first buffer value) (record {
    start = take_at value _ (length value) refl;
    kept = drop_at value _ (length value) refl;
    long = omega (arith, length-append value (drop (length value) buffer), length-drop (length value) buffer);
  })

  pub holding-pasted : {buffer' : List ℕ} → Holding value buffer buffer' → pasted buffer 0 value ≡ buffer'
  holding-pasted {buffer'} h =
      pasted-first buffer value ∙ ap (λ (l : List ℕ). l ++ drop (length value) buffer) (sym h.start)
      ∙ ap (λ (l : List ℕ). take (length value) buffer' ++ l) (sym h.kept) ∙ take-append-drop (length value) buffer'
