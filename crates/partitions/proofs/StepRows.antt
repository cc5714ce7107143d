-- What a caller sees of a step of the walk is its row, and a row that holds is what is seen.
use Prim.Native.Nat.{ℕ, ◌<◌}
use mathlib.Core.Path.{◌≡◌, ap, sym, subst, ◌∙◌}
use mathlib.Core.Logic.{◌↔◌}
use mathlib.Core.List.{List}
use native.Mathlib.Omega.{arith}
use lib.ListN.{length}
use Rattle.lists.specs.Bytes.{AllBytes}
use Rattle.errors.specs.declared.HeaderFault.{HeaderFault}
use Rattle.errors.specs.declared.HeaderFault.TheVariants.{ZeroLength, PastEnd, Checksum}
use Rattle.errors.specs.declared.Error.TheVariants.{BadHeader}
use Rattle.header.specs.Rules.{Sound, Breaks}
use Rattle.header.proofs.ValidityLaws.{invalid-here}
use Rattle.header.proofs.RuleLaws.{valid-exactly, invalid-exactly, sound-valid, breaks-invalid}
use Rattle.partitions.specs.Walk.{Stepped, onward, step_at}
use Rattle.std.specs.Prelude.{Ok, Err, Option, Some, None}
use Rattle.partitions.specs.declared.Step.{Step}
use Rattle.errors.specs.declared.Answer.{Answer}
use Rattle.errors.specs.Answer.{refused_answer}
use Rattle.partitions.specs.Views.{step_answer}
use Rattle.partitions.specs.Cover.{partition_at, past_at, StepRow, shows, ends, step-two, step-three, step-four}
use Rattle.partitions.proofs.StepLaws.{step_end, step-next, step-broken}
use Rattle.partitions.proofs.WalkLaws.{View, ends as at-end, goes, breaks, view}
use Rattle.partitions.proofs.CoverLaws.{partition-same, past_same}

module _ (image : List ℕ) (at : ℕ) (bytes : AllBytes image) where
  -- the step that a sound header makes
  abbrev sound-step : Stepped
  sound-step = Ok (Some (record { here = partition_at image at; next = record { at = past_at image at } }))

  onward-same : ◌≡◌ {A = Stepped} (Ok (Some (onward image at))) sound-step
  onward-same = λ i. Ok (Some (record { here = partition-same image at i; next = record { at = past_same image at i } }))

  onward-row : Sound image at → StepRow image at (step_answer sound-step)
  unfolding partition_at
  onward-row s = shows s

  -- what is seen where a header has a fault
  abbrev fault_answer : HeaderFault → Answer (Option Step)
  fault_answer f = refused_answer None (BadHeader f at)

  fault-row : at < length image → (f : HeaderFault) → Breaks image at f → StepRow image at (fault_answer f)
  fault-row l ZeroLength b = step-two l b
  fault-row l PastEnd b = step-three l b
  fault-row l Checksum b = step-four l b

  step_row : (s : Stepped) → View image at s → StepRow image at (step_answer s)
  step_row (Ok None) (at-end l) = ends l
  step_row (Ok (Some s)) (goes l e) =
      subst (λ (s : Stepped). StepRow image at (step_answer s)) (sym onward-same) (onward-row ((valid-exactly image at bytes).0 e))
  step_row (Err x) (breaks l e) =
      let h = invalid-here image at x e in
      rw h.1 (fault-row l h.0 ((invalid-exactly image at bytes h.0).0 (e ∙ ap Err h.1)))

  broken-seen : {f : HeaderFault} → at < length image → Breaks image at f → step_answer (step_at image at) ≡ fault_answer f
  broken-seen {f} l b = ap step_answer (step-broken image at l (BadHeader f at) (breaks-invalid image at bytes b))

  row_step : {s : Answer (Option Step)} → StepRow image at s → step_answer (step_at image at) ≡ s
  unfolding partition_at
  row_step (shows x) =
      let l : at < length image = omega (arith, x.nonzero, x.inside) in
      ap step_answer (step-next image at l (sound-valid image at bytes x) ∙ onward-same)
  row_step (ends l) = ap step_answer (step_end image at l)
  row_step (step-two l b) = broken-seen l b
  row_step (step-three l b) = broken-seen l b
  row_step (step-four l b) = broken-seen l b

  -- A STEP ANSWERS exactly by its row
  pub step-exactly : (s : Answer (Option Step)) → (step_answer (step_at image at) ≡ s) ↔ StepRow image at s
  step-exactly s = (λ e. subst (StepRow image at) e (step_row (step_at image at) (view image at)), row_step)
