-- What `step_at` answers, by the tests that the code makes.
use Prim.Native.Nat.{ℕ, ◌+◌, ◌-◌, ◌≤◌, ◌<◌}
use mathlib.Core.Path.{◌≡◌, ap, subst, sym, ◌∙◌}
use mathlib.Core.List.{List}
use lib.ListN.{length}
use borrow.Author.Tests.{le-leb, lt-leb}
use Rattle.header.specs.declared.Blocks.{Blocks}
use Rattle.header.specs.declared.Bytes.{Bytes}
use Rattle.errors.specs.declared.Error.{Error}
use Rattle.header.specs.Header.{Validity, header_at, bytes_of, validity_at}
use Rattle.header.proofs.ValidityLaws.{valid-fits}
use Rattle.partitions.specs.Walk.{Stepped, onward, step_at, step_by, partition_of, past_of}
use Rattle.std.specs.Prelude.{Ok, Err, Some, None}

module _ (image : List ℕ) (at : ℕ) where
  pub step_end : length image ≤ at → step_at image at ≡ Ok None
  unfolding step_at
  step_end h = rw (le-leb _ _ h)

  pub step_by_lem : at < length image → step_at image at ≡ step_by image at (validity_at image at)
  unfolding step_at
  step_by_lem h = rw (lt-leb _ _ h)

  pub step-next : at < length image → validity_at image at ≡ Ok tt → step_at image at ≡ Ok (Some (onward image at))
  step-next h e = step_by_lem h ∙ ap (step_by image at) e

  pub step-broken : at < length image → (e : Error) → validity_at image at ≡ Err e → step_at image at ≡ Err e
  step-broken h e v = step_by_lem h ∙ ap (step_by image at) v

  -- the same of what the code has read
  module _ (v : Validity) (ev : v ≡ validity_at image at) where
    module _ (valid : v ≡ Ok tt) (l : Blocks) (el : l ≡ (header_at image at).length) (b : Bytes) (eb : b ≡ bytes_of l) where
      past : b ≡ bytes_of (header_at image at).length
      past = eb ∙ ap bytes_of el

      pub read_fits : b.0 ≤ length image - at
      read_fits =
          subst (λ (x : Bytes). x.0 ≤ length image - at) (sym past)
          (valid-fits image at (sym ev ∙ valid))

      pub read_next : at < length image → (s : ℕ) → s ≡ (header_at image at).signature
          → ◌≡◌ {A = Stepped}
          (Ok (Some (record { here = record { offset = at; blocks = l; signature = s }; next = record { at = at + b.0 } })))
          (step_at image at)
      unfolding partition_of past_of
      read_next h s es =
          (λ i. Ok (Some (record { here = record { offset = at; blocks = el i; signature = es i }; next = record { at = at + (past i).0 } })))
          ∙ sym (step-next h (sym ev ∙ valid))

    pub read-broken : at < length image → (e : Error) → v ≡ Err e → Err e ≡ step_at image at
    read-broken h e q = sym (step-broken h e (sym ev ∙ q))
