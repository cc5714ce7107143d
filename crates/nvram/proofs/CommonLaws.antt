-- The partition that holds the variables: what is found is what the rules say, and bytes changed in its area leave it.
use Prim.Native.Nat.{ℕ}
use mathlib.Core.Path.{◌≡◌, refl, ◌∙◌}
use mathlib.Core.List.{List}
use mathlib.Core.Logic.{◌↔◌}
use Rattle.lists.specs.Bytes.{AllBytes}
use Rattle.errors.specs.declared.Error.{Error}
use Rattle.partitions.specs.declared.Partition.{Partition}
use Rattle.partitions.specs.Find.{Found, only_of}
use Rattle.std.specs.Prelude.{Ok, Err}
use Rattle.partitions.specs.Cover.{OutsideKept}
use Rattle.partitions.proofs.OnlyLaws.{only-found, only-exactly, only-refuses}
use Rattle.partitions.proofs.AreaLaws.{Among, found_among}
use Rattle.partitions.proofs.FrameLaws.{only_kept}
use Rattle.nvram.specs.Common.{common_signature, common, OnlyCommon, NotOnlyCommon, common_of}

-- a case split on what is found that keeps the equation
pub split-found : {A : Type 0} (f : Found) → ((p : Partition) → f ≡ Ok p → A) → ((e : Error) → f ≡ Err e → A) → A
split-found (Ok p) g h = g p refl
split-found (Err e) g h = h e refl

-- what the code finds by the signature and the name
pub common-found : (I : List ℕ) → only_of I common_signature common ≡ common_of I
unfolding common_of
common-found I = refl

module _ (I : List ℕ) where
  module _ (bytes : AllBytes I) where
    -- FOUND exactly when it is the one that holds the variables
    pub common-exactly : (p : Partition) → (common_of I ≡ Ok p) ↔ OnlyCommon I p
    unfolding common_of
    common-exactly p = only-exactly I common_signature common bytes p

    -- REFUSED as the image check refuses, by 20 exactly at the second one, or by 6 exactly when there is none
    pub common-refuses : (e : Error) → (common_of I ≡ Err e) ↔ NotOnlyCommon I e
    unfolding common_of
    common-refuses e = only-refuses I common_signature common bytes e

  -- it is one of the partitions that cover the image
  pub common-among : (p : Partition) → common_of I ≡ Ok p → Among I p
  unfolding common_of
  common-among p e = found_among I common_signature common p (only-found I common_signature common p e)

  -- KEPT by what changes its area alone: no second one comes about
  pub common-kept : (p : Partition) → common_of I ≡ Ok p → (J : List ℕ) → OutsideKept I p.offset J → common_of J ≡ Ok p
  unfolding common_of
  common-kept p e J k = only_kept I p (common-among p e) J k common_signature common ∙ e
