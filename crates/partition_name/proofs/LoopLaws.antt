-- The comparison of a stored name with the one that a caller gives, byte by byte.
use Prim.Native.Nat.{ℕ, ◌+◌, ◌≤◌, ◌<◌}
use mathlib.Core.Path.{◌≡◌, ap, sym, ◌∙◌}
use mathlib.Core.Bool.{true, false, ◌&&◌, ◌||◌}
use mathlib.Core.List.{List, []}
use native.Mathlib.Numerals.{add-one}
use native.Mathlib.Omega.{arith}
use lib.ListN.{length, drop, get_or, drop_of_length-le}
use lib.Seq.{drop-cons}
use lib.Dec.{eqb}
use borrow.Author.Tests.{eq-eqb, ne_eqb, le-leb, lt-leb}
use Rattle.partition_name.specs.Name.{same_name, padded, matches_name}
use Rattle.partition_name.proofs.MatchLaws.{padded-at, length-padded}

-- one comparison and the rest
same_step : (a b : List ℕ) (i : ℕ) → i < length a → i < length b
    → same_name (drop i a) (drop i b) ≡ (eqb (get_or a i 0) (get_or b i 0) && (eqb (get_or a i 0) 0 || same_name (drop (i + 1) a) (drop (i + 1) b)))
unfolding same_name
same_step a b i ha hb = rw (add-one, drop-cons a i 0 ha, drop-cons b i 0 hb)

module _ (stored given : List ℕ) where
  pub not-twelve : (length stored ≡ 12 → ⊥) → false ≡ matches_name stored given
  unfolding matches_name
  not-twelve n = rw (ne_eqb (length stored) 12 n)

  pub too_long : length stored ≡ 12 → 12 < length given → false ≡ matches_name stored given
  unfolding matches_name
  too_long t h = rw (eq-eqb (length stored) 12 t, lt-leb (length given) 12 h)

  -- the names match exactly when their bytes from i on are the same: those before i agree, and none of them is 0x00
  pub record Agree (i : ℕ) : Type 0 where
    pub twelve : length stored ≡ 12
    pub short : length given ≤ 12
    pub rest : same_name (drop i stored) (drop i (padded given)) ≡ matches_name stored given

  pub agree-none : length stored ≡ 12 → length given ≤ 12 → Agree 0
  unfolding matches_name
  agree-none t s = record { twelve = t; short = s; rest = rw (eq-eqb (length stored) 12 t, le-leb (length given) 12 s) }

  module _ (i : ℕ) (inv : Agree i) where
    module _ (h : i < 12) (b : ℕ) (eb : b ≡ get_or given i 0) where
      step : (eqb (get_or stored i 0) b && (eqb (get_or stored i 0) 0 || same_name (drop (i + 1) stored) (drop (i + 1) (padded given))))
          ≡ matches_name stored given
      step =
          ap (λ (k : ℕ). eqb (get_or stored i 0) k && (eqb (get_or stored i 0) 0 || same_name (drop (i + 1) stored) (drop (i + 1) (padded given))))
          (eb ∙ sym (padded-at given i))
          ∙ sym (same_step stored (padded given) i (omega (arith, inv.twelve)) (omega (arith, length-padded given inv.short)))
          ∙ inv.rest

      pub agree-differs : (get_or stored i 0 ≡ b → ⊥) → false ≡ matches_name stored given
      agree-differs d = rw (ne_eqb _ _ d) at step

      pub agree-zero : get_or stored i 0 ≡ b → b ≡ 0 → true ≡ matches_name stored given
      agree-zero e z = rw (eq-eqb _ _ e, eq-eqb _ _ (e ∙ z)) at step

      pub agree-next : get_or stored i 0 ≡ b → (b ≡ 0 → ⊥) → Agree (i + 1)
      agree-next e n =
          record { twelve = inv.twelve; short = inv.short; rest = rw (eq-eqb _ _ e, ne_eqb _ _ (λ z. n (sym e ∙ z))) at step }

    pub agree-all : 12 ≤ i → true ≡ matches_name stored given
    unfolding same_name
    agree-all h =
        let e : drop i stored ≡ [] = drop_of_length-le stored {i = i} (omega (arith, inv.twelve)) in
        let f : drop i (padded given) ≡ [] = drop_of_length-le (padded given) {i = i} (omega (arith, length-padded given inv.short)) in
        rw (e, f) at inv.rest
