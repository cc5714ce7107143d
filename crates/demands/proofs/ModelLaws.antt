-- The model's lookup, edits, sizes and canonical form are those of the pairs.
use Prim.Native.Nat.{ℕ, ◌+◌, ◌-◌}
use mathlib.Core.Path.{◌≡◌, refl, sym, ap, ◌∙◌}
use mathlib.Core.Bool.{Bool, true, false, ◌&&◌}
use mathlib.Core.List.{List, [], ◌∷◌, ◌++◌, append-nil}
use native.Mathlib.Omega.{arith}
use lib.ListN.{length, replicate}
use lib.Dec.{eqb}
use Rattle.lists.specs.Bytes.{same_bytes}
use Rattle.lists.proofs.Tests.{split}
use Rattle.values.specs.Value.{decode, encode}
use Rattle.values.proofs.EncodeLaws.{decode-encode}
use Rattle.pairs.specs.Area.{Pair, pairs_bytes}
use Rattle.variables.specs.Edits.{area_bytes, canonical_pair, set_pair, remove_pair, normalize_pairs, Lookup, found, missing, lookup}
use Rattle.pairs.specs.Rules.{Entry}
use Rattle.pairs.proofs.ParseLaws.{pairs-none, length-pair, length_pairs, pair-front}
use Rattle.variables.proofs.EditLaws.{area-is, set-none, set_first, set_next, remove-none, remove_first, remove-next, lookup-none, lookup_first, lookup-next, normalize-none, normalize-more}
use Rattle.pairs.proofs.EntryLaws.{entry_of, entries_of}
use Rattle.demands.specs.Model.{same, new_entry, total, set_entry, drop_entry, new_sizes, Value, some, none, value_of, canonical_bytes, canonical_area}

-- ---- names

pub same_bytes_lem : (xs ys : List ℕ) → same xs ys ≡ same_bytes xs ys
unfolding same same_bytes
same_bytes_lem [] [] = refl
same_bytes_lem [] (y ∷ ys) = refl
same_bytes_lem (x ∷ xs) [] = refl
same_bytes_lem (x ∷ xs) (y ∷ ys) = ap (λ (b : Bool). eqb x y && b) (same_bytes_lem xs ys)

-- the model's edits and lookup at the first entry
module _ (name : List ℕ) (e : Entry) (es : List Entry) (t : same_bytes name e.name ≡ true) where
  entry-set-first : (value : List ℕ) → set_entry name value (e ∷ es) ≡ new_entry name value ∷ es
  unfolding set_entry
  entry-set-first value = rw (same_bytes_lem name e.name ∙ t, set_entry)

  entry-drop-first : drop_entry name (e ∷ es) ≡ es
  unfolding drop_entry
  entry-drop-first = rw (same_bytes_lem name e.name ∙ t, drop_entry)

  value-first : value_of name (e ∷ es) ≡ some e.value
  unfolding value_of
  value-first = rw (same_bytes_lem name e.name ∙ t, value_of)

module _ (name : List ℕ) (e : Entry) (es : List Entry) (t : same_bytes name e.name ≡ false) where
  entry-set-next : (value : List ℕ) → set_entry name value (e ∷ es) ≡ e ∷ set_entry name value es
  unfolding set_entry
  entry-set-next value = rw (same_bytes_lem name e.name ∙ t, set_entry)

  entry-drop-next : drop_entry name (e ∷ es) ≡ e ∷ drop_entry name es
  unfolding drop_entry
  entry-drop-next = rw (same_bytes_lem name e.name ∙ t, drop_entry)

  value-next : value_of name (e ∷ es) ≡ value_of name es
  unfolding value_of
  value-next = rw (same_bytes_lem name e.name ∙ t, value_of)

-- ---- edits

canonical-entry : (name value : List ℕ) → entry_of (canonical_pair name value) ≡ new_entry name value
canonical-entry name value = λ i. record { name = name; value = decode-encode value i; size = length-pair (canonical_pair name value) i }

pub entries-set : (name value : List ℕ) (ps : List Pair) → entries_of (set_pair name value ps) ≡ set_entry name value (entries_of ps)
unfolding set_entry
entries-set name value [] = ap entries_of (set-none name value) ∙ (λ i. canonical-entry name value i ∷ [])
entries-set name value (p ∷ ps) =
    split (same_bytes name p.name)
    (λ t. ap entries_of (set_first name p ps t value) ∙ (λ i. canonical-entry name value i ∷ entries_of ps)
    ∙ sym (entry-set-first name (entry_of p) (entries_of ps) t value))
    (λ t. ap entries_of (set_next name p ps t value) ∙ (λ i. entry_of p ∷ entries-set name value ps i)
    ∙ sym (entry-set-next name (entry_of p) (entries_of ps) t value))

pub entries-remove : (name : List ℕ) (ps : List Pair) → entries_of (remove_pair name ps) ≡ drop_entry name (entries_of ps)
unfolding drop_entry
entries-remove name [] = ap entries_of (remove-none name)
entries-remove name (p ∷ ps) =
    split (same_bytes name p.name)
    (λ t. ap entries_of (remove_first name p ps t) ∙ sym (entry-drop-first name (entry_of p) (entries_of ps) t))
    (λ t. ap entries_of (remove-next name p ps t) ∙ (λ i. entry_of p ∷ entries-remove name ps i)
    ∙ sym (entry-drop-next name (entry_of p) (entries_of ps) t))

pub entries-normalize : (ps : List Pair) → entries_of (normalize_pairs ps) ≡ new_sizes (entries_of ps)
unfolding new_sizes
entries-normalize [] = ap entries_of normalize-none
entries-normalize (p ∷ ps) = ap entries_of (normalize-more p ps) ∙ λ i. canonical-entry p.name (decode p.stored) i ∷ entries-normalize ps i

-- ---- lookup

abbrev pub value_for : Lookup → Value
value_for (found value) = some value
value_for missing = none

pub value-entries : (name : List ℕ) (ps : List Pair) → value_of name (entries_of ps) ≡ value_for (lookup name ps)
unfolding value_of
value-entries name [] = ap value_for (sym (lookup-none name))
value-entries name (p ∷ ps) =
    split (same_bytes name p.name)
    (λ t. value-first name (entry_of p) (entries_of ps) t ∙ ap value_for (sym (lookup_first name p ps t)))
    (λ t. value-next name (entry_of p) (entries_of ps) t ∙ value-entries name ps ∙ ap value_for (sym (lookup-next name p ps t)))

pub count_entries : (ps : List Pair) → length (entries_of ps) ≡ length ps
count_entries [] = refl
count_entries (p ∷ ps) = omega (arith, count_entries ps)

-- ---- sizes and bytes

pub total-entries : (ps : List Pair) → total (entries_of ps) ≡ length (pairs_bytes ps)
unfolding total
total-entries [] = sym (ap length pairs-none)
total-entries (p ∷ ps) = omega (arith, total-entries ps, length_pairs p ps, length-pair p)

pub canonical-bytes : (ps : List Pair) → canonical_bytes (entries_of ps) ≡ pairs_bytes (normalize_pairs ps)
unfolding canonical_bytes
canonical-bytes [] = sym (ap pairs_bytes normalize-none ∙ pairs-none)
canonical-bytes (p ∷ ps) =
    let q : Pair = canonical_pair p.name (decode p.stored) in
    ap (λ (l : List ℕ). p.name ++ 0x3D ∷ (encode (decode p.stored) ++ 0x00 ∷ l))
    (canonical-bytes ps ∙ sym (append-nil (pairs_bytes (normalize_pairs ps))))
    ∙ sym (pair-front q (normalize_pairs ps) []) ∙ append-nil (pairs_bytes (q ∷ normalize_pairs ps)) ∙ ap pairs_bytes (sym (normalize-more p ps))

pub canonical-area : (n : ℕ) (ps : List Pair) → canonical_area n (entries_of ps) ≡ area_bytes n (normalize_pairs ps)
unfolding canonical_area
canonical-area n ps = ap (λ (l : List ℕ). l ++ 0x00 ∷ replicate (n - (length l + 1)) 0x00) (canonical-bytes ps) ∙ sym (area-is n (normalize_pairs ps))
