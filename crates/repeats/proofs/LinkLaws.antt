-- Laws of the links and the starts of a table's entries, as lists.
use Rattle.std.proofs.Common.{◌≡◌, ℕ, zero, suc, ◌+◌, ◌-◌, ◌≤◌, ◌*◌, ◌<◌, List, map, [], ◌∷◌, ◌++◌, length, length-append, get_or, set, replicate, Option, None, Some, SomeIff, MatchOption, refl, sym, ap, subst, ◌∙◌, arith}
use lib.ListN.{replicate-append-replicate}
use Rattle.std.proofs.lemmas.List.{length-map, set-append_left, set-append_right, get_or-append_right, get_or_append_left}
use Rattle.repeats.specs.declared.Entry.{Entry}
use Rattle.repeats.specs.declared.Link.{Link}
use Rattle.repeats.specs.declared.Link.TheVariants.{Root, Child}
use Rattle.repeats.specs.Helpers.Table.{children_of, link_place, InTable}

-- the entry that is read past the last
abbrev pub blank : Entry
blank = record { far = 0; children = [] }

-- the entries of a new table
abbrev pub new : Entry
new = record { far = 0; children = 0 ∷ 0 ∷ [] }

-- an entry's links
pub length-children : (es : List Entry) → length (children_of es) ≡ 2 * length es
unfolding children_of
length-children [] = refl
length-children (e ∷ es) = omega (arith, length-children es)

pub child-at : (es : List Entry) (i side : ℕ) → i < length es → side < 2 → get_or (children_of es) (2 * i + side) 0 ≡ get_or (get_or es i blank).children side 0
unfolding children_of
child-at [] i side h k = absurd (omega arith)
child-at (e ∷ es) zero zero h k = refl
child-at (e ∷ es) zero (suc zero) h k = refl
child-at (e ∷ es) zero (suc (suc side)) h k = absurd (omega arith)
child-at (e ∷ es) (suc i) side h k = ap (λ n. get_or (children_of (e ∷ es)) n 0) (shifted i side) ∙ child-at es i side (omega arith) k
  where
    shifted : (i side : ℕ) → 2 * suc i + side ≡ suc (suc (2 * i + side))
    shifted i side = omega arith

pub children-kept : (es : List Entry) (i : ℕ) (e : Entry) → i < length es → e.children ≡ (get_or es i blank).children → children_of (set es i e) ≡ children_of es
unfolding children_of
children-kept [] i e h q = refl
children-kept (d ∷ es) zero e h q = ap (λ l. get_or l 0 0 ∷ get_or l 1 0 ∷ children_of es) q
children-kept (d ∷ es) (suc i) e h q = ap (λ l. get_or d.children 0 0 ∷ get_or d.children 1 0 ∷ l) (children-kept es i e (omega arith) q)

pub pair-set : (far : ℕ) (l : List ℕ) (side v : ℕ) → side < 2 → length l ≡ 2
    → children_of (record { far = far; children = set l side v } ∷ []) ≡ set (children_of (record { far = far; children = l } ∷ [])) side v
unfolding children_of
pair-set far [] side v k e = absurd (omega arith)
pair-set far (a ∷ []) side v k e = absurd (omega arith)
pair-set far (a ∷ b ∷ c ∷ l) side v k e = absurd (omega arith)
pair-set far (a ∷ b ∷ []) zero v k e = refl
pair-set far (a ∷ b ∷ []) (suc zero) v k e = refl
pair-set far (a ∷ b ∷ []) (suc (suc side)) v k e = absurd (omega arith)

pub children-set : (es : List Entry) (i side v : ℕ) (e : Entry) → i < length es → side < 2
    → children_of (e ∷ []) ≡ set (children_of (get_or es i blank ∷ [])) side v → children_of (set es i e) ≡ set (children_of es) (2 * i + side) v
unfolding children_of
children-set [] i side v e h k q = absurd (omega arith)
children-set (d ∷ es) zero side v e h k q =
    ap (λ l. l ++ children_of es) q ∙ sym (set-append_left (children_of (d ∷ [])) (children_of es) side v k)
    ∙ sym (ap (λ n. set (children_of (d ∷ es)) n v) zero-shifted)
  where
    zero-shifted : 2 * 0 + side ≡ side
    zero-shifted = omega arith
children-set (d ∷ es) (suc i) side v e h k q =
    ap (λ l. get_or d.children 0 0 ∷ get_or d.children 1 0 ∷ l) (children-set es i side v e (omega arith) k q)
    ∙ sym (ap (λ n. set (children_of (d ∷ es)) n v) (shifted i side))
  where
    shifted : (i side : ℕ) → 2 * suc i + side ≡ suc (suc (2 * i + side))
    shifted i side = omega arith

-- a link among the links of its table
pub in-root : {n t : ℕ} (k : ℕ) {link : Link} → link ≡ Root t → InTable n k link → t < n
unfolding InTable
in-root {n} k e h = subst (λ l. InTable n k l) e h

pub in-child : {k i side : ℕ} (n : ℕ) {link : Link} → link ≡ Child i side → InTable n k link → (i < k) × (side < 2)
unfolding InTable
in-child {k} n e h = subst (λ l. InTable n k l) e h

module _ (roots : List ℕ) (es : List Entry) {link : Link} where
  pub root-is : {t : ℕ} → link ≡ Root t → t < length roots → get_or (roots ++ children_of es) (link_place (length roots) link) 0 ≡ get_or roots t 0
  unfolding link_place
  root-is {t} q h = rw q (get_or_append_left roots (children_of es) 0 t h)

  pub child-is : {i side : ℕ} → link ≡ Child i side → (i < length es) × (side < 2)
      → get_or (roots ++ children_of es) (link_place (length roots) link) 0 ≡ get_or (get_or es i blank).children side 0
  unfolding link_place
  child-is {i} {side} q h =
      rw q (get_or-append_right roots (children_of es) (length roots) (length roots + 2 * i + side) 0 refl (omega arith)
      ∙ ap (λ k. get_or (children_of es) k 0) (past (length roots) i side) ∙ child-at es i side h.0 h.1)
    where
      past : (n i side : ℕ) → n + 2 * i + side - n ≡ 2 * i + side
      past n i side = omega arith

  -- what a store at a link leaves
  pub root-set : {t : ℕ} (v : ℕ) → link ≡ Root t → t < length roots → set roots t v ++ children_of es ≡ set (roots ++ children_of es) (link_place (length roots) link) v
  unfolding link_place
  root-set {t} v q h = rw q (sym (set-append_left roots (children_of es) t v h))

  pub child-set : {i side : ℕ} (v : ℕ) (d : Entry) → link ≡ Child i side → (i < length es) × (side < 2)
      → children_of (d ∷ []) ≡ set (children_of (get_or es i blank ∷ [])) side v
      → roots ++ children_of (set es i d) ≡ set (roots ++ children_of es) (link_place (length roots) link) v
  unfolding link_place
  child-set {i} {side} v d q h w =
      rw q (ap (λ l. roots ++ l) (children-set es i side v d h.0 h.1 w)
      ∙ ap (λ k. roots ++ set (children_of es) k v) (past (length roots) i side)
      ∙ sym (set-append_right roots (children_of es) (length roots) (length roots + 2 * i + side) v refl (omega arith)))
    where
      past : (n i side : ℕ) → 2 * i + side ≡ n + 2 * i + side - n
      past n i side = omega arith

-- the links of a new table
children-new : (n : ℕ) → children_of (replicate n new) ≡ replicate (2 * n) 0
unfolding children_of
children-new zero = refl
children-new (suc n) = ap (λ l. 0 ∷ 0 ∷ l) (children-new n) ∙ sym (ap (λ m. replicate m 0) (shifted n))
  where
    shifted : (n : ℕ) → 2 * suc n ≡ suc (suc (2 * n))
    shifted n = omega arith

pub links-new : (n : ℕ) → replicate n 0 ++ children_of (replicate n new) ≡ replicate (n + 2 * n) 0
links-new n = ap (λ l. replicate n 0 ++ l) (children-new n) ∙ replicate-append-replicate n (2 * n) 0

-- the entry that a link leads to is one below what stands there
pub below-link : {x y : ℕ} (o : Option ℕ) → y ≡ x → SomeIff o (1 ≤ x) (x - 1) → MatchOption o (y ≡ 0) (λ i. y ≡ suc i)
below-link {x} None q h = q ∙ none x h
  where
    none : (x : ℕ) → ¬ (1 ≤ x) → x ≡ 0
    none zero h = refl
    none (suc x) h = absurd (h (omega arith))
below-link (Some i) q h = omega (arith, h.0, h.1)

-- a table has as many starts as entries, and as many trees
pub starts-many : (from : ℕ) (es : List Entry) → length (map (λ (e : Entry). from + e.far) es) ≡ length es
starts-many from es = length-map es (λ (e : Entry). from + e.far)

pub trees-many : (from : ℕ) (roots : List ℕ) (es : List Entry) → length (roots ++ children_of es) ≡ 3 * length (map (λ (e : Entry). from + e.far) es)
    → length roots ≡ length (map (λ (e : Entry). from + e.far) es)
trees-many from roots es e = omega (arith, length-append roots (children_of es), length-children es, starts-many from es, e)
