-- Laws of the table: the walk in its trees, and an entry more.
use Prim.Native.Nat.{ℕ, suc, ◌+◌, ◌-◌, ◌*◌, ◌/◌, ◌%◌, ◌<◌, ◌≤◌}
use mathlib.Core.Path.{◌≡◌, refl, sym, ap, ◌∙◌, subst}
use mathlib.Core.List.{List}
use native.Mathlib.Nat.{mul-le-mul_right}
use native.Mathlib.Omega.{arith}
use lib.Dec.{eqb}
use lib.ListN.{length, get_or, set, replicate, length-replicate, length-set}
use lib.Seq.{get_or-set_same, get_or-set_other}
use borrow.Author.Tests.{eqb-true, eqb-false}
use Rattle.lists.proofs.Tests.{split}
use Rattle.lists.proofs.ListLaws.{zeros-at}
use Rattle.repeats.specs.Pieces.{piece_name, starts}
use Rattle.repeats.specs.Helpers.Names.{hash_of}
use Rattle.repeats.specs.Helpers.Table.{root_of, way_of, Comes, here, there, Reached, Trees, Free, Hit, Missed}

pub split-eq : {A : Type 0} (a b : ℕ) → (a ≡ b → A) → ((a ≡ b → ⊥) → A) → A
split-eq a b f g = split (eqb a b) (λ t. f (eqb-true a b t)) (λ t. g (eqb-false a b t))

-- the tree of a hash
pub scaled : (h n : ℕ) → h % 65536 * n ≤ 65535 * n
scaled h n = mul-le-mul_right n (omega arith)

pub root-low : (n h : ℕ) → 0 < n → root_of n h < n
unfolding root_of
root-low n h z = omega (arith, scaled h n)

-- the entry that a link leads to
pub next-is : {x v : ℕ} → v ≡ x → (v ≡ 0 → ⊥) → x ≡ suc (v - 1)
next-is e z = omega arith

-- a walk: no entry is found at an empty link, and one other than the entry at a link is found past it
found_none : {links : List ℕ} {n at way i : ℕ} → Reached links n at way i → get_or links at 0 ≡ 0 → ⊥
found_none {links} {n} {at} {way} {i} f z = go f.comes z f.is
  where
    go : {s a w : ℕ} → Comes links n s a w → get_or links a 0 ≡ 0 → get_or links s 0 ≡ suc i → ⊥
    go here z e = omega arith
    go (there q r) z e = omega arith

found-past : {links : List ℕ} {n at way i o : ℕ} → Reached links n at way i → get_or links at 0 ≡ suc o → (i ≡ o → ⊥)
    → Reached links n (n + 2 * o + way % 2) (way / 2) i
found-past {links} {n} {at} {way} {i} {o} f e d = go f.comes e f.is
  where
    go : {s a w : ℕ} → Comes links n s a w → get_or links a 0 ≡ suc o → get_or links s 0 ≡ suc i → Reached links n (n + 2 * o + w % 2) (w / 2) i
    go here e x = absurd (d (omega arith))
    go {s} {a} {w} (there {j} q r) e x =
        let y : j ≡ o = omega arith in
        record { link = s; comes = subst (λ (z : ℕ). Comes links n s (n + 2 * z + w % 2) (w / 2)) y r; is = x }

-- where the walk to the name at `at` stands: the entries with the name are ahead, and what it comes to from here it comes to from its tree
pub record Walk (l links starts : List ℕ) (k at h link way : ℕ) : Type 0 where
  pub low : link < length starts + 2 * k
  pub ahead : (i : ℕ) → i < k → piece_name l (get_or starts i 0) ≡ piece_name l at → Reached links (length starts) link way i
  pub back : (s : ℕ) → Comes links (length starts) s link way → Comes links (length starts) s (root_of (length starts) h) (way_of h)

module _ {l links starts : List ℕ} {k : ℕ} (t : Trees l links starts k) where
  pub walk_none : (at h n : ℕ) → n ≡ length starts → h ≡ hash_of (piece_name l at) → Walk l links starts k at h (root_of n h) (way_of h)
  walk_none at h n q e = subst (λ (m : ℕ). Walk l links starts k at h (root_of m h) (way_of h)) (sym q) (record {
    low = omega (arith, root-low (length starts) h t.some);
    ahead = λ i b q. subst (λ (x : ℕ). Reached links (length starts) (root_of (length starts) x) (way_of x) i) (ap hash_of q ∙ sym e) (t.cover i b);
    back = λ s c. c;
  })

  module _ {at h link way : ℕ} (w : Walk l links starts k at h link way) where
    pub walk-end : h ≡ hash_of (piece_name l at) → get_or links link 0 ≡ 0 → Missed l links starts k at link
    walk-end e z = record {
      other = λ i b q. found_none (w.ahead i b q) z;
      free = subst (λ (x : ℕ). Free links (length starts) k x link) e (record { comes = w.back link here; empty = z; low = w.low });
    }

    pub walk-hit : {i : ℕ} → get_or links link 0 ≡ suc i → piece_name l (get_or starts i 0) ≡ piece_name l at → Hit l starts k at
    walk-hit {i} v e = record { entry = i; below = t.below link i v; same = e }

    pub walk-next : {i : ℕ} (n : ℕ) → n ≡ length starts → get_or links link 0 ≡ suc i
        → (piece_name l (get_or starts i 0) ≡ piece_name l at → ⊥) → Walk l links starts k at h (n + 2 * i + way % 2) (way / 2)
    walk-next {i} n q v d = subst (λ (m : ℕ). Walk l links starts k at h (m + 2 * i + way % 2) (way / 2)) (sym q) (record {
      low = omega (arith, t.below link i v);
      ahead = λ j b q. found-past (w.ahead j b q) v (λ s. d (ap (λ (m : ℕ). piece_name l (get_or starts m 0)) (sym s) ∙ q));
      back = λ s c. w.back s (there v c);
    })

-- a store at an empty link leaves the walks
other : (links : List ℕ) (e a v : ℕ) {j : ℕ} → get_or links e 0 ≡ 0 → get_or links a 0 ≡ suc j → get_or (set links e v) a 0 ≡ suc j
other links e a v z q = get_or-set_other links e a v 0 (λ x. let y : get_or links a 0 ≡ get_or links e 0 = ap (λ (m : ℕ). get_or links m 0) x in omega arith) ∙ q

comes-set : {links : List ℕ} {n s at way : ℕ} (e v : ℕ) → get_or links e 0 ≡ 0 → Comes links n s at way → Comes (set links e v) n s at way
comes-set e v z here = here
comes-set {links} e v z (there {at} q r) = there (other links e at v z q) (comes-set e v z r)

found-set : {links : List ℕ} {n at way i : ℕ} (e v : ℕ) → get_or links e 0 ≡ 0 → Reached links n at way i → Reached (set links e v) n at way i
found-set {links} e v z f = record { link = f.link; comes = comes-set e v z f.comes; is = other links e f.link v z f.is }

-- an entry more
module _ {l links starts : List ℕ} {k link : ℕ} (at : ℕ) (t : Trees l links starts k) (r : k < length starts) (o : at < length l)
    (f : Free links (length starts) k (hash_of (piece_name l at)) link) where
  pub link-in : link < length links
  link-in = omega (arith, f.low, t.long)

  new-link : (a : ℕ) → a ≡ link → get_or (set links link (k + 1)) a 0 ≡ k + 1
  new-link a q = ap (λ (m : ℕ). get_or (set links link (k + 1)) m 0) q ∙ get_or-set_same links link (k + 1) 0 link-in

  new-start : (i : ℕ) → i ≡ k → get_or (set starts k at) i 0 ≡ at
  new-start i q = ap (λ (m : ℕ). get_or (set starts k at) m 0) q ∙ get_or-set_same starts k at 0 r

  covered : (i : ℕ) → i < k + 1
      → Reached (set links link (k + 1)) (length starts) (root_of (length starts) (hash_of (piece_name l (get_or (set starts k at) i 0))))
      (way_of (hash_of (piece_name l (get_or (set starts k at) i 0)))) i
  covered i h = split-eq i k
      (λ q. rw (new-start i q) (record { link = link; comes = comes-set link (k + 1) f.empty f.comes; is = omega (arith, new-link link refl) }))
      (λ q. rw (get_or-set_other starts k i at 0 q) (found-set link (k + 1) f.empty (t.cover i (omega arith))))

  pub inserted : Trees l (set links link (k + 1)) (set starts k at) (k + 1)
  inserted = record {
    some = omega (arith, length-set starts k at);
    small = omega (arith, length-set starts k at, t.small);
    long = omega (arith, length-set starts k at, length-set links link (k + 1), t.long);
    room = omega (arith, length-set starts k at);
    inside = λ i h. split-eq i k
        (λ q. omega (arith, new-start i q))
        (λ q. omega (arith, get_or-set_other starts k i at 0 q, t.inside i (omega arith)));
    below = λ a j q. split-eq a link
        (λ e. omega (arith, new-link a e))
        (λ e. omega (arith, t.below a j (sym (get_or-set_other links link a (k + 1) 0 e) ∙ q)));
    onward = λ a j q. split-eq a link
        (λ e. omega (arith, new-link a e, f.low, length-set starts k at))
        (λ e. omega (arith, t.onward a j (sym (get_or-set_other links link a (k + 1) 0 e) ∙ q), length-set starts k at));
    cover = λ i h. rw (length-set starts k at) (covered i h);
  }

pub new-trees : (l links starts : List ℕ) (n : ℕ) → links ≡ replicate (n + 2 * n) 0 → length starts ≡ n → 0 < n → n < 65536 → Trees l links starts 0
new-trees l links starts n e s p q = rw e (record {
  some = omega arith;
  small = omega arith;
  long = omega (arith, length-replicate {A = ℕ} (n + 2 * n) 0);
  room = omega arith;
  inside = λ i h. absurd (omega arith);
  below = λ a j v. absurd (omega (arith, zeros-at (n + 2 * n) a));
  onward = λ a j v. absurd (omega (arith, zeros-at (n + 2 * n) a));
  cover = λ i h. absurd (omega arith);
})
