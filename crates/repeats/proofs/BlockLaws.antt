-- Laws of a block: pieces are gathered into its table, and the later pieces looked up in it.
use Prim.Native.Nat.{ℕ, ◌+◌, ◌-◌, ◌<◌, ◌≤◌}
use mathlib.Core.Path.{◌≡◌, refl, sym, ap, ◌∙◌, subst}
use mathlib.Core.List.{List}
use native.Mathlib.Omega.{arith}
use lib.Dec.{ltb}
use lib.ListN.{length, get_or, set}
use lib.Seq.{get_or-set_same, get_or-set_other}
use borrow.Author.Tests.{ltb-true, ltb-false}
use Rattle.lists.proofs.Tests.{split}
use Rattle.repeats.specs.Pieces.{piece_name, starts}
use Rattle.repeats.specs.Helpers.Places.{Start, Next, Distinct, Best, Open}
use Rattle.repeats.specs.Helpers.Table.{Trees, Hit, Missed, Slot, Filled, Block, Turn, Gathered}
use Rattle.repeats.proofs.StartLaws.{next_low, best-start}
use Rattle.repeats.proofs.TableLaws.{split-eq, inserted}

-- a block
pub empty_holds : (l starts : List ℕ) (from : ℕ) → Filled l starts 0 from from
empty_holds l starts from = record {
  begins = λ i h. absurd (omega arith);
  low = λ i h. absurd (omega arith);
  high = λ i h. absurd (omega arith);
  full = λ p a b s. absurd (omega arith);
}

pub empty_block : {l links starts : List ℕ} {from best : ℕ} → Trees l links starts 0 → Distinct l from best → from < best
    → best ≤ length l → Start l from → Block l links starts 0 from from best
empty_block {l} {links} {starts} {from} {best} t d h b s = record {
  trees = t;
  holds = empty_holds l starts from;
  from_low = omega arith;
  at_high = omega arith;
  best-in = b;
  begins = λ _. s;
  apart = record { differ = λ p q a b c u v e. d.differ p q a b (omega arith) u v e };
}

-- the name at `at` stands at no start below mid: one start more is distinct
distinct-next : {l starts : List ℕ} {k from mid best at r : ℕ} → Filled l starts k from mid → Distinct l from best → Distinct l mid at
    → at < best → mid ≤ at → Next l at r → ((i : ℕ) → i < k → piece_name l (get_or starts i 0) ≡ piece_name l at → ⊥) → Distinct l mid r
distinct-next {l} {starts} {k} {from} {mid} {best} {at} {r} hs d m h o n miss = record {
  differ = λ p q a b c u v e.
      split (ltb q at)
      (λ t. m.differ p q a b (ltb-true q at t) u v e)
      (λ t. split-eq q at
      (λ w. split (ltb p from)
      (λ y. d.differ p q (ltb-true p from y) b (omega arith) u v e)
      (λ y. let en : Slot starts k p = hs.full p (ltb-false p from y) a u in
      miss en.entry en.below (ap (λ (z : ℕ). piece_name l z) en.is ∙ e ∙ ap (λ (z : ℕ). piece_name l z) w)))
      (λ w. absurd (n.none q (omega (arith, ltb-false q at t)) c v)));
}

-- the same where the start itself joins the block
distinct-grow : {l starts : List ℕ} {k from best at r : ℕ} → Filled l starts k from at → Distinct l from best → Distinct l at at
    → at < best → Next l at r → ((i : ℕ) → i < k → piece_name l (get_or starts i 0) ≡ piece_name l at → ⊥) → Distinct l r r
distinct-grow {l} {starts} {k} {from} {best} {at} {r} hs d m h n miss =
    let g : Distinct l at r = distinct-next hs d m h (omega arith) n miss in
    record {
      differ = λ p q a b c u v e.
          split (ltb p at)
          (λ t. g.differ p q (ltb-true p at t) b c u v e)
          (λ t. n.none q (omega (arith, ltb-false p at t)) c v);
    }

holds_more : {l starts : List ℕ} {k from at r : ℕ} → k < length starts → Filled l starts k from at → from ≤ at → Start l at
    → Next l at r → Filled l (set starts k at) (k + 1) from r
holds_more {l} {starts} {k} {from} {at} {r} room hs o st n = record {
  begins = λ i h. split-eq i k
      (λ q. subst (λ (z : ℕ). Start l z) (sym (new i q)) st)
      (λ q. subst (λ (z : ℕ). Start l z) (sym (old i q)) (hs.begins i (omega arith)));
  low = λ i h. split-eq i k (λ q. omega (arith, new i q)) (λ q. omega (arith, old i q, hs.low i (omega arith)));
  high = λ i h. split-eq i k (λ q. omega (arith, new i q, n.falls)) (λ q. omega (arith, old i q, hs.high i (omega arith), n.falls));
  full = λ p a b s. split-eq p at
      (λ q. record { entry = k; below = omega arith; is = new k refl ∙ sym q })
      (λ q. split (ltb p at)
      (λ t. let en : Slot starts k p = hs.full p a (ltb-true p at t) s in
      record { entry = en.entry; below = omega (arith, en.below); is = old en.entry (λ w. omega (arith, en.below)) ∙ en.is })
      (λ t. absurd (n.none p (omega (arith, ltb-false p at t)) b s)));
}
  where
    new : (i : ℕ) → i ≡ k → get_or (set starts k at) i 0 ≡ at
    new i q = ap (λ (z : ℕ). get_or (set starts k at) z 0) q ∙ get_or-set_same starts k at 0 room

    old : (i : ℕ) → (i ≡ k → ⊥) → get_or (set starts k at) i 0 ≡ get_or starts i 0
    old i q = get_or-set_other starts k i at 0 q

module _ {l links starts : List ℕ} {k from at best : ℕ} (s : Block l links starts k from at best) where
  pub block_more : (links' starts' : List ℕ) (link r : ℕ) → Distinct l from best → at < best → k < length starts
      → Missed l links starts k at link → links' ≡ set links link (k + 1) → starts' ≡ set starts k at → Next l at r
      → r ≤ best → Block l links' starts' (k + 1) from r best
  block_more links' starts' link r d h room look e g n f = record {
    trees = rw (e, g) (inserted at s.trees room (s.begins h).inside look.free);
    holds = rw g (holds_more room s.holds s.from_low (s.begins h) n);
    from_low = omega (arith, s.from_low, n.falls);
    at_high = f;
    best-in = s.best-in;
    begins = λ w. n.start (omega (arith, s.best-in));
    apart = distinct-grow s.holds d s.apart h n look.other;
  }

  -- a name that stands in the block is a repeat, and no piece is sought past it
  pub block-hit : at < best → Distinct l from best → Hit l starts k at → Gathered l links starts k from at at
  block-hit h d t = record {
    block = record {
      trees = s.trees;
      holds = s.holds;
      from_low = s.from_low;
      at_high = omega arith;
      best-in = omega (arith, s.best-in);
      begins = λ w. absurd (omega arith);
      apart = s.apart;
    };
    distinct = record { differ = λ p q a b c u v e. d.differ p q a b (omega arith) u v e };
    better = record {
      inside = omega (arith, s.best-in);
      hit = λ _. record {
        place = get_or starts t.entry 0;
        before = s.holds.high t.entry t.below;
        first = s.holds.begins t.entry t.below;
        second = s.begins h;
        same = t.same;
      };
    };
  }

  -- a block that has an entry goes past its first byte
  pub block-past : {i : ℕ} → i < k → from < at
  block-past {i} h = omega (arith, s.holds.low i h, s.holds.high i h)

-- a piece more in the block
pub gathered-more : {l l' links links' starts starts' : List ℕ} {k k' from from' at best far link r : ℕ} → Gathered l links starts k from at best
    → at < best → k < length starts → Missed l links starts k at link → links' ≡ set links link (k + 1) → starts' ≡ set starts k (from + far)
    → far ≡ at - from → k' ≡ k + 1 → from' ≡ from → l' ≡ l → Next l' at r → Gathered l' links' starts' k' from' r best
gathered-more {l} {links = links} {links' = links'} {starts = starts} {starts' = starts'} {k = k} {from = from} {at = at} {best = best} {far = far} {link = link} {r = r} s h room look e g q w v t n =
    let m : Next l at r = subst (λ (x : List ℕ). Next x at r) t n in
    let o : r ≤ best = next_low m h s.block.best-in (best-start s.better) in
    let z : from + far ≡ at = omega (arith, s.block.from_low) in
    rw (t, w, v) (record {
      block = block_more s.block links' starts' link r s.distinct h room look e (g ∙ ap (λ x. set starts k x) z) m o;
      distinct = s.distinct;
      better = s.better;
    })

-- the rest of the area against a block
pub record Scanned (l : List ℕ) (from mid best at : ℕ) : Type 0 where
  pub apart : Distinct l mid at
  pub low : mid ≤ at
  pub begins : at < best → Start l at
  pub high : at ≤ best

-- what a scan answers
module _ {l links starts : List ℕ} {k from mid best : ℕ} (s : Block l links starts k from mid best) where
  pub scan-none : Scanned l from mid best mid
  scan-none = record { apart = s.apart; low = omega arith; begins = s.begins; high = s.at_high }

  pub scan-more : {at r link : ℕ} → Scanned l from mid best at → Distinct l from best → at < best
      → Missed l links starts k at link → Next l at r → r ≤ best → Scanned l from mid best r
  scan-more {at} {r} {link} c d h look n f = record {
    apart = distinct-next s.holds d c.apart h c.low n look.other;
    low = omega (arith, c.low, n.falls);
    begins = λ w. n.start (omega (arith, s.best-in));
    high = f;
  }

  pub scan-hit : {at : ℕ} → Scanned l from mid best at → from < mid → at < best → Hit l starts k at → Turn l from mid at
  scan-hit {at} c w h t = record {
    distinct = c.apart;
    better = record {
      inside = omega (arith, s.best-in);
      hit = λ _. record {
        place = get_or starts t.entry 0;
        before = omega (arith, s.holds.high t.entry t.below, c.low);
        first = s.holds.begins t.entry t.below;
        second = c.begins h;
        same = t.same;
      };
    };
    further = w;
    begins = λ y. s.begins (omega arith);
  }

  pub scan-end : {at : ℕ} → Scanned l from mid best at → from < mid → best ≤ at → Best l best → Turn l from mid best
  scan-end {at} c w h b = record {
    distinct = record { differ = λ p q a b c' u v e. c.apart.differ p q a b (omega arith) u v e };
    better = b;
    further = w;
    begins = λ y. s.begins y;
  }

-- a new table has gathered nothing
pub new-block : {l links starts : List ℕ} {from best : ℕ} → Trees l links starts 0 → Open l from best → Gathered l links starts 0 from from best
new-block t o = record { block = empty_block t o.distinct o.below o.better.inside o.begins; distinct = o.distinct; better = o.better }
