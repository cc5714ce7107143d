-- What looking for the only partition of a signature and name answers, exactly.
use Prim.Native.Nat.{ℕ}
use mathlib.Core.Path.{◌≡◌, ap, refl, sym, ◌∙◌}
use mathlib.Core.Logic.{◌↔◌}
use mathlib.Core.Bool.{true, false}
use mathlib.Core.List.{List, [], ◌∷◌, ◌++◌}
use Rattle.lists.specs.Bytes.{AllBytes}
use Rattle.lists.proofs.Tests.{split, clash}
use Rattle.errors.specs.declared.Error.{Error}
use Rattle.errors.specs.declared.Error.TheVariants.{NoPartition, RepeatedPartition}
use Rattle.partitions.specs.declared.Partition.{Partition}
use Rattle.partitions.specs.Find.{Found, matches, first_match, find_by, find_of, only_unless, only_match, only_by, only_of}
use Rattle.std.specs.Prelude.{Ok, Err}
use Rattle.partitions.specs.Walk.{Walk, covered, broken, walk}
use Rattle.partitions.specs.Cover.{Accepted, Named, NoneNamed, OnlyNamed, SecondNamed, NotOnly, rejected, second, absent}
use Rattle.partitions.proofs.CoverLaws.{Walked, accepts, rejects, walked, accepted-exactly, rejected-exactly}
use Rattle.partitions.proofs.FoundLaws.{named-matches, matches-named, not-matches, match-head, match-tail, Match, found, missing, match, match-first, match_none}

module _ (image : List ℕ) (signature : ℕ) (name : List ℕ) where
  -- by the walk
  pub only-walk : only_of image signature name ≡ only_by image signature name (walk image)
  unfolding only_of
  only-walk = refl

  pub only-covered : (ps : List Partition) → only_by image signature name (covered ps) ≡ only_match image signature name ps
  unfolding only_by
  only-covered ps = refl

  pub only-broken : (e : Error) → only_by image signature name (broken e) ≡ Err e
  unfolding only_by
  only-broken e = refl

  -- by the partitions
  pub only-nothing : only_match image signature name [] ≡ Err NoPartition
  unfolding only_match
  only-nothing = refl

  pub only-head : (p : Partition) (ps : List Partition) → matches image signature name p.offset ≡ true
      → only_match image signature name (p ∷ ps) ≡ only_unless p (first_match image signature name ps)
  unfolding only_match
  only-head p ps e = rw e

  pub only-tail : (p : Partition) (ps : List Partition) → matches image signature name p.offset ≡ false
      → only_match image signature name (p ∷ ps) ≡ only_match image signature name ps
  unfolding only_match
  only-tail p ps e = rw e

  -- what is found in a list, by the rules: no match, the only one, or a second one
  data Only : List Partition → Found → Type 0 where
    none : {all : List Partition} → NoneNamed image signature name all → Only all (Err NoPartition)
    one : (before : List Partition) (p : Partition) (after : List Partition) → NoneNamed image signature name before
        → Named image signature name p.offset → NoneNamed image signature name after → Only (before ++ p ∷ after) (Ok p)
    two : (before : List Partition) (q : Partition) (between : List Partition) (p : Partition) (after : List Partition)
        → NoneNamed image signature name before → Named image signature name q.offset → NoneNamed image signature name between
        → Named image signature name p.offset → Only (before ++ q ∷ between ++ p ∷ after) (Err (RepeatedPartition p.offset))

  only-later : (q : Partition) {ps : List Partition} {f : Found} → ¬ (Named image signature name q.offset) → Only ps f → Only (q ∷ ps) f
  only-later q n (none {all = all} u) = none {all = q ∷ all} (n, u)
  only-later q n (one before p after u m v) = one (q ∷ before) p after (n, u) m v
  only-later q n (two before r between p after u m v k) = two (q ∷ before) r between p after (n, u) m v k

  only_here : (q : Partition) (ps : List Partition) → Named image signature name q.offset → (f : Found) → Match image signature name ps f
      → Only (q ∷ ps) (only_unless q f)
  only_here q ps n (Ok p) (found s) =
      rw (← s.joined) (two [] q s.before p s.after tt n s.unnamed s.named)
  only_here q ps n (Err x) (missing u) = one [] q ps tt n u

  only : (ps : List Partition) → Only ps (only_match image signature name ps)
  only [] = rw only-nothing (none tt)
  only (q ∷ ps) =
      split (matches image signature name q.offset)
      (λ t. rw (only-head q ps t)
      (only_here q ps (matches-named image signature name q.offset t) (first_match image signature name ps) (match image signature name ps)))
      (λ t. rw (only-tail q ps t)
      (only-later q (λ n. clash (cc (named-matches image signature name q.offset n))) (only ps)))

  -- and the other way round
  only_one : (before : List Partition) (p : Partition) (after : List Partition) → NoneNamed image signature name before
      → Named image signature name p.offset → NoneNamed image signature name after
      → only_match image signature name (before ++ p ∷ after) ≡ Ok p
  only_one [] p after u n v =
      only-head p after (named-matches image signature name p.offset n) ∙ ap (only_unless p) (match_none image signature name after v)
  only_one (q ∷ before) p after u n v =
      only-tail q (before ++ p ∷ after) (not-matches image signature name q.offset u.0) ∙ only_one before p after u.1 n v

  only_two : (before : List Partition) (q : Partition) (between : List Partition) (p : Partition) (after : List Partition)
      → NoneNamed image signature name before → Named image signature name q.offset → NoneNamed image signature name between
      → Named image signature name p.offset
      → only_match image signature name (before ++ q ∷ between ++ p ∷ after) ≡ Err (RepeatedPartition p.offset)
  only_two [] q between p after u n v m =
      only-head q (between ++ p ∷ after) (named-matches image signature name q.offset n)
      ∙ ap (only_unless q) (match-first image signature name between p after v m)
  only_two (r ∷ before) q between p after u n v m =
      only-tail r (before ++ q ∷ between ++ p ∷ after) (not-matches image signature name r.offset u.0)
      ∙ only_two before q between p after u.1 n v m

  only_none : (ps : List Partition) → NoneNamed image signature name ps → only_match image signature name ps ≡ Err NoPartition
  only_none [] u = only-nothing
  only_none (q ∷ ps) u = only-tail q ps (not-matches image signature name q.offset u.0) ∙ only_none ps u.1

  -- the only one is the first one
  unless-at : (p q : Partition) (f : Found) → only_unless p f ≡ Ok q → p ≡ q
  unless-at p q (Ok r) e = clash (cc)
  unless-at p q (Err x) e = cc

  match-only : (p : Partition) (ps : List Partition) → only_match image signature name ps ≡ Ok p → first_match image signature name ps ≡ Ok p
  match-only p [] e = clash (cc (only-nothing))
  match-only p (q ∷ ps) e =
      split (matches image signature name q.offset)
      (λ t. match-head image signature name q ps t ∙ ap Ok (unless-at q p (first_match image signature name ps) (sym (only-head q ps t) ∙ e)))
      (λ t. match-tail image signature name q ps t ∙ match-only p ps (sym (only-tail q ps t) ∙ e))

  pub only-found : (p : Partition) → only_of image signature name ≡ Ok p → find_of image signature name ≡ Ok p
  unfolding only_of only_by find_of find_by
  only-found p = go (walk image)
    where
      go : (w : Walk) → only_by image signature name w ≡ Ok p → find_by image signature name w ≡ Ok p
      go (covered ps) e = match-only p ps e
      go (broken x) e = e

  module _ (bytes : AllBytes image) where
    accepted-only : (ps : List Partition) → Accepted image ps → only_of image signature name ≡ only_match image signature name ps
    accepted-only ps a = only-walk ∙ ap (only_by image signature name) ((accepted-exactly image bytes ps).1 a) ∙ only-covered ps

    -- FOUND exactly when it is the only one
    pub only-exactly : (p : Partition) → (only_of image signature name ≡ Ok p) ↔ OnlyNamed image signature name p
    unfolding only_of only_by
    only-exactly p = (
      there (walk image) (walked image bytes),
      λ f. accepted-only _ f.accepted ∙ only_one f.before p f.after f.unnamed-before f.named f.unnamed-after,
    )
      where
        of-only : (ps : List Partition) → Accepted image ps → (f : Found) → Only ps f → f ≡ Ok p → OnlyNamed image signature name p
        of-only ps a f (none u) e = clash (cc)
        of-only ps a f (one before r after u n v) e =
            let q : r ≡ p = cc in
            let o : OnlyNamed image signature name r =
            record { before = before; after = after; accepted = a; unnamed-before = u; named = n; unnamed-after = v } in
            rw q at o
        of-only ps a f (two before r between t after u n v k) e = clash (cc)

        there : (w : Walk) → Walked image bytes w → only_by image signature name w ≡ Ok p → OnlyNamed image signature name p
        there (covered ps) (accepts a) e = of-only ps a (only_match image signature name ps) (only ps) e
        there (broken x) (rejects r) e = clash (cc)

    -- REFUSED exactly when there is no only one, by the error that says why
    pub only-refuses : (e : Error) → (only_of image signature name ≡ Err e) ↔ NotOnly image signature name e
    unfolding only_of only_by
    only-refuses e = (there (walk image) (walked image bytes), back e)
      where
        of-only : (ps : List Partition) → Accepted image ps → (f : Found) → Only ps f → f ≡ Err e → NotOnly image signature name e
        of-only ps a f (none u) q = let z : NoPartition ≡ e = cc in rw z at (absent (record { all = ps; accepted = a; unnamed = u }))
        of-only ps a f (one before r after u n v) q = clash (cc)
        of-only ps a f (two before r between p after u n v k) q =
            let z : RepeatedPartition p.offset ≡ e = cc in
            let s : SecondNamed image signature name p =
            record {
              before = before;
              first = r;
              between = between;
              after = after;
              accepted = a;
              unnamed-before = u;
              first-named = n;
              unnamed-between = v;
              named = k;
            } in
            rw z at (second s)

        there : (w : Walk) → Walked image bytes w → only_by image signature name w ≡ Err e → NotOnly image signature name e
        there (covered ps) (accepts a) q = of-only ps a (only_match image signature name ps) (only ps) q
        there (broken x) (rejects r) q = let z : x ≡ e = cc in rejected (rw z at r)

        back : (x : Error) → NotOnly image signature name x → only_of image signature name ≡ Err x
        back x (rejected r) = only-walk ∙ ap (only_by image signature name) ((rejected-exactly image bytes x).1 r) ∙ only-broken x
        back x (second {p = p} s) =
            accepted-only _ s.accepted
            ∙ only_two s.before s.first s.between p s.after s.unnamed-before s.first-named s.unnamed-between s.named
        back x (absent n) = accepted-only _ n.accepted ∙ only_none n.all n.unnamed
