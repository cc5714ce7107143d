-- What finding a partition answers, exactly: the first of its name, the one of its index, or the error that refuses it.
use Prim.Native.Nat.{ℕ, suc, zero, ◌≤◌}
use mathlib.Core.Path.{◌≡◌, ap, refl, sym, ◌∙◌}
use mathlib.Core.Logic.{◌↔◌, ◌⊎◌, inl, inr}
use mathlib.Core.Bool.{true, false}
use mathlib.Core.List.{List, [], ◌∷◌, ◌++◌}
use native.Mathlib.Omega.{arith}
use lib.ListN.{length}
use lib.Dec.{eqb}
use borrow.Author.Tests.{eq-eqb, ne_eqb, eqb-true}
use Rattle.lists.specs.Bytes.{AllBytes}
use Rattle.lists.proofs.Tests.{split, clash, and-true}
use Rattle.errors.specs.declared.Error.{Error}
use Rattle.errors.specs.declared.Error.TheVariants.{NoPartition}
use Rattle.header.specs.Header.{header_at, name_at}
use Rattle.header.proofs.RuleLaws.{signature-read, name-read}
use Rattle.partition_name.specs.Rules.{MatchesName}
use Rattle.partition_name.specs.Name.{matches_name}
use Rattle.partition_name.proofs.MatchLaws.{matches-exactly}
use Rattle.partitions.specs.declared.Partition.{Partition}
use Rattle.partitions.specs.Find.{Found, matches, first_match, find_by, find_of, at_index, index_by, index_of}
use Rattle.std.specs.Prelude.{Ok, Err}
use Rattle.partitions.specs.Walk.{Walk, covered, broken, walk}
use Rattle.partitions.specs.Cover.{Accepted, Rejected, Named, NoneNamed, FirstNamed, Indexed, NotNamed, NotIndexed}
use Rattle.partitions.proofs.CoverLaws.{Walked, accepts, rejects, walked, accepted-exactly, rejected-exactly}

-- the test of a header, where its signature is the one that is asked for, and where not
module _ (image : List ℕ) (at signature : ℕ) (name : List ℕ) where
  pub matches-signed : (header_at image at).signature ≡ signature
      → matches image signature name at ≡ matches_name (header_at image at).name name
  unfolding matches
  matches-signed e = rw (eq-eqb _ _ e)

  pub matches-other : ((header_at image at).signature ≡ signature → ⊥) → matches image signature name at ≡ false
  unfolding matches
  matches-other d = rw (ne_eqb _ _ d)

-- the test of a name and the rule
module _ (image : List ℕ) (signature : ℕ) (name : List ℕ) (at : ℕ) where
  name-exactly : (matches_name (header_at image at).name name ≡ true) ↔ MatchesName (name_at image at) name
  name-exactly = rw (name-read image at) (matches-exactly (name_at image at) name)

  pub named-matches : Named image signature name at → matches image signature name at ≡ true
  unfolding matches
  named-matches n = rw (eq-eqb _ _ (signature-read image at ∙ n.signed)) (name-exactly.1 n.named)

  pub matches-named : matches image signature name at ≡ true → Named image signature name at
  unfolding matches
  matches-named e =
      let t = and-true (eqb (header_at image at).signature signature) (matches_name (header_at image at).name name) e in
      record {
        signed = sym (signature-read image at) ∙ eqb-true (header_at image at).signature signature t.0;
        named = name-exactly.0 t.1;
      }

  pub not-matches : ¬ (Named image signature name at) → matches image signature name at ≡ false
  not-matches q = split (matches image signature name at) (λ t. absurd (q (matches-named t))) (λ t. t)

-- what is found, by the walk
module _ (image : List ℕ) (signature : ℕ) (name : List ℕ) where
  pub find-walk : find_of image signature name ≡ find_by image signature name (walk image)
  unfolding find_of
  find-walk = refl

  pub find-covered : (ps : List Partition) → find_by image signature name (covered ps) ≡ first_match image signature name ps
  unfolding find_by
  find-covered ps = refl

  pub find-broken : (e : Error) → find_by image signature name (broken e) ≡ Err e
  unfolding find_by
  find-broken e = refl

  pub match-nothing : first_match image signature name [] ≡ Err NoPartition
  unfolding first_match
  match-nothing = refl

  pub match-head : (p : Partition) (ps : List Partition) → matches image signature name p.offset ≡ true → first_match image signature name (p ∷ ps) ≡ Ok p
  unfolding first_match
  match-head p ps e = rw e

  pub match-tail : (p : Partition) (ps : List Partition) → matches image signature name p.offset ≡ false
      → first_match image signature name (p ∷ ps) ≡ first_match image signature name ps
  unfolding first_match
  match-tail p ps e = rw e

-- the first match of a list, by the rules
module _ (image : List ℕ) (signature : ℕ) (name : List ℕ) where
  pub record Split (all : List Partition) (p : Partition) : Type 0 where
    pub before : List Partition
    pub after : List Partition
    pub joined : before ++ p ∷ after ≡ all
    pub unnamed : NoneNamed image signature name before
    pub named : Named image signature name p.offset

  pub data Match (all : List Partition) : Found → Type 0 where
    found : {p : Partition} → Split all p → Match all (Ok p)
    missing : NoneNamed image signature name all → Match all (Err NoPartition)

  match-later : (p : Partition) (ps : List Partition) → ¬ (Named image signature name p.offset) → (f : Found) → Match ps f → Match (p ∷ ps) f
  match-later p ps q (Ok r) (found s) =
      found (record {
        before = p ∷ s.before;
        after = s.after;
        joined = ap (λ (l : List Partition). p ∷ l) s.joined;
        unnamed = (q, s.unnamed);
        named = s.named;
      })
  match-later p ps q (Err e) (missing n) = missing (q, n)

  pub match : (ps : List Partition) → Match ps (first_match image signature name ps)
  unfolding first_match
  match [] = missing tt
  match (p ∷ ps) = go (match ps)
    where
      go : Match ps (first_match image signature name ps) → Match (p ∷ ps) (first_match image signature name (p ∷ ps))
      go ih =
          split (matches image signature name p.offset)
          (λ t. rw t (found (record { before = []; after = ps; joined = refl; unnamed = tt; named = matches-named image signature name p.offset t })))
          (λ t. rw t (match-later p ps (λ n. clash (cc (named-matches image signature name p.offset n))) (first_match image signature name ps) ih))

  -- and the other way round
  pub match-first : (before : List Partition) (p : Partition) (after : List Partition) → NoneNamed image signature name before
      → Named image signature name p.offset → first_match image signature name (before ++ p ∷ after) ≡ Ok p
  unfolding first_match
  match-first [] p after u n = rw (named-matches image signature name p.offset n)
  match-first (q ∷ before) p after u n = rw (not-matches image signature name q.offset u.0) (match-first before p after u.1 n)

  pub match_none : (ps : List Partition) → NoneNamed image signature name ps → first_match image signature name ps ≡ Err NoPartition
  unfolding first_match
  match_none [] u = refl
  match_none (p ∷ ps) u = rw (not-matches image signature name p.offset u.0) (match_none ps u.1)

  module _ (bytes : AllBytes image) where
    -- what find answers is the first match
    pub find_first : (p : Partition) → (find_of image signature name ≡ Ok p) ↔ FirstNamed image signature name p
    unfolding find_of find_by
    find_first p = (
      there (walk image) (walked image bytes),
      λ f. ap (find_by image signature name) ((accepted-exactly image bytes _).1 f.accepted) ∙ match-first f.before p f.after f.unnamed f.named,
    )
      where
        first-named : (ps : List Partition) → Accepted image ps → (r : Partition) → Split ps r → FirstNamed image signature name r
        first-named ps a r s =
            record { before = s.before; after = s.after; accepted = rw (← s.joined) at a; unnamed = s.unnamed; named = s.named }

        of-match : (ps : List Partition) → Accepted image ps → (f : Found) → Match ps f → f ≡ Ok p → FirstNamed image signature name p
        of-match ps a (Ok r) (found s) e = let q : r ≡ p = cc in rw q at (first-named ps a r s)
        of-match ps a (Err x) (missing n) e = clash (cc)

        there : (w : Walk) → Walked image bytes w → find_by image signature name w ≡ Ok p → FirstNamed image signature name p
        there (covered ps) (accepts a) e = of-match ps a (first_match image signature name ps) (match ps) e
        there (broken x) (rejects r) e = clash (cc)

    -- it refuses as the check does, or by code 6 exactly when the image is covered and no partition matches
    pub find-refuses : (e : Error)
        → (find_of image signature name ≡ Err e) ↔ (Rejected image e ⊎ ((e ≡ NoPartition) × NotNamed image signature name))
    unfolding find_of find_by
    find-refuses e = (there (walk image) (walked image bytes), back)
      where
        of-match : (ps : List Partition) → Accepted image ps → (f : Found) → Match ps f → f ≡ Err e
            → (e ≡ NoPartition) × NotNamed image signature name
        of-match ps a (Ok r) (found s) q = clash (cc)
        of-match ps a (Err x) (missing n) q = (cc, record { all = ps; accepted = a; unnamed = n })

        there : (w : Walk) → Walked image bytes w → find_by image signature name w ≡ Err e
            → Rejected image e ⊎ ((e ≡ NoPartition) × NotNamed image signature name)
        there (covered ps) (accepts a) q = inr (of-match ps a (first_match image signature name ps) (match ps) q)
        there (broken x) (rejects r) q = let p : x ≡ e = cc in inl (rw p at r)

        back : Rejected image e ⊎ ((e ≡ NoPartition) × NotNamed image signature name) → find_by image signature name (walk image) ≡ Err e
        back (inl r) = ap (find_by image signature name) ((rejected-exactly image bytes e).1 r)
        back (inr n) =
            ap (find_by image signature name) ((accepted-exactly image bytes _).1 n.1.accepted)
            ∙ match_none n.1.all n.1.unnamed ∙ ap Err (sym n.0)

-- the partition of an index, by the rules
record Place (all : List Partition) (n : ℕ) (p : Partition) : Type 0 where
  before : List Partition
  after : List Partition
  joined : before ++ p ∷ after ≡ all
  counted : length before ≡ n

data Pick (all : List Partition) (n : ℕ) : Found → Type 0 where
  found : {p : Partition} → Place all n p → Pick all n (Ok p)
  missing : length all ≤ n → Pick all n (Err NoPartition)

pick-later : (p : Partition) (ps : List Partition) (n : ℕ) (f : Found) → Pick ps n f → Pick (p ∷ ps) (suc n) f
pick-later p ps n (Ok r) (found s) =
    found (record { before = p ∷ s.before; after = s.after; joined = ap (λ (l : List Partition). p ∷ l) s.joined; counted = ap suc s.counted })
pick-later p ps n (Err e) (missing l) = missing (omega arith)

pick : (n : ℕ) (ps : List Partition) → Pick ps n (at_index n ps)
unfolding at_index
pick zero [] = missing (omega arith)
pick (suc n) [] = missing (omega arith)
pick zero (p ∷ ps) = found (record { before = []; after = ps; joined = refl; counted = refl })
pick (suc n) (p ∷ ps) = pick-later p ps n (at_index n ps) (pick n ps)

pick_at : (before : List Partition) (p : Partition) (after : List Partition) (n : ℕ) → length before ≡ n → at_index n (before ++ p ∷ after) ≡ Ok p
unfolding at_index
pick_at [] p after zero e = refl
pick_at [] p after (suc n) e = absurd (omega arith)
pick_at (q ∷ before) p after zero e = absurd (omega arith)
pick_at (q ∷ before) p after (suc n) e = pick_at before p after n (omega arith)

pick-none : (ps : List Partition) (n : ℕ) → length ps ≤ n → at_index n ps ≡ Err NoPartition
unfolding at_index
pick-none [] zero l = refl
pick-none [] (suc n) l = refl
pick-none (p ∷ ps) zero l = absurd (omega arith)
pick-none (p ∷ ps) (suc n) l = pick-none ps n (omega arith)

module _ (image : List ℕ) (bytes : AllBytes image) (n : ℕ) where
  -- the cover's element at that index
  pub index_at : (p : Partition) → (index_of image n ≡ Ok p) ↔ Indexed image n p
  unfolding index_of index_by
  index_at p = (
    there (walk image) (walked image bytes),
    λ f. ap (index_by n) ((accepted-exactly image bytes _).1 f.accepted) ∙ pick_at f.before p f.after n f.counted,
  )
    where
      indexed : (ps : List Partition) → Accepted image ps → (r : Partition) → Place ps n r → Indexed image n r
      indexed ps a r s = record { before = s.before; after = s.after; accepted = rw (← s.joined) at a; counted = s.counted }

      of-pick : (ps : List Partition) → Accepted image ps → (f : Found) → Pick ps n f → f ≡ Ok p → Indexed image n p
      of-pick ps a (Ok r) (found s) e = let q : r ≡ p = cc in rw q at (indexed ps a r s)
      of-pick ps a (Err x) (missing l) e = clash (cc)

      there : (w : Walk) → Walked image bytes w → index_by n w ≡ Ok p → Indexed image n p
      there (covered ps) (accepts a) e = of-pick ps a (at_index n ps) (pick n ps) e
      there (broken x) (rejects r) e = clash (cc)

  -- it refuses as the check does, or by code 6 exactly when the image is covered and has no such index
  pub index-refuses : (e : Error) → (index_of image n ≡ Err e) ↔ (Rejected image e ⊎ ((e ≡ NoPartition) × NotIndexed image n))
  unfolding index_of index_by
  index-refuses e = (there (walk image) (walked image bytes), back)
    where
      of-pick : (ps : List Partition) → Accepted image ps → (f : Found) → Pick ps n f → f ≡ Err e → (e ≡ NoPartition) × NotIndexed image n
      of-pick ps a (Ok r) (found s) q = clash (cc)
      of-pick ps a (Err x) (missing l) q = (cc, record { all = ps; accepted = a; few = l })

      there : (w : Walk) → Walked image bytes w → index_by n w ≡ Err e → Rejected image e ⊎ ((e ≡ NoPartition) × NotIndexed image n)
      there (covered ps) (accepts a) q = inr (of-pick ps a (at_index n ps) (pick n ps) q)
      there (broken x) (rejects r) q = let p : x ≡ e = cc in inl (rw p at r)

      back : Rejected image e ⊎ ((e ≡ NoPartition) × NotIndexed image n) → index_by n (walk image) ≡ Err e
      back (inl r) = ap (index_by n) ((rejected-exactly image bytes e).1 r)
      back (inr k) = ap (index_by n) ((accepted-exactly image bytes _).1 k.1.accepted) ∙ pick-none k.1.all n k.1.few ∙ ap Err (sym k.0)
