-- Bytes changed inside the data area of one partition leave every header: the walk, what is found, and every byte outside.
use Prim.Native.Nat.{ℕ, zero, suc, ◌+◌, ◌-◌, ◌*◌, ◌≤◌, ◌<◌}
use mathlib.Core.Path.{◌≡◌, refl, sym, ap, ◌∙◌}
use mathlib.Core.Bool.{true, cond}
use mathlib.Core.List.{List, [], ◌∷◌, ◌++◌}
use native.Mathlib.Omega.{arith}
use lib.ListN.{length, take, drop}
use lib.Dec.{leb}
use lib.Seq.{take_at}
use Rattle.lists.specs.Bytes.{AllBytes}
use Rattle.lists.specs.Pasted.{pasted}
use Rattle.lists.proofs.Tests.{split, clash}
use Rattle.lists.proofs.ByteLaws.{every_drop, every_take}
use Rattle.lists.proofs.PastedLaws.{length-pasted, take-pasted-before, drop-pasted-after, drop-pasted-at, bytes-pasted}
use Rattle.header.specs.declared.Blocks.{Blocks}
use Rattle.header.specs.Header.{Validity, header_at, bytes_of, validity_at}
use Rattle.header.specs.Rules.{blocks_at}
use Rattle.header.proofs.RuleLaws.{blocks-read}
use Rattle.header.proofs.SameLaws.{header-before, header-after, blocks-same, validity-same}
use Rattle.partitions.specs.declared.Partition.{Partition}
use Rattle.partitions.specs.Walk.{Stepped, onward, partition_of, past_of, step_at, Walk, covered, broken, first, on_step, walk_from, allowed_length, walk}
use Rattle.std.specs.Prelude.{Ok, Err, Some, None}
use Rattle.partitions.specs.Find.{Found, matches, first_match, only_unless, only_match, only_by, only_of, area_of}
use Rattle.partitions.specs.Cover.{past_at, area_at, OutsideKept}
use Rattle.partitions.proofs.WalkLaws.{View, ends, goes, breaks, view, past-bounds}
use Rattle.partitions.proofs.AreaLaws.{Among, among-inside, area-long, area-back}

-- ---- two images as long, by their headers

module _ (I J : List ℕ) (l : length I ≡ length J) where
  step_same : (a : ℕ) → header_at I a ≡ header_at J a → step_at I a ≡ step_at J a
  unfolding step_at partition_of past_of
  step_same a h = by-validity (validity_at I a) refl
    where
      by-validity : (v : Validity) → validity_at I a ≡ v → step_at I a ≡ step_at J a
      by-validity (Ok _) e =
          let f : validity_at J a ≡ Ok tt = sym (validity-same I J l a h) ∙ e in
          rw (e, f)
          (λ i. cond (leb (l i) a) (Ok None)
          (Ok (Some (record {
            here = record { offset = a; blocks = (h i).length; signature = (h i).signature };
            next = record { at = a + (bytes_of (h i).length).0 };
          }))))
      by-validity (Err x) e =
          let f : validity_at J a ≡ Err x = sym (validity-same I J l a h) ∙ e in
          rw (e, f) (λ i. cond (leb (l i) a) (Ok None) (Err x))

  -- past an offset from which on all headers are the same
  walk_after : (low : ℕ) → ((b : ℕ) → low ≤ b → header_at I b ≡ header_at J b) → (n a : ℕ) → low ≤ a → walk_from n I a ≡ walk_from n J a
  unfolding walk_from
  walk_after low e zero a h = refl
  walk_after low e (suc n) a h = go (step_at I a) (view I a) (step_same a (e a h)) (walk_after low e n (past_of I a))
    where
      go : (s : Stepped) → View I a s → s ≡ step_at J a → (low ≤ past_of I a → walk_from n I (past_of I a) ≡ walk_from n J (past_of I a))
          → on_step s (λ past. walk_from n I past) ≡ on_step (step_at J a) (λ past. walk_from n J past)
      go (Ok None) (ends z) q ih = rw (← q)
      go (Ok (Some s)) (goes z v) q ih = rw (← q) (ap (first (partition_of I a)) (ih (omega (arith, past-bounds I a z v))))
      go (Err x) (breaks z v) q ih = rw (← q)

  match-same : (signature : ℕ) (name : List ℕ) (a : ℕ) → header_at I a ≡ header_at J a → matches I signature name a ≡ matches J signature name a
  unfolding matches
  match-same signature name a h = rw h

  -- each partition of a list has the same header in both
  abbrev HeadersSame : List Partition → Type 0
  HeadersSame [] = Unit {0}
  HeadersSame (q ∷ qs) = (header_at I q.offset ≡ header_at J q.offset) × HeadersSame qs

  first-same : (signature : ℕ) (name : List ℕ) (ps : List Partition) → HeadersSame ps
      → first_match I signature name ps ≡ first_match J signature name ps
  unfolding first_match
  first-same signature name [] h = refl
  first-same signature name (q ∷ qs) h = λ i. cond (match-same signature name q.offset h.0 i) (Ok q) (first-same signature name qs h.1 i)

  only_same : (signature : ℕ) (name : List ℕ) (ps : List Partition) → HeadersSame ps
      → only_match I signature name ps ≡ only_match J signature name ps
  unfolding only_match
  only_same signature name [] h = refl
  only_same signature name (q ∷ qs) h =
      λ i. cond (match-same signature name q.offset h.0 i) (only_unless q (first-same signature name qs h.1 i)) (only_same signature name qs h.1 i)

  first-covered : (q : Partition) (w : Walk) (ps : List Partition) → first q w ≡ covered ps
      → (qs : List Partition) × (w ≡ covered qs) × (ps ≡ q ∷ qs)
  first-covered q (covered qs) ps e = (qs, refl, cc)
  first-covered q (broken x) ps e = clash (cc)

  none-same : (ps : List Partition) → covered [] ≡ covered ps → HeadersSame ps
  none-same ps e = let q : ps ≡ [] = cc in rw q tt

  headers-after : (low : ℕ) → ((b : ℕ) → low ≤ b → header_at I b ≡ header_at J b) → (n a : ℕ) (ps : List Partition) → low ≤ a
      → walk_from n I a ≡ covered ps → HeadersSame ps
  unfolding walk_from partition_of
  headers-after low e zero a ps h w = clash (cc)
  headers-after low e (suc n) a ps h w = go (step_at I a) (view I a) w (headers-after low e n (past_of I a))
    where
      go : (s : Stepped) → View I a s → on_step s (λ past. walk_from n I past) ≡ covered ps
          → ((qs : List Partition) → low ≤ past_of I a → walk_from n I (past_of I a) ≡ covered qs → HeadersSame qs) → HeadersSame ps
      go (Ok None) (ends z) q ih = none-same ps q
      go (Ok (Some s)) (goes z v) q ih =
          let k = first-covered (partition_of I a) (walk_from n I (past_of I a)) ps q in
          rw k.2 (e a h, ih k.0 (omega (arith, past-bounds I a z v)) k.1)
      go (Err x) (breaks z v) q ih = clash (cc)

  -- the headers up to that of p are the same, and those from its end on
  module _ (p : Partition)
      (lo : (b : ℕ) → b ≤ p.offset → header_at I b ≡ header_at J b)
      (hi : (b : ℕ) → p.offset + (bytes_of p.blocks).0 ≤ b → header_at I b ≡ header_at J b)
    where
      -- a walk from an offset that passes p, in both images
      record Both (n a : ℕ) (ps : List Partition) : Type 0 where
        from : a ≤ p.offset
        here : p ≡ partition_of I p.offset
        walks : walk_from n J a ≡ covered ps
        headers : HeadersSame ps

      -- the walk's first partition is p
      both-here : (n a : ℕ) (qs : List Partition) → step_at I a ≡ Ok (Some (onward I a))
          → walk_from n I (past_of I a) ≡ covered qs → partition_of I a ≡ p → Both (suc n) a (partition_of I a ∷ qs)
      unfolding walk_from partition_of past_of
      both-here n a qs s w q =
          let o : a ≡ p.offset = ap (λ (r : Partition). r.offset) q in
          let b : (header_at I a).length ≡ p.blocks = ap (λ (r : Partition). r.blocks) q in
          let past : p.offset + (bytes_of p.blocks).0 ≤ past_of I a = omega (arith, ap (λ (x : Blocks). (bytes_of x).0) b) in
          let h = lo a (omega arith) in
          let f : walk_from n J (past_of I a) ≡ covered qs = sym (walk_after (p.offset + (bytes_of p.blocks).0) hi n (past_of I a) past) ∙ w in
          record {
            from = omega arith;
            here = sym q ∙ ap (partition_of I) o;
            walks = ap (λ (x : Stepped). on_step x (λ past. walk_from n J past)) (sym (step_same a h) ∙ s) ∙ ap (first (partition_of I a)) f;
            headers = (h, headers-after (p.offset + (bytes_of p.blocks).0) hi n (past_of I a) qs past w);
          }

      -- p comes later
      both_later : (n a : ℕ) (qs : List Partition) → step_at I a ≡ Ok (Some (onward I a)) → a ≤ past_of I a
          → Both n (past_of I a) qs → Both (suc n) a (partition_of I a ∷ qs)
      unfolding walk_from partition_of
      both_later n a qs s l b =
          let from : a ≤ p.offset = omega (arith, b.from) in
          let h = lo a from in
          record {
            from = from;
            here = b.here;
            walks = ap (λ (x : Stepped). on_step x (λ past. walk_from n J past)) (sym (step_same a h) ∙ s) ∙ ap (first (partition_of I a)) b.walks;
            headers = (h, b.headers);
          }

      both-as : {n a : ℕ} {ps qs : List Partition} → ps ≡ qs → Both n a qs → Both n a ps
      both-as e b = rw e b

      both : (n a : ℕ) (before after : List Partition) → walk_from n I a ≡ covered (before ++ p ∷ after) → Both n a (before ++ p ∷ after)
      unfolding walk_from
      both zero a before after e = clash (cc)
      both (suc n) a [] after e = go (step_at I a) (view I a) refl e
        where
          go : (s : Stepped) → View I a s → step_at I a ≡ s → on_step s (λ past. walk_from n I past) ≡ covered (p ∷ after)
              → Both (suc n) a (p ∷ after)
          go (Ok None) (ends z) s w = clash (cc)
          go (Ok (Some t)) (goes z v) s w =
              let k = first-covered (partition_of I a) (walk_from n I (past_of I a)) (p ∷ after) w in
              let q : partition_of I a ≡ p = cc k.2 in
              both-as k.2 (both-here n a k.0 s k.1 q)
          go (Err x) (breaks z v) s w = clash (cc)
      both (suc n) a (q ∷ before) after e = go (step_at I a) (view I a) refl e (both n (past_of I a) before after)
        where
          go : (s : Stepped) → View I a s → step_at I a ≡ s → on_step s (λ past. walk_from n I past) ≡ covered (q ∷ (before ++ p ∷ after))
              → (walk_from n I (past_of I a) ≡ covered (before ++ p ∷ after) → Both n (past_of I a) (before ++ p ∷ after))
              → Both (suc n) a (q ∷ (before ++ p ∷ after))
          go (Ok None) (ends z) s w ih = clash (cc)
          go (Ok (Some t)) (goes z v) s w ih =
              let k = first-covered (partition_of I a) (walk_from n I (past_of I a)) (q ∷ (before ++ p ∷ after)) w in
              let t : before ++ p ∷ after ≡ k.0 = cc k.2 in
              both-as (k.2 ∙ ap (λ (qs : List Partition). partition_of I a ∷ qs) (sym t))
              (both_later n a (before ++ p ∷ after) s (omega (arith, past-bounds I a z v)) (ih (k.1 ∙ ap covered (sym t))))
          go (Err x) (breaks z v) s w ih = clash (cc)

-- ---- a partition of an image

walk-allowed : (I : List ℕ) → allowed_length (length I) ≡ true → walk I ≡ walk_from (suc (length I)) I 0
unfolding walk
walk-allowed I t = rw t

covered-allowed : (I : List ℕ) (ps : List Partition) → walk I ≡ covered ps → allowed_length (length I) ≡ true
unfolding walk
covered-allowed I ps e = split (allowed_length (length I)) (λ t. t) (λ t. clash (cc))

module _ (I : List ℕ) (p : Partition) (m : Among I p) where
  allowed : allowed_length (length I) ≡ true
  allowed = covered-allowed I _ m.walks

  walks : walk_from (suc (length I)) I 0 ≡ covered (m.before ++ p ∷ m.after)
  walks = sym (walk-allowed I allowed) ∙ m.walks

  -- it is that of the header at its offset
  pub among-here : p ≡ partition_of I p.offset
  among-here = (both I I refl p (λ b h. refl) (λ b h. refl) (suc (length I)) 0 m.before m.after walks).here

  pub among-blocks : p.blocks.0 ≡ blocks_at I p.offset
  unfolding partition_of
  among-blocks = ap (λ (r : Partition). r.blocks.0) among-here ∙ blocks-read I p.offset

  pub among-past : p.offset + p.blocks.0 * 16 ≡ past_at I p.offset
  unfolding past_at
  among-past = ap (λ (n : ℕ). p.offset + n * 16) among-blocks

  pub among-area : area_of I (Ok p) ≡ area_at I p.offset
  unfolding area_of area_at
  among-area = ap (λ (n : ℕ). take (n * 16 - 16) (drop (p.offset + 16) I)) among-blocks

  -- ---- an image that has changed in its area alone

  module _ (J : List ℕ) (k : OutsideKept I p.offset J) where
    before_same : (b : ℕ) → b ≤ p.offset → header_at I b ≡ header_at J b
    before_same b h = header-before I J (p.offset + 16) b k.before (omega arith)

    after_same : (b : ℕ) → p.offset + (bytes_of p.blocks).0 ≤ b → header_at I b ≡ header_at J b
    after_same b h = header-after I J (past_at I p.offset) b k.after (omega (arith, among-past))

    again : Both I J (sym k.long) p before_same after_same (suc (length I)) 0 (m.before ++ p ∷ m.after)
    again = both I J (sym k.long) p before_same after_same (suc (length I)) 0 m.before m.after walks

    -- the walk passes the same partitions
    pub walk_kept : walk J ≡ walk I
    walk_kept =
        walk-allowed J (ap allowed_length k.long ∙ allowed) ∙ ap (λ (n : ℕ). walk_from (suc n) J 0) k.long ∙ again.walks ∙ sym m.walks

    pub among-kept : Among J p
    among-kept = record { before = m.before; after = m.after; walks = walk_kept ∙ m.walks }

    -- and the only partition of a signature and a name is the same
    pub only_kept : (signature : ℕ) (name : List ℕ) → only_of J signature name ≡ only_of I signature name
    unfolding only_of only_by
    only_kept signature name =
        ap (only_by J signature name) (walk_kept ∙ m.walks)
        ∙ sym (only_same I J (sym k.long) signature name (m.before ++ p ∷ m.after) again.headers)
        ∙ ap (only_by I signature name) (sym m.walks)

    -- the image is the one before with the new area in its place
    pub kept-pasted : pasted I (p.offset + 16) (area_of J (Ok p)) ≡ J
    unfolding pasted area_of
    kept-pasted =
        let i = among-inside J p among-kept in
        let n : ℕ = p.offset + 16 in
        let r : ℕ = p.blocks.0 * 16 - 16 in
        let area : List ℕ = take r (drop n J) in
        let h : 16 ≤ p.blocks.0 * 16 = i.header in
        let s : length area ≡ r = area-long J p i in
        let q : n + length area ≡ past_at I p.offset = omega (arith, among-past) in
        ap (λ (x : List ℕ). x ++ area ++ drop (n + length area) I) (sym k.before)
        ∙ ap (λ (x : List ℕ). take n J ++ area ++ x) (ap (λ (y : ℕ). drop y I) q ∙ sym k.after ∙ ap (λ (y : ℕ). drop y J) (sym q))
        ∙ area-back J p i

  -- ---- another area as long in its place

  module _ (area : List ℕ) (k : length area ≡ length (area_of I (Ok p))) where
    room : p.offset + 16 + length area ≤ length I
    room =
        let i = among-inside I p m in
        let h : 16 ≤ p.blocks.0 * 16 = i.header in
        let f : p.offset + p.blocks.0 * 16 ≤ length I = i.fits in
        omega (arith, area-long I p i)

    pub pasted-kept : OutsideKept I p.offset (pasted I (p.offset + 16) area)
    pasted-kept =
        let i = among-inside I p m in
        let h : 16 ≤ p.blocks.0 * 16 = i.header in
        record {
          long = length-pasted I (p.offset + 16) area room;
          before = take-pasted-before I (p.offset + 16) area room;
          after = drop-pasted-after I (p.offset + 16) area room (past_at I p.offset) (omega (arith, among-past, area-long I p i));
        }

    pub area-new : area_of (pasted I (p.offset + 16) area) (Ok p) ≡ area
    unfolding area_of
    area-new =
        ap (take (p.blocks.0 * 16 - 16)) (drop-pasted-at I (p.offset + 16) area room)
        ∙ take_at area (drop (p.offset + 16 + length area) I) (p.blocks.0 * 16 - 16) (k ∙ area-long I p (among-inside I p m))

    pub bytes-new : AllBytes I → AllBytes area → AllBytes (pasted I (p.offset + 16) area)
    bytes-new f g = bytes-pasted I (p.offset + 16) area f g

-- an image keeps its own bytes, and what two changes in an area keep, both keep
pub kept_same : (I : List ℕ) (a : ℕ) → OutsideKept I a I
kept_same I a = record { long = refl; before = refl; after = refl }

pub kept_again : {I J K : List ℕ} {a : ℕ} → OutsideKept I a J → OutsideKept J a K → OutsideKept I a K
unfolding past_at
kept_again {I} {J} {K} {a} e f =
    let b : blocks_at J a ≡ blocks_at I a = blocks-same I J a (header-before I J (a + 16) a e.before (omega arith)) in
    record {
      long = f.long ∙ e.long;
      before = f.before ∙ e.before;
      after = (λ i. drop (a + sym b i * 16) K) ∙ f.after ∙ (λ i. drop (a + b i * 16) J) ∙ e.after;
    }

pub area-bytes : (I : List ℕ) (f : Found) → AllBytes I → AllBytes (area_of I f)
unfolding area_of
area-bytes I (Ok p) h = every_take (λ b. b < 256) (p.blocks.0 * 16 - 16) (drop (p.offset + 16) I) (every_drop (λ b. b < 256) (p.offset + 16) I h)
area-bytes I (Err x) h = tt
