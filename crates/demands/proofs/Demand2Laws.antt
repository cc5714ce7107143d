-- Demand 2: what is accepted, what a variable reads as, and that what is set reads back the same.
use Prim.Native.Nat.{ℕ, ◌+◌, ◌≤◌}
use mathlib.Core.Path.{◌≡◌, refl, sym, ap, ◌∙◌}
use mathlib.Core.Logic.{◌≢◌}
use mathlib.Core.List.{List, []}
use native.Mathlib.Omega.{arith}
use lib.ListN.{length, take, drop}
use lib.Seq.{take-append_seam}
use Rattle.lists.specs.Bytes.{AllBytes, same_bytes}
use Rattle.lists.specs.Pasted.{pasted}
use Rattle.lists.proofs.Tests.{split, clash}
use Rattle.lists.proofs.ByteLaws.{same_true}
use Rattle.lists.proofs.PastedLaws.{pasted-first}
use Rattle.errors.specs.declared.Error.{Error}
use Rattle.errors.specs.declared.Error.TheVariants.{BadArea, BadName, NoRoom}
use Rattle.errors.proofs.ErrorLaws.{code-range}
use Rattle.errors.specs.Errors.{code_of, moved}
use Rattle.partitions.specs.declared.Partition.{Partition}
use Rattle.std.specs.Prelude.{Ok}
use Rattle.partitions.specs.Find.{area_of}
use Rattle.partitions.specs.Cover.{area_at}
use Rattle.partitions.proofs.CoverLaws.{check-accepts}
use Rattle.partitions.proofs.FrameLaws.{among-area, pasted-kept, area-new, area-bytes}
use Rattle.names.specs.Name.{good, name_check}
use Rattle.names.specs.Rules.{NameRule}
use Rattle.names.proofs.NameLaws.{check-good-exactly, split-check}
use Rattle.values.proofs.EncodeLaws.{encode-shortest}
use Rattle.values.proofs.CanonicalLaws.{canonical-encode}
use Rattle.pairs.specs.Area.{Pair, pairs_bytes, parsed, parse}
use Rattle.pairs.specs.Rules.{Entry, WellFormed}
use Rattle.pairs.proofs.ParseLaws.{Good as GoodPairs, area-read}
use Rattle.lists.proofs.StandsLaws.{stands-none}
use Rattle.pairs.proofs.EntryLaws.{parse-exactly}
use Rattle.variables.specs.Edits.{area_bytes, set_pair, found, lookup}
use Rattle.variables.specs.Rules.{Holds}
use Rattle.variables.specs.Calls.{set_to, read_into, set, read, call_check, done, Outcome, refuse, call_area}
use Rattle.variables.proofs.EditLaws.{length-area, parse-area, lookup-none, lookup-next, good-set, lookup-set}
use Rattle.variables.proofs.LookupLaws.{found-exactly}
use Rattle.variables.proofs.CallLaws.{check-named, split-parse, split-room, call-misnamed, call-faulty, call-parsed, set-short, set-done as set-outcome, read_done}
use Rattle.nvram.specs.Common.{OnlyCommon, common_of}
use Rattle.nvram.specs.Calls.{Told, told_at, ImageOutcome, call_image}
use Rattle.nvram.proofs.CommonLaws.{split-found, common-exactly, common-among, common-kept}
use Rattle.nvram.proofs.CallLaws.{image-misnamed, image-refused, call-image}
use Rattle.demands.specs.Demands.{Demand2}

-- ---- a read

-- a name that is found keeps the rule
found-named : {seen : List (List ℕ)} {ps : List Pair} (name value : List ℕ) → GoodPairs seen ps → lookup name ps ≡ found value → NameRule name
found-named name value GoodPairs.none e = clash (cc (lookup-none name))
found-named name value (GoodPairs.more {p = p} {ps = ps} n v s g) e =
    split (same_bytes name p.name)
    (λ t. rw (same_true name p.name t) n)
    (λ t. found-named name value g (sym (lookup-next name p ps t) ∙ e))

-- what a read of a value that is found answers
abbrev value_told : List ℕ → List ℕ → Told
value_told value buffer = record { code = 0; offset = 0; amount = length value; buffer = pasted buffer 0 value }

read_found : (name value buffer area : List ℕ) (ps : List Pair) → parse area ≡ parsed ps → lookup name ps ≡ found value
    → length value ≤ length buffer
    → call_area (read name buffer) area ≡ record { reply = done (length value); buffer = pasted buffer 0 value; area = area }
read_found name value buffer area ps r f l =
    let g : NameRule name = found-named name value (area-read area ps r).good f in
    call-parsed (read name buffer) area (check-named name (read_into buffer) ∙ (check-good-exactly name).1 g) ps r ∙ read_done name ps area buffer f l

read_told_lem : (I : List ℕ) (p : Partition) (ps : List Pair) (name value buffer : List ℕ) → common_of I ≡ Ok p → parse (area_of I (Ok p)) ≡ parsed ps
    → lookup name ps ≡ found value → length value ≤ length buffer → (call_image (read name buffer) I).told ≡ value_told value buffer
read_told_lem I p ps name value buffer e r f l =
    ap (λ (x : ImageOutcome). x.told) (call-image (read name buffer) I p e)
    ∙ ap (λ (o : Outcome). told_at (p.offset + 16) o.reply o.buffer) (read_found name value buffer (area_of I (Ok p)) ps r f l)

value-start : (value buffer : List ℕ) → take (length value) (pasted buffer 0 value) ≡ value
value-start value buffer = ap (take (length value)) (pasted-first buffer value) ∙ take-append_seam value (drop (length value) buffer)

abbrev pub Reads : Told → List ℕ → Type 0
Reads a value = (a.code ≡ 0) × (a.amount ≡ length value) × (take (length value) a.buffer ≡ value)

told-reads : (a : Told) (value buffer : List ℕ) → a ≡ value_told value buffer → Reads a value
told-reads a value buffer e = rw e (refl, refl, value-start value buffer)

-- ---- a set that is done

refused-code : (e : Error) → code_of e ≢ 0
refused-code e q = omega (arith, (code-range e).0)

-- the code of what a call makes of an area that begins at n
abbrev code_from : ℕ → Outcome → ℕ
code_from n o = (told_at n o.reply o.buffer).code

-- what a set that is done shows
record SetDone (name value area : List ℕ) (o : Outcome) : Type 0 where
  pairs : List Pair
  reads : parse area ≡ parsed pairs
  named : NameRule name
  room : length (pairs_bytes (set_pair name value pairs)) + 1 ≤ length area
  left : o.area ≡ area_bytes (length area) (set_pair name value pairs)

module _ (n : ℕ) (name value area : List ℕ) (h : code_from n (call_area (set name value) area) ≡ 0) where
  never : {A : Type 0} (e : Error) (o : Outcome) → call_area (set name value) area ≡ o → code_from n o ≡ code_of (moved n e) → A
  never e o q c = absurd (refused-code (moved n e) (sym c ∙ ap (code_from n) (sym q) ∙ h))

  of-pairs : (g : name_check name ≡ good) (ps : List Pair) → parse area ≡ parsed ps → SetDone name value area (call_area (set name value) area)
  of-pairs g ps r =
      let c = call-parsed (set name value) area (check-named name (set_to value) ∙ g) ps r in
      split-room (length (pairs_bytes (set_pair name value ps)) + 1) (length area)
      (λ l. record {
        pairs = ps;
        reads = r;
        named = (check-good-exactly name).0 g;
        room = l;
        left = ap (λ (o : Outcome). o.area) (c ∙ set-outcome name value ps area l);
      })
      (λ l. never NoRoom (refuse NoRoom (set name value) area) (c ∙ set-short name value ps area l) refl)

  set-done : SetDone name value area (call_area (set name value) area)
  set-done =
      split-check (name_check name)
      (λ g. split-parse (parse area) (of-pairs g)
      (λ f k r. never (BadArea f k) (refuse (BadArea f k) (set name value) area)
      (call-faulty (set name value) area (check-named name (set_to value) ∙ g) f k r) refl))
      (λ k g. never (BadName k) (refuse (BadName k) (set name value) area)
      (call-misnamed (set name value) area k (check-named name (set_to value) ∙ g)) refl)

-- ---- a set and then a read, on an image

module _ (I : List ℕ) (p : Partition) (name value buffer : List ℕ) (e : common_of I ≡ Ok p) where
  set-then-read : SetDone name value (area_of I (Ok p)) (call_area (set name value) (area_of I (Ok p))) → length value ≤ length buffer
      → (call_image (read name buffer) (call_image (set name value) I).image).told ≡ value_told value buffer
  set-then-read d l =
      let qs : List Pair = set_pair name value d.pairs in
      let m = common-among I p e in
      let area : List ℕ = area_bytes (length (area_of I (Ok p))) qs in
      let k : length area ≡ length (area_of I (Ok p)) = length-area (length (area_of I (Ok p))) qs d.room in
      let g : GoodPairs [] qs = good-set value d.named (stands-none name) (area-read (area_of I (Ok p)) d.pairs d.reads).good in
      let q : (call_image (set name value) I).image ≡ pasted I (p.offset + 16) area =
      ap (λ (x : ImageOutcome). x.image) (call-image (set name value) I p e) ∙ ap (pasted I (p.offset + 16)) d.left in
      ap (λ (J : List ℕ). (call_image (read name buffer) J).told) q
      ∙ read_told_lem (pasted I (p.offset + 16) area) p qs name value buffer (common-kept I p e _ (pasted-kept I p m area k))
      (ap parse (area-new I p m area k) ∙ parse-area (length (area_of I (Ok p))) g) (lookup-set name value d.pairs) l

-- what is set reads back the same, on every image
pub set-read : (I name value buffer : List ℕ) → (call_image (set name value) I).told.code ≡ 0 → length value ≤ length buffer
    → Reads (call_image (read name buffer) (call_image (set name value) I).image).told value
set-read I name value buffer h l =
    split-check (call_check (set name value))
    (λ w. split-found (common_of I)
    (λ p e. told-reads (call_image (read name buffer) (call_image (set name value) I).image).told value buffer
    (set-then-read I p name value buffer e
    (set-done (p.offset + 16) name value (area_of I (Ok p))
    (sym (ap (λ (x : ImageOutcome). x.told.code) (call-image (set name value) I p e)) ∙ h)) l))
    (λ x e. absurd (refused-code x (sym (ap (λ (y : ImageOutcome). y.told.code) (image-refused (set name value) I w x e)) ∙ h))))
    (λ k w. absurd (refused-code (BadName k) (sym (ap (λ (y : ImageOutcome). y.told.code) (image-misnamed (set name value) I k w)) ∙ h)))

-- a variable reads as its entry says
pub entry_read : (I : List ℕ) → AllBytes I → (p : Partition) (es : List Entry) (name value buffer : List ℕ) → OnlyCommon I p
    → WellFormed es (area_at I p.offset) → Holds name es value → length value ≤ length buffer → Reads (call_image (read name buffer) I).told value
entry_read I b p es name value buffer f w h l =
    let e : common_of I ≡ Ok p = (common-exactly I b p).1 f in
    let A = among-area I p (common-among I p e) in
    let k = (parse-exactly (area_at I p.offset) es (rw A at (area-bytes I (Ok p) b))).1 w in
    told-reads (call_image (read name buffer) I).told value buffer
    (read_told_lem I p k.0 name value buffer e (ap parse A ∙ k.1)
    ((found-exactly name value k.0).1 (rw k.2 h)) l)

-- DEMAND 2
pub demand-2 : (I : List ℕ) → AllBytes I → Demand2 I
demand-2 I b =
    record {
      accepted = check-accepts I b;
      reads = entry_read I b;
      reads-back = set-read I;
      fewest = λ value new stored c s. omega (arith, ap length (canonical-encode c), encode-shortest s);
    }
