-- Rows 1 to 4, 6 and 11 of the table for every request, row 20, and the rows of the image check, of a partition and of its area.
use Prim.Native.Nat.{ℕ}
use mathlib.Core.Path.{◌≡◌, refl, sym, ap, subst, ◌∙◌}
use mathlib.Core.Logic.{◌⊎◌, inl, inr}
use mathlib.Core.List.{List, []}
use Rattle.lists.specs.Bytes.{AllBytes}
use Rattle.lists.proofs.Tests.{clash}
use Rattle.errors.specs.declared.HeaderFault.{HeaderFault}
use Rattle.errors.specs.declared.HeaderFault.TheVariants.{ZeroLength, PastEnd, Checksum}
use Rattle.errors.specs.declared.Error.{Error}
use Rattle.errors.specs.declared.Error.TheVariants.{NoPartition, BadName}
use Rattle.errors.specs.Errors.{header_code, code_of, offset_of}
use Rattle.header.specs.Rules.{Breaks}
use Rattle.partitions.specs.declared.Partition.{Partition}
use Rattle.std.specs.Prelude.{Result, Ok, Err}
use Rattle.partitions.specs.Find.{Found, check_of, index_of, find_of}
use Rattle.partitions.specs.Cover.{Rejected, PartitionCount, FirstNamed, NotNamed, rejected, second, absent, Indexed, NotIndexed, area_at}
use Rattle.partitions.proofs.CoverLaws.{check-accepts, check-refuses}
use Rattle.partitions.proofs.FoundLaws.{find_first, find-refuses, index_at, index-refuses}
use Rattle.partitions.proofs.AreaLaws.{found_among, area-refused}
use Rattle.partitions.proofs.FrameLaws.{among-area}
use Rattle.names.specs.Name.{good, wrong, name_check}
use Rattle.names.specs.Rules.{FirstWrong}
use Rattle.names.proofs.NameLaws.{check-good-exactly, check-wrong-exactly}
use Rattle.variables.specs.Calls.{Call, named, normalize, count, call_check}
use Rattle.variables.proofs.CallLaws.{check-named, check-normalize, check-count}
use Rattle.nvram.specs.Common.{SecondCommon, NotOnlyCommon, common_of}
use Rattle.nvram.specs.Calls.{ImageOutcome, refused_call, call_image}
use Rattle.nvram.proofs.CommonLaws.{common-refuses}
use Rattle.nvram.proofs.CallLaws.{image-misnamed, image-refused}
use Rattle.demands.specs.Requests.{Request, variable, check, partition, find, area, Seen, refuses, tells, shows, hands}
use Rattle.demands.specs.Table.{Takes, by_name, WellNamed, AtHeader, Absent, no-common, no_index, no_name, no-area, Answers}
use Rattle.demands.specs.Library.{seen_call, seen_check, seen_find, seen_area, seen}

-- ---- 11

pub well-named : (call : Call) → WellNamed (variable call) → call_check call ≡ good
well-named (named name action) w = check-named name action ∙ (check-good-exactly name).1 (w name by_name)
well-named normalize w = check-normalize
well-named count w = check-count

taken-name : {call : Call} {name : List ℕ} → Takes (variable call) name → call_check call ≡ name_check name
taken-name (by_name {name = name} {action = action}) = check-named name action

pub named-well : (call : Call) → call_check call ≡ good → WellNamed (variable call)
named-well call t name k = (check-good-exactly name).0 (sym (taken-name k) ∙ t)

pub eleven-row : (call : Call) (I : List ℕ) (at : ℕ) → call_check call ≡ wrong at → Answers I (variable call) (refuses (variable call) I 11 at)
eleven-row (named name action) I at e = Answers.eleven by_name ((check-wrong-exactly name at).0 (sym (check-named name action) ∙ e))
eleven-row normalize I at e = clash (cc (check-normalize))
eleven-row count I at e = clash (cc (check-count))

-- a refusal by the image or the caller's name, as it is seen
refusal-seen : (call : Call) (I : List ℕ) (e : Error) (r : ImageOutcome) → r ≡ refused_call e call I
    → seen_call r ≡ refuses (variable call) I (code_of e) (offset_of e)
refusal-seen call I e r q = ap seen_call q

pub misnamed-seen : (call : Call) (I : List ℕ) (at : ℕ) → call_check call ≡ wrong at → seen (variable call) I ≡ refuses (variable call) I 11 at
misnamed-seen call I at t = refusal-seen call I (BadName at) (call_image call I) (image-misnamed call I at t)

pub eleven-seen : {name : List ℕ} {i : ℕ} (r : Request) (I : List ℕ) → Takes r name → FirstWrong name i → seen r I ≡ refuses r I 11 i
eleven-seen {name} {i} (variable call) I k w = misnamed-seen call I i (taken-name k ∙ (check-wrong-exactly name i).1 w)
eleven-seen {name = name} {i = i} check I k w = elim k [ ]
eleven-seen {name = name} {i = i} (partition _) I k w = elim k [ ]
eleven-seen {name = name} {i = i} (find _ _) I k w = elim k [ ]
eleven-seen {name = name} {i = i} (area _ _) I k w = elim k [ ]

-- ---- 1 to 4, 20, and 6

header_row : {r : Request} {I : List ℕ} {a : ℕ} → AtHeader r I a → (f : HeaderFault) → Breaks I a f → Answers I r (refuses r I (header_code f) a)
header_row h ZeroLength x = Answers.two h x
header_row h PastEnd x = Answers.three h x
header_row h Checksum x = Answers.four h x

-- the image refuses a request
abbrev pub Missed : List ℕ → Request → Error → Type 0
Missed I r e = Rejected I e ⊎ ((e ≡ NoPartition) × Absent I r)

pub missed-row : (r : Request) (I : List ℕ) (e : Error) → WellNamed r → Missed I r e → Answers I r (refuses r I (code_of e) (offset_of e))
missed-row r I e w (inl (Rejected.one q)) = Answers.one w q
missed-row r I e w (inl (Rejected.header l c i x)) = header_row (record { named = w; long = l; before = _; cover = c; within = i }) _ x
missed-row r I e w (inr (q, b)) = rw q (Answers.six w b)

-- what refuses a call on variables before its area is looked at
pub unfound-row : (call : Call) (I : List ℕ) (e : Error) → WellNamed (variable call) → NotOnlyCommon I e
    → Answers I (variable call) (refuses (variable call) I (code_of e) (offset_of e))
unfound-row call I e w (rejected r) = missed-row (variable call) I e w (inl r)
unfound-row call I e w (second s) = Answers.twenty w s
unfound-row call I e w (absent n) = Answers.six w (no-common n)

missed-common : {I : List ℕ} {call : Call} {e : Error} → Missed I (variable call) e → NotOnlyCommon I e
missed-common (inl r) = rejected r
missed-common (inr (q, no-common n)) = rw q (absent n)

absent-index : {I : List ℕ} {n : ℕ} → Absent I (partition n) → NotIndexed I n
absent-index (no_index n) = n

absent-name : {I : List ℕ} {signature : ℕ} {name : List ℕ} → Absent I (find signature name) → NotNamed I signature name
absent-name (no_name n) = n

absent-area : {I : List ℕ} {signature : ℕ} {name : List ℕ} → Absent I (area signature name) → NotNamed I signature name
absent-area (no-area n) = n

moving : {A B C : Type 0} → (B → C) → A ⊎ B → A ⊎ C
moving f (inl a) = inl a
moving f (inr b) = inr (f b)

module _ (I : List ℕ) (bytes : AllBytes I) where
  pub refused-call : (call : Call) (e : Error) → call_check call ≡ good → common_of I ≡ Err e
      → seen (variable call) I ≡ refuses (variable call) I (code_of e) (offset_of e)
  refused-call call e t f = refusal-seen call I e (call_image call I) (image-refused call I t e f)

  refused-area : (signature : ℕ) (name : List ℕ) (e : Error) → seen_area (Err e) I ≡ refuses (area signature name) I (code_of e) (offset_of e)
  refused-area signature name e =
      λ i. record {
        code = code_of e;
        offset = offset_of e;
        amount = 0;
        header = 0;
        blocks = 0;
        signature = 0;
        part = area-refused I e i;
        buffer = [];
        image = I;
      }

  pub missed-seen : (r : Request) (e : Error) → WellNamed r → Missed I r e → seen r I ≡ refuses r I (code_of e) (offset_of e)
  missed-seen (variable call) e w m =
      refused-call call e (well-named call w) ((common-refuses I bytes e).1 (missed-common m))
  missed-seen check e w (inl r) = ap (λ (c : Result ℕ Error). seen_check c I) ((check-refuses I bytes e).1 r)
  missed-seen check e w (inr b) = elim b.1 [ ]
  missed-seen (partition n) e w m =
      ap (λ (f : Found). seen_find f I) ((index-refuses I bytes n e).1 (moving (λ b. (b.0, absent-index b.1)) m))
  missed-seen (find signature name) e w m =
      ap (λ (f : Found). seen_find f I) ((find-refuses I signature name bytes e).1 (moving (λ b. (b.0, absent-name b.1)) m))
  missed-seen (area signature name) e w m =
      ap (λ (f : Found). seen_area f I) ((find-refuses I signature name bytes e).1 (moving (λ b. (b.0, absent-area b.1)) m))
      ∙ refused-area signature name e

  pub header-seen : {a : ℕ} {f : HeaderFault} (r : Request) → AtHeader r I a → Breaks I a f → seen r I ≡ refuses r I (header_code f) a
  header-seen r h x = missed-seen r _ h.named (inl (Rejected.header h.long h.cover h.within x))

  pub second-seen : (call : Call) (p : Partition) → WellNamed (variable call) → SecondCommon I p
      → seen (variable call) I ≡ refuses (variable call) I 20 p.offset
  second-seen call p w s = refused-call call _ (well-named call w) ((common-refuses I bytes _).1 (second s))

  -- ---- the image check, a partition, and its area

  pub check-seen : (n : ℕ) → PartitionCount I n → seen check I ≡ tells n [] I
  check-seen n c = ap (λ (c : Result ℕ Error). seen_check c I) ((check-accepts I bytes n).1 c)

  pub partition-seen : (n : ℕ) (p : Partition) → Indexed I n p → seen (partition n) I ≡ shows p I
  partition-seen n p x = ap (λ (f : Found). seen_find f I) ((index_at I bytes n p).1 x)

  module _ (signature : ℕ) (name : List ℕ) (p : Partition) (f : FirstNamed I signature name p) where
    pub find-seen : seen (find signature name) I ≡ shows p I
    find-seen = ap (λ (x : Found). seen_find x I) ((find_first I signature name bytes p).1 f)

    pub area-seen : seen (area signature name) I ≡ hands (area_at I p.offset) I
    area-seen =
        let e = (find_first I signature name bytes p).1 f in
        ap (λ (f : Found). seen_area f I) e ∙ ap (λ (x : List ℕ). hands x I) (among-area I p (found_among I signature name p e))

  pub check-row : Answers I check (seen check I)
  check-row = go (check_of I) refl
    where
      go : (c : Result ℕ Error) → check_of I ≡ c → Answers I check (seen_check c I)
      go (Ok n) e = Answers.done-check ((check-accepts I bytes n).0 e)
      go (Err x) e = missed-row check I x (λ name k. elim k [ ]) (inl ((check-refuses I bytes x).0 e))

  pub partition-row : (n : ℕ) → Answers I (partition n) (seen (partition n) I)
  partition-row n = go (index_of I n) refl
    where
      go : (f : Found) → index_of I n ≡ f → Answers I (partition n) (seen_find f I)
      go (Ok p) e = Answers.done-partition ((index_at I bytes n p).0 e)
      go (Err x) e = missed-row (partition n) I x (λ name k. elim k [ ]) (moving (λ b. (b.0, no_index b.1)) ((index-refuses I bytes n x).0 e))

  module _ (signature : ℕ) (name : List ℕ) where
    pub find-row : Answers I (find signature name) (seen (find signature name) I)
    find-row = go (find_of I signature name) refl
      where
        go : (f : Found) → find_of I signature name ≡ f → Answers I (find signature name) (seen_find f I)
        go (Ok p) e = Answers.done-find ((find_first I signature name bytes p).0 e)
        go (Err x) e =
            missed-row (find signature name) I x (λ n k. elim k [ ]) (moving (λ b. (b.0, no_name b.1)) ((find-refuses I signature name bytes x).0 e))

    pub area-row : Answers I (area signature name) (seen (area signature name) I)
    area-row = go (find_of I signature name) refl
      where
        go : (f : Found) → find_of I signature name ≡ f → Answers I (area signature name) (seen_area f I)
        go (Ok p) e =
            subst (λ (x : List ℕ). Answers I (area signature name) (hands x I)) (sym (among-area I p (found_among I signature name p e)))
            (Answers.done-area ((find_first I signature name bytes p).0 e))
        go (Err x) e =
            subst (λ (s : Seen). Answers I (area signature name) s) (sym (refused-area signature name x))
            (missed-row (area signature name) I x (λ n k. elim k [ ]) (moving (λ b. (b.0, no-area b.1)) ((find-refuses I signature name bytes x).0 e)))
