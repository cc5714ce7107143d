-- What is seen of a request is a row of the table that holds.
use Prim.Native.Nat.{ℕ, ◌+◌, ◌≤◌, ◌<◌}
use mathlib.Core.Path.{◌≡◌, refl, sym, ap, subst, ◌∙◌}
use mathlib.Core.Bool.{true}
use mathlib.Core.List.{List, [], ◌∷◌}
use native.Mathlib.Omega.{arith}
use native.Mathlib.Decide.{dec_le}
use lib.ListN.{length}
use Rattle.lists.specs.Bytes.{AllBytes, stands}
use Rattle.lists.specs.Pasted.{pasted}
use Rattle.lists.proofs.Tests.{split, clash}
use Rattle.errors.specs.declared.AreaFault.{AreaFault}
use Rattle.errors.specs.declared.AreaFault.TheVariants.{AreaEnd, StoredName, Escape, Repeated}
use Rattle.errors.specs.declared.Error.TheVariants.{BadArea, NoVariable, NoRoom, ShortBuffer}
use Rattle.errors.specs.Errors.{area_code}
use Rattle.partitions.specs.Find.{Found}
use Rattle.std.specs.Prelude.{Ok, Err}
use Rattle.partitions.specs.Cover.{area_at}
use Rattle.names.specs.Name.{good}
use Rattle.names.proofs.NameLaws.{split-check}
use Rattle.pairs.specs.Area.{Pair, pairs_bytes, Parse, parsed, faulty, parse}
use Rattle.pairs.specs.Rules.{Entry, Pairs, Once, FaultAt}
use Rattle.pairs.proofs.StandsLaws.{names}
use Rattle.pairs.proofs.EntryLaws.{entries_of, parse-exactly}
use Rattle.pairs.proofs.FaultLaws.{faulty-exactly}
use Rattle.variables.specs.Edits.{area_bytes, set_pair, remove_pair, normalize_pairs, Lookup, found, missing, lookup}
use Rattle.variables.specs.Calls.{set_to, removal, read_into, Call, named, set, remove, normalize, read, count, call_check, call_pairs, call_by}
use Rattle.variables.proofs.EditLaws.{length-area, lookup-missing-exactly}
use Rattle.variables.proofs.KeptLaws.{remove-length, normalize-length}
use Rattle.variables.proofs.CallLaws.{set-short, set-done, remove-missing, remove-found, read-missing, read_short, read_done, normalize-done, count-done}
use Rattle.variables.proofs.LookupLaws.{found-exactly, missing-exactly, set-size-exactly}
use Rattle.variables.proofs.LeavesLaws.{set-leaves-exactly, remove-leaves-exactly, normalize-leaves-exactly}
use Rattle.nvram.specs.Common.{common_of}
use Rattle.nvram.proofs.CommonLaws.{common-exactly, common-refuses}
use Rattle.demands.specs.Requests.{Request, variable, check, partition, find, area, Seen, refuses, tells}
use Rattle.demands.specs.Table.{WellNamed, by_name, AtPair, Answers}
use Rattle.demands.specs.Library.{seen}
use Rattle.demands.specs.Demands.{CallBytes, RequestBytes}
use Rattle.demands.proofs.ModelLaws.{count_entries}
use Rattle.demands.proofs.TableImage.{named-well, eleven-row, misnamed-seen, refused-call, unfound-row, check-row, partition-row, find-row, area-row}
use Rattle.demands.proofs.TablePlaces.{pasted-holding}
use Rattle.demands.proofs.TableSeen.{CommonAt, seen_outcome, common-bytes, edit-becomes, call-seen, refuse-seen, answer-seen}

same_row : {r : Request} {I : List ℕ} {s t : Seen} → s ≡ t → Answers I r t → Answers I r s
same_row {r} {I} e x = subst (λ (s : Seen). Answers I r s) (sym e) x

-- 7 to 10
fault-row : {call : Call} {I rest : List ℕ} {a k : ℕ} {es : List Entry} → AtPair call I a es rest → (f : AreaFault)
    → FaultAt (length (area_at I a)) es rest f k → Answers I (variable call) (refuses (variable call) I (area_code f) (a + 16 + k))
fault-row h AreaEnd x = Answers.seven h x
fault-row h StoredName x = Answers.eight h x
fault-row h Escape x = Answers.nine h x
fault-row h Repeated x = Answers.ten h x

module _ (I : List ℕ) (bytes : AllBytes I) where
  module _ (a : ℕ) (w : CommonAt I a) where
    common-pair : {call : Call} {es : List Entry} {rest : List ℕ} → WellNamed (variable call) → Pairs es (area_at I a) rest → Once es
        → AtPair call I a es rest
    common-pair n ps o = record {
      named = n;
      partition = w.partition;
      holds = (common-exactly I bytes w.partition).0 w.found;
      at_offset = w.at_offset;
      pairs = ps;
      once = o;
    }

    faulty-row : (call : Call) (f : AreaFault) (k : ℕ) → WellNamed (variable call) → parse (area_at I a) ≡ faulty f k
        → Answers I (variable call) (seen_outcome I a (call_by (parse (area_at I a)) call (area_at I a)))
    faulty-row call f k n q =
        let x = (faulty-exactly (area_at I a) f k (common-bytes I a w bytes)).0 q in
        same_row (ap (λ (y : Parse). seen_outcome I a (call_by y call (area_at I a))) q ∙ refuse-seen I a w call (BadArea f k))
        (fault-row (common-pair {call = call} n x.pairs x.once) f x.fault)

    module _ (ps : List Pair) (q : parse (area_at I a) ≡ parsed ps) where
      common-end : (call : Call) → WellNamed (variable call) → (padding : List ℕ) × AtPair call I a (entries_of ps) (0x00 ∷ padding)
      common-end call n =
          let f = (parse-exactly (area_at I a) (entries_of ps) (common-bytes I a w bytes)).0 (ps, q, refl) in
          (f.padding, common-pair {call = call} n f.pairs f.once)

      set-row : (name value : List ℕ) → AllBytes value → WellNamed (variable (set name value))
          → Answers I (variable (set name value)) (seen_outcome I a (call_pairs (set name value) ps (area_at I a)))
      set-row name value b n = go (dec_le (length (pairs_bytes (set_pair name value ps)) + 1) (length (area_at I a)))
        where
          go : Dec (length (pairs_bytes (set_pair name value ps)) + 1 ≤ length (area_at I a))
              → Answers I (variable (set name value)) (seen_outcome I a (call_pairs (set name value) ps (area_at I a)))
          go (yes l) =
              let new : List ℕ = area_bytes (length (area_at I a)) (set_pair name value ps) in
              same_row (ap (seen_outcome I a) (set-done name value ps (area_at I a) l))
              (Answers.done-set (common-end (set name value) n).1 ((set-size-exactly name value ps _ b).1 refl) l
              ((set-leaves-exactly name value (area_at I a) new ps (n name by_name) b (common-bytes I a w bytes) q).1 (l, refl))
              (edit-becomes I a w new (length-area (length (area_at I a)) (set_pair name value ps) l)))
          go (no l) =
              let k : length (area_at I a) < length (pairs_bytes (set_pair name value ps)) + 1 = omega arith in
              same_row (ap (seen_outcome I a) (set-short name value ps (area_at I a) k) ∙ refuse-seen I a w (set name value) NoRoom)
              (Answers.thirteen (common-end (set name value) n).1 ((set-size-exactly name value ps _ b).1 refl) k)

      stands-found : (name value : List ℕ) → lookup name ps ≡ found value → stands name (names ps) ≡ true
      stands-found name value e = split (stands name (names ps)) (λ t. t) (λ t. clash (cc ((lookup-missing-exactly name ps).1 t)))

      remove-row : (name : List ℕ) → WellNamed (variable (remove name))
          → Answers I (variable (remove name)) (seen_outcome I a (call_pairs (remove name) ps (area_at I a)))
      remove-row name n = go (lookup name ps) refl
        where
          go : (f : Lookup) → lookup name ps ≡ f → Answers I (variable (remove name)) (seen_outcome I a (call_pairs (remove name) ps (area_at I a)))
          go (found value) e =
              let new : List ℕ = area_bytes (length (area_at I a)) (remove_pair name ps) in
              same_row (ap (seen_outcome I a) (remove-found name ps (area_at I a) e))
              (Answers.done-remove (common-end (remove name) n).1 ((found-exactly name value ps).0 e)
              ((remove-leaves-exactly name (area_at I a) new ps (n name by_name) (common-bytes I a w bytes) q).1 (stands-found name value e, refl))
              (edit-becomes I a w new (remove-length (area_at I a) ps q name)))
          go missing e =
              same_row (ap (seen_outcome I a) (remove-missing name ps (area_at I a) e) ∙ refuse-seen I a w (remove name) NoVariable)
              (Answers.twelve-remove (common-end (remove name) n).1 ((missing-exactly name ps).0 e))

      normalize-row : WellNamed (variable normalize) → Answers I (variable normalize) (seen_outcome I a (call_pairs normalize ps (area_at I a)))
      normalize-row n =
          let new : List ℕ = area_bytes (length (area_at I a)) (normalize_pairs ps) in
          same_row (ap (seen_outcome I a) (normalize-done ps (area_at I a)))
          (Answers.done-normalize (common-end normalize n).1 ((normalize-leaves-exactly (area_at I a) new ps (common-bytes I a w bytes) q).1 refl)
          (edit-becomes I a w new (normalize-length (area_at I a) ps q)))

      read-row : (name buffer : List ℕ) → WellNamed (variable (read name buffer))
          → Answers I (variable (read name buffer)) (seen_outcome I a (call_pairs (read name buffer) ps (area_at I a)))
      read-row name buffer n = go (lookup name ps) refl
        where
          fits : (value : List ℕ) → lookup name ps ≡ found value → Dec (length value ≤ length buffer)
              → Answers I (variable (read name buffer)) (seen_outcome I a (call_pairs (read name buffer) ps (area_at I a)))
          fits value e (yes l) =
              same_row
              (ap (seen_outcome I a) (read_done name ps (area_at I a) buffer e l) ∙ answer-seen I a w (length value) (pasted buffer 0 value))
              (Answers.done-read (common-end (read name buffer) n).1 ((found-exactly name value ps).0 e) l (pasted-holding value buffer l))
          fits value e (no l) =
              let k : length buffer < length value = omega arith in
              same_row (ap (seen_outcome I a) (read_short name ps (area_at I a) buffer e k) ∙ refuse-seen I a w (read name buffer) ShortBuffer)
              (Answers.fourteen (common-end (read name buffer) n).1 ((found-exactly name value ps).0 e) k)

          go : (f : Lookup) → lookup name ps ≡ f
              → Answers I (variable (read name buffer)) (seen_outcome I a (call_pairs (read name buffer) ps (area_at I a)))
          go (found value) e = fits value e (dec_le (length value) (length buffer))
          go missing e =
              same_row (ap (seen_outcome I a) (read-missing name ps (area_at I a) buffer e) ∙ refuse-seen I a w (read name buffer) NoVariable)
              (Answers.twelve-read (common-end (read name buffer) n).1 ((missing-exactly name ps).0 e))

      count-row : WellNamed (variable count) → Answers I (variable count) (seen_outcome I a (call_pairs count ps (area_at I a)))
      count-row n =
          same_row
          (ap (seen_outcome I a) (count-done ps (area_at I a)) ∙ answer-seen I a w (length ps) [] ∙ ap (λ (k : ℕ). tells k [] I) (sym (count_entries ps)))
          (Answers.done-count (common-end count n).1)

      pairs-row : (call : Call) → CallBytes call → WellNamed (variable call)
          → Answers I (variable call) (seen_outcome I a (call_pairs call ps (area_at I a)))
      pairs-row (named name (set_to value)) b n = set-row name value b n
      pairs-row (named name removal) b n = remove-row name n
      pairs-row (named name (read_into buffer)) b n = read-row name buffer n
      pairs-row normalize b n = normalize-row n
      pairs-row count b n = count-row n

    -- a call on the area that was found
    common-row : (call : Call) → CallBytes call → call_check call ≡ good → Answers I (variable call) (seen (variable call) I)
    common-row call b t = same_row (call-seen I a w call t) (go (parse (area_at I a)) refl)
      where
        go : (x : Parse) → parse (area_at I a) ≡ x → Answers I (variable call) (seen_outcome I a (call_by (parse (area_at I a)) call (area_at I a)))
        go (faulty f k) q = faulty-row call f k (named-well call t) q
        go (parsed ps) q = same_row (ap (λ (x : Parse). seen_outcome I a (call_by x call (area_at I a))) q) (pairs-row ps q call b (named-well call t))

  -- WHAT IS SEEN IS A ROW THAT HOLDS
  pub seen-row : (r : Request) → RequestBytes r → Answers I r (seen r I)
  seen-row (variable call) b =
      split-check (call_check call)
      (λ t. go t (common_of I) refl)
      (λ at t. same_row (misnamed-seen call I at t) (eleven-row call I at t))
    where
      go : call_check call ≡ good → (f : Found) → common_of I ≡ f → Answers I (variable call) (seen (variable call) I)
      go t (Ok p) e = common-row p.offset (record { partition = p; found = e; at_offset = refl }) call b t
      go t (Err x) e =
          same_row (refused-call I bytes call x t e)
          (unfound-row call I x (named-well call t) ((common-refuses I bytes x).0 e))
  seen-row check b = check-row I bytes
  seen-row (partition n) b = partition-row I bytes n
  seen-row (find signature name) b = find-row I bytes signature name
  seen-row (area signature name) b = area-row I bytes signature name
