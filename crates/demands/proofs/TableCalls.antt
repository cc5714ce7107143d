-- A row of the table that holds is what is seen.
use Prim.Native.Nat.{ℕ, ◌+◌, ◌≤◌}
use mathlib.Core.Path.{◌≡◌, refl, sym, ap, ◌∙◌}
use mathlib.Core.Logic.{inl, inr}
use mathlib.Core.List.{List, [], ◌∷◌}
use native.Mathlib.Omega.{arith}
use lib.ListN.{length}
use Rattle.lists.specs.Bytes.{AllBytes}
use Rattle.lists.specs.Pasted.{pasted}
use Rattle.errors.specs.declared.AreaFault.{AreaFault}
use Rattle.errors.specs.declared.Error.TheVariants.{ImageLength, NoPartition, BadArea, NoVariable, NoRoom, ShortBuffer}
use Rattle.errors.specs.Errors.{area_code}
use Rattle.partitions.specs.Cover.{area_at, Rejected}
use Rattle.pairs.specs.Area.{Pair, pairs_bytes, Parse, parsed, faulty, parse}
use Rattle.pairs.specs.Rules.{Entry, FaultAt}
use Rattle.pairs.proofs.EntryLaws.{entries_of, parse-exactly}
use Rattle.pairs.proofs.FaultLaws.{faulty-exactly}
use Rattle.variables.specs.Edits.{set_pair}
use Rattle.variables.specs.Calls.{Call, set, remove, read, call_pairs, call_by}
use Rattle.variables.proofs.CallLaws.{set-short, set-done, remove-missing, remove-found, read-missing, read_short, read_done, normalize-done, count-done}
use Rattle.variables.proofs.LookupLaws.{found-exactly, missing-exactly, set-size-exactly}
use Rattle.variables.proofs.LeavesLaws.{set-leaves-exactly, remove-leaves-exactly, normalize-leaves-exactly}
use Rattle.demands.specs.Requests.{Request, variable, Seen, refuses, tells}
use Rattle.demands.specs.Table.{by_name, AtPair, Answers}
use Rattle.demands.specs.Library.{seen}
use Rattle.demands.specs.Demands.{RequestBytes}
use Rattle.demands.proofs.ModelLaws.{count_entries}
use Rattle.demands.proofs.TableImage.{well-named, eleven-seen, missed-seen, header-seen, second-seen, check-seen, partition-seen, find-seen, area-seen}
use Rattle.demands.proofs.TablePlaces.{holding-pasted}
use Rattle.demands.proofs.TableSeen.{CommonAt, pair-common, seen_outcome, common-bytes, becomes-edit, call-seen, refuse-seen, answer-seen}

-- ---- 7 to 10

module _ (I : List ℕ) (bytes : AllBytes I) where
  fault-seen : {call : Call} {rest : List ℕ} {a k : ℕ} {es : List Entry} {f : AreaFault} → AtPair call I a es rest
      → FaultAt (length (area_at I a)) es rest f k → seen (variable call) I ≡ refuses (variable call) I (area_code f) (a + 16 + k)
  fault-seen {call} {rest} {a} {k} {es} {f} h x =
      let w = pair-common bytes h in
      let q : parse (area_at I a) ≡ faulty f k =
      (faulty-exactly (area_at I a) f k (common-bytes I a w bytes)).1 (record { before = es; rest = rest; pairs = h.pairs; once = h.once; fault = x }) in
      call-seen I a w call (well-named call h.named) ∙ ap (λ (y : Parse). seen_outcome I a (call_by y call (area_at I a))) q
      ∙ refuse-seen I a w call (BadArea f k)

  -- ---- 12 to 14, and done

  -- the pairs that the call finds
  record Met (call : Call) (a : ℕ) (es : List Entry) : Type 0 where
    place : CommonAt I a
    list : List Pair
    parses : parse (area_at I a) ≡ parsed list
    entries : entries_of list ≡ es
    told : seen (variable call) I ≡ seen_outcome I a (call_pairs call list (area_at I a))

  met : {call : Call} {a : ℕ} {es : List Entry} {padding : List ℕ} → AtPair call I a es (0x00 ∷ padding) → Met call a es
  met {call} {a} {es} {padding} h =
      let w = pair-common bytes h in
      let k = (parse-exactly (area_at I a) es (common-bytes I a w bytes)).1 (record { padding = padding; pairs = h.pairs; once = h.once }) in
      record {
        place = w;
        list = k.0;
        parses = k.1;
        entries = k.2;
        told = call-seen I a w call (well-named call h.named) ∙ ap (λ (x : Parse). seen_outcome I a (call_by x call (area_at I a))) k.1;
      }

  -- A ROW THAT HOLDS IS SEEN
  pub row_seen : {r : Request} {s : Seen} → RequestBytes r → Answers I r s → seen r I ≡ s
  row_seen b (Answers.eleven {r = r} k q) = eleven-seen r I k q
  row_seen b (Answers.one {r = r} w q) = missed-seen I bytes r ImageLength w (inl (Rejected.one q))
  row_seen b (Answers.two {r = r} h x) = header-seen I bytes r h x
  row_seen b (Answers.three {r = r} h x) = header-seen I bytes r h x
  row_seen b (Answers.four {r = r} h x) = header-seen I bytes r h x
  row_seen b (Answers.twenty {call = call} {p = p} w s) = second-seen I bytes call p w s
  row_seen b (Answers.six {r = r} w x) = missed-seen I bytes r NoPartition w (inr (refl, x))
  row_seen b (Answers.seven h x) = fault-seen h x
  row_seen b (Answers.eight h x) = fault-seen h x
  row_seen b (Answers.nine h x) = fault-seen h x
  row_seen b (Answers.ten h x) = fault-seen h x
  row_seen b (Answers.twelve-read {a = a} {name = name} {buffer = buffer} h q) =
      let m = met h in
      let e = (missing-exactly name m.list).1 (rw (← m.entries) at q) in
      m.told ∙ ap (seen_outcome I a) (read-missing name m.list (area_at I a) buffer e) ∙ refuse-seen I a m.place (read name buffer) NoVariable
  row_seen b (Answers.twelve-remove {a = a} {name = name} h q) =
      let m = met h in
      let e = (missing-exactly name m.list).1 (rw (← m.entries) at q) in
      m.told ∙ ap (seen_outcome I a) (remove-missing name m.list (area_at I a) e) ∙ refuse-seen I a m.place (remove name) NoVariable
  row_seen b (Answers.thirteen {a = a} {n = n} {name = name} {value = value} h z l) =
      let m = met h in
      let k = (set-size-exactly name value m.list n b).0 (rw (← m.entries) at z) in
      m.told ∙ ap (seen_outcome I a) (set-short name value m.list (area_at I a) (omega (arith, k, l)))
      ∙ refuse-seen I a m.place (set name value) NoRoom
  row_seen b (Answers.fourteen {a = a} {name = name} {buffer = buffer} {value = value} h v l) =
      let m = met h in
      let e = (found-exactly name value m.list).1 (rw (← m.entries) at v) in
      m.told ∙ ap (seen_outcome I a) (read_short name m.list (area_at I a) buffer e l) ∙ refuse-seen I a m.place (read name buffer) ShortBuffer
  row_seen b (Answers.done-set {a = a} {n = n} {name = name} {value = value} {area' = area'} h z l s j) =
      let m = met h in
      let k = (set-size-exactly name value m.list n b).0 (rw (← m.entries) at z) in
      let room : length (pairs_bytes (set_pair name value m.list)) + 1 ≤ length (area_at I a) = omega (arith, k, l) in
      let e = ((set-leaves-exactly name value (area_at I a) area' m.list (h.named name by_name) b (common-bytes I a m.place bytes) m.parses).0 s).1 in
      m.told ∙ ap (seen_outcome I a) (set-done name value m.list (area_at I a) room)
      ∙ ap (λ (x : List ℕ). tells 0 [] (pasted I (a + 16) x)) (sym e) ∙ ap (tells 0 []) (becomes-edit I a m.place j)
  row_seen b (Answers.done-remove {a = a} {name = name} {value = value} {area' = area'} h v s j) =
      let m = met h in
      let f = (found-exactly name value m.list).1 (rw (← m.entries) at v) in
      let e = ((remove-leaves-exactly name (area_at I a) area' m.list (h.named name by_name) (common-bytes I a m.place bytes) m.parses).0 s).1 in
      m.told ∙ ap (seen_outcome I a) (remove-found name m.list (area_at I a) f)
      ∙ ap (λ (x : List ℕ). tells 0 [] (pasted I (a + 16) x)) (sym e) ∙ ap (tells 0 []) (becomes-edit I a m.place j)
  row_seen b (Answers.done-normalize {a = a} {area' = area'} h s j) =
      let m = met h in
      let e = (normalize-leaves-exactly (area_at I a) area' m.list (common-bytes I a m.place bytes) m.parses).0 s in
      m.told ∙ ap (seen_outcome I a) (normalize-done m.list (area_at I a))
      ∙ ap (λ (x : List ℕ). tells 0 [] (pasted I (a + 16) x)) (sym e) ∙ ap (tells 0 []) (becomes-edit I a m.place j)
  row_seen b (Answers.done-read {a = a} {name = name} {buffer = buffer} {value = value} h v l j) =
      let m = met h in
      let f = (found-exactly name value m.list).1 (rw (← m.entries) at v) in
      m.told ∙ ap (seen_outcome I a) (read_done name m.list (area_at I a) buffer f l)
      ∙ answer-seen I a m.place (length value) (pasted buffer 0 value)
      ∙ ap (λ (x : List ℕ). tells (length value) x I) (holding-pasted value buffer l j)
  row_seen b (Answers.done-count {a = a} h) =
      let m = met h in
      m.told ∙ ap (seen_outcome I a) (count-done m.list (area_at I a)) ∙ answer-seen I a m.place (length m.list) []
      ∙ ap (λ (n : ℕ). tells n [] I) (sym (count_entries m.list) ∙ ap length m.entries)
  row_seen b (Answers.done-check {n = n} c) = check-seen I bytes n c
  row_seen b (Answers.done-partition {n = n} {p = p} x) = partition-seen I bytes n p x
  row_seen b (Answers.done-find {signature = signature} {name = name} {p = p} f) = find-seen I bytes signature name p f
  row_seen b (Answers.done-area {signature = signature} {name = name} {p = p} f) = area-seen I bytes signature name p f
