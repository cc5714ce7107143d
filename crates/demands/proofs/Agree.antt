-- One call on an area of pairs and one step of the model: both tell the same, and the model stays that of the area.
use Prim.Native.Nat.{ℕ, ◌+◌, ◌≤◌}
use mathlib.Core.Path.{◌≡◌, refl, sym, ap, ◌∙◌}
use mathlib.Core.List.{List, [], ◌++◌}
use native.Mathlib.Omega.{arith}
use lib.ListN.{length, drop}
use borrow.Author.Tests.{lt-ltb, le-ltb}
use Rattle.lists.specs.Bytes.{AllBytes}
use Rattle.lists.specs.Pasted.{pasted}
use Rattle.lists.proofs.Tests.{clash}
use Rattle.lists.proofs.PastedLaws.{pasted-first}
use Rattle.errors.specs.declared.Error.TheVariants.{BadName, NoVariable, NoRoom, ShortBuffer}
use Rattle.names.specs.Name.{good as good-name, wrong, name_check}
use Rattle.names.specs.Rules.{NameRule}
use Rattle.names.proofs.NameLaws.{check-good-exactly, split-check}
use Rattle.pairs.specs.Area.{Pair, pairs_bytes, parsed, parse}
use Rattle.pairs.specs.Rules.{Entry}
use Rattle.pairs.proofs.ParseLaws.{Good as GoodPairs, area-read, read-room, bytes_read}
use Rattle.lists.proofs.StandsLaws.{stands-none}
use Rattle.pairs.proofs.EntryLaws.{entries_of}
use Rattle.variables.specs.Edits.{area_bytes, set_pair, remove_pair, normalize_pairs, lookup}
use Rattle.variables.specs.Calls.{Action, set_to, removal, read_into, lent_by, Call, named, set, remove, normalize, read, count, Reply, done, refused, Outcome, edited, call_pairs, call_area}
use Rattle.variables.proofs.EditLaws.{length-area, parse-area, good-set, good-remove, good-normalize, remove-room, bytes-set, bytes-remove, bytes-normalize, bytes-area, normalize-short, normalize-twice, normalize-set, normalize-remove}
use Rattle.variables.proofs.CallLaws.{check-named, check-normalize, check-count, call-misnamed, call-parsed, set-short, set-done, remove-missing, remove-found, read-missing, read_short, read_done, normalize-done, count-done, split-lookup, split-room}
use Rattle.nvram.specs.Calls.{Told, told_at}
use Rattle.demands.specs.Model.{Model, total, set_entry, drop_entry, new_sizes, Value, value_of, ModelResult, says, denies, keeps, becomes, set_model, remove_model, read_model, action_model, call_model, canonical_area}
use Rattle.demands.specs.Demands.{ActionBytes, CallBytes}
use Rattle.demands.proofs.ModelLaws.{entries-set, entries-remove, entries-normalize, value_for, value-entries, count_entries, total-entries, canonical-area}

-- the model of an area that reads as these pairs
abbrev pub model_of : List ℕ → List Pair → Model
model_of area ps = record { room = length area; entries = entries_of ps }

-- ---- canonical form

-- the area is the canonical form of its pairs
pub record InForm (area : List ℕ) (ps : List Pair) : Type 0 where
  pub values : normalize_pairs ps ≡ ps
  pub bytes : area ≡ area_bytes (length area) ps

pub in-form-area : {area : List ℕ} {ps : List Pair} → InForm area ps → area ≡ canonical_area (length area) (entries_of ps)
in-form-area {area} {ps} f = f.bytes ∙ ap (area_bytes (length area)) (sym f.values) ∙ sym (canonical-area (length area) ps)

parsed-same : {ps qs : List Pair} → parsed ps ≡ parsed qs → ps ≡ qs
parsed-same e = cc

pub area-in-form : (area : List ℕ) (ps : List Pair) → parse area ≡ parsed ps → area ≡ canonical_area (length area) (entries_of ps) → InForm area ps
area-in-form area ps r c =
    let q : area ≡ area_bytes (length area) (normalize_pairs ps) = c ∙ canonical-area (length area) ps in
    let s : normalize_pairs ps ≡ ps =
    parsed-same (sym (parse-area (length area) (good-normalize (area-read area ps r).good)) ∙ ap parse (sym q) ∙ r) in
    record { values = s; bytes = q ∙ ap (area_bytes (length area)) s }

-- ---- one step of the model

module _ (m : Model) where
  step-misnamed : (name : List ℕ) (action : Action) (at : ℕ) → name_check name ≡ wrong at
      → call_model (named name action) m ≡ keeps (denies 11 at (lent_by action)) m
  unfolding call_model
  step-misnamed name action at g = rw g

  step-named : (name : List ℕ) (action : Action) → name_check name ≡ good-name → call_model (named name action) m ≡ action_model action name m
  unfolding call_model
  step-named name action g = rw g

  step-normalize : call_model normalize m ≡ becomes (new_sizes m.entries) m
  unfolding call_model
  step-normalize = refl

  step_count : call_model count m ≡ keeps (says (length m.entries) []) m
  unfolding call_model
  step_count = refl

-- ---- one call, of both

-- an area of the pairs ps at offset n of the image, and its model: both have told the same, and the new model is that of the new area
pub record Agree (n : ℕ) (call : Call) (area : List ℕ) (ps : List Pair) (o : Outcome) (s : ModelResult) : Type 0 where
  pub pairs : List Pair
  pub reads : parse o.area ≡ parsed pairs
  pub told : told_at n o.reply o.buffer ≡ s.told
  pub model : s.model ≡ model_of o.area pairs
  pub long : length o.area ≡ length area
  pub bytes : AllBytes o.area
  pub keeps : InForm area ps → InForm o.area pairs
  pub normal : call ≡ normalize → InForm o.area pairs

module _ (n : ℕ) (area : List ℕ) (ps : List Pair) (r : parse area ≡ parsed ps) (b : AllBytes area) where
  abbrev m : Model
  m = model_of area ps

  agree-as : {call : Call} {o o' : Outcome} {s s' : ModelResult} → o ≡ o' → s ≡ s' → Agree n call area ps o' s' → Agree n call area ps o s
  agree-as e f a = rw (e, f) a

  -- nothing changes
  stay : (call : Call) (reply : Reply) (buffer : List ℕ) (t : Told) → ¬ (call ≡ normalize) → told_at n reply buffer ≡ t
      → Agree n call area ps (record { reply = reply; buffer = buffer; area = area }) (keeps t m)
  stay call reply buffer t d e =
      record { pairs = ps; reads = r; told = e; model = refl; long = refl; bytes = b; keeps = λ f. f; normal = λ q. absurd (d q) }

  -- other pairs are written
  edit : (call : Call) (es : List Entry) (qs : List Pair) → GoodPairs [] qs → length (pairs_bytes qs) + 1 ≤ length area → AllBytes (pairs_bytes qs)
      → es ≡ entries_of qs → (normalize_pairs ps ≡ ps → normalize_pairs qs ≡ qs) → (call ≡ normalize → normalize_pairs qs ≡ qs)
      → Agree n call area ps (edited (area_bytes (length area) qs)) (becomes es m)
  edit call es qs g h s e w z =
      let l : length (area_bytes (length area) qs) ≡ length area = length-area (length area) qs h in
      let f : area_bytes (length area) qs ≡ area_bytes (length (area_bytes (length area) qs)) qs = ap (λ (k : ℕ). area_bytes k qs) (sym l) in
      record {
        pairs = qs;
        reads = parse-area (length area) g;
        told = refl;
        model = λ i. record { room = sym l i; entries = e i };
        long = l;
        bytes = bytes-area (length area) qs s;
        keeps = λ i. record { values = w i.values; bytes = f };
        normal = λ q. record { values = z q; bytes = f };
      }

  good : GoodPairs [] ps
  good = (area-read area ps r).good

  stored : AllBytes (pairs_bytes ps)
  stored = bytes_read b (area-read area ps r)

  room : length (pairs_bytes ps) + 1 ≤ length area
  room = read-room (area-read area ps r)

  module _ (name : List ℕ) (g : NameRule name) where
    agree-set : (value : List ℕ) → AllBytes value
        → Agree n (set name value) area ps (call_pairs (set name value) ps area) (set_model (set_entry name value (entries_of ps)) m)
    agree-set value h =
        let qs : List Pair = set_pair name value ps in
        let c : set_entry name value (entries_of ps) ≡ entries_of qs = sym (entries-set name value ps) in
        let k : total (set_entry name value (entries_of ps)) ≡ length (pairs_bytes qs) = ap total c ∙ total-entries qs in
        split-room (length (pairs_bytes qs) + 1) (length area)
        (λ l. agree-as (set-done name value ps area l) (rw (le-ltb (length area) (total (set_entry name value (entries_of ps)) + 1) (omega arith)))
        (edit (set name value) (set_entry name value (entries_of ps)) qs (good-set value g (stands-none name) good) l (bytes-set value g h good stored) c
        (λ w. normalize-set name value ps ∙ ap (set_pair name value) w) (λ q. clash (cc))))
        (λ l. agree-as (set-short name value ps area l) (rw (lt-ltb (length area) (total (set_entry name value (entries_of ps)) + 1) (omega arith)))
        (stay (set name value) (refused NoRoom) [] (denies 13 0 []) (λ q. clash (cc)) refl))

    agree-remove : Agree n (remove name) area ps (call_pairs (remove name) ps area) (remove_model (value_of name (entries_of ps)) name m)
    agree-remove =
        let v = value-entries name ps in
        split-lookup (lookup name ps)
        (λ value f. agree-as (remove-found name ps area f) (ap (λ (x : Value). remove_model x name m) (v ∙ ap value_for f))
        (edit (remove name) (drop_entry name (entries_of ps)) (remove_pair name ps) (good-remove name good)
        (omega (arith, room, remove-room name ps)) (bytes-remove name good stored) (sym (entries-remove name ps))
        (λ w. normalize-remove name ps ∙ ap (remove_pair name) w) (λ q. clash (cc))))
        (λ f. agree-as (remove-missing name ps area f) (ap (λ (x : Value). remove_model x name m) (v ∙ ap value_for f))
        (stay (remove name) (refused NoVariable) [] (denies 12 0 []) (λ q. clash (cc)) refl))

    agree-read : (buffer : List ℕ)
        → Agree n (read name buffer) area ps (call_pairs (read name buffer) ps area) (read_model (value_of name (entries_of ps)) buffer m)
    agree-read buffer =
        let v = value-entries name ps in
        split-lookup (lookup name ps)
        (λ value f.
        let s : read_model (value_of name (entries_of ps)) buffer m ≡ read_model (Value.some value) buffer m =
        ap (λ (x : Value). read_model x buffer m) (v ∙ ap value_for f) in
        split-room (length value) (length buffer)
        (λ l. agree-as (read_done name ps area buffer f l) (s ∙ rw (le-ltb (length buffer) (length value) l))
        (stay (read name buffer) (done (length value)) (pasted buffer 0 value) (says (length value) (value ++ drop (length value) buffer))
        (λ q. clash (cc)) (ap (says (length value)) (pasted-first buffer value))))
        (λ l. agree-as (read_short name ps area buffer f l) (s ∙ rw (lt-ltb (length buffer) (length value) l))
        (stay (read name buffer) (refused ShortBuffer) buffer (denies 14 0 buffer) (λ q. clash (cc)) refl)))
        (λ f. agree-as (read-missing name ps area buffer f) (ap (λ (x : Value). read_model x buffer m) (v ∙ ap value_for f))
        (stay (read name buffer) (refused NoVariable) buffer (denies 12 0 buffer) (λ q. clash (cc)) refl))

    agree-action : (action : Action) → ActionBytes action
        → Agree n (named name action) area ps (call_pairs (named name action) ps area) (action_model action name m)
    agree-action (set_to value) h = agree-set value h
    agree-action removal h = agree-remove
    agree-action (read_into buffer) h = agree-read buffer

  agree-named : (name : List ℕ) (action : Action) → ActionBytes action
      → Agree n (named name action) area ps (call_area (named name action) area) (call_model (named name action) m)
  agree-named name action h =
      let call : Call = named name action in
      split-check (name_check name)
      (λ g. agree-as (call-parsed call area (check-named name action ∙ g) ps r) (step-named m name action g)
      (agree-action name ((check-good-exactly name).0 g) action h))
      (λ at g. agree-as (call-misnamed call area at (check-named name action ∙ g)) (step-misnamed m name action at g)
      (stay call (refused (BadName at)) (lent_by action) (denies 11 at (lent_by action)) (λ q. clash (cc)) refl))

  agree-normalize : Agree n normalize area ps (call_area normalize area) (call_model normalize m)
  agree-normalize =
      agree-as (call-parsed normalize area check-normalize ps r ∙ normalize-done ps area) (step-normalize m)
      (edit normalize (new_sizes (entries_of ps)) (normalize_pairs ps) (good-normalize good)
      (omega (arith, room, normalize-short good)) (bytes-normalize good stored)
      (sym (entries-normalize ps)) (λ w. normalize-twice ps) (λ q. normalize-twice ps))

  agree-count : Agree n count area ps (call_area count area) (call_model count m)
  agree-count =
      agree-as (call-parsed count area check-count ps r ∙ count-done ps area) (step_count m)
      (stay count (done (length ps)) [] (says (length (entries_of ps)) []) (λ q. clash (cc)) (ap (λ (k : ℕ). says k []) (sym (count_entries ps))))

  -- ONE CALL
  pub agree : (call : Call) → CallBytes call → Agree n call area ps (call_area call area) (call_model call m)
  agree (named name action) h = agree-named name action h
  agree normalize h = agree-normalize
  agree count h = agree-count
