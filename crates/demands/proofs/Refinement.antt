-- The calls on an image and the model go together: one call, a list of calls, and demand 3.
use Prim.Native.Nat.{ℕ, ◌+◌}
use mathlib.Core.Path.{◌≡◌, refl, sym, ap, ◌∙◌, subst}
use mathlib.Core.List.{List, [], ◌∷◌}
use mathlib.Core.Logic.{◌⊎◌, inl, inr}
use lib.ListN.{length}
use Rattle.lists.specs.Bytes.{AllBytes}
use Rattle.lists.specs.Pasted.{pasted}
use Rattle.partitions.specs.declared.Partition.{Partition}
use Rattle.std.specs.Prelude.{Ok}
use Rattle.partitions.specs.Find.{area_of}
use Rattle.partitions.specs.Cover.{area_at, OutsideKept}
use Rattle.partitions.proofs.FrameLaws.{among-area, pasted-kept, area-new, bytes-new, area-bytes, kept_same, kept_again}
use Rattle.pairs.specs.Area.{Pair, parsed, parse}
use Rattle.pairs.specs.Rules.{Entry, WellFormed}
use Rattle.pairs.proofs.EntryLaws.{entries_of, parse-exactly}
use Rattle.variables.specs.Calls.{Call, normalize, Outcome, call_area}
use Rattle.nvram.specs.Common.{OnlyCommon, common_of}
use Rattle.nvram.specs.Calls.{ImageOutcome, call_image}
use Rattle.nvram.proofs.CommonLaws.{common-exactly, common-among, common-kept}
use Rattle.nvram.proofs.CallLaws.{call-image}
use Rattle.demands.specs.Library.{Results, run_image}
use Rattle.demands.specs.Model.{Model, ModelResult, call_model, ModelResults, run_model, canonical_area}
use Rattle.demands.specs.Demands.{CallBytes, CallsBytes, Normalizes, Demand3}
use Rattle.demands.proofs.Agree.{model_of, InForm, in-form-area, area-in-form, Agree, agree}

-- the area of `common` at p
abbrev area_in : Partition → List ℕ → List ℕ
area_in p I = area_of I (Ok p)

-- an image whose one `common` stands at p, with an area of the pairs ps
record State (p : Partition) (I : List ℕ) (ps : List Pair) : Type 0 where
  place : common_of I ≡ Ok p
  reads : parse (area_in p I) ≡ parsed ps
  bytes : AllBytes I

-- what a call, or a list of calls, makes of an image I in that state: the area and its model, and the bytes outside the area
record Leads (p : Partition) (I : List ℕ) (ps : List Pair) (J : List ℕ) (m : Model) (Normal : Type 0) : Type 0 where
  pairs : List Pair
  state : State p J pairs
  model : m ≡ model_of (area_in p J) pairs
  room : length (area_in p J) ≡ length (area_in p I)
  keeps : InForm (area_in p I) ps → InForm (area_in p J) pairs
  normal : Normal → InForm (area_in p J) pairs
  outside : OutsideKept I p.offset J

leads-as : {p : Partition} {I J J' : List ℕ} {ps : List Pair} {m m' : Model} {N : Type 0} → J ≡ J' → m ≡ m' → Leads p I ps J' m' N
    → Leads p I ps J m N
leads-as e f l = rw (e, f) l

-- nothing was called
leads-none : (p : Partition) (I : List ℕ) (ps : List Pair) → State p I ps → Leads p I ps I (model_of (area_in p I) ps) ⊥
leads-none p I ps s = record {
  pairs = ps;
  state = s;
  model = refl;
  room = refl;
  keeps = λ f. f;
  normal = λ z. absurd z;
  outside = kept_same I p.offset;
}

-- one after the other
leads-on : {p : Partition} {I J K : List ℕ} {ps : List Pair} {m m' : Model} {M N : Type 0} (l : Leads p I ps J m M) → Leads p J l.pairs K m' N
    → Leads p I ps K m' (M ⊎ N)
leads-on l k = record {
  pairs = k.pairs;
  state = k.state;
  model = k.model;
  room = k.room ∙ l.room;
  keeps = λ f. k.keeps (l.keeps f);
  normal = λ x. elim x [ inl z ↦ k.keeps (l.normal z) | inr z ↦ k.normal z ];
  outside = kept_again l.outside k.outside;
}

-- ---- one call

-- another area in the place of the first
leads-area : (p : Partition) (I : List ℕ) (ps : List Pair) → State p I ps → {call : Call} {o : Outcome} {s : ModelResult}
    → Agree (p.offset + 16) call (area_in p I) ps o s → Leads p I ps (pasted I (p.offset + 16) o.area) s.model (call ≡ normalize)
leads-area p I ps h {o = o} a =
    let m = common-among I p h.place in
    let J : List ℕ = pasted I (p.offset + 16) o.area in
    let k = pasted-kept I p m o.area a.long in
    let w : area_in p J ≡ o.area = area-new I p m o.area a.long in
    record {
      pairs = a.pairs;
      state = record {
        place = common-kept I p h.place J k;
        reads = ap parse w ∙ a.reads;
        bytes = bytes-new I p m o.area a.long h.bytes a.bytes;
      };
      model = a.model ∙ ap (λ (x : List ℕ). model_of x a.pairs) (sym w);
      room = ap length w ∙ a.long;
      keeps = λ f. rw w (a.keeps f);
      normal = λ z. rw w (a.normal z);
      outside = k;
    }

module _ (p : Partition) (I : List ℕ) (ps : List Pair) (h : State p I ps) (call : Call) (b : CallBytes call) where
  abbrev from : Model
  from = model_of (area_in p I) ps

  one-agree : Agree (p.offset + 16) call (area_in p I) ps (call_area call (area_in p I)) (call_model call from)
  one-agree = agree (p.offset + 16) (area_in p I) ps h.reads (area-bytes I (Ok p) h.bytes) call b

  one_told : (call_image call I).told ≡ (call_model call from).told
  one_told = ap (λ (r : ImageOutcome). r.told) (call-image call I p h.place) ∙ one-agree.told

  one : Leads p I ps (call_image call I).image (call_model call from).model (call ≡ normalize)
  one = leads-as (ap (λ (r : ImageOutcome). r.image) (call-image call I p h.place)) refl (leads-area p I ps h one-agree)

-- ---- a list of calls

-- the image I and its model, after the calls: all told the same, and the model is that of the image
record Together (p : Partition) (I : List ℕ) (ps : List Pair) (calls : List Call) (rs : Results) (r : ModelResults) : Type 0 where
  told : rs.told ≡ r.told
  leads : Leads p I ps rs.image r.model (Normalizes calls)

together-none : (p : Partition) (I : List ℕ) (ps : List Pair) → State p I ps → Together p I ps [] (run_image [] I) (run_model [] (model_of (area_in p I) ps))
unfolding run_image run_model
together-none p I ps h = record { told = refl; leads = leads-none p I ps h }

-- a call and those after it; m is the model that the call leaves
together-more : (p : Partition) (I : List ℕ) (ps : List Pair) (call : Call) (calls : List Call) (r : ImageOutcome) (s : ModelResult)
    (l : Leads p I ps r.image s.model (call ≡ normalize))
    → r.told ≡ s.told → Together p r.image l.pairs calls (run_image calls r.image) (run_model calls (model_of (area_in p r.image) l.pairs))
    → Together p I ps (call ∷ calls) (record { told = r.told ∷ (run_image calls r.image).told; image = (run_image calls r.image).image })
    (record { told = s.told ∷ (run_model calls s.model).told; model = (run_model calls s.model).model })
together-more p I ps call calls r s l e t =
    let q = l.model in
    record {
      told = λ i. e i ∷ (t.told ∙ ap (λ (m : Model). (run_model calls m).told) (sym q)) i;
      leads = leads-as refl (ap (λ (m : Model). (run_model calls m).model) q) (leads-on l t.leads);
    }

-- ALL THE CALLS
together : (calls : List Call) (p : Partition) (I : List ℕ) (ps : List Pair) → State p I ps → CallsBytes calls
    → Together p I ps calls (run_image calls I) (run_model calls (model_of (area_in p I) ps))
unfolding run_image run_model
together [] p I ps h b = together-none p I ps h
together (call ∷ calls) p I ps h b =
    let l = one p I ps h call b.0 in
    together-more p I ps call calls (call_image call I) (call_model call (model_of (area_in p I) ps)) l (one_told p I ps h call b.0)
    (together calls p (call_image call I).image l.pairs l.state b.1)

-- ---- demand 3

module _ (p : Partition) (I : List ℕ) (ps : List Pair) (calls : List Call) (h : State p I ps)
    (t : Together p I ps calls (run_image calls I) (run_model calls (model_of (area_in p I) ps)))
  where
    abbrev last : List ℕ
    last = (run_image calls I).image

    abbrev final : Model
    final = (run_model calls (model_of (area_in p I) ps)).model

    abbrev k : Leads p I ps last final (Normalizes calls)
    k = t.leads

    last-area : area_in p last ≡ area_at last p.offset
    last-area = among-area last p (common-among last p k.state.place)

    last-entries : final.entries ≡ entries_of k.pairs
    last-entries = ap (λ (m : Model). m.entries) k.model

    last-formed : WellFormed final.entries (area_at last p.offset)
    last-formed =
        rw (← last-area, last-entries)
        ((parse-exactly (area_in p last) (entries_of k.pairs) (area-bytes last (Ok p) k.state.bytes)).0 (k.pairs, k.state.reads, refl))

    last-canonical : (area_in p I ≡ canonical_area (length (area_in p I)) (entries_of ps)) ⊎ Normalizes calls
        → area_at last p.offset ≡ canonical_area (length (area_in p I)) final.entries
    last-canonical x =
        let f : InForm (area_in p last) k.pairs = elim x [ inl c ↦ k.keeps (area-in-form (area_in p I) ps h.reads c) | inr z ↦ k.normal z ] in
        sym last-area ∙ in-form-area f ∙ (λ i. canonical_area (k.room i) (sym last-entries i))

    -- of the area as the rules say it
    by-rules : (es : List Entry) → entries_of ps ≡ es → Demand3 I p es calls
    by-rules es q =
        let A : area_in p I ≡ area_at I p.offset = among-area I p (common-among I p h.place) in
        let m : model_of (area_in p I) ps ≡ record { room = length (area_at I p.offset); entries = es } =
        λ i. record { room = length (A i); entries = q i } in
        record {
          told = t.told ∙ ap (λ (x : Model). (run_model calls x).told) m;
          one-common = (common-exactly last k.state.bytes p).0 k.state.place;
          entries = subst (λ (x : Model). WellFormed (run_model calls x).model.entries (area_at last p.offset)) m last-formed;
          outside = k.outside;
          canonical = λ x.
              last-canonical (elim x [ inl c ↦ inl (A ∙ c ∙ (λ i. canonical_area (length (sym A i)) (sym q i))) | inr z ↦ inr z ])
              ∙ (λ i. canonical_area (length (A i)) (run_model calls (m i)).model.entries);
        }

-- DEMAND 3
pub demand-3 : (I : List ℕ) (p : Partition) (es : List Entry) (calls : List Call) → AllBytes I → CallsBytes calls → OnlyCommon I p
    → WellFormed es (area_at I p.offset) → Demand3 I p es calls
demand-3 I p es calls b h f w =
    let e : common_of I ≡ Ok p = (common-exactly I b p).1 f in
    let A = among-area I p (common-among I p e) in
    let k = (parse-exactly (area_at I p.offset) es (rw A at (area-bytes I (Ok p) b))).1 w in
    let s : State p I k.0 = record { place = e; reads = ap parse A ∙ k.1; bytes = b } in
    by-rules p I k.0 calls s (together calls p I k.0 s h) es k.2
