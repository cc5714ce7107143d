-- What a call on an area comes to: 11 by the caller's name, a fault of the area, or the outcome on its pairs, case by case.
use Prim.Native.Nat.{ℕ, ◌+◌, ◌≤◌, ◌<◌}
use mathlib.Core.Path.{◌≡◌, refl, sym, ap, ◌∙◌}
use mathlib.Core.List.{List, []}
use native.Mathlib.Decide.{dec_le}
use native.Mathlib.Omega.{arith}
use lib.ListN.{length}
use borrow.Author.Tests.{lt-ltb, le-ltb}
use Rattle.lists.specs.Pasted.{pasted}
use Rattle.lists.proofs.Tests.{clash}
use Rattle.errors.specs.declared.AreaFault.{AreaFault}
use Rattle.errors.specs.declared.Error.{Error}
use Rattle.errors.specs.declared.Error.TheVariants.{BadArea, BadName, NoVariable, NoRoom, ShortBuffer}
use Rattle.names.specs.Name.{good, wrong, name_check}
use Rattle.names.proofs.NameLaws.{check-wrong-exactly, wrong-most, split-check}
use Rattle.pairs.specs.Area.{Pair, pairs_bytes, Parse, parsed, faulty, parse}
use Rattle.variables.specs.Edits.{area_bytes, set_pair, remove_pair, normalize_pairs, Lookup, found, missing, lookup}
use Rattle.pairs.proofs.FaultLaws.{fault-inside}
use Rattle.variables.specs.Helpers.{reply_offset}
use Rattle.variables.specs.Calls.{Action, set_to, removal, read_into, Call, named, set, remove, normalize, read, count, call_check, done, Outcome, refuse, edited, set_in, call_pairs, call_by, call_area}

-- ---- the caller's name

pub check-named : (name : List ℕ) (action : Action) → call_check (named name action) ≡ name_check name
unfolding call_check
check-named name action = refl

pub check-normalize : call_check normalize ≡ good
unfolding call_check
check-normalize = refl

pub check-count : call_check count ≡ good
unfolding call_check
check-count = refl

-- an index that is answered is one of 32
check-index : (call : Call) (at : ℕ) → call_check call ≡ wrong at → at ≤ 31
check-index (named name action) at e = wrong-most ((check-wrong-exactly name at).0 (sym (check-named name action) ∙ e))
check-index normalize at e = clash (cc (check-normalize))
check-index count at e = clash (cc (check-count))

-- ---- an area

pub split-parse : {A : Type 0} (x : Parse) → ((ps : List Pair) → x ≡ parsed ps → A) → ((f : AreaFault) (at : ℕ) → x ≡ faulty f at → A) → A
split-parse (parsed ps) g h = g ps refl
split-parse (faulty f at) g h = h f at refl

module _ (call : Call) (area : List ℕ) where
  pub call-misnamed : (at : ℕ) → call_check call ≡ wrong at → call_area call area ≡ refuse (BadName at) call area
  unfolding call_area
  call-misnamed at n = rw n

  pub call-named : call_check call ≡ good → call_area call area ≡ call_by (parse area) call area
  unfolding call_area
  call-named n = rw n

  module _ (n : call_check call ≡ good) where
    pub call-faulty : (f : AreaFault) (at : ℕ) → parse area ≡ faulty f at → call_area call area ≡ refuse (BadArea f at) call area
    call-faulty f at h = call-named n ∙ ap (λ (x : Parse). call_by x call area) h

    pub call-parsed : (ps : List Pair) → parse area ≡ parsed ps → call_area call area ≡ call_pairs call ps area
    call-parsed ps h = call-named n ∙ ap (λ (x : Parse). call_by x call area) h

  -- what holds of every refusal and of every outcome on pairs holds of every call
  pub call-cases : (P : Outcome → Type 0) → ((e : Error) → P (refuse e call area)) → ((ps : List Pair) → P (call_pairs call ps area)) → P (call_area call area)
  call-cases P r p =
      split-check (call_check call)
      (λ n. split-parse (parse area) (λ ps h. rw (call-parsed n ps h) (p ps)) (λ f at h. rw (call-faulty n f at h) (r (BadArea f at))))
      (λ at n. rw (call-misnamed at n) (r (BadName at)))

-- ---- each call on pairs

module _ (name value : List ℕ) (ps : List Pair) (area : List ℕ) where
  pub set-short : length area < length (pairs_bytes (set_pair name value ps)) + 1 → call_pairs (set name value) ps area ≡ refuse NoRoom (set name value) area
  unfolding call_pairs set_in
  set-short l = rw (lt-ltb _ _ l)

  pub set-done : length (pairs_bytes (set_pair name value ps)) + 1 ≤ length area
      → call_pairs (set name value) ps area ≡ edited (area_bytes (length area) (set_pair name value ps))
  unfolding call_pairs set_in
  set-done l = rw (le-ltb _ _ l)

module _ (name : List ℕ) (ps : List Pair) (area : List ℕ) where
  pub remove-missing : lookup name ps ≡ missing → call_pairs (remove name) ps area ≡ refuse NoVariable (remove name) area
  unfolding call_pairs
  remove-missing e = rw e

  pub remove-found : {value : List ℕ} → lookup name ps ≡ found value → call_pairs (remove name) ps area ≡ edited (area_bytes (length area) (remove_pair name ps))
  unfolding call_pairs
  remove-found e = rw e

  module _ (buffer : List ℕ) where
    pub read-missing : lookup name ps ≡ missing → call_pairs (read name buffer) ps area ≡ refuse NoVariable (read name buffer) area
    unfolding call_pairs
    read-missing e = rw e

    pub read_short : {value : List ℕ} → lookup name ps ≡ found value → length buffer < length value
        → call_pairs (read name buffer) ps area ≡ refuse ShortBuffer (read name buffer) area
    unfolding call_pairs
    read_short {value} e l = rw e (rw (lt-ltb (length buffer) (length value) l))

    pub read_done : {value : List ℕ} → lookup name ps ≡ found value → length value ≤ length buffer
        → call_pairs (read name buffer) ps area ≡ record { reply = done (length value); buffer = pasted buffer 0 value; area = area }
    unfolding call_pairs
    read_done {value} e l = rw e (rw (le-ltb (length buffer) (length value) l))

pub normalize-done : (ps : List Pair) (area : List ℕ) → call_pairs normalize ps area ≡ edited (area_bytes (length area) (normalize_pairs ps))
unfolding call_pairs
normalize-done ps area = refl

pub count-done : (ps : List Pair) (area : List ℕ) → call_pairs count ps area ≡ record { reply = done (length ps); buffer = []; area = area }
unfolding call_pairs
count-done ps area = refl

-- ---- case splits that keep the equation

pub split-lookup : {A : Type 0} (f : Lookup) → ((value : List ℕ) → f ≡ found value → A) → (f ≡ missing → A) → A
split-lookup (found value) g h = g value refl
split-lookup missing g h = h refl

pub split-room : {A : Type 0} (m n : ℕ) → (m ≤ n → A) → (n < m → A) → A
split-room {A = A} m n f g = go (dec_le m n)
  where
    go : Dec (m ≤ n) → A
    go (yes l) = f l
    go (no l) = g (omega arith)

-- what holds of each outcome holds of every call on pairs: a set, a removal and a read by their cases
module _ (P : Outcome → Type 0) (ps : List Pair) (area : List ℕ) where
  pub set_cases : (name value : List ℕ) → P (refuse NoRoom (set name value) area)
      → (length (pairs_bytes (set_pair name value ps)) + 1 ≤ length area → P (edited (area_bytes (length area) (set_pair name value ps))))
      → P (call_pairs (set name value) ps area)
  set_cases name value r d =
      split-room (length (pairs_bytes (set_pair name value ps)) + 1) (length area)
      (λ l. rw (set-done name value ps area l) (d l)) (λ l. rw (set-short name value ps area l) r)

  pub remove-cases : (name : List ℕ) → P (refuse NoVariable (remove name) area) → P (edited (area_bytes (length area) (remove_pair name ps)))
      → P (call_pairs (remove name) ps area)
  remove-cases name r d =
      split-lookup (lookup name ps) (λ value e. rw (remove-found name ps area e) d) (λ e. rw (remove-missing name ps area e) r)

  pub read-cases : (name buffer : List ℕ) → P (refuse NoVariable (read name buffer) area) → P (refuse ShortBuffer (read name buffer) area)
      → ((value : List ℕ) → P (record { reply = done (length value); buffer = pasted buffer 0 value; area = area })) → P (call_pairs (read name buffer) ps area)
  read-cases name buffer m s d =
      split-lookup (lookup name ps)
      (λ value e. split-room (length value) (length buffer)
      (λ l. rw (read_done name ps area buffer e l) (d value)) (λ l. rw (read_short name ps area buffer e l) s))
      (λ e. rw (read-missing name ps area buffer e) m)

-- ---- a call that is lent no buffer leaves none

-- a set, a removal, normalizing and a count
pub data Bufferless : Call → Type 0 where
  a-set : (name value : List ℕ) → Bufferless (set name value)
  a-remove : (name : List ℕ) → Bufferless (remove name)
  a-normalize : Bufferless normalize
  a-count : Bufferless count

abbrev NoBuffer : Outcome → Type 0
NoBuffer o = o.buffer ≡ []

pub buffer-none : {call : Call} → Bufferless call → (area : List ℕ) → (call_area call area).buffer ≡ []
buffer-none (a-set name value) area =
    call-cases (set name value) area NoBuffer (λ e. refl) (λ ps. set_cases NoBuffer ps area name value refl (λ l. refl))
buffer-none (a-remove name) area = call-cases (remove name) area NoBuffer (λ e. refl) (λ ps. remove-cases NoBuffer ps area name refl refl)
buffer-none a-normalize area = call-cases normalize area NoBuffer (λ e. refl) (λ ps. rw (normalize-done ps area) refl)
buffer-none a-count area = call-cases count area NoBuffer (λ e. refl) (λ ps. rw (count-done ps area) refl)

-- ---- a reply's offset stands in the area, or below 32 in the caller's name

abbrev NoOffset : Outcome → Type 0
NoOffset o = reply_offset o.reply ≡ 0

pairs-offset : (call : Call) (ps : List Pair) (area : List ℕ) → NoOffset (call_pairs call ps area)
pairs-offset (named name (set_to value)) ps area = set_cases NoOffset ps area name value refl (λ l. refl)
pairs-offset (named name removal) ps area = remove-cases NoOffset ps area name refl refl
pairs-offset (named name (read_into buffer)) ps area = read-cases NoOffset ps area name buffer refl refl (λ value. refl)
pairs-offset normalize ps area = rw (normalize-done ps area) refl
pairs-offset count ps area = rw (count-done ps area) refl

pub reply-bounded : (call : Call) (area : List ℕ) → reply_offset (call_area call area).reply ≤ length area + 31
reply-bounded call area =
    split-check (call_check call)
    (λ n. split-parse (parse area)
    (λ ps h. rw (call-parsed call area n ps h) (omega (arith, pairs-offset call ps area)))
    (λ f at h. rw (call-faulty call area n f at h) (omega (arith, fault-inside area f at h))))
    (λ at n. rw (call-misnamed call area at n) (omega (arith, check-index call at n)))
