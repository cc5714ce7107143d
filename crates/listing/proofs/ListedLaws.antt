-- What a caller sees of a listing into a lent buffer, and the rows that say so: each exactly when the other.
use Prim.Native.Nat.{ℕ, ◌≤◌, ◌<◌}
use mathlib.Core.Path.{◌≡◌, refl, ap, subst, ◌∙◌}
use mathlib.Core.Logic.{◌↔◌}
use mathlib.Core.List.{List, ◌++◌}
use native.Mathlib.Omega.{arith}
use native.Mathlib.Decide.{dec_le}
use lib.ListN.{length, drop}
use Rattle.lists.specs.Bytes.{AllBytes}
use Rattle.lists.specs.Pasted.{written_in}
use Rattle.lists.proofs.WrittenLaws.{written-first, written-kept}
use Rattle.listing.specs.Text.{listing_text}
use Rattle.listing.specs.Listed.{listed_of, list_answer, seen_listing}
use Rattle.listing.specs.Rules.{Listing, ListSeen, ListRow, done, fourteen}
use Rattle.listing.proofs.PieceLaws.{listed-fits, listed-not}
use Rattle.listing.proofs.RuleLaws.{listing-exactly}

module _ (image buffer : List ℕ) (bytes : AllBytes image) where
  -- the text has room in the buffer
  seen_done : (text : List ℕ) → Listing image text → length text ≤ length buffer
      → seen_listing image buffer ≡ record { code = 0; amount = length text; buffer = text ++ drop (length text) buffer }
  seen_done text t h =
      let e = (listing-exactly image text bytes).1 t in
      let l = ap (λ (w : List ℕ). listed_of w (length buffer)) e ∙ listed-fits text (length buffer) h in
      let w = ap (λ (x : List ℕ). written_in x buffer) e ∙ written-first text buffer h in
      λ i. record { code = (list_answer (l i)).code; amount = (list_answer (l i)).value; buffer = w i }

  -- it has none
  seen-short : (text : List ℕ) → Listing image text → length buffer < length text
      → seen_listing image buffer ≡ record { code = 14; amount = 0; buffer = buffer }
  seen-short text t h =
      let e = (listing-exactly image text bytes).1 t in
      let l = ap (λ (w : List ℕ). listed_of w (length buffer)) e ∙ listed-not text (length buffer) h in
      let w = ap (λ (x : List ℕ). written_in x buffer) e ∙ written-kept text buffer h in
      λ i. record { code = (list_answer (l i)).code; amount = (list_answer (l i)).value; buffer = w i }

  listed-holds : ListRow image buffer (seen_listing image buffer)
  listed-holds = go (listing_text image) ((listing-exactly image _ bytes).0 refl) (dec_le (length (listing_text image)) (length buffer))
    where
      go : (text : List ℕ) → Listing image text → Dec (length text ≤ length buffer) → ListRow image buffer (seen_listing image buffer)
      go text t (yes h) = rw (seen_done text t h) (done t h)
      go text t (no n) = let h : length buffer < length text = omega arith in rw (seen-short text t h) (fourteen t h)

  holds-listed : {s : ListSeen} → ListRow image buffer s → seen_listing image buffer ≡ s
  holds-listed (done {text = text} t h) = seen_done text t h
  holds-listed (fourteen {text = text} t h) = seen-short text t h

-- A LISTING INTO A BUFFER exactly
pub listed-exactly : (image buffer : List ℕ) (s : ListSeen) → AllBytes image → (seen_listing image buffer ≡ s) ↔ ListRow image buffer s
listed-exactly image buffer s bytes = (λ e. subst (ListRow image buffer) e (listed-holds image buffer bytes), holds-listed image buffer bytes)
