-- Laws of lists: one element further, runs, what all elements are.
use Prim.Native.Nat.{ℕ, zero, suc, ◌+◌, ◌-◌, ◌<◌}
use mathlib.Core.Path.{◌≡◌, refl, sym, ap, ◌∙◌}
use mathlib.Core.List.{List, [], ◌∷◌, ◌++◌, append_assoc}
use native.Mathlib.Numerals.{add-one}
use native.Mathlib.Omega.{arith}
use lib.ListN.{length, get_or, take, drop, replicate, length-drop, replicate-append-replicate}
use lib.Seq.{drop-cons, take_all}
use Rattle.lists.specs.Bytes.{Every}

pub drop-next : (l : List ℕ) (i : ℕ) → i < length l → drop i l ≡ get_or l i 0 ∷ drop (i + 1) l
drop-next l i h = rw (add-one, drop-cons l i 0)

-- all that stands from an index on
pub drop-whole : (l : List ℕ) (i : ℕ) → take (length l - i) (drop i l) ≡ drop i l
drop-whole l i = take_all (length l - i) (drop i l) (omega (arith, length-drop i l))

pub replicate-two : (m n b : ℕ) (s : List ℕ) → replicate m b ++ (replicate n b ++ s) ≡ replicate (m + n) b ++ s
replicate-two m n b s = sym (append_assoc (replicate m b) (replicate n b) s) ∙ ap (λ (r : List ℕ). r ++ s) (replicate-append-replicate m n b)

pub replicate-snoc : (n b : ℕ) (s : List ℕ) → replicate (n + 1) b ++ s ≡ replicate n b ++ b ∷ s
replicate-snoc n b s = sym (replicate-two n 1 b s)

pub every_append : (P : ℕ → Type 0) (s t : List ℕ) → Every P s → Every P t → Every P (s ++ t)
every_append P [] t h k = k
every_append P (x ∷ s) t h k = (h.0, every_append P s t h.1 k)

pub every-replicate : (P : ℕ → Type 0) (n b : ℕ) → P b → Every P (replicate n b)
every-replicate P zero b h = tt
every-replicate P (suc n) b h = (h, every-replicate P n b h)

pub every_map : (P Q : ℕ → Type 0) → ((b : ℕ) → P b → Q b) → (l : List ℕ) → Every P l → Every Q l
every_map P Q f [] h = tt
every_map P Q f (x ∷ l) h = (f x h.0, every_map P Q f l h.1)

-- zeros, and zero past their end
pub zeros-at : (n i : ℕ) → ◌≡◌ {A = ℕ} (get_or (replicate n 0) i 0) 0
zeros-at zero i = refl
zeros-at (suc n) zero = refl
zeros-at (suc n) (suc i) = zeros-at n i
