-- Pieces by their offsets, for the contracts of the private functions.
use Rattle.std.specs.Prelude.{ℕ, ◌-◌, ◌<◌, ◌≤◌, ◌≡◌, List, length, get_or}
use Rattle.repeats.specs.Pieces.{piece_name}

-- a piece begins at s
pub record Start (l : List ℕ) (s : ℕ) : Type 0 where
  pub inside : s < length l
  pub after : 0 < s → get_or l (s - 1) 0 ≡ 0

-- r is the next start after at, or the end
pub record Next (l : List ℕ) (at r : ℕ) : Type 0 where
  pub falls : at < r
  pub inside : r ≤ length l
  pub none : (s : ℕ) → at < s → s < r → Start l s → ⊥
  pub start : r < length l → Start l r

-- no piece before `best` has the name of an earlier piece that begins before `from`
pub record Distinct (l : List ℕ) (from best : ℕ) : Type 0 where
  pub differ : (p q : ℕ) → p < from → p < q → q < best → Start l p → Start l q → piece_name l p ≡ piece_name l q → ⊥

-- the name at h stands before it
pub record Early (l : List ℕ) (h : ℕ) : Type 0 where
  pub place : ℕ
  pub before : place < h
  pub first : Start l place
  pub second : Start l h
  pub same : piece_name l place ≡ piece_name l h

-- the piece at best, if there is one, is a repeat
pub record Best (l : List ℕ) (best : ℕ) : Type 0 where
  pub inside : best ≤ length l
  pub hit : best < length l → Early l best

-- pieces are left to be told apart: one begins at `from`, and those before it from each other and from the later ones up to best
pub record Open (l : List ℕ) (from best : ℕ) : Type 0 where
  pub distinct : Distinct l from best
  pub better : Best l best
  pub below : from < best
  pub begins : Start l from
