-- Laws of `written_in`: bytes that have room in a buffer, and bytes that have none.
use Prim.Native.Nat.{ℕ, ◌≤◌, ◌<◌}
use mathlib.Core.Path.{◌≡◌, ◌∙◌}
use mathlib.Core.List.{List, ◌++◌}
use lib.ListN.{length, drop}
use borrow.Author.Tests.{le-leb, lt-leb}
use Rattle.lists.specs.Pasted.{pasted, written_in}
use Rattle.lists.proofs.PastedLaws.{pasted-first}

module _ (l buffer : List ℕ) where
  pub written_in_lem : length l ≤ length buffer → written_in l buffer ≡ pasted buffer 0 l
  unfolding written_in
  written_in_lem h = rw (le-leb (length l) (length buffer) h)

  pub written-first : length l ≤ length buffer → written_in l buffer ≡ l ++ drop (length l) buffer
  written-first h = written_in_lem h ∙ pasted-first buffer l

  pub written-kept : length buffer < length l → written_in l buffer ≡ buffer
  unfolding written_in
  written-kept h = rw (lt-leb (length l) (length buffer) h)
