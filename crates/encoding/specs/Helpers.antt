-- For the loops: the bytes at the start of a list that are equal.
use Rattle.std.specs.Prelude.{ℕ, List, ◌==◌}
use Rattle.std.specs.List.{prefix_len}

-- how many bytes at the start are b
unfoldable pub leading : ℕ → List ℕ → ℕ
leading b l = prefix_len (λ x. x == b) l
