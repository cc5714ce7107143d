-- A list of calls on E: each is told in its order, on the image as the one before left it.
use mathlib.Core.Path.{◌≡◌}
use mathlib.Core.List.{[], ◌∷◌}
use lib.ListN.{replicate}
use Rattle.partitions.specs.Examples.{E}
use Rattle.variables.specs.Calls.{set, read, count}
use Rattle.demands.specs.Library.{run_image}
use Rattle.demands.specs.Examples.{told, six, examples}

-- `b` is set to 00 00 FF, read into four bytes, and the variables are counted
pub run-example : run_image (set (0x62 ∷ []) (0x00 ∷ 0x00 ∷ 0xFF ∷ []) ∷ read (0x62 ∷ []) (replicate 4 0x05) ∷ count ∷ []) E
    ≡ record {
      told = told 0 0 0 ∷ record { code = 0; offset = 0; amount = 3; buffer = 0x00 ∷ 0x00 ∷ 0xFF ∷ 0x05 ∷ [] } ∷ told 0 0 2 ∷ [];
      image = six;
    }
unfolding run_image
run-example = rw (examples.six-set, examples.six-read, examples.six-count)
