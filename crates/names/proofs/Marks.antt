-- The table of marks is the rule tabulated, by one equation that antt computes.
use mathlib.Core.Path.{◌≡◌, refl, ◌∙◌, ap}
use mathlib.Core.Bool.{Bool, true, false, cond}
use mathlib.Core.List.{List}
use Prim.Native.Nat.{ℕ, ◌+◌, ◌<◌}
use native.Mathlib.Omega.{arith}
use lib.Dec.{eqb}
use lib.ListN.{get_or}
use Rattle.names.specs.declared.TheConstants.{MARKS}
use Rattle.names.specs.Name.{name_byte}
use Rattle.names.proofs.Table.{tabulate, tabulate-at}

-- the mark of a byte
mark : ℕ → ℕ
mark b = cond (name_byte b) 1 0

mark-rule : (t : Bool) → eqb (cond t 1 0) 1 ≡ t
mark-rule true = refl
mark-rule false = refl

tabulated : MARKS ≡ tabulate mark 0 256
unfolding mark name_byte
tabulated = refl

pub marked : (b : ℕ) → b < 256 → eqb (get_or MARKS b 0) 1 ≡ name_byte b
unfolding mark
marked b h =
    let e : 0 + b ≡ b = omega arith in
    ap (λ (l : List ℕ). eqb (get_or l b 0) 1) tabulated ∙ ap (λ (n : ℕ). eqb n 1) (tabulate-at mark 0 256 b h ∙ ap mark e) ∙ mark-rule (name_byte b)
