-- No error means that a call is done, and none has a code outside the table.
use Prim.Native.Nat.{◌≤◌}
use mathlib.Core.Path.{◌≡◌}
use mathlib.Core.Logic.{◌⊎◌, inl, inr}
use native.Mathlib.Omega.{arith}
use Rattle.errors.specs.declared.HeaderFault.{HeaderFault}
use Rattle.errors.specs.declared.HeaderFault.TheVariants.{ZeroLength, PastEnd, Checksum}
use Rattle.errors.specs.declared.AreaFault.{AreaFault}
use Rattle.errors.specs.declared.AreaFault.TheVariants.{AreaEnd, StoredName, Escape, Repeated}
use Rattle.errors.specs.declared.Error.{Error}
use Rattle.errors.specs.declared.Error.TheVariants.{ImageLength, BadHeader, NoPartition, BadArea, BadName, NoVariable, NoRoom, ShortBuffer, RepeatedPartition}
use Rattle.errors.specs.Errors.{header_code, area_code, code_of}

header-range : (f : HeaderFault) → (2 ≤ header_code f) × (header_code f ≤ 4)
header-range ZeroLength = (omega arith, omega arith)
header-range PastEnd = (omega arith, omega arith)
header-range Checksum = (omega arith, omega arith)

area-range : (f : AreaFault) → (7 ≤ area_code f) × (area_code f ≤ 10)
area-range AreaEnd = (omega arith, omega arith)
area-range StoredName = (omega arith, omega arith)
area-range Escape = (omega arith, omega arith)
area-range Repeated = (omega arith, omega arith)

-- every code is from 1 to 4, from 6 to 14, or 20
pub code-used : (e : Error) → ((1 ≤ code_of e) × (code_of e ≤ 4)) ⊎ (((6 ≤ code_of e) × (code_of e ≤ 14)) ⊎ (code_of e ≡ 20))
code-used ImageLength = inl (omega arith, omega arith)
code-used (BadHeader f at) = inl (omega (arith, header-range f))
code-used NoPartition = inr (inl (omega arith, omega arith))
code-used (BadArea f at) = inr (inl (omega (arith, area-range f)))
code-used (BadName at) = inr (inl (omega arith, omega arith))
code-used NoVariable = inr (inl (omega arith, omega arith))
code-used NoRoom = inr (inl (omega arith, omega arith))
code-used ShortBuffer = inr (inl (omega arith, omega arith))
code-used (RepeatedPartition at) = inr (inr (omega arith))

pub code-range : (e : Error) → (1 ≤ code_of e) × (code_of e ≤ 20)
code-range e = go (code-used e)
  where
    go : ((1 ≤ code_of e) × (code_of e ≤ 4)) ⊎ (((6 ≤ code_of e) × (code_of e ≤ 14)) ⊎ (code_of e ≡ 20)) → (1 ≤ code_of e) × (code_of e ≤ 20)
    go (inl h) = omega (arith, h)
    go (inr (inl h)) = omega (arith, h)
    go (inr (inr h)) = omega (arith, h)
