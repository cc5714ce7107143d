-- The table of the codes that a caller may see (document 01: numbers), and the offset answered with each.
use Rattle.std.specs.Prelude.{ℕ, ◌+◌}
use Rattle.errors.specs.declared.HeaderFault.{HeaderFault}
use Rattle.errors.specs.declared.HeaderFault.TheVariants.{ZeroLength, PastEnd, Checksum}
use Rattle.errors.specs.declared.AreaFault.{AreaFault}
use Rattle.errors.specs.declared.AreaFault.TheVariants.{AreaEnd, StoredName, Escape, Repeated}
use Rattle.errors.specs.declared.Error.{Error}
use Rattle.errors.specs.declared.Error.TheVariants.{ImageLength, BadHeader, NoPartition, BadArea, BadName, NoVariable, NoRoom, ShortBuffer, RepeatedPartition}

-- the code of a header's fault
abbrev pub header_code : HeaderFault → ℕ
header_code ZeroLength = 2
header_code PastEnd = 3
header_code Checksum = 4

-- the code of a variable area's fault
abbrev pub area_code : AreaFault → ℕ
area_code AreaEnd = 7
area_code StoredName = 8
area_code Escape = 9
area_code Repeated = 10

-- the code of a refused call (document 01: number)
abbrev pub code_of : Error → ℕ
code_of ImageLength = 1
code_of (BadHeader fault at) = header_code fault
code_of NoPartition = 6
code_of (BadArea fault at) = area_code fault
code_of (BadName at) = 11
code_of NoVariable = 12
code_of NoRoom = 13
code_of ShortBuffer = 14
code_of (RepeatedPartition at) = 20

-- the offset answered with it, 0 where the table has none (document 01: place); of 11 it is the index in the name
abbrev pub offset_of : Error → ℕ
offset_of ImageLength = 0
offset_of (BadHeader fault at) = at
offset_of NoPartition = 0
offset_of (BadArea fault at) = at
offset_of (BadName at) = at
offset_of NoVariable = 0
offset_of NoRoom = 0
offset_of ShortBuffer = 0
offset_of (RepeatedPartition at) = at

-- an error of a call on a variable area that begins at n: the area's faults get their offsets in the image, every other error stays
abbrev pub moved : ℕ → Error → Error
moved n ImageLength = ImageLength
moved n (BadHeader fault at) = BadHeader fault at
moved n NoPartition = NoPartition
moved n (BadArea fault at) = BadArea fault (n + at)
moved n (BadName at) = BadName at
moved n NoVariable = NoVariable
moved n NoRoom = NoRoom
moved n ShortBuffer = ShortBuffer
moved n (RepeatedPartition at) = RepeatedPartition at
