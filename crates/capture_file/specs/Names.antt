-- The names and numbers that are printed of a fault (profile).
use Rattle.std.specs.Prelude.{ℕ, List, codes}
use Rattle.capture_file.specs.declared.fault.CaptureFault.{CaptureFault}
use Rattle.capture_file.specs.declared.fault.CaptureFault.TheVariants.{Short, Magic, Version, LinkType, Length, CutRecord, TooLarge, OutOfMemory}

-- a fault's code (profile)
abbrev pub code_of : CaptureFault → ℕ
code_of Short = 1
code_of Magic = 2
code_of Version = 3
code_of LinkType = 4
code_of (Length number) = 5
code_of (CutRecord number) = 6
code_of TooLarge = 7
code_of OutOfMemory = 8

-- a fault's printed name (profile)
abbrev pub name_of : CaptureFault → List ℕ
name_of Short = codes "Short"
name_of Magic = codes "Magic"
name_of Version = codes "Version"
name_of LinkType = codes "LinkType"
name_of (Length number) = codes "Length"
name_of (CutRecord number) = codes "CutRecord"
name_of TooLarge = codes "TooLarge"
name_of OutOfMemory = codes "OutOfMemory"

-- the number of the record that a fault is in, from 1, and 0 where it is in none (profile)
abbrev pub number_of : CaptureFault → ℕ
number_of (Length number) = number
number_of (CutRecord number) = number
number_of _ = 0
