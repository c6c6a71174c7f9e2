-- The codes, names and lines of the faults of a state's text (profile). Codes and lines count from 1.
use Rattle.std.specs.Prelude.{ℕ, List, ◌++◌, codes, decimal}
use Rattle.run_checkpoint.specs.declared.fault.StateFault.{StateFault}
use Rattle.run_checkpoint.specs.declared.fault.StateFault.TheVariants as fault

-- the code of a state's fault
abbrev pub code_of_state_fault : StateFault → ℕ
code_of_state_fault fault.TooLarge = 1
code_of_state_fault (fault.BadLine line) = 2
code_of_state_fault (fault.BadValue line) = 3
code_of_state_fault fault.OutOfMemory = 4

-- the name of a state's fault, as it is printed
abbrev pub name_of_state_fault : StateFault → List ℕ
name_of_state_fault fault.TooLarge = codes "TooLarge"
name_of_state_fault (fault.BadLine line) = codes "BadLine"
name_of_state_fault (fault.BadValue line) = codes "BadValue"
name_of_state_fault fault.OutOfMemory = codes "OutOfMemory"

-- the number of the line that a fault is in, and 0 where it is in none
abbrev pub line_of_state_fault : StateFault → ℕ
line_of_state_fault fault.TooLarge = 0
line_of_state_fault (fault.BadLine line) = line
line_of_state_fault (fault.BadValue line) = line
line_of_state_fault fault.OutOfMemory = 0

-- what is said of the text of a state with a fault
abbrev pub line_of_state_with : StateFault → List ℕ
line_of_state_with fault =
    codes "state fault " ++ decimal (code_of_state_fault fault) ++ codes " " ++ name_of_state_fault fault
    ++ codes " line " ++ decimal (line_of_state_fault fault) ++ codes "\n"
