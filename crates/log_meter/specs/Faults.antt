-- The codes, names and lines of the faults of a log (profile). Codes and lines count from 1.
use Rattle.std.specs.Prelude.{ℕ, List, codes}
use Rattle.log_meter.specs.declared.fault.LineFault.{LineFault}
use Rattle.log_meter.specs.declared.fault.LineFault.TheVariants as line_fault
use Rattle.log_meter.specs.declared.fault.LogFault.{LogFault}
use Rattle.log_meter.specs.declared.fault.LogFault.TheVariants as fault

-- the code of a line's fault
abbrev pub code_of_line_fault : LineFault → ℕ
code_of_line_fault line_fault.Bad = 1
code_of_line_fault line_fault.OutOfMemory = 2

-- the code of a log's fault
abbrev pub code_of_log_fault : LogFault → ℕ
code_of_log_fault fault.TooLarge = 1
code_of_log_fault (fault.BadLine line) = 2
code_of_log_fault (fault.Order line) = 3
code_of_log_fault fault.OutOfMemory = 4

-- the name of a log's fault, as it is printed
abbrev pub name_of_fault : LogFault → List ℕ
name_of_fault fault.TooLarge = codes "TooLarge"
name_of_fault (fault.BadLine line) = codes "BadLine"
name_of_fault (fault.Order line) = codes "Order"
name_of_fault fault.OutOfMemory = codes "OutOfMemory"

-- the number of the line that a fault is in, and 0 where it is in none
abbrev pub line_of_log_fault : LogFault → ℕ
line_of_log_fault fault.TooLarge = 0
line_of_log_fault (fault.BadLine line) = line
line_of_log_fault (fault.Order line) = line
line_of_log_fault fault.OutOfMemory = 0
