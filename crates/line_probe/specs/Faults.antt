-- The codes of the faults of a text of runs (profile). Codes and lines count from 1.
use Rattle.std.specs.Prelude.{ℕ}
use Rattle.line_probe.specs.declared.fault.RunsFault.{RunsFault}
use Rattle.line_probe.specs.declared.fault.RunsFault.TheVariants as fault

-- the code of a fault
abbrev pub code_of_fault : RunsFault → ℕ
code_of_fault (fault.BadLine line) = 1
code_of_fault (fault.Gap line) = 2
code_of_fault (fault.Same line) = 3
code_of_fault fault.OutOfMemory = 4
