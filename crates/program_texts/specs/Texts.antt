-- The lines of faults, and the names of the files that are written (profile).
use Rattle.std.specs.Prelude.{ℕ, List, ◌++◌, codes, decimal}
use Rattle.layout_file.specs.declared.fault.LayoutFault.{LayoutFault}
use Rattle.layout_file.specs.declared.fault.Place.{Place}
use Rattle.capture_file.specs.Names.{code_of, name_of, number_of}
use Rattle.capture_file.specs.declared.fault.CaptureFault.{CaptureFault}
use Rattle.layout_file.specs.FaultNames.{name_of_table, name_of_key, number_of_code, name_of_code}
use Rattle.program_words.specs.declared.words.Report.{Report}
use Rattle.program_words.specs.declared.words.Report.TheVariants as report

-- the line of words that are none of the forms
abbrev pub line_of_words_fault : List ℕ
line_of_words_fault = codes "words fault\n"

-- where a fault stands: rows and ports from 1, or 0 for none
abbrev pub text_of_place : Place → List ℕ
text_of_place place =
    codes "table " ++ name_of_table place.table ++ codes " row " ++ decimal place.row
    ++ codes " port " ++ decimal place.port ++ codes " key " ++ name_of_key place.key

-- the line of a layout with a fault
unfoldable pub line_of_fault : LayoutFault → List ℕ
line_of_fault fault =
    codes "layout fault " ++ decimal (number_of_code fault.code) ++ codes " " ++ name_of_code fault.code
    ++ codes " " ++ text_of_place fault.place ++ codes "\n"

-- the line of a file that can't be read
unfoldable pub line_of_read_fault : List ℕ → List ℕ
line_of_read_fault name = codes "read fault " ++ name ++ codes "\n"

-- the line of a file to be written that has the name of a file that is read
unfoldable pub line_of_output_fault : List ℕ → List ℕ
line_of_output_fault name = codes "output fault " ++ name ++ codes "\n"

-- the line of a load with a fault, of the station with this name; records from 1, or 0 for none
unfoldable pub line_of_load_fault : List ℕ → CaptureFault → List ℕ
line_of_load_fault name fault =
    codes "capture fault " ++ decimal (code_of fault) ++ codes " " ++ name_of fault
    ++ codes " station " ++ name ++ codes " record " ++ decimal (number_of fault) ++ codes "\n"

-- the line of a probe's first word that names no tap
unfoldable pub line_of_tap_fault : List ℕ → List ℕ
line_of_tap_fault word = codes "probe fault tap " ++ word ++ codes "\n"

-- the line of a probe with this report that ends after the run
abbrev pub line_of_range_fault : Report → List ℕ
line_of_range_fault report.Runs = codes "probe fault range\n"
line_of_range_fault report.Waves = codes "probe fault range\n"
line_of_range_fault report.Page = codes "page fault range\n"

-- the line of a log whose line with this number, from 1, is the first that names what the layout lacks
unfoldable pub line_of_stranger : ℕ → List ℕ
line_of_stranger n = codes "picture fault line " ++ decimal n ++ codes "\n"

-- the line of a log whose line with this number, from 1, is the first that names what the layout and its loads lack
unfoldable pub line_of_unplanned : ℕ → List ℕ
line_of_unplanned n = codes "frames fault line " ++ decimal n ++ codes "\n"

-- the line of a run that stopped before this half bit, from 0
unfoldable pub line_of_stopped : ℕ → List ℕ
line_of_stopped t = codes "stopped " ++ decimal t ++ codes "\n"

-- the line of a run that has no quiet half bit at or after the one that was asked for
abbrev pub line_of_no_quiet : List ℕ
line_of_no_quiet = codes "no quiet\n"

-- the name of the counters of a prefix
unfoldable pub name_of_counters : List ℕ → List ℕ
name_of_counters prefix = prefix ++ codes ".counters"

-- the name of the capture of a prefix and a station with this name
unfoldable pub name_of_capture : List ℕ → List ℕ → List ℕ
name_of_capture prefix name = prefix ++ codes "." ++ name ++ codes ".pcap"

-- the name of the log of a prefix
unfoldable pub name_of_log : List ℕ → List ℕ
name_of_log prefix = prefix ++ codes ".log"

-- the name of the state of a prefix
unfoldable pub name_of_state : List ℕ → List ℕ
name_of_state prefix = prefix ++ codes ".state"
