-- The lines of a state's text, each with its line feed (profile). Half bits and places count from 0, ports from 1.
use Rattle.std.specs.Prelude.{ℕ, ◌+◌, ◌/◌, ◌%◌, nat_lt, Bool, List, [], ◌∷◌, ◌++◌, flat_map, length, decimal, codes, if◌then◌else◌}
use Rattle.collision_log.specs.declared.row.Row.{Row}
use Rattle.layout.specs.Sound.{device_names}
use Rattle.layout.specs.declared.lines.Layout.{Layout}
use Rattle.mac_transmit.specs.declared.deference.Defer.{Defer}
use Rattle.mac_transmit.specs.declared.deference.Defer.TheVariants.{Watch, Busy, Gap}
use Rattle.mac_transmit.specs.declared.phase.Phase.{Phase}
use Rattle.mac_transmit.specs.declared.phase.Phase.TheVariants.{Rest, Waiting, Sending, Backoff}
use Rattle.mac_transmit.specs.declared.state.SenderState.{SenderState}
use Rattle.port_partition.specs.Guard.{Guard}
use Rattle.run_texts.specs.Texts.{line_of_row}

-- the line of a half bit
abbrev pub line_of_time_kept : ℕ → List ℕ
line_of_time_kept t = codes "state " ++ decimal t ++ codes "\n"

-- yes or no
abbrev pub yes_or_no : Bool → List ℕ
yes_or_no answer = if answer then codes "yes" else codes "no"

-- what a sender is doing; where nothing is on its way none sends, so there is no word for that
abbrev pub phase_words : Phase → List ℕ
phase_words Rest = codes " phase rest"
phase_words Waiting = codes " phase waiting"
phase_words (Sending start hit) = []
phase_words (Backoff until) = codes " phase backoff " ++ decimal until

-- how a sender waits
abbrev pub defer_words : Defer → List ℕ
defer_words Watch = codes " defer watch"
defer_words (Busy was) = codes " defer busy " ++ yes_or_no was
defer_words (Gap k was) = codes " defer gap " ++ decimal k ++ codes " " ++ yes_or_no was

-- the line of the sender of a station with this name
unfoldable pub line_of_sender : List ℕ → SenderState → List ℕ
line_of_sender name s =
    codes "station " ++ name ++ phase_words s.phase ++ defer_words s.defer ++ codes " attempt " ++ decimal s.attempt
    ++ codes " place " ++ decimal s.place ++ codes " drawn " ++ decimal s.drawn ++ codes "\n"

-- the counts of a guard, and for how many half bits its port rests
unfoldable pub count_words : Guard → ℕ → List ℕ
count_words g rest =
    codes " in_row " ++ decimal g.in_row ++ codes " clash_run " ++ decimal g.clash_run
    ++ codes " clean_run " ++ decimal g.clean_run ++ codes " rest " ++ decimal rest ++ codes "\n"

-- the line of a port of a repeater with this name
unfoldable pub line_of_guard : List ℕ → ℕ → Guard → ℕ → List ℕ
line_of_guard name port g rest =
    codes "guard " ++ name ++ codes " port " ++ decimal port ++ codes " closed " ++ yes_or_no g.closed
    ++ codes " mend " ++ yes_or_no g.mend ++ codes " struck " ++ yes_or_no g.struck ++ count_words g rest

-- the line of a row of a layout's device: that of the log, after a word
unfoldable pub line_of_row_kept : Layout → Row → List ℕ
line_of_row_kept layout row = codes "row " ++ line_of_row (device_names layout) (length layout.stations) row

-- a hexadecimal digit, in lower case
abbrev pub hex_digit : ℕ → ℕ
hex_digit n = if nat_lt n 10 then n + 48 else n + 87

-- an octet as two hexadecimal digits, the high one first
abbrev pub hex_digits : ℕ → List ℕ
hex_digits octet = hex_digit (octet / 16) ∷ hex_digit (octet % 16) ∷ []

-- the line of the octets of a frame
unfoldable pub line_of_octets : List ℕ → List ℕ
line_of_octets octets = codes "octets " ++ flat_map hex_digits octets ++ codes "\n"

-- the last line
abbrev pub end_line : List ℕ
end_line = codes "end\n"
