-- The forms of the lines of a state's text: what a line says, where it is of the form (profile). Numbers may have any
-- value here, but for those of the lines of rows.
use Rattle.std.specs.Prelude.{ℕ, ◌+◌, ◌-◌, ◌*◌, Bool, List, [], ◌∷◌, ◌++◌, decimal, codes, Option, None, Some, if◌then◌else◌}
use Rattle.std.specs.Str.{bytes_eq}
use Rattle.collision_log.specs.declared.row.Row.{Row}
use Rattle.layout.specs.NameOctets.{is_between}
use Rattle.layout.specs.declared.lines.Layout.{Layout}
use Rattle.text_fields.specs.Reading.{Read, ◌>>=◌, else_read, after_word}
use Rattle.log_meter.specs.Reading.{log_line_at}
use Rattle.log_meter.specs.declared.line.LogLine.{LogLine}
use Rattle.mac_transmit.specs.declared.deference.Defer.{Defer}
use Rattle.mac_transmit.specs.declared.deference.Defer.TheVariants.{Watch, Busy, Gap}
use Rattle.mac_transmit.specs.declared.phase.Phase.{Phase}
use Rattle.mac_transmit.specs.declared.phase.Phase.TheVariants.{Rest, Waiting, Backoff}
use Rattle.mac_transmit.specs.declared.state.SenderState.{SenderState}
use Rattle.port_partition.specs.Guard.{Guard}
use Rattle.run_checkpoint.specs.Fields.{figure_at, truth_at, whole_line}
use Rattle.run_checkpoint.specs.LineTexts.{end_line}
use Rattle.run_checkpoint.specs.Places.{device_of_line}

-- the line of a half bit
unfoldable pub time_form : List ℕ → Option ℕ
time_form line = do
  t ← figure_at (codes "state ") line
  whole_line t.0 t.1

-- this phase, where its word was found
abbrev pub phase_found : Phase → Option (List ℕ) → Read Phase
phase_found phase (Some rest) = Some (phase, rest)
phase_found phase None = None

-- a backoff, where the half bit of its end was found
abbrev pub backoff_found : Read ℕ → Read Phase
backoff_found (Some until) = Some (Backoff until.0, until.1)
backoff_found None = None

-- what a sender is doing
unfoldable pub phase_at : List ℕ → Read Phase
phase_at octets =
    else_read (phase_found Rest (after_word (codes " phase rest") octets))
    (else_read (phase_found Waiting (after_word (codes " phase waiting") octets))
    (backoff_found (figure_at (codes " phase backoff ") octets)))

-- nothing to wait for, where its word was found
abbrev pub watch_found : Option (List ℕ) → Read Defer
watch_found (Some rest) = Some (Watch, rest)
watch_found None = None

-- a busy line, where it was found
abbrev pub busy_found : Read Bool → Read Defer
busy_found (Some was) = Some (Busy was.0, was.1)
busy_found None = None

-- so many half bits of the gap that have gone
unfoldable pub gap_defer_at : List ℕ → Read Defer
gap_defer_at octets = do
  k ← figure_at (codes " defer gap ") octets
  was ← truth_at (codes " ") k.1
  Some (Gap k.0 was.0, was.1)

-- how a sender waits
unfoldable pub defer_at : List ℕ → Read Defer
defer_at octets =
    else_read (watch_found (after_word (codes " defer watch") octets))
    (else_read (busy_found (truth_at (codes " defer busy ") octets)) (gap_defer_at octets))

-- the line of the sender of a station with this name
unfoldable pub sender_form : List ℕ → List ℕ → Option SenderState
sender_form name line = do
  word ← after_word (codes "station ") line
  rest ← after_word name word
  phase ← phase_at rest
  defer ← defer_at phase.1
  attempt ← figure_at (codes " attempt ") defer.1
  place ← figure_at (codes " place ") attempt.1
  drawn ← figure_at (codes " drawn ") place.1
  whole_line
      (record { phase = phase.0; defer = defer.0; attempt = attempt.0; place = place.0; drawn = drawn.0 })
      drawn.1

-- the octets after the words that name a port
unfoldable pub after_port_name : List ℕ → ℕ → List ℕ → Option (List ℕ)
after_port_name name port line = do
  word ← after_word (codes "guard ") line
  named ← after_word name word
  numbered ← after_word (codes " port ") named
  after_word (decimal port) numbered

-- whether a port is closed, whether it opens once nothing is heard, and whether the activity had a collision
unfoldable pub answers_at : List ℕ → Read (Bool × Bool × Bool)
answers_at octets = do
  closed ← truth_at (codes " closed ") octets
  mend ← truth_at (codes " mend ") closed.1
  struck ← truth_at (codes " struck ") mend.1
  Some ((closed.0, mend.0, struck.0), struck.1)

-- the line of a port of a repeater with this name: its guard, and for how many half bits it rests
unfoldable pub guard_form : List ℕ → ℕ → List ℕ → Option (Guard × ℕ)
guard_form name port line = do
  rest ← after_port_name name port line
  answers ← answers_at rest
  in_row ← figure_at (codes " in_row ") answers.1
  clash_run ← figure_at (codes " clash_run ") in_row.1
  clean_run ← figure_at (codes " clean_run ") clash_run.1
  rest ← figure_at (codes " rest ") clean_run.1
  whole_line (
    record {
      closed = answers.0.0;
      mend = answers.0.1;
      struck = answers.0.2;
      in_row = in_row.0;
      clash_run = clash_run.0;
      clean_run = clean_run.0;
    },
    rest.0,
  ) rest.1

-- a line of the grammar of logs, with its line feed
unfoldable pub log_line_form : List ℕ → Option LogLine
log_line_form line = do
  l ← log_line_at line
  whole_line l.0 l.1

-- the line of a row, which is one of the grammar of logs and of a device of the layout
unfoldable pub row_form : Layout → List ℕ → Option Row
row_form layout line = do
  rest ← after_word (codes "row ") line
  l ← log_line_form rest
  device ← device_of_line layout l
  Some (record { t = l.t; device = device; body = l.body })

-- the value of a hexadecimal digit, in lower case
unfoldable pub hex_value : ℕ → Option ℕ
hex_value c = if is_between 48 57 c then Some (c - 48) else if is_between 97 102 c then Some (c - 87) else None

-- the octet that two hexadecimal digits stand for, the high one first
unfoldable pub hex_octet : ℕ → ℕ → Option ℕ
hex_octet high low = do
  h ← hex_value high
  l ← hex_value low
  Some (16 * h + l)

-- octets as hexadecimal digits up to the line feed, after those that were read so far
unfoldable pub hex_octets_on : List ℕ → List ℕ → Option (List ℕ)
hex_octets_on before [] = None
hex_octets_on before (c ∷ []) = whole_line before (c ∷ [])
hex_octets_on before (high ∷ low ∷ rest) = hex_octet high low >>= λ octet. hex_octets_on (before ++ octet ∷ []) rest

-- the line of the octets of a frame
unfoldable pub octets_form : List ℕ → Option (List ℕ)
octets_form line = do
  rest ← after_word (codes "octets ") line
  hex_octets_on [] rest

-- whether a line is the last one
abbrev pub is_end_line : List ℕ → Bool
is_end_line line = bytes_eq line end_line
