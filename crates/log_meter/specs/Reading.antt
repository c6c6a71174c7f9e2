-- How a line is read from left to right: each reader answers what it found and the octets after it (profile).
use Rattle.std.specs.Prelude.{ℕ, Bool, true, false, List, [], codes, Option, None, Some, if◌then◌else◌}
use Rattle.mac_parameters.specs.Parameters.{most_half_bits}
use Rattle.collision_log.specs.declared.row.Body.{Body}
use Rattle.collision_log.specs.declared.row.Body.TheVariants.{Sent, Collided, GivenUp, Cut, Received, Dropped, Clash, Closed, Opened, Halted}
use Rattle.collision_log.specs.declared.row.Why.{Why}
use Rattle.collision_log.specs.declared.row.Why.TheVariants.{Fragment, TooLong, FcsError, AlignError, Damaged}
use Rattle.text_fields.specs.Reading.{Read, ◌>>=◌, after_word, decimal_at, else_read, field_at, half_bit_at, name_at}
use Rattle.log_meter.specs.declared.line.LogLine.{LogLine}

-- what happened, by its word
unfoldable pub sent_at : ℕ → List ℕ → Read Body
sent_at t octets = do
  frame ← field_at (codes "sent frame ") octets
  start ← half_bit_at t (codes " start ") frame.1
  attempt ← field_at (codes " attempt ") start.1
  Some (Sent frame.0 start.0 attempt.0, attempt.1)

-- a collision
unfoldable pub collided_at : ℕ → List ℕ → Read Body
collided_at t octets = do
  frame ← field_at (codes "collided frame ") octets
  start ← half_bit_at t (codes " start ") frame.1
  attempt ← field_at (codes " attempt ") start.1
  hit ← field_at (codes " hit ") attempt.1
  drawn ← field_at (codes " draw ") hit.1
  Some (Collided frame.0 start.0 attempt.0 hit.0 drawn.0, drawn.1)

-- a frame that was given up
unfoldable pub given_up_at : ℕ → List ℕ → Read Body
given_up_at t octets = do
  frame ← field_at (codes "given_up frame ") octets
  start ← half_bit_at t (codes " start ") frame.1
  hit ← field_at (codes " hit ") start.1
  Some (GivenUp frame.0 start.0 hit.0, hit.1)

-- a number
abbrev pub some_number : Read ℕ → Read (Option ℕ)
some_number (Some n) = Some (Some n.0, n.1)
some_number None = None

-- no number, by its word
abbrev pub no_number : Option (List ℕ) → Read (Option ℕ)
no_number (Some rest) = Some (None, rest)
no_number None = None

-- a hit, or the word for none
unfoldable pub logged_hit_at : List ℕ → Read (Option ℕ)
logged_hit_at octets = else_read (no_number (after_word (codes "none") octets)) (some_number (decimal_at octets))

-- a sending that the end of the run cut
unfoldable pub cut_at : ℕ → List ℕ → Read Body
cut_at t octets = do
  frame ← field_at (codes "cut frame ") octets
  start ← half_bit_at t (codes " start ") frame.1
  attempt ← field_at (codes " attempt ") start.1
  rest ← after_word (codes " hit ") attempt.1
  hit ← logged_hit_at rest
  Some (Cut frame.0 start.0 attempt.0 hit.0, hit.1)

-- a reception
unfoldable pub received_at : List ℕ → Read Body
received_at octets = do
  count ← field_at (codes "received octets ") octets
  Some (Received count.0, count.1)

-- this reason, where its word was found
abbrev pub why_found : Why → Option (List ℕ) → Read Why
why_found why (Some rest) = Some (why, rest)
why_found why None = None

-- why a reception was dropped
unfoldable pub why_at : List ℕ → Read Why
why_at octets =
    else_read (why_found Fragment (after_word (codes "fragment") octets))
    (else_read (why_found TooLong (after_word (codes "too_long") octets))
    (else_read (why_found FcsError (after_word (codes "fcs") octets))
    (else_read (why_found AlignError (after_word (codes "align") octets))
    (why_found Damaged (after_word (codes "damaged") octets)))))

-- a reception that was dropped
unfoldable pub dropped_at : List ℕ → Read Body
dropped_at octets = do
  rest ← after_word (codes "dropped ") octets
  why ← why_at rest
  halves ← field_at (codes " halves ") why.1
  Some (Dropped why.0 halves.0, halves.1)

-- a collision at a repeater
unfoldable pub clash_at : List ℕ → Read Body
clash_at octets = do
  rest ← after_word (codes "clash") octets
  Some (Clash, rest)

-- a port that was partitioned
unfoldable pub closed_at : List ℕ → Read Body
closed_at octets = do
  port ← field_at (codes "closed port ") octets
  Some (Closed port.0, port.1)

-- a port that was reconnected
unfoldable pub opened_at : List ℕ → Read Body
opened_at octets = do
  port ← field_at (codes "opened port ") octets
  Some (Opened port.0, port.1)

-- a port that was halted
unfoldable pub halted_at : List ℕ → Read Body
halted_at octets = do
  port ← field_at (codes "halted port ") octets
  Some (Halted port.0, port.1)

-- what happens to stations
unfoldable pub station_body_at : ℕ → List ℕ → Read Body
station_body_at t octets =
    else_read (received_at octets) (else_read (sent_at t octets) (else_read (collided_at t octets)
    (else_read (dropped_at octets) (else_read (given_up_at t octets) (cut_at t octets)))))

-- what happens to repeaters
unfoldable pub repeater_body_at : List ℕ → Read Body
repeater_body_at octets =
    else_read (clash_at octets) (else_read (closed_at octets) (else_read (opened_at octets) (halted_at octets)))

-- what happens in half bit t to a repeater or a station
unfoldable pub body_at : ℕ → Bool → List ℕ → Read Body
body_at t repeater octets = if repeater then repeater_body_at octets else station_body_at t octets

-- a device, by its word
abbrev pub device_found : Bool → Option (List ℕ) → Read Bool
device_found repeater (Some rest) = Some (repeater, rest)
device_found repeater None = None

-- whether the device is a repeater
unfoldable pub device_at : List ℕ → Read Bool
device_at octets =
    else_read (device_found false (after_word (codes " station ") octets))
    (device_found true (after_word (codes " repeater ") octets))

-- a line without its line feed
unfoldable pub log_line_at : List ℕ → Read LogLine
log_line_at octets = do
  t ← half_bit_at most_half_bits [] octets
  repeater ← device_at t.1
  name ← name_at repeater.1
  rest ← after_word (codes " ") name.1
  body ← body_at t.0 repeater.0 rest
  Some (record { t = t.0; repeater = repeater.0; name = name.0; body = body.0 }, body.1)
