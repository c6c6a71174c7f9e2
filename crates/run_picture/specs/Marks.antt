-- The marks of a picture: one for each line of the log that meets the window (profile). Half bits count from 0;
-- stations, repeaters and segments have numbers from 0; ports count from 0, and in lines of a log from 1; heights are
-- hundredths of a pixel from the top.
use Rattle.std.specs.Prelude.{ℕ, ◌+◌, ◌==◌, ◌&&◌, Bool, false, if◌then◌else◌, List, [], ◌∷◌, ◌++◌, Option, None, Some, slice_get, find, codes, decimal}
use Rattle.collision_log.specs.Rows.{body_text, device_word, why_text}
use Rattle.collision_log.specs.declared.row.Body.{Body}
use Rattle.collision_log.specs.declared.row.Body.TheVariants.{Received, Dropped, Clash, Closed, Opened, Halted}
use Rattle.collision_log.specs.declared.row.Why.{Why}
use Rattle.layout.specs.declared.lines.Layout.{Layout}
use Rattle.layout.specs.declared.lines.PortLine.{PortLine}
use Rattle.layout.specs.declared.ways.Attachment.{Attachment}
use Rattle.layout.specs.declared.ways.Attachment.TheVariants.{Station, Port}
use Rattle.log_meter.specs.declared.line.LogLine.{LogLine}
use Rattle.run_picture.specs.Sendings.{does_meet, sending_of, sending_shapes}
use Rattle.run_picture.specs.Signs.{sign}
use Rattle.run_picture.specs.Strangers.{number_of_repeater, number_of_station}
use Rattle.run_picture.specs.Times.{x_of}
use Rattle.run_picture.specs.WordRooms.{first_rooms, has_word, rooms_after}
use Rattle.run_picture.specs.declared.lanes.Band.{Band}
use Rattle.run_picture.specs.declared.lanes.Lane.{Lane}
use Rattle.run_picture.specs.declared.sending.Sending.{Sending}
use Rattle.run_picture.specs.declared.signs.Sign.{Sign}
use Rattle.run_picture.specs.declared.signs.Sign.TheVariants as the_sign
use Rattle.run_picture.specs.declared.window.Window.{Window}

-- a line of the log, without its line feed
unfoldable pub title_of : LogLine → List ℕ
title_of line =
    decimal line.t ++ codes " " ++ device_word line.repeater ++ line.name ++ codes " " ++ body_text line.body

-- whether two taps are one
abbrev pub is_one_tap : Attachment → Attachment → Bool
is_one_tap (Station k) (Station j) = k == j
is_one_tap (Station k) (Port s q) = false
is_one_tap (Port r p) (Station j) = false
is_one_tap (Port r p) (Port s q) = (r == s) && (p == q)

-- the lanes of a band
abbrev pub lanes_of_band : Option Band → List Lane
lanes_of_band None = []
lanes_of_band (Some band) = band.lanes

-- the lanes of a segment
abbrev pub lanes_of_segment : List Band → ℕ → List Lane
lanes_of_segment bands segment = lanes_of_band (slice_get bands segment)

-- the lane of a tap among these
abbrev pub lane_of : List Lane → Attachment → Option Lane
lane_of lanes tap = find (λ lane. is_one_tap lane.tap tap) lanes

-- what is shown of what was found
abbrev pub shown : {A : Type 0} → Option A → (A → List ℕ) → List ℕ
shown None draw = []
shown (Some x) draw = draw x

-- the word of a reception that was dropped in half bit t, beside its sign
unfoldable pub word_of_drop : Window → ℕ → ℕ → Why → List ℕ
word_of_drop window t y why =
    codes "<text class='word' x='" ++ decimal (x_of window t) ++ codes "' y='" ++ decimal y
    ++ codes "' dx='600' dy='-450'>" ++ why_text why ++ codes "</text>"

-- the same, where there is a word
abbrev pub word_if : Bool → Window → ℕ → ℕ → Why → List ℕ
word_if worded window t y why = if worded then word_of_drop window t y why else []

-- the sign of a reception that ended in half bit t, on the lane that lies so far down, with a word or without one
abbrev pub reception : Bool → Window → ℕ → ℕ → Body → List ℕ
reception worded window t y (Received octets) = sign window the_sign.Received t y
reception worded window t y (Dropped why halves) = sign window the_sign.Dropped t y ++ word_if worded window t y why
reception worded window t y _ = []

-- the shapes of this sending, or where there is none, of a reception
abbrev pub shapes_on_lane : Bool → Window → LogLine → Lane → List Lane → Option Sending → List ℕ
shapes_on_lane worded window line lane lanes (Some sending) = sending_shapes window sending lane lanes
shapes_on_lane worded window line lane lanes None = reception worded window line.t lane.y line.body

-- the shapes of what happened at the station on this lane, one of those of its segment
abbrev pub lane_shapes : Bool → Window → LogLine → Lane → List Lane → List ℕ
lane_shapes worded window line lane lanes = shapes_on_lane worded window line lane lanes (sending_of line.t line.body)

-- the shapes of what happened at the k-th station, which stands on a segment with these lanes
abbrev pub shapes_at_station : Bool → Window → LogLine → ℕ → List Lane → List ℕ
shapes_at_station worded window line k lanes =
    shown (lane_of lanes (Station k)) (λ lane. lane_shapes worded window line lane lanes)

-- the shapes of what happened at the station that a line names
abbrev pub station_shapes : Bool → Window → Layout → List Band → LogLine → List ℕ
station_shapes worded window l bands line =
    shown (number_of_station l.stations line.name) (λ k. shown (slice_get l.stations k)
    (λ station. shapes_at_station worded window line k (lanes_of_segment bands station.segment)))

-- the sign of what happened at a repeater for its port with this number, from 1, if it concerns the port
abbrev pub sign_of_port : Body → ℕ → Option Sign
sign_of_port Clash number = Some the_sign.Clash
sign_of_port (Closed port) number = if port == number then Some the_sign.Closed else None
sign_of_port (Opened port) number = if port == number then Some the_sign.Opened else None
sign_of_port (Halted port) number = if port == number then Some the_sign.Halted else None
sign_of_port _ number = None

-- the sign of what happened at the r-th repeater on the lane of its port p, one of those of the port's segment
abbrev pub port_shapes : Window → LogLine → List Lane → ℕ → ℕ → List ℕ
port_shapes window line lanes r p =
    shown (sign_of_port line.body (p + 1))
    (λ mark. shown (lane_of lanes (Port r p)) (λ lane. sign window mark line.t lane.y))

-- the signs of what happened at the r-th repeater on the lanes of these ports, the first of which is port p
abbrev pub signs_of_ports : Window → LogLine → List Band → ℕ → ℕ → List PortLine → List ℕ
signs_of_ports window line bands r p [] = []
signs_of_ports window line bands r p (port ∷ ports) =
    port_shapes window line (lanes_of_segment bands port.segment) r p
    ++ signs_of_ports window line bands r (p + 1) ports

-- the shapes of what happened at the repeater that a line names
abbrev pub repeater_shapes : Window → Layout → List Band → LogLine → List ℕ
repeater_shapes window l bands line =
    shown (number_of_repeater l.repeaters line.name) (λ r. shown (slice_get l.repeaters r)
    (λ repeater. signs_of_ports window line bands r 0 repeater.ports))

-- the shapes of what happened at the device that a line names
abbrev pub shapes_of_line : Bool → Window → Layout → List Band → LogLine → List ℕ
shapes_of_line worded window l bands line =
    if line.repeater then repeater_shapes window l bands line else station_shapes worded window l bands line

-- the mark of a line, with a word or without one: one element, whose title is the line
unfoldable pub mark : Bool → Window → Layout → List Band → LogLine → List ℕ
mark worded window l bands line =
    codes "<g><title>" ++ title_of line ++ codes "</title>" ++ shapes_of_line worded window l bands line
    ++ codes "</g>\n"

-- the mark of a line that meets the window
abbrev pub mark_of_line : Bool → Window → Layout → List Band → LogLine → List ℕ
mark_of_line worded window l bands line = if does_meet window line then mark worded window l bands line else []

-- the marks of those of these lines that meet the window, in their order, where the lanes have these rooms for words
abbrev pub marks_from : List ℕ → Window → Layout → List Band → List LogLine → List ℕ
marks_from rooms window l bands [] = []
marks_from rooms window l bands (line ∷ lines) =
    mark_of_line (has_word window l rooms line lines) window l bands line
    ++ marks_from (rooms_after window l rooms line lines) window l bands lines

-- the marks of those of these lines that meet the window, in their order
abbrev pub marks : Window → Layout → List Band → List LogLine → List ℕ
marks window l bands lines = marks_from (first_rooms l) window l bands lines
