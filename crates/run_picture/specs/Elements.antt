-- Laws on what the marks of a picture draw (profile). Half bits count from 0; stations, repeaters and ports count from
-- 0, and in lines of a log ports count from 1; heights and places are hundredths of a pixel.
use Rattle.std.specs.Prelude.{◌≡◌, ◌≤◌, ◌<◌, ℕ, ◌+◌, ◌-◌, ◌*◌, ◌/◌, max, min, true, false, List, ◌++◌, Contains, Some, slice_get, codes, decimal}
use Rattle.collision_log.specs.declared.row.Body.{Body}
use Rattle.collision_log.specs.declared.row.Body.TheVariants.{Sent, Collided, GivenUp, Cut, Received, Dropped, Clash, Closed, Opened, Halted}
use Rattle.layout.specs.declared.lines.Layout.{Layout}
use Rattle.layout.specs.declared.lines.PortLine.{PortLine}
use Rattle.layout.specs.declared.lines.RepeaterLine.{RepeaterLine}
use Rattle.layout.specs.declared.lines.StationLine.{StationLine}
use Rattle.layout.specs.Sound.{IsSound}
use Rattle.layout.specs.declared.ways.Attachment.{Attachment}
use Rattle.layout.specs.declared.ways.Attachment.TheVariants.{Station, Port}
use Rattle.log_meter.specs.declared.line.LogLine.{LogLine}
use Rattle.run_picture.specs.Kinds.{does_draw, drawn_kinds, every_kind}
use Rattle.run_picture.specs.Lanes.{page_of}
use Rattle.run_picture.specs.Legend.{entry}
use Rattle.run_picture.specs.Marks.{lane_of, lanes_of_segment, title_of}
use Rattle.run_picture.specs.Pictures.{picture_of}
use Rattle.run_picture.specs.Strangers.{number_of_repeater, number_of_station}
use Rattle.run_picture.specs.declared.kinds.ShapeKind.{ShapeKind}
use Rattle.run_picture.specs.declared.lanes.Lane.{Lane}

-- how far right half bit t lies in a picture of the half bits from `from` to below `to`, which is 100,000 wide
abbrev pub place_of_half_bit : ℕ → ℕ → ℕ → ℕ
place_of_half_bit from to t = 100000 * (t - from) / (to - from)

-- the bar of a sending between these places, 450 above and below the lane that lies so far down
abbrev pub bar_element : List ℕ → ℕ → ℕ → ℕ → List ℕ
bar_element word left right y =
    codes "<path class='" ++ word ++ codes "' d='M" ++ decimal left ++ codes " " ++ decimal y ++ codes "m0 -450H"
    ++ decimal right ++ codes "v900H" ++ decimal left ++ codes "z'/>"

-- where a sign begins: at this place, on the lane that lies so far down
abbrev pub sign_element : List ℕ → ℕ → ℕ → List ℕ
sign_element word x y =
    codes "<path class='" ++ word ++ codes "' d='M" ++ decimal x ++ codes " " ++ decimal y ++ codes "m"

-- this stands in the mark of a line, behind its title
pub record HasInMark (text : List ℕ) (line : LogLine) (element : List ℕ) : Type 0 where
  pub front : List ℕ
  pub before : List ℕ
  pub after : List ℕ
  pub rest : List ℕ
  pub stands : text
      ≡ front
      ++ (codes "<g><title>" ++ title_of line ++ codes "</title>" ++ (before ++ element ++ after) ++ codes "</g>\n")
      ++ rest

-- this is the lane of the station with this name
pub record IsLaneOfStation (l : Layout) (name : List ℕ) (lane : Lane) : Type 0 where
  pub number : ℕ
  pub station : StationLine
  pub named : number_of_station l.stations name ≡ Some number
  pub row : slice_get l.stations number ≡ Some station
  pub on_segment : lane_of (lanes_of_segment (page_of l).bands station.segment) (Station number) ≡ Some lane

-- this is the lane of port p of the repeater with this name
pub record IsLaneOfPort (l : Layout) (name : List ℕ) (p : ℕ) (lane : Lane) : Type 0 where
  pub number : ℕ
  pub repeater : RepeaterLine
  pub port : PortLine
  pub named : number_of_repeater l.repeaters name ≡ Some number
  pub row : slice_get l.repeaters number ≡ Some repeater
  pub port_row : slice_get repeater.ports p ≡ Some port
  pub on_segment : lane_of (lanes_of_segment (page_of l).bands port.segment) (Port number p) ≡ Some lane

-- a line with this body tells of a sending that began in half bit `first`, and that the picture's style has this word
-- for
abbrev pub TellsOfSending : Body → List ℕ → ℕ → Type 0
TellsOfSending (Sent frame start attempt) word first = (word ≡ codes "sent") × (first ≡ start)
TellsOfSending (Collided frame start attempt hit drawn) word first = (word ≡ codes "collided") × (first ≡ start)
TellsOfSending (GivenUp frame start hit) word first = (word ≡ codes "given_up") × (first ≡ start)
TellsOfSending (Cut frame start attempt hit) word first = (word ≡ codes "cut") × (first ≡ start)
TellsOfSending _ word first = ⊥

-- a line with this body tells that a sending heard another signal first in half bit t
abbrev pub TellsOfHit : Body → ℕ → Type 0
TellsOfHit (Collided frame start attempt hit drawn) t = t ≡ start + hit
TellsOfHit (GivenUp frame start hit) t = t ≡ start + hit
TellsOfHit (Cut frame start attempt (Some hit)) t = t ≡ start + hit
TellsOfHit _ t = ⊥

-- a line with this body tells of a reception, for which the picture's style has this word
abbrev pub TellsOfReception : Body → List ℕ → Type 0
TellsOfReception (Received octets) word = word ≡ codes "received"
TellsOfReception (Dropped why halves) word = word ≡ codes "dropped"
TellsOfReception _ word = ⊥

-- a line with this body concerns the port of a repeater with this number, from 1, and the picture's style has this word
-- for what it tells
abbrev pub TellsOfPort : Body → ℕ → List ℕ → Type 0
TellsOfPort Clash number word = word ≡ codes "clash"
TellsOfPort (Closed port) number word = (port ≡ number) × (word ≡ codes "closed")
TellsOfPort (Opened port) number word = (port ≡ number) × (word ≡ codes "opened")
TellsOfPort (Halted port) number word = (port ≡ number) × (word ≡ codes "halted")
TellsOfPort _ number word = ⊥

-- each sending that meets the half bits of a picture has its bar in its mark, cut at the picture's edges
abbrev pub SendingsHaveBars : Type 0
SendingsHaveBars =
    (l : Layout) (lines : List LogLine) (from to : ℕ) (line : LogLine) (lane : Lane) (word : List ℕ) (start : ℕ)
    → Contains lines line → line.repeater ≡ false → TellsOfSending line.body word start
    → IsLaneOfStation l line.name lane → start < to → from ≤ line.t
    → HasInMark (picture_of l lines from to) line
    (bar_element word (place_of_half_bit from to (max start from)) (place_of_half_bit from to (min line.t to)) lane.y)

-- each hit of a sending that is before its end and in the half bits of a picture has its sign in the sending's mark
abbrev pub HitsHaveSigns : Type 0
HitsHaveSigns =
    (l : Layout) (lines : List LogLine) (from to : ℕ) (line : LogLine) (lane : Lane) (t : ℕ)
    → Contains lines line → line.repeater ≡ false → TellsOfHit line.body t → IsLaneOfStation l line.name lane
    → t < line.t → from ≤ t → t < to
    → HasInMark (picture_of l lines from to) line (sign_element (codes "hit") (place_of_half_bit from to t) lane.y)

-- each reception in the half bits of a picture has its sign in its mark
abbrev pub ReceptionsHaveSigns : Type 0
ReceptionsHaveSigns =
    (l : Layout) (lines : List LogLine) (from to : ℕ) (line : LogLine) (lane : Lane) (word : List ℕ)
    → Contains lines line → line.repeater ≡ false → TellsOfReception line.body word
    → IsLaneOfStation l line.name lane → from ≤ line.t → line.t < to
    → HasInMark (picture_of l lines from to) line (sign_element word (place_of_half_bit from to line.t) lane.y)

-- each line of a repeater in the half bits of a picture has a sign in its mark for each port that it concerns
abbrev pub PortsHaveSigns : Type 0
PortsHaveSigns =
    (l : Layout) (lines : List LogLine) (from to : ℕ) (line : LogLine) (p : ℕ) (lane : Lane) (word : List ℕ)
    → Contains lines line → line.repeater ≡ true → TellsOfPort line.body (p + 1) word
    → IsLaneOfPort l line.name p lane → from ≤ line.t → line.t < to
    → HasInMark (picture_of l lines from to) line (sign_element word (place_of_half_bit from to line.t) lane.y)

-- the entry of a kind stands in a text
pub record HasEntry (text : List ℕ) (kind : ShapeKind) : Type 0 where
  pub number : ℕ
  pub before : List ℕ
  pub after : List ℕ
  pub stands : text ≡ before ++ entry number kind ++ after

-- one of these lines has a mark with a shape of this kind in a picture of the half bits from `from` to below `to`
pub record IsDrawnByLine (lines : List LogLine) (from to : ℕ) (kind : ShapeKind) : Type 0 where
  pub line : LogLine
  pub among : Contains lines line
  pub draws : does_draw (record { from = from; to = to }) line kind ≡ true

-- each kind of shape that a mark of a picture has, has its entry in the legend
abbrev pub ShapesHaveEntries : Type 0
ShapesHaveEntries =
    (l : Layout) (lines : List LogLine) (from to : ℕ) (line : LogLine) (kind : ShapeKind)
    → Contains lines line → does_draw (record { from = from; to = to }) line kind ≡ true
    → HasEntry (picture_of l lines from to) kind

-- each kind that has an entry in the legend is a kind of shape that a mark of the picture has
abbrev pub EntriesHaveShapes : Type 0
EntriesHaveShapes =
    (lines : List LogLine) (from to : ℕ) (kind : ShapeKind)
    → Contains (drawn_kinds (record { from = from; to = to }) lines every_kind) kind
    → IsDrawnByLine lines from to kind

-- a tap of this segment has a lane, at this place of the segment
pub record HasLane (l : Layout) (segment : ℕ) (tap : Attachment) (at : ℕ) : Type 0 where
  pub lane : Lane
  pub found : lane_of (lanes_of_segment (page_of l).bands segment) tap ≡ Some lane
  pub place : lane.at ≡ at

-- each station has its lane among those of its segment
abbrev pub StationsHaveLanes : Type 0
StationsHaveLanes =
    (l : Layout) (k : ℕ) (station : StationLine) → IsSound l → slice_get l.stations k ≡ Some station
    → HasLane l station.segment (Station k) station.at

-- each port of a repeater has its lane among those of its segment
abbrev pub PortsHaveLanes : Type 0
PortsHaveLanes =
    (l : Layout) (r p : ℕ) (repeater : RepeaterLine) (port : PortLine) → IsSound l
    → slice_get l.repeaters r ≡ Some repeater → slice_get repeater.ports p ≡ Some port
    → HasLane l port.segment (Port r p) port.at
