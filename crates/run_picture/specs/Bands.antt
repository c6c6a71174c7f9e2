-- The texts of bands and lanes (profile). Stations, repeaters and ports have numbers from 0, and in names ports have
-- numbers from 1; places are half bits; heights are hundredths of a pixel from the top.
use Rattle.std.specs.Prelude.{ℕ, ◌+◌, nat_lt, if◌then◌else◌, List, [], ◌∷◌, ◌++◌, length, Option, None, Some, slice_get, flat_map, codes, decimal}
use Rattle.layout.specs.declared.lines.Layout.{Layout}
use Rattle.layout.specs.declared.lines.RepeaterLine.{RepeaterLine}
use Rattle.layout.specs.declared.lines.SegmentLine.{SegmentLine}
use Rattle.layout.specs.declared.lines.StationLine.{StationLine}
use Rattle.layout.specs.declared.ways.Attachment.{Attachment}
use Rattle.layout.specs.declared.ways.Attachment.TheVariants.{Station, Port}
use Rattle.run_picture.specs.Sizes.{longest_large_name}
use Rattle.run_picture.specs.declared.lanes.Band.{Band}
use Rattle.run_picture.specs.declared.lanes.Lane.{Lane}

-- the name of the port with this number, from 1, of a repeater with this name
abbrev pub port_name : List ℕ → ℕ → List ℕ
port_name name number = name ++ codes ":" ++ decimal number

-- the name of this station
abbrev pub name_at_station : Option StationLine → List ℕ
name_at_station None = []
name_at_station (Some station) = station.name

-- the name of this repeater
abbrev pub name_at_repeater : Option RepeaterLine → List ℕ
name_at_repeater None = []
name_at_repeater (Some repeater) = repeater.name

-- the name of port p of this repeater
abbrev pub name_of_port : Option RepeaterLine → ℕ → List ℕ
name_of_port None p = []
name_of_port (Some repeater) p = port_name repeater.name (p + 1)

-- the name of a tap
abbrev pub name_of_tap : Layout → Attachment → List ℕ
name_of_tap l (Station k) = name_at_station (slice_get l.stations k)
name_of_tap l (Port r p) = name_of_port (slice_get l.repeaters r) p

-- the name of the device of a tap
abbrev pub name_of_device : Layout → Attachment → List ℕ
name_of_device l (Station k) = name_at_station (slice_get l.stations k)
name_of_device l (Port r p) = name_at_repeater (slice_get l.repeaters r)

-- the word by which the style gives a long name small letters
abbrev pub letters_word : List ℕ → List ℕ
letters_word name = if nat_lt longest_large_name (length name) then codes " long" else []

-- a lane: a line, the name of its tap, and the place of its tap
unfoldable pub lane_text : Layout → Lane → List ℕ
lane_text l lane =
    codes "<path class='lane' d='M0 " ++ decimal lane.y ++ codes "h100000'/><text class='name"
    ++ letters_word (name_of_device l lane.tap) ++ codes "' x='-4400' y='" ++ decimal lane.y ++ codes "' dy='500'>"
    ++ name_of_tap l lane.tap ++ codes "</text><text class='place' x='-600' y='" ++ decimal lane.y
    ++ codes "' dy='400'>" ++ decimal lane.at ++ codes "</text>\n"

-- these lanes
abbrev pub lanes_text : Layout → List Lane → List ℕ
lanes_text l lanes = flat_map (lane_text l) lanes

-- the name of a segment, at the top of its band
unfoldable pub segment_text : ℕ → SegmentLine → List ℕ
segment_text y segment =
    codes "<text class='segment" ++ letters_word segment.name ++ codes "' x='-25500' y='" ++ decimal y
    ++ codes "' dy='500'>segment " ++ segment.name ++ codes "</text>\n"

-- the bands of these segments
abbrev pub bands_text : Layout → List SegmentLine → List Band → List ℕ
bands_text l [] bands = []
bands_text l (segment ∷ segments) [] = []
bands_text l (segment ∷ segments) (band ∷ bands) =
    segment_text band.top segment ++ lanes_text l band.lanes ++ bands_text l segments bands
