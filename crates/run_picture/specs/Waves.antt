-- The fronts of waves: lines over the lanes of a segment, from its least to its greatest place (profile). Half bits
-- count from 0; places are half bits from the cable's end.
use Rattle.std.specs.Prelude.{ℕ, ◌+◌, nat_le, nat_lt, ◌&&◌, Bool, if◌then◌else◌, List, [], ◌++◌, codes, decimal, flat_map}
use Rattle.mac_parameters.specs.Distances.{distance}
use Rattle.mac_parameters.specs.Parameters.{greatest_place}
use Rattle.run_picture.specs.Times.{place_of_time}
use Rattle.run_picture.specs.declared.lanes.Lane.{Lane}
use Rattle.run_picture.specs.declared.window.Window.{Window}

-- whether a wave that begins in half bit t can be on its segment in the window
abbrev pub is_seen : Window → ℕ → Bool
is_seen window t = nat_lt t window.to && nat_le window.from (t + greatest_place)

-- where a wave that begins in half bit t at a place comes to a lane: as many half bits later as the lane's place is
-- away
unfoldable pub point_of_wave : Window → ℕ → ℕ → Lane → List ℕ
point_of_wave window t at lane =
    place_of_time window (t + distance lane.at at) ++ codes "," ++ decimal lane.y ++ codes " "

-- where it comes to each of these lanes
abbrev pub points_of_wave : Window → ℕ → ℕ → List Lane → List ℕ
points_of_wave window t at lanes = flat_map (point_of_wave window t at) lanes

-- the wave that begins in half bit t at a place of the segment with these lanes
unfoldable pub seen_wave : Window → ℕ → ℕ → List Lane → List ℕ
seen_wave window t at lanes =
    codes "<polyline class='wave' points='" ++ points_of_wave window t at lanes ++ codes "'/>"

-- the same, if it can be in the window
abbrev pub wave : Window → ℕ → ℕ → List Lane → List ℕ
wave window t at lanes = if is_seen window t then seen_wave window t at lanes else []
