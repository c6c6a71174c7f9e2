-- An example of two stations and a repeater with three ports, whose delay is 8 half bits: the first station is on
-- segment 0, the second and two of the ports are on segment 1.
use Rattle.std.specs.Prelude.{◌≡◌, ℕ, None, List, [], ◌∷◌, refl}
use Rattle.layout.specs.declared.lines.Layout.{Layout}
use Rattle.layout.specs.declared.lines.PortLine.{PortLine}
use Rattle.layout.specs.declared.lines.RepeaterLine.{RepeaterLine}
use Rattle.layout.specs.declared.lines.StationLine.{StationLine}
use Rattle.layout.specs.RunLengths.{run_half_bits}
use Rattle.layout.specs.Taps.{taps_of, positions_on, delays_of}

abbrev station : ℕ → ℕ → StationLine
station segment at = record { name = []; segment = segment; at = at; load = None; lose = 0 }

abbrev port : ℕ → ℕ → PortLine
port segment at = record { segment = segment; at = at }

abbrev repeaters : List RepeaterLine
repeaters = record { name = []; delay = 8; ports = port 1 40 ∷ port 0 12 ∷ port 1 7 ∷ [] } ∷ []

abbrev example : Layout
example = record {
  format = 1;
  seed = 0;
  until_bits = 100;
  segments = [];
  stations = station 0 3 ∷ station 1 5 ∷ [];
  repeaters = repeaters;
  sends = [];
}

-- the stations' taps come first
pub taps_are : taps_of example ≡ port 0 3 ∷ port 1 5 ∷ port 1 40 ∷ port 0 12 ∷ port 1 7 ∷ []
taps_are = refl

pub on_the_first : positions_on 0 (taps_of example) ≡ 3 ∷ 12 ∷ []
on_the_first = refl

pub on_the_second : positions_on 1 (taps_of example) ≡ 5 ∷ 40 ∷ 7 ∷ []
on_the_second = refl

-- one for each port
pub delays_are : delays_of repeaters ≡ 8 ∷ 8 ∷ 8 ∷ []
delays_are = refl

-- 100 bits are 200 half bits
pub run_is : run_half_bits example ≡ 200
run_is = refl
