-- What a layout without a fault keeps: each number is in its range, each name is a name and names one thing, what a row
-- names is there, no two taps share a place, and the network is a tree (profile). Numbers of rows count from 0.
use Rattle.std.specs.Prelude.{◌≡◌, ◌≢◌, ℕ, ◌+◌, ◌*◌, ◌<◌, ◌≤◌, true, ◌==◌, ◌⊎◌, List, ◌++◌, map, length, All, IfSome}
use Rattle.std.specs.List.{AllPairs}
use Rattle.layout.specs.declared.lines.Layout.{Layout}
use Rattle.layout.specs.declared.lines.StationLine.{StationLine}
use Rattle.layout.specs.declared.lines.PortLine.{PortLine}
use Rattle.layout.specs.declared.lines.RepeaterLine.{RepeaterLine}
use Rattle.layout.specs.declared.lines.SendLine.{SendLine}
use Rattle.layout.specs.Networks.{IsTree}
use Rattle.mac_parameters.specs.Parameters.{greatest_place, addresses_and_type, most_octets, most_half_bits}
use Rattle.layout.specs.Limits.{greatest_seed, most_bits, most_device_bits, most_segments, most_stations, most_repeaters, most_sends, most_lost_bits, longest_name, longest_load}
use Rattle.mac_parameters.specs.Parameters.{greatest_delay}
use Rattle.mac_parameters.specs.Parameters.{least_delay}
use Rattle.mac_parameters.specs.Parameters.{most_ports}
use Rattle.mac_parameters.specs.Parameters.{least_ports}
use Rattle.layout.specs.NameOctets.{is_name_octet}
use Rattle.layout.specs.Taps.{taps_of}

-- a name: letters, decimal digits, low lines and hyphens, at least one
pub record IsName (s : List ℕ) : Type 0 where
  pub least : 1 ≤ length s
  pub most : length s ≤ longest_name
  pub octets : All (λ c. is_name_octet c ≡ true) s

-- the name of a load's capture: octets, at least one and none of them zero
pub record IsLoad (s : List ℕ) : Type 0 where
  pub least : 1 ≤ length s
  pub most : length s ≤ longest_load
  pub octets : All (λ c. 1 ≤ c) s

-- a station of a file of that format with so many segments; its tap's place is in half bits
pub record IsSoundStation (format segments : ℕ) (s : StationLine) : Type 0 where
  pub name : IsName s.name
  pub segment : s.segment < segments
  pub at : s.at ≤ greatest_place
  pub load : IfSome s.load IsLoad
  pub lose : s.lose ≤ most_lost_bits
  pub lose_of_one : format ≡ 1 → s.lose ≡ 0

-- a port, where there are so many segments; its tap's place is in half bits
pub record IsSoundPort (segments : ℕ) (p : PortLine) : Type 0 where
  pub segment : p.segment < segments
  pub at : p.at ≤ greatest_place

-- a repeater, where there are so many segments; its delay is in half bits
pub record IsSoundRepeater (segments : ℕ) (r : RepeaterLine) : Type 0 where
  pub name : IsName r.name
  pub delay_least : least_delay ≤ r.delay
  pub delay_most : r.delay ≤ greatest_delay
  pub ports_least : least_ports ≤ length r.ports
  pub ports_most : length r.ports ≤ most_ports
  pub ports : All (IsSoundPort segments) r.ports

-- a send of a file of that format with so many stations, ready at a half bit of the longest run
pub record IsSoundSend (format stations : ℕ) (s : SendLine) : Type 0 where
  pub station : s.station < stations
  pub at : s.at ≤ most_half_bits
  pub least : addresses_and_type ≤ length s.octets
  pub most : length s.octets ≤ most_octets (format == 2)

-- no two of them are equal
abbrev pub AreDifferent : {X : Type 0} → List X → Type 0
AreDifferent xs = AllPairs (λ a b. a ≢ b) xs

-- the names of the segments, in the file's order
abbrev pub segment_names : Layout → List (List ℕ)
segment_names l = map (λ s. s.name) l.segments

-- the names of the devices: the stations are the first of them, and the repeaters follow
abbrev pub device_names : Layout → List (List ℕ)
device_names l = map (λ s. s.name) l.stations ++ map (λ r. r.name) l.repeaters

-- a sound layout: of format 1 or 2, within all limits, and with at least one segment and one bit
pub record IsSound (l : Layout) : Type 0 where
  pub format : (l.format ≡ 1) ⊎ (l.format ≡ 2)
  pub seed : l.seed ≤ greatest_seed
  pub bits_least : 1 ≤ l.until_bits
  pub bits_most : l.until_bits ≤ most_bits
  pub device_bits : l.until_bits * (length l.stations + length l.repeaters) ≤ most_device_bits
  pub segments_least : 1 ≤ length l.segments
  pub segments_most : length l.segments ≤ most_segments
  pub stations_most : length l.stations ≤ most_stations
  pub repeaters_most : length l.repeaters ≤ most_repeaters
  pub sends_most : length l.sends ≤ most_sends
  pub segments : All (λ s. IsName s.name) l.segments
  pub stations : All (IsSoundStation l.format (length l.segments)) l.stations
  pub repeaters : All (IsSoundRepeater (length l.segments)) l.repeaters
  pub sends : All (IsSoundSend l.format (length l.stations)) l.sends
  pub segment_names : AreDifferent (segment_names l)
  pub device_names : AreDifferent (device_names l)
  pub taps : AreDifferent (taps_of l)
  pub tree : IsTree l
