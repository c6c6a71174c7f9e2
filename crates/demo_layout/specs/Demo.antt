-- The layout of demo of a number n, from 1: n + 1 segments, four stations on each, and n repeaters that make a binary
-- tree of the segments (profile). Places, delays and half bits count from 0, and all divisions are whole.
use Rattle.std.specs.Prelude.{ℕ, ◌+◌, ◌*◌, ◌-◌, ◌/◌, ◌%◌, ◌==◌, if◌then◌else◌, List, [], ◌∷◌, ◌++◌, map, codes, decimal, slice_index_or, None}
use Rattle.std.specs.List.{range_with_len, flat_map}
use Rattle.layout.specs.declared.lines.Layout.{Layout}
use Rattle.layout.specs.declared.lines.PortLine.{PortLine}
use Rattle.layout.specs.declared.lines.RepeaterLine.{RepeaterLine}
use Rattle.layout.specs.declared.lines.SegmentLine.{SegmentLine}
use Rattle.layout.specs.declared.lines.SendLine.{SendLine}
use Rattle.layout.specs.declared.lines.StationLine.{StationLine}
use Rattle.mac_parameters.specs.Parameters.{addresses_and_type}

-- segment k, from 0, has the name g and its number
abbrev pub demo_segment : ℕ → SegmentLine
demo_segment k = record { name = codes "g" ++ decimal k }

-- station s, from 0, has the name s and its number; four by four they are on the segments, at 10, 20, 30 and 50 half
-- bits; it has no load and loses no bits
abbrev pub demo_station : ℕ → StationLine
demo_station s = record {
  name = codes "s" ++ decimal s;
  segment = s / 4;
  at = slice_index_or (10 ∷ 20 ∷ 30 ∷ 50 ∷ []) (s % 4) 0;
  load = None;
  lose = 0;
}

-- the first port of repeater k, from 1: segment (k - 1) / 2 has two repeaters after it, the odd one at 40 half bits and
-- the even one at 60
abbrev pub demo_port_in : ℕ → PortLine
demo_port_in k = record { segment = (k - 1) / 2; at = if k % 2 == 1 then 40 else 60 }

-- the second port of repeater k, from 1: segment k begins with it
abbrev pub demo_port_out : ℕ → PortLine
demo_port_out k = record { segment = k; at = 0 }

-- repeater k, from 1, has the name r and its number, a delay of 28 half bits, and its two ports
abbrev pub demo_repeater : ℕ → RepeaterLine
demo_repeater k = record { name = codes "r" ++ decimal k; delay = 28; ports = demo_port_in k ∷ demo_port_out k ∷ [] }

-- how many octets send j of station s has after its addresses and type: from 0 to 1,500
abbrev pub demo_length : ℕ → ℕ → ℕ
demo_length s j = (97 * s + 131 * j) % 1501

-- the frame of send j, from 0, of station s: to all stations, from the address 02-00-00-00 and the station's number in
-- two octets, of type 08-00, and then at each place i the octet (i + s + j) mod 256 (3.1.1)
abbrev pub demo_octets : ℕ → ℕ → List ℕ
demo_octets s j =
    (255 ∷ 255 ∷ 255 ∷ 255 ∷ 255 ∷ 255 ∷ 2 ∷ 0 ∷ 0 ∷ 0 ∷ s / 256 ∷ s % 256 ∷ 8 ∷ 0 ∷ [])
    ++ map (λ i. (i + s + j) % 256) (range_with_len addresses_and_type (demo_length s j))

-- send j, from 0, of station s is ready at half bit 37 s + 20,000 j
abbrev pub demo_send : ℕ → ℕ → SendLine
demo_send s j = record { station = s; at = 37 * s + 20000 * j; octets = demo_octets s j }

-- the twenty sends of station s, in their order
abbrev pub demo_sends_of : ℕ → List SendLine
demo_sends_of s = map (demo_send s) (range_with_len 0 20)

-- the sends of demo n, station by station
abbrev pub demo_sends : ℕ → List SendLine
demo_sends n = flat_map demo_sends_of (range_with_len 0 (4 * (n + 1)))

-- the layout of demo n, which runs for 200,000 bits
unfoldable pub demo_of : ℕ → Layout
demo_of n = record {
  format = 1;
  seed = n;
  until_bits = 200000;
  segments = map demo_segment (range_with_len 0 (n + 1));
  stations = map demo_station (range_with_len 0 (4 * (n + 1)));
  repeaters = map demo_repeater (range_with_len 1 n);
  sends = demo_sends n;
}
