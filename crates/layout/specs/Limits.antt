-- The limits of a layout (profile).
use Rattle.std.specs.Prelude.{ℕ}

-- the greatest seed
abbrev pub greatest_seed : ℕ
greatest_seed = 9223372036854775807

-- the most bits of a run
abbrev pub most_bits : ℕ
most_bits = 1000000000

-- the most bits of a run, over all its devices
abbrev pub most_device_bits : ℕ
most_device_bits = 4000000000

-- the most segments
abbrev pub most_segments : ℕ
most_segments = 256

-- the most stations
abbrev pub most_stations : ℕ
most_stations = 1024

-- the most repeaters
abbrev pub most_repeaters : ℕ
most_repeaters = 128

-- the most sends
abbrev pub most_sends : ℕ
most_sends = 65536

-- the most bits that a receiver loses at the start of each reception
abbrev pub most_lost_bits : ℕ
most_lost_bits = 48

-- the octets of the longest name
abbrev pub longest_name : ℕ
longest_name = 32

-- the octets of the longest name of a load
abbrev pub longest_load : ℕ
longest_load = 255
