-- The limits of the code are those of the definitions.
use Rattle.std.specs.Prelude.{◌≡◌, refl}
use Rattle.layout.specs.declared.limits.TheConstants.{GREATEST_SEED, MOST_BITS, MOST_DEVICE_BITS, MOST_SEGMENTS, MOST_STATIONS, MOST_REPEATERS, MOST_SENDS, MOST_LOST_BITS, LONGEST_NAME, LONGEST_LOAD}
use Rattle.layout.specs.Limits.{greatest_seed, most_bits, most_device_bits, most_segments, most_stations, most_repeaters, most_sends, most_lost_bits, longest_name, longest_load}

greatest_seed_is : GREATEST_SEED ≡ greatest_seed
greatest_seed_is = refl

most_bits_is : MOST_BITS ≡ most_bits
most_bits_is = refl

most_device_bits_is : MOST_DEVICE_BITS ≡ most_device_bits
most_device_bits_is = refl

most_segments_is : MOST_SEGMENTS ≡ most_segments
most_segments_is = refl

most_stations_is : MOST_STATIONS ≡ most_stations
most_stations_is = refl

most_repeaters_is : MOST_REPEATERS ≡ most_repeaters
most_repeaters_is = refl

most_sends_is : MOST_SENDS ≡ most_sends
most_sends_is = refl

most_lost_bits_is : MOST_LOST_BITS ≡ most_lost_bits
most_lost_bits_is = refl

longest_name_is : LONGEST_NAME ≡ longest_name
longest_name_is = refl

longest_load_is : LONGEST_LOAD ≡ longest_load
longest_load_is = refl
