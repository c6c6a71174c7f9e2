-- The sizes of the picture, by which definitions name what the code names by its constants: heights and widths in
-- hundredths of a pixel, times in half bits (profile).
use Rattle.std.specs.Prelude.{ℕ}

-- the width of the plot
abbrev pub plot_width : ℕ
plot_width = 100000

-- from one lane to the next, at least
abbrev pub lane_distance : ℕ
lane_distance = 1800

-- so much for each half bit between two places
abbrev pub place_height : ℕ
place_height = 50

-- the entries of a legend that stand beside each other, at most
abbrev pub entries_a_row : ℕ
entries_a_row = 6

-- from one entry of a row to the next
abbrev pub entry_width : ℕ
entry_width = 22000

-- from one row of entries to the next
abbrev pub entry_height : ℕ
entry_height = 2100

-- where the first band begins, below the legend and the axis
abbrev pub first_top : ℕ
first_top = 9600

-- between one band and the next
abbrev pub band_gap : ℕ
band_gap = 1400

-- the octets of a name that has large letters, at most
abbrev pub longest_large_name : ℕ
longest_large_name = 20

-- the hundredths of the plot's width that a word beside a sign takes
abbrev pub word_share : ℕ
word_share = 7

-- the half bits of a microsecond
abbrev pub half_bits_a_microsecond : ℕ
half_bits_a_microsecond = 20

-- the half bits of a tenth of a microsecond
abbrev pub half_bits_a_tenth : ℕ
half_bits_a_tenth = 2

-- the whole steps of an axis from tick to tick, at most
abbrev pub most_steps : ℕ
most_steps = 10

-- the most half bits from tick to tick
abbrev pub longest_step : ℕ
longest_step = 100000

-- the most half bits of a picture
abbrev pub longest_window : ℕ
longest_window = 1000000
