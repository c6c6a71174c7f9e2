-- The limits of the words of the command line (profile).
use Rattle.std.specs.Prelude.{ℕ}

-- the most octets of a file's name or of a prefix
abbrev pub most_name : ℕ
most_name = 200

-- the most taps of a probe
abbrev pub most_taps : ℕ
most_taps = 16

-- the most octets of a word for a tap
abbrev pub most_tap_word : ℕ
most_tap_word = 40

-- the most half bits of a probe or a picture
abbrev pub most_probed : ℕ
most_probed = 1000000

-- the most workers of a run
abbrev pub most_workers : ℕ
most_workers = 64
