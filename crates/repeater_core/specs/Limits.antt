-- The limits of a repeater (profile): the numbers by which definitions name what the code names by its constants.
use Rattle.std.specs.Prelude.{ℕ, ◌+◌}
use Rattle.mac_parameters.specs.Parameters.{fragment_extension}

-- the most half bits of calm that are told at a time
abbrev pub most_calm : ℕ
most_calm = 4096

-- the half bits after which the jam goes on as it began: two bits (profile)
abbrev pub jam_period : ℕ
jam_period = 4

-- the counts of a mode, from 0, are all below this: one period of the jam goes beyond the fragment extension
abbrev pub counts_end : ℕ
counts_end = fragment_extension + jam_period
