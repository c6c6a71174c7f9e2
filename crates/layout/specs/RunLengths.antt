-- How long a run is (profile).
use Rattle.std.specs.Prelude.{ℕ, ◌*◌}
use Rattle.mac_parameters.specs.Parameters.{half_bits_a_bit}
use Rattle.layout.specs.declared.lines.Layout.{Layout}

-- the half bits of a run
abbrev pub run_half_bits : Layout → ℕ
run_half_bits l = half_bits_a_bit * l.until_bits
