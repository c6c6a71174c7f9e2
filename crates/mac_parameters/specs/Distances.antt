-- Places on a cable.
use Rattle.std.specs.Prelude.{ℕ, ◌+◌, ◌-◌}

-- the half bits between two places of a cable (profile: a cable is as long as the half bits that a signal takes)
abbrev pub distance : ℕ → ℕ → ℕ
distance p q = (p - q) + (q - p)
