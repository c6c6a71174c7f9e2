-- The limits of what the program reads (profile).
use Rattle.std.specs.Prelude.{ℕ}

-- the most octets of a layout file without a fault
abbrev pub most_layout : ℕ
most_layout = 1048576

-- the most records of a load without a fault
abbrev pub most_load_records : ℕ
most_load_records = 4194304
