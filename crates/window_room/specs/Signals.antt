-- How long the signals are that a station hears (profile).
use Rattle.std.specs.Prelude.{ℕ, ◌≡◌, ◌+◌, ◌<◌, ◌≤◌, List, [], ◌∷◌}
use Rattle.manchester_line.specs.declared.Sym.{Sym}
use Rattle.manchester_line.specs.declared.Sym.TheVariants.{Idle}
use Rattle.window_room.specs.Receptions.{HeardHalf}

-- The half bits of a signal up to one in which this is heard, of which u came before it (profile).
abbrev pub signal_after : ℕ → Sym → ℕ
signal_after u Idle = 0
signal_after u _ = u + 1

-- Each signal that ends in these half bits has at least so many, of which u came before them (profile).
abbrev pub SignalsAreLong : ℕ → ℕ → List HeardHalf → Type 0
SignalsAreLong least u [] = Unit {0}
SignalsAreLong least u (h ∷ hs) =
    (h.heard ≡ Idle → 0 < u → least ≤ u) × SignalsAreLong least (signal_after u h.heard) hs
